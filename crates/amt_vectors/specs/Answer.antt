-- The answers to the questions of rows, each in the terms of its standard.
use Rattle.std.specs.Prelude.{◌≡◌, ◌⊎◌, ℕ, List, Option, Some, None, codes, decimal}
use Rattle.amt_messages.specs.{declared.refusal.Refused.{Refused}, Refusal.{first_refusal}}
use Rattle.amt_values.specs.{declared.address.Ip.{Ip as Address}, Text.{IsIpText, ip_text}}
use Rattle.script_lines.specs.{FaultTexts.{refusal_text, sum_text}, Texts.{hex_text}}
use Rattle.igmp_records.specs.Code.{code_value as code_value4}
use Rattle.inner_datagrams.specs.Checksum.{internet_sum_of}
use Rattle.mld_records.specs.Code.{code_value as code_value6}
use Rattle.response_mac.specs.Hmac.{hmac_of}
use Rattle.amt_vectors.specs.declared.row.Question.{Question, TheVariants.{Hmac, Sum, Decode, Code4, Code6, Ip}}

-- of a decoding: the refusal, or that there is none
abbrev pub decoding_text : Option Refused → List ℕ
decoding_text (Some refusal) = refusal_text refusal
decoding_text None = codes "ok"

-- the address that a text names, as it is printed (RFC 5952, section 4), or that it names none
abbrev pub IsCanonicalOf : List ℕ → List ℕ → Type 0
IsCanonicalOf address text =
    ((ip : Address) × IsIpText ip address × (text ≡ ip_text ip))
    ⊎ (((ip : Address) → IsIpText ip address → ⊥) × (text ≡ codes "none"))

-- the text is the answer: the HMAC of a message under a key (RFC 2104, section 2), the Internet checksum of octets
-- (RFC 1071, section 1), whether they are a message (RFC 7450, section 5.1), the time of a code (RFC 3376,
-- section 4.1.1; RFC 3810, section 5.1.3), or an address as it is printed
abbrev pub IsAnswer : Question → List ℕ → Type 0
IsAnswer (Hmac key message) text = text ≡ hex_text (hmac_of key message)
IsAnswer (Sum bytes) text = text ≡ sum_text (internet_sum_of bytes)
IsAnswer (Decode bytes) text = text ≡ decoding_text (first_refusal bytes)
IsAnswer (Code4 code) text = text ≡ decimal (code_value4 code)
IsAnswer (Code6 code) text = text ≡ decimal (code_value6 code)
IsAnswer (Ip address) text = IsCanonicalOf address text
