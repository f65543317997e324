-- Which text a field of each form may have, and why another fails.
use Rattle.std.specs.{Prelude.{◌≡◌, ℕ, ◌<◌, ◌≤◌, ◌^◌, ◌⊎◌, Bool, true, List, [], length, codes, decimal, All, Option, None, Some, Ok}, Int.{IsInRange}}
use Rattle.byteorder.specs.Endian.{big_bytes}
use Rattle.hex.specs.Hex.{decode_of}
use Rattle.amt_values.specs.{declared.{address.Ip.{Ip, TheVariants.{V4, V6}}, peer.Peer.{Peer}}, Numeral.{IsNumeral, numeral_value}, Group.{is_forwardable}, Text.{IsIpText, IsPeerText}}
use Rattle.response_mac.specs.declared.secret.Secret.{Secret}
use Rattle.source_filter.specs.declared.mode.Mode.{Mode}
use Rattle.group_records.specs.{declared.family.Family.{Family}, Written.{is_of_family}}
use Rattle.script_lines.specs.{Texts.{family_text, flag_text, mode_text}, declared.reason.Reason.{Reason}}
use Rattle.script_lines.specs.declared.reason.Reason.TheVariants as reasons

-- what a field may be: a moment, a number from a least to a most one, octets, a secret, a nonce, an address
-- of either family, an IPv4 address, an IPv6 address, an address of a family where it is known, a peer, a
-- name, a filter mode, a group of a family where it is known, a family, a flag
pub data Form : Type 0 where
  a_moment : Form
  a_number : ℕ → ℕ → Form
  some_octets : Form
  a_secret : Form
  a_nonce : Form
  an_address : Form
  an_address4 : Form
  an_address6 : Form
  an_address_of : Option Family → Form
  a_peer : Form
  a_name : Form
  a_mode : Form
  a_group : Option Family → Form
  a_family : Form
  a_flag : Form

-- the decimal digits of a moment
abbrev pub IsMomentText : ℕ → List ℕ → Type 0
IsMomentText ms text = (ms < 2 ^ 62) × (text ≡ decimal ms)

-- a decimal number of this range, without a leading zero
abbrev pub IsNumberText : ℕ → ℕ → ℕ → List ℕ → Type 0
IsNumberText least most number text = IsInRange least most number × (text ≡ decimal number)

-- two hexadecimal digits for each of at most 65,535 octets, or a dash where there is none
abbrev pub IsHexText : List ℕ → List ℕ → Type 0
IsHexText bytes text =
    ((text ≡ codes "-") × (bytes ≡ [])) ⊎ ((length text ≤ 131070) × (decode_of text ≡ Ok bytes))

-- the 64 hexadecimal digits, of either case, of a secret's 32 octets
abbrev pub IsSecretText : Secret → List ℕ → Type 0
IsSecretText secret text = (length text ≡ 64) × (decode_of text ≡ Ok secret.0)

-- the 8 hexadecimal digits, of either case, of a nonce
abbrev pub IsNonceText : ℕ → List ℕ → Type 0
IsNonceText nonce text = (nonce < 2 ^ 32) × (length text ≡ 8) × (decode_of text ≡ Ok (big_bytes 4 nonce))

-- the address is of the family, where it is known
abbrev pub is_of : Option Family → Ip → Bool
is_of None ip = true
is_of (Some family) ip = is_of_family family ip

-- an address of the family
abbrev pub IsAddressText : Option Family → Ip → List ℕ → Type 0
IsAddressText family ip text = IsIpText ip text × (is_of family ip ≡ true)

-- a group of the family that packets are forwarded to
abbrev pub IsGroupText : Option Family → Ip → List ℕ → Type 0
IsGroupText family group text = IsAddressText family group text × (is_forwardable group ≡ true)

-- a small letter, a digit or an underscore
abbrev pub IsNameOctet : ℕ → Type 0
IsNameOctet octet = IsInRange 97 122 octet ⊎ IsInRange 48 57 octet ⊎ (octet ≡ 95)

-- 1 to 32 of them
pub record IsName (text : List ℕ) : Type 0 where
  pub count : IsInRange 1 32 (length text)
  pub octets : All IsNameOctet text

-- a name is its own text
abbrev pub IsNameText : List ℕ → List ℕ → Type 0
IsNameText name text = (name ≡ text) × IsName text

-- the word of a filter mode
abbrev pub IsModeText : Mode → List ℕ → Type 0
IsModeText mode text = text ≡ mode_text mode

-- the word of an address family
abbrev pub IsFamilyText : Family → List ℕ → Type 0
IsFamilyText family text = text ≡ family_text family

-- the word of a flag
abbrev pub IsFlagText : Bool → List ℕ → Type 0
IsFlagText flag text = text ≡ flag_text flag

-- no value of the form has this text, and this is the reason
abbrev pub Fails : Form → List ℕ → Reason → Type 0
Fails a_moment text reasons.Number = IsNumeral text → 2 ^ 62 ≤ numeral_value text
Fails (a_number least most) text reasons.Number = IsNumeral text → ⊥
Fails (a_number least most) text reasons.Range =
    IsNumeral text × (IsInRange least most (numeral_value text) → ⊥)
Fails some_octets text reasons.Hex = (bytes : List ℕ) → IsHexText bytes text → ⊥
Fails a_secret text reasons.Hex = (secret : Secret) → IsSecretText secret text → ⊥
Fails a_nonce text reasons.Hex = (nonce : ℕ) → IsNonceText nonce text → ⊥
Fails an_address text reasons.Address = (ip : Ip) → IsIpText ip text → ⊥
Fails an_address4 text reasons.Address = (number : ℕ) → IsIpText (V4 number) text → ⊥
Fails an_address6 text reasons.Address = (number : ℕ) → IsIpText (V6 number) text → ⊥
Fails (an_address_of family) text reasons.Address = (ip : Ip) → IsAddressText family ip text → ⊥
Fails a_peer text reasons.Peer = (peer : Peer) → IsPeerText peer text → ⊥
Fails a_name text reasons.Name = IsName text → ⊥
Fails a_mode text reasons.Mode = (mode : Mode) → IsModeText mode text → ⊥
Fails (a_group family) text reasons.Group = (group : Ip) → IsGroupText family group text → ⊥
Fails a_family text reasons.Word = (family : Family) → IsFamilyText family text → ⊥
Fails a_flag text reasons.Range = (flag : Bool) → IsFlagText flag text → ⊥
Fails form text reason = ⊥
