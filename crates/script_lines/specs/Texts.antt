-- What several kinds of script print.
use Rattle.std.specs.{Prelude.{◌≡◌, ℕ, Bool, true, false, List, [], ◌∷◌, ◌++◌, codes, decimal}, Int.{w32, to_be_bytes}}
use Rattle.hex.specs.Hex.{encode_lower}
use Rattle.amt_values.specs.{declared.peer.Peer.{Peer}, Text.{peer_text}}
use Rattle.group_records.specs.declared.family.Family.{Family, TheVariants.{V4, V6}}
use Rattle.source_filter.specs.declared.mode.Mode.{Mode, TheVariants.{Include, Exclude}}
use Rattle.script_lines.specs.declared.reason.Reason.{Reason}
use Rattle.script_lines.specs.declared.reason.Reason.TheVariants as reasons

-- a text is another one, with something after it or not
abbrev pub BeginsWith : List ℕ → List ℕ → Type 0
BeginsWith text front = (rest : List ℕ) × (text ≡ front ++ rest)

-- pairs of hexadecimal digits, or `-` for no octet
abbrev pub hex_text : List ℕ → List ℕ
hex_text [] = codes "-"
hex_text (octet ∷ rest) = encode_lower (octet ∷ rest)

-- a nonce, in eight hexadecimal digits
abbrev pub nonce_text : ℕ → List ℕ
nonce_text nonce = hex_text (to_be_bytes w32 nonce)

-- a filter mode (RFC 3376, section 3.1)
abbrev pub mode_text : Mode → List ℕ
mode_text Include = codes "include"
mode_text Exclude = codes "exclude"

-- an address family, by the version of IP
abbrev pub family_text : Family → List ℕ
family_text V4 = codes "v4"
family_text V6 = codes "v6"

-- whether something is so
abbrev pub flag_text : Bool → List ℕ
flag_text true = codes "true"
flag_text false = codes "false"

-- `> PEER HEX`: a datagram that is sent, and to whom
unfoldable pub send_line : Peer → List ℕ → List ℕ
send_line peer bytes = codes "> " ++ (peer_text peer ++ (codes " " ++ (hex_text bytes ++ (10 ∷ []))))

-- `. N`, the number of items
unfoldable pub closing_text : ℕ → List ℕ
closing_text count = codes ". " ++ (decimal count ++ (10 ∷ []))

-- the word that a fault is told by
abbrev pub reason_word : Reason → List ℕ
reason_word reasons.Long = codes "long"
reason_word reasons.Word = codes "word"
reason_word reasons.Late = codes "late"
reason_word reasons.Twice = codes "twice"
reason_word reasons.Count = codes "count"
reason_word reasons.Number = codes "number"
reason_word reasons.Hex = codes "hex"
reason_word reasons.Address = codes "address"
reason_word reasons.Peer = codes "peer"
reason_word reasons.Name = codes "name"
reason_word reasons.Mode = codes "mode"
reason_word reasons.Group = codes "group"
reason_word reasons.Range = codes "range"
reason_word reasons.Missing = codes "missing"
