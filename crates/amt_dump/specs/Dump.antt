-- The text of lines of datagrams.
use Rattle.std.specs.{Prelude.{◌≡◌, ℕ, ◌+◌, List, [], ◌∷◌, ◌++◌, if◌then◌else◌}, Result.{result_unwrap_or}, Str.Lines.{lines}}
use Rattle.hex.specs.Hex.{decode_of}
use Rattle.script_lines.specs.{Lines.{fields, says_nothing}, Script.{Spells}}
use Rattle.amt_dump.specs.{Lines.{dump_kind}, Texts.{datagram_lines}}

-- the octets that the one field of a line encodes; a dash encodes none
abbrev pub datagram_in : List (List ℕ) → List ℕ
datagram_in [] = []
datagram_in (field ∷ more) = result_unwrap_or (decode_of field) []

-- the text of the line of this number: its datagram's, or none where the line says nothing
abbrev pub line_text : ℕ → List ℕ → List ℕ
line_text number line = if says_nothing (fields line) then [] else datagram_lines number (datagram_in (fields line))

-- the text of lines, of which the first has this number
abbrev pub dump_text : ℕ → List (List ℕ) → List ℕ
dump_text number [] = []
dump_text number (line ∷ ls) = line_text number line ++ dump_text (number + 1) ls

-- the bytes spell datagrams line by line, and this is their text; lines are counted from 1, skipped ones too
pub record IsDump (text bytes : List ℕ) : Type 0 where
  pub datagrams : List (List ℕ)
  pub spelled : Spells dump_kind datagrams bytes
  pub printed : text ≡ dump_text 1 (lines bytes)

-- no bytes have two texts
abbrev pub HasOneDump : Type 0
HasOneDump = (bytes one other : List ℕ) → IsDump one bytes → IsDump other bytes → one ≡ other
