-- The lines of a dump, as a kind of script: each is one field of hexadecimal digits.
use Rattle.std.specs.Prelude.{◌≡◌, ◌≤◌, ◌+◌, ℕ, List, [], ◌∷◌, ◌++◌, length, None, if◌then◌else◌}
use Rattle.script_lines.specs.{declared.reason.Reason.TheVariants.{Count, Hex}, Form.{IsHexText, some_octets}, Kind.{Kind}, Lines.{fields, says_nothing}, Shape.{HasField, Shape, FailsIn}}

-- one field, of octets
abbrev pub dump_shape : Shape
dump_shape = record { forms = some_octets ∷ []; repeated = None }

-- such lines: each says the octets of a datagram, whatever the others say, and all of them together are
-- the datagrams in their order
abbrev pub dump_kind : Kind (List ℕ) (List (List ℕ))
dump_kind = record {
  Says = λ past datagram line. HasField [] (IsHexText datagram) line;
  Fails = λ past line reason. FailsIn dump_shape line reason;
  order = Count ∷ Hex ∷ [];
  Makes = λ said datagrams. datagrams ≡ said;
  FailsAtEnd = λ said reason. ⊥;
  order_at_end = [];
}

-- at most what UDP carries
abbrev pub IsDatagram : List ℕ → Type 0
IsDatagram bytes = length bytes ≤ 65535

-- the number of a line, where it says something
abbrev pub number_that_says : ℕ → List ℕ → List ℕ
number_that_says number line = if says_nothing (fields line) then [] else number ∷ []

-- the numbers of the lines that say something, where lines are counted from this number
abbrev pub numbers_that_say : ℕ → List (List ℕ) → List ℕ
numbers_that_say number [] = []
numbers_that_say number (line ∷ ls) = number_that_says number line ++ numbers_that_say (number + 1) ls
