-- Datagrams beside the numbers of their lines have the text of the lines.
use Rattle.std.{proofs.Common.{◌≡◌, ℕ, ◌+◌, Bool, true, false, not, if◌then◌else◌, List, [], ◌∷◌, ◌++◌, refl, sym, ap, ◌∙◌, inl, inr}, specs.Str.Lines.{lines}}
use Rattle.script_lines.specs.{Form.{IsHexText}, Lines.{fields, lines_that_say, says_nothing}, Script.{Say, Spells}, Shape.{HasField}}
use Rattle.amt_dump.{specs.{Dump.{datagram_in, dump_text}, Lines.{dump_kind, numbers_that_say}, Texts.{datagram_lines}}, proofs.Printing.{numbered_text}}

octets_of_field : (octets field : List ℕ) → IsHexText octets field → datagram_in (field ∷ []) ≡ octets
octets_of_field octets field (inl h) = rw (h.0, h.1) refl
octets_of_field octets field (inr h) = rw h.1 refl

said_in : (datagram : List ℕ) (line : List (List ℕ)) → HasField [] (IsHexText datagram) line → datagram_in line ≡ datagram
said_in datagram line says = ap datagram_in says.parts ∙ octets_of_field datagram says.text says.names

-- a line that says nothing has no number, and any other one is the next datagram's
one_line : (nothing : Bool) (past datagrams : List (List ℕ)) (number : ℕ) (line : List ℕ) (ls : List (List ℕ))
    → Say dump_kind past datagrams (if not nothing then line ∷ lines_that_say ls else lines_that_say ls)
    → ((past datagrams : List (List ℕ)) → Say dump_kind past datagrams (lines_that_say ls) → numbered_text (numbers_that_say (number + 1) ls) datagrams ≡ dump_text (number + 1) ls)
    → numbered_text ((if nothing then [] else number ∷ []) ++ numbers_that_say (number + 1) ls) datagrams
    ≡ (if nothing then [] else datagram_lines number (datagram_in (fields line))) ++ dump_text (number + 1) ls
one_line true past datagrams number line ls each rest = rest past datagrams each
one_line false past [] number line ls each rest = absurd each
one_line false past (datagram ∷ datagrams) number line ls each rest =
    ap (λ (text : List ℕ). datagram_lines number datagram ++ text) (rest (past ++ datagram ∷ []) datagrams each.2)
    ∙ ap (λ (one : List ℕ). datagram_lines number one ++ dump_text (number + 1) ls) (sym (said_in datagram (fields line) each.1))

text_of_lines : (past datagrams : List (List ℕ)) (number : ℕ) (ls : List (List ℕ)) → Say dump_kind past datagrams (lines_that_say ls)
    → numbered_text (numbers_that_say number ls) datagrams ≡ dump_text number ls
text_of_lines past datagrams number [] each = refl
text_of_lines past datagrams number (line ∷ ls) each =
    one_line (says_nothing (fields line)) past datagrams number line ls each (λ past datagrams said. text_of_lines past datagrams (number + 1) ls said)

pub text_of_spelled : (datagrams : List (List ℕ)) (bytes : List ℕ) → Spells dump_kind datagrams bytes
    → numbered_text (numbers_that_say 1 (lines bytes)) datagrams ≡ dump_text 1 (lines bytes)
text_of_spelled datagrams bytes spelled =
    ap (numbered_text (numbers_that_say 1 (lines bytes))) spelled.made ∙ text_of_lines [] spelled.said 1 (lines bytes) spelled.all_lines.says
