-- The numbers of the lines that were read so far.
use Rattle.std.{proofs.Common.{◌≡◌, ℕ, ◌+◌, ◌<◌, ◌≤◌, List, [], ◌∷◌, ◌++◌, length, sym, ap, ◌∙◌, append_assoc, arith}, specs.Str.Lines.{lines}}
use Rattle.amt_dump.specs.Lines.{number_that_says, numbers_that_say}

-- with the numbers of the lines that are left they are those of all lines
pub record IsNoting (text left numbers : List ℕ) (number : ℕ) : Type 0 where
  pub all_numbers : numbers ++ numbers_that_say number (lines left) ≡ numbers_that_say 1 (lines text)
  pub room : number + length left ≤ 16777217

pub noting_start : (text numbers : List ℕ) → numbers ≡ [] → length text ≤ 16777216 → IsNoting text text numbers 1
noting_start text numbers none few =
    record { all_numbers = ap (λ (ns : List ℕ). ns ++ numbers_that_say 1 (lines text)) none; room = omega (arith, few) }

pub noting_more : (text left line rest numbers after : List ℕ) (number : ℕ) → IsNoting text left numbers number → lines left ≡ line ∷ lines rest
    → length rest < length left → after ≡ numbers ++ number_that_says number line → IsNoting text rest after (number + 1)
noting_more text left line rest numbers after number noting cut shorter next = record {
  all_numbers =
      ap (λ (ns : List ℕ). ns ++ numbers_that_say (number + 1) (lines rest)) next
      ∙ (append_assoc numbers (number_that_says number line) (numbers_that_say (number + 1) (lines rest))
      ∙ (ap (λ (ls : List (List ℕ)). numbers ++ numbers_that_say number ls) (sym cut) ∙ noting.all_numbers));
  room = omega (arith, noting.room, shorter);
}
