use Rattle.std.proofs.Common.{◌≡◌, ◌≤◌, ◌+◌, ℕ, List, length}
use Rattle.control_lines.specs.Answer.{AreCut}
use Rattle.control_lines.proofs.answer.count_pieces.Given as goal

-- the pieces that were counted and those of what is left are the pieces of the text
abbrev pub invariant-loop-rest : goal.invariant-loop-rest
invariant-loop-rest l = record {
  pieces : (later : List (List ℕ)) → AreCut l.rest later → (all : List (List ℕ)) × AreCut l.text all × (length all + 1 ≡ l.count + length later);
  few : l.count + length l.rest ≤ length l.text + 1;
}

abbrev pub decreases-loop-rest : goal.decreases-loop-rest
decreases-loop-rest l = length l.rest
