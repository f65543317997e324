use Rattle.std.proofs.Common.{◌≡◌, ◌++◌, length}
use Rattle.script_lines.specs.Lines.{fields}
use Rattle.amt_vectors.proofs.Spaced.{spread}
use Rattle.amt_vectors.proofs.fields.append_words.Given as goal

abbrev pub invariant-loop-word : goal.invariant-loop-word
invariant-loop-word l = l.initial.text ++ spread (fields l.values) ≡ l.text ++ spread (fields l.left)

abbrev pub decreases-loop-word : goal.decreases-loop-word
decreases-loop-word l = length l.left
