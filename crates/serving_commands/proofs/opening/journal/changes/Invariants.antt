use Rattle.std.proofs.Common.{◌≡◌, ◌++◌, length}
use Rattle.std.specs.{Prelude.{flat_map}, Str.Lines.{lines}}
use Rattle.serving_commands.specs.Journal.{changes, told_of}
use Rattle.serving_commands.proofs.opening.journal.changes.Given as goal

-- what is told of the lines that are left follows what was told
abbrev pub invariant-loop-rest : goal.invariant-loop-rest
invariant-loop-rest l = l.text ++ flat_map (told_of (lines l.before)) (lines l.rest) ≡ changes l.before l.answer

abbrev pub decreases-loop-rest : goal.decreases-loop-rest
decreases-loop-rest l = length l.rest
