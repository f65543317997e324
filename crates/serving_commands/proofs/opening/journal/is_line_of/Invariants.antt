use Rattle.std.proofs.Common.{◌≡◌, length}
use Rattle.std.specs.{List.{list_any}, Str.{bytes_eq, Lines.{lines}}}
use Rattle.serving_commands.proofs.opening.journal.is_line_of.Given as goal

-- no line so far was this one
abbrev pub invariant-loop-line : goal.invariant-loop-line
invariant-loop-line l = list_any (bytes_eq l.line) (lines l.rest) ≡ list_any (bytes_eq l.line) (lines l.text)

abbrev pub decreases-loop-line : goal.decreases-loop-line
decreases-loop-line l = length l.rest
