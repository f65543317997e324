-- The text of a group that isn't forwarded has no other reading.
use Rattle.script_lines.proofs.values.read_group.Goals as goal

pub returns-else-forwardable-clause-none : goal.returns-else-forwardable-clause-none
returns-else-forwardable-clause-none c =
    λ group is. let same = c.read_address.ensures.only group is.0 in
    cc (same, c.in_ok-group.was, c.if-forwardable.false, c.if-forwardable.ensures, is.1)
