use Rattle.std.proofs.Common.{◌≡◌, ◌≤◌, ◌+◌, length, map, vec_capacity, vec_len}
use Rattle.amt_dual_script.specs.Texts.{part_named}
use Rattle.amt_dual_script.proofs.text.parts_named.Given as goal

abbrev pub invariant-loop-part : goal.invariant-loop-part
invariant-loop-part l =
    (l.named.items ≡ map part_named l.yielded) × (vec_len l.named + length l.part-iterator.rest.items ≤ vec_capacity l.named)
