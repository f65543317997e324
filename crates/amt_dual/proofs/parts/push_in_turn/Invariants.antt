use Rattle.{std.proofs.Common.{◌≡◌, ◌≤◌, ◌+◌, ◌++◌, false, length, vec_len, vec_capacity}, amt_dual.specs.InTurn.{parts_in_turn}}
use Rattle.amt_dual.proofs.parts.push_in_turn.Given as goal

abbrev pub invariant-loop-part : goal.invariant-loop-part
invariant-loop-part l =
    (l.into.items ++ parts_in_turn l.v6 l.part-iterator.rest.items ≡ l.initial.into.items ++ parts_in_turn false l.fn.parts.items)
    × (vec_len l.into + length l.part-iterator.rest.items ≤ vec_capacity l.into)
