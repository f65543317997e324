-- The views so far, and those to come.
use Rattle.std.proofs.Common.{◌≡◌, ◌≤◌, ◌+◌, ◌++◌, length, reverse}
use Rattle.published_table.specs.Views.{room_of, views_of}
use Rattle.relay_serving.proofs.server.ending.turn_round.Given as goal

abbrev pub invariant-loop-view : goal.invariant-loop-view
invariant-loop-view l =
    (views_of l.to ++ reverse (views_of l.from) ≡ reverse (views_of l.initial.from))
    × (length (views_of l.to) + length (views_of l.from) ≤ room_of l.to)

abbrev pub decreases-loop-view : goal.decreases-loop-view
decreases-loop-view l = length (views_of l.from)
