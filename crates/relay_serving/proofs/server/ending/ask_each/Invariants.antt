-- The views that were asked, and those to come.
use Rattle.std.proofs.Common.{◌≡◌, ◌≤◌, ◌+◌, All, count_by, length}
use Rattle.published_table.specs.{Publishers.{book_of, published}, Views.{publisher_of, room_of, views_of}}
use Rattle.relay_serving.{specs.Views.{is_apart}, proofs.Ending.{AskedSoFar}}
use Rattle.relay_serving.proofs.server.ending.ask_each.Given as goal

abbrev pub invariant-loop-view : goal.invariant-loop-view
invariant-loop-view g l =
    AskedSoFar (published l.fn.publisher) (views_of l.initial.from) (views_of l.from) (views_of l.to)
    × (length (views_of l.to) + length (views_of l.from) ≤ room_of l.to)
    × All (λ view. publisher_of view ≡ book_of l.fn.publisher) (views_of l.from)
    × (l.apart ≡ count_by (is_apart (length (published l.fn.publisher))) (views_of l.to))

abbrev pub decreases-loop-view : goal.decreases-loop-view
decreases-loop-view g l = length (views_of l.from)
