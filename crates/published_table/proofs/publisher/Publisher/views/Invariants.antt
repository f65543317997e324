use Rattle.std.{proofs.Common.{◌≡◌, length}, specs.List.{All}}
use Rattle.published_table.specs.{Publishers.{IsSamePublisher, ShowsAlike, book_of, reading_terms}, Views.{IsNew, views_of}}
use Rattle.published_table.proofs.publisher.Publisher.views.Given as goal

abbrev pub invariant-loop : goal.invariant-loop
invariant-loop l =
    IsSamePublisher l.fn.self l.self × ShowsAlike l.fn.self l.self
    × (length (views_of l.views) ≡ l.counter)
    × All (IsNew (book_of l.fn.self) (reading_terms l.fn.self)) (views_of l.views)
