use Rattle.std.proofs.Common.{◌≡◌, ◌++◌, drop, fold}
use Rattle.published_table.specs.{Copies.{state_of}, Entries.{IsVouched, changes, with_entry}}
use Rattle.published_table.proofs.publisher.publishing.hand_over.Given as goal

abbrev pub invariant-loop-change : goal.invariant-loop-change
invariant-loop-change l =
    (l.writer.desk ≡ l.fn.writer.desk)
    × (changes (drop l.writer.behind l.writer.log.items) ++ l.taken.items ≡ changes (drop l.fn.writer.behind l.fn.writer.log.items) ++ l.fn.taken.items)
    × IsVouched l.bookmark.seen.book (fold with_entry (state_of l.writer.desk.shown.value) (drop l.writer.behind l.writer.log.items))

abbrev pub decreases-loop-change : goal.decreases-loop-change
decreases-loop-change l = l.taken.len
