-- The outs and views to come, and the replicators so far.
use Rattle.std.proofs.Common.{◌≡◌, ◌+◌, ◌++◌, All, length, map, reverse, vec_capacity, vec_len}
use Rattle.logbook.specs.Pages.{Book}
use Rattle.published_table.specs.Views.{IsNew, views_of}
use Rattle.replication_workers.specs.Replicators.{out_of}
use Rattle.relay_serving.specs.{GivenOut.{terms_by}, Starting.{AreReadBy, AreStarts}}
use Rattle.relay_serving.proofs.server.starting.make_each.Given as goal

abbrev pub invariant-loop-out : goal.invariant-loop-out
invariant-loop-out g l =
    (l.outs.items ++ map out_of (reverse l.made.items) ≡ l.initial.outs.items)
    × (length (views_of l.views) ≡ vec_len l.outs)
    × (vec_len l.outs + vec_len l.made ≡ vec_len l.initial.outs)
    × (vec_capacity l.outs ≡ vec_capacity l.initial.outs)
    × (vec_capacity l.made ≡ vec_capacity l.initial.made)
    × AreReadBy (terms_by l.fn.settings) (views_of l.views)
    × ((book : Book) → All (IsNew book (terms_by l.fn.settings)) (views_of l.initial.views)
    → All (IsNew book (terms_by l.fn.settings)) (views_of l.views) × AreStarts l.fn.settings book l.made.items)

abbrev pub decreases-loop-out : goal.decreases-loop-out
decreases-loop-out g l = vec_len l.outs
