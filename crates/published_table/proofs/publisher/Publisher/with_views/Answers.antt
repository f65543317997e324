use Rattle.std.proofs.Common.{List, drop, fold, sym, ap, ◌∙◌}
use Rattle.left_right.specs.Sides.{view}
use Rattle.published_table.{specs.{Copies.{state_of}, Entries.{with_entry}, declared.entry.Entry.{Entry}}, proofs.{Cases.{ok_case}, Publishing.{opened, shows_same}}}
use Rattle.published_table.proofs.publisher.Publisher.with_views.Goals as goal

pub publish_as-writer-requires : goal.publish_as-writer-requires
publish_as-writer-requires g c next state =
    let writer = c.in_ok-writer.writer in
    shows_same (view writer.desk.place) writer.desk.shown.value next
    (state ∙ ap (λ (pending : List Entry). fold with_entry (state_of writer.desk.shown.value) pending) c.in_ok-writer.ensures.1) writer.desk.place.id

pub invariant_of-publisher : goal.invariant_of-publisher
invariant_of-publisher g c =
    let writer = c.in_ok-writer.writer in
    let last = c.publish_as-writer.result.0 in
    let history = c.new-history.result in
    let first = c.in_ok-first.ensures in
    let values = ok_case _ c.publish_as-writer.result.1 c.publish_as-writer.ensures.values (sym c.if-is_err.ensures.value) in
    let seen = ok_case _ c.publish_as-writer.result.1 c.publish_as-writer.ensures.rule (sym c.if-is_err.ensures.value) in
    let shown = c.in_ok-writer.ensures.0 in
    let state = values.0 ∙ ap (λ (pending : List Entry). fold with_entry (state_of writer.desk.shown.value) pending) c.in_ok-writer.ensures.1 ∙ (λ i. state_of (shown i)) in
    let is = opened (view writer.desk.place) (view last.desk.place) last.desk.shown.value (drop last.behind last.log.items) c.new-4.result.items history.bookmark c.args.terms seen
    ((λ i. (state i).log) ∙ first.log) ((λ i. (state i).bookmark) ∙ first.bookmark ∙ c.again.ensures) ((λ i. (state i).terms) ∙ first.terms) values.1 c.new-4.ensures.items c.new-history.ensures in
    record { marked = is.marked; origin = is.origin; all = is.all; vouched = is.vouched; under = is.under; above = is.above; counted = is.counted; short = is.short; fits = is.fits }
