use Rattle.std.proofs.Common.{◌≡◌, List, drop, subst}
use Rattle.left_right.specs.Sides.{view}
use Rattle.endpoint_membership.specs.declared.change.Change.{Change}
use Rattle.published_table.proofs.{Cases.{err_case}, Publishing.{IsPublisher, after_handing, may_publish, nothing_shown, published_or_not}, publisher.publishing.publish_by.Goals.{in-Ok, in-Err}}
use Rattle.published_table.proofs.publisher.publishing.publish_by.Goals as goal

pub publish_as-requires : goal.publish_as-requires
publish_as-requires g c next state =
    let publisher = c.args.publisher in
    let writer = publisher.writer in
    let now = c.hand_all_over.new.writer in
    let left : List Change = c.hand_all_over.new.taken.items in
    let bookmark = c.hand_all_over.new.history.bookmark in
    let handed_over = c.hand_all_over.ensures in
    let handed = after_handing (view writer.desk.place) (view now.desk.place) writer.desk.shown.value now.desk.shown.value (drop writer.behind writer.log.items) (drop now.behind now.log.items)
    publisher.taken.items left publisher.owed publisher.whole publisher.history.bookmark bookmark publisher.terms
    (λ i. view (handed_over.desk i).place) (λ i. (handed_over.desk i).shown.value) handed_over.book handed_over.kept handed_over.above handed_over.owed handed_over.vouched
    (record { marked = publisher.marked; origin = publisher.origin; all = publisher.all; vouched = publisher.vouched; under = publisher.under; above = publisher.above; counted = publisher.counted; short = publisher.short; fits = publisher.fits }) in
    may_publish (view now.desk.place) now.desk.shown.value (drop now.behind now.log.items) publisher.owed publisher.whole bookmark publisher.terms
    (subst (λ (one : List Change). IsPublisher (view now.desk.place) now.desk.shown.value (drop now.behind now.log.items) one publisher.owed publisher.whole bookmark publisher.terms) c.in-Ok.ensures.none handed)
    next state now.desk.place.id

pub invariant_of-next : goal.invariant_of-next
invariant_of-next g c =
    let publisher = c.args.publisher in
    let writer = publisher.writer in
    let now = c.hand_all_over.new.writer in
    let left : List Change = c.hand_all_over.new.taken.items in
    let bookmark = c.hand_all_over.new.history.bookmark in
    let handed_over = c.hand_all_over.ensures in
    let last = c.match-hand_all_over.writer.0 in
    let owed = c.still_owed-owed.result in
    let handed = after_handing (view writer.desk.place) (view now.desk.place) writer.desk.shown.value now.desk.shown.value (drop writer.behind writer.log.items) (drop now.behind now.log.items)
    publisher.taken.items left publisher.owed publisher.whole publisher.history.bookmark bookmark publisher.terms
    (λ i. view (handed_over.desk i).place) (λ i. (handed_over.desk i).shown.value) handed_over.book handed_over.kept handed_over.above handed_over.owed handed_over.vouched
    (record { marked = publisher.marked; origin = publisher.origin; all = publisher.all; vouched = publisher.vouched; under = publisher.under; above = publisher.above; counted = publisher.counted; short = publisher.short; fits = publisher.fits }) in
    elim c.match-hand_all_over.branch [
      | in-Ok w ↦
          let is = published_or_not (view now.desk.place) (view last.desk.place) now.desk.shown.value last.desk.shown.value (drop now.behind now.log.items) (drop last.behind last.log.items)
          left publisher.owed owed publisher.whole bookmark publisher.terms c.match-hand_all_over.writer.1 handed w.in-Ok.ensures.none w.in-Ok.ensures.under
          (rw w.writer-is w.publish_as.ensures.values) (rw w.writer-is w.publish_as.ensures.rule) c.still_owed-owed.ensures in
          record { marked = is.marked; origin = is.origin; all = is.all; vouched = is.vouched; under = is.under; above = is.above; counted = is.counted; short = is.short; fits = is.fits }
      | in-Err w ↦
          let counted = err_case (owed ≡ 0) (owed ≡ publisher.owed) c.match-hand_all_over.writer.1 _ (λ i. (w.writer-is i).1) c.still_owed-owed.ensures in
          let is = nothing_shown (view now.desk.place) (view last.desk.place) now.desk.shown.value last.desk.shown.value (drop now.behind now.log.items) (drop last.behind last.log.items)
          left publisher.owed owed publisher.whole bookmark publisher.terms handed
          (λ i. view (w.writer-is i).0.desk.place) (λ i. (w.writer-is i).0.desk.shown.value) (λ i. drop (w.writer-is i).0.behind (w.writer-is i).0.log.items) counted in
          record { marked = is.marked; origin = is.origin; all = is.all; vouched = is.vouched; under = is.under; above = is.above; counted = is.counted; short = is.short; fits = is.fits }
    ]
