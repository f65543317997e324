-- Where no view is apart, receivers are found by prefixes of the whole log.
use Rattle.std.{proofs.{Common.{◌≡◌, ◌≤◌, ◌==◌, ℕ, ◌+◌, not, Bool, true, false, cond, List, [], ◌∷◌, length, map, take, count_by, refl, sym, ap, subst, ◌∙◌, arith}, Math.Seq.{take-length}, lemmas.{Bool.{eqb-true}, List.{length-take-le, Elements.{All-cons, All-head, All-nil, All-tail}, Sums.{sum_by-cons}}}}, specs.List.{All}}
use Rattle.amt_values.specs.declared.peer.Peer.{Peer}
use Rattle.endpoint_membership.specs.{Table.{TableSettings}, declared.change.Change.{Change}}
use Rattle.published_table.{specs.{Lists.{BeginsWith, BeginsWithEach}, Views.{seen}, declared.view.View.{View}}, proofs.Beginnings.{begins_further, begins_itself, each_further}}
use Rattle.relay_machine.specs.{declared.settings.Settings.{Settings}, Settings.{table_settings_of}}
use Rattle.replication_workers.specs.{Jobs.{Handled}, declared.job.Job.{Job}}
use Rattle.relay_serving.specs.{Serving.{ArePublished, IsServed, ReadPrefixesOf, SlotServed, logs_in}, Views.{is_apart}}

-- the last log begins with what was seen before all jobs
last_begins : (settings : TableSettings) (limit : ℕ) (seen : List Change) (jobs : List Job) (wanted : List (Peer × List ℕ)) (last : List Change)
    → Handled settings limit seen jobs wanted last → BeginsWith last seen
last_begins settings limit seen [] wanted last handled = subst (λ (log : List Change). BeginsWith log seen) (sym handled.0) (begins_itself seen)
last_begins settings limit seen (job ∷ jobs) wanted last handled =
    begins_further last handled.0 seen (last_begins settings limit handled.0 jobs handled.1 last handled.5) handled.2

-- and with each log by which a job was handled
each_begins : (settings : TableSettings) (limit : ℕ) (seen : List Change) (jobs : List Job) (wanted : List (Peer × List ℕ)) (last : List Change)
    (handled : Handled settings limit seen jobs wanted last) → BeginsWithEach last (logs_in settings limit seen jobs wanted last handled)
each_begins settings limit seen [] wanted last handled = All-nil (BeginsWith last)
each_begins settings limit seen (job ∷ jobs) wanted last handled =
    All-cons (BeginsWith last) handled.0 (logs_in settings limit handled.0 jobs handled.1 last handled.5)
    (last_begins settings limit handled.0 jobs handled.1 last handled.5) (each_begins settings limit handled.0 jobs handled.1 last handled.5)

is_not : (passes : Bool) → not passes ≡ false → passes ≡ true
is_not true is = refl
is_not false is = sym is

-- a view that isn't apart has seen exactly what is published
has_seen_published : (log : List Change) (published : ℕ) (view : View) → published ≤ length log → is_apart published view ≡ false
    → BeginsWith (seen view) (take published log) → BeginsWith log (seen view)
has_seen_published log published view within near begins =
    let same : length (seen view) ≡ published = eqb-true (length (seen view)) published (is_not (length (seen view) == published) near) in
    ap (λ (number : ℕ). take number log) same ∙ sym begins
    ∙ ap (λ (number : ℕ). take number (seen view)) (length-take-le published log within ∙ sym same) ∙ take-length (seen view)

fails_first : (passes : Bool) (others : ℕ) → cond passes 1 0 + others ≡ 0 → passes ≡ false
fails_first true others none = absurd (omega (arith, none))
fails_first false others none = refl

fails_later : (first others : ℕ) → first + others ≡ 0 → others ≡ 0
fails_later first others none = omega (arith, none)

none_apart : (published : ℕ) (views : List View) → count_by (is_apart published) views ≡ 0 → All (λ view. is_apart published view ≡ false) views
none_apart published [] none = All-nil (λ view. is_apart published view ≡ false)
none_apart published (view ∷ views) none =
    let sum = sym (sum_by-cons (λ (one : View). cond (is_apart published one) 1 0) view views) ∙ none in
    All-cons (λ view. is_apart published view ≡ false) view views (fails_first (is_apart published view) (count_by (is_apart published) views) sum)
    (none_apart published views (fails_later (cond (is_apart published view) 1 0) (count_by (is_apart published) views) sum))

one_reads : (settings : Settings) (log : List Change) (slot : SlotServed) → IsServed settings slot → BeginsWith log (seen slot.view) → BeginsWithEach log slot.logs
one_reads settings log slot served begins =
    subst (BeginsWithEach log) (sym served.logs_are)
    (each_further log served.last (logs_in (table_settings_of settings) settings.packet_limit [] slot.jobs served.wanted served.last served.handled)
    (begins_further log (seen slot.view) served.last begins served.further)
    (each_begins (table_settings_of settings) settings.packet_limit [] slot.jobs served.wanted served.last served.handled))

each_reads : (settings : Settings) (log : List Change) (published : ℕ) (slots : List SlotServed) → published ≤ length log → All (IsServed settings) slots
    → All (λ view. is_apart published view ≡ false) (map (λ (slot : SlotServed). slot.view) slots)
    → All (λ view. BeginsWith (seen view) (take published log)) (map (λ (slot : SlotServed). slot.view) slots) → ReadPrefixesOf log slots
each_reads settings log published [] within served near begins = All-nil (λ (slot : SlotServed). BeginsWithEach log slot.logs)
each_reads settings log published (slot ∷ slots) within served near begins =
    let views = map (λ (slot : SlotServed). slot.view) slots in
    let Near = λ (view : View). is_apart published view ≡ false in
    let Begins = λ (view : View). BeginsWith (seen view) (take published log) in
    All-cons (λ (slot : SlotServed). BeginsWithEach log slot.logs) slot slots
    (one_reads settings log slot (All-head (IsServed settings) slot slots served)
    (has_seen_published log published slot.view within (All-head Near slot.view views near) (All-head Begins slot.view views begins)))
    (each_reads settings log published slots within (All-tail (IsServed settings) slot slots served) (All-tail Near slot.view views near) (All-tail Begins slot.view views begins))

within_all : (published owed all : ℕ) → published + owed ≡ all → published ≤ all
within_all published owed all is = omega (arith, is)

pub read_prefixes : (settings : Settings) (log prefix : List Change) (slots : List SlotServed) (views : List View) (published owed apart : ℕ) → All (IsServed settings) slots
    → map (λ (slot : SlotServed). slot.view) slots ≡ views → ArePublished log prefix views published owed apart → apart ≡ 0 → ReadPrefixesOf log slots
read_prefixes settings log prefix slots views published owed apart served are of none =
    let taken : take published log ≡ prefix = ap (λ (number : ℕ). take number log) of.published_is ∙ of.begins in
    each_reads settings log published slots (within_all published owed (length log) of.all) served
    (subst (All (λ view. is_apart published view ≡ false)) (sym are) (none_apart published views (sym of.apart_is ∙ none)))
    (subst (All (λ view. BeginsWith (seen view) (take published log))) (sym are)
    (subst (λ (list : List Change). All (λ view. BeginsWith (seen view) list) views) (sym taken) of.each))
