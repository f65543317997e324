-- What slots left, as it is seen of a whole run.
use Rattle.std.proofs.Common.{◌≡◌, ℕ, suc, ◌+◌, ◌*◌, ◌≤◌, ◌==◌, Bool, true, cond, List, [], ◌∷◌, length, map, refl, sym, ap, subst, ◌∙◌, arith}
use Rattle.std.{specs.{Prelude.{Result, Ok, Err}, List.{All, AllZip, enumerate_from, filter, sum_by}}, proofs.{Props.{props}, Math.Logic.{∥∥₁_elim, ∥∥₁_map, ∥∥₁_prop}, lemmas.List.{length-map, Elements.{All-cons, All-head, All-nil, All-tail}, Sums.{sum_by-cons}}}}
use Rattle.logbook.specs.Pages.{Book}
use Rattle.amt_ports.specs.{declared.out_link.OutLink.{Ghosts}, Devices.{OutSeen, out_seen}}
use Rattle.endpoint_membership.specs.declared.change.Change.{Change}
use Rattle.inner_datagrams.specs.{Head.{head_of}, declared.head.{Head.{Head}, HeadFault.{HeadFault}}}
use Rattle.published_table.specs.{Lists.{BeginsWith}, Terms.{settings_by}, Views.{publisher_of, seen, terms_of}, declared.{terms.Terms.{Terms}, view.View.{View}}}
use Rattle.relay_machine.specs.{Settings.{table_settings_of}, declared.settings.Settings.{Settings}}
use Rattle.replication_workers.specs.{Dispatchers.{slot_by, slot_for}, Jobs.{Handled}, Replicators.{limit_of, out_of, view_of}, SlotStates.{HaveLeft, IsLeft, SlotLeft, SlotState, jobs_in_all}, Workers.{HasHandled}, declared.{job.Job.{Job}, replicator.Replicator.{Replicator}}}
use Rattle.relay_serving.specs.{Devices.{outs_seen}, GivenOut.{AreOfPublisher, jobs_at, slots_after, starts_in}, Serving.{AreServed, IsServed, SlotServed, logs_in}, Starting.{AreStarts, IsStart}}

-- the first of one slot is the slot of each packet
of_one : (head : Result Head HeadFault) → slot_by 1 head ≡ 0
of_one (Ok head) = omega arith
of_one (Err fault) = refl

filter_all : {A : Type 0} (test : A → Bool) (list : List A) → ((one : A) → test one ≡ true) → filter test list ≡ list
filter_all test [] passes = refl
filter_all test (one ∷ list) passes =
    ap (λ (passed : Bool). cond passed (one ∷ filter test list) (filter test list)) (passes one) ∙ ap (λ (rest : List _). one ∷ rest) (filter_all test list passes)

all_at_first : (jobs : List Job) → jobs_at 1 0 jobs ≡ jobs
all_at_first jobs = filter_all (λ (job : Job). slot_for 1 job.packet == 0) jobs (λ job. ap (λ (slot : ℕ). slot == 0) (of_one (head_of job.packet)))

none_more : (number : ℕ) → number ≡ 0 + number
none_more number = omega arith

module _ {O : Type 0} {g : Ghosts O} where
  -- what slots left, and their views as they were asked then
  pub record Slotted (settings : Settings) (lefts : List (SlotLeft O g)) (views : List View) : Type 0 where
    pub slots : List SlotServed
    pub before_are : map (λ (slot : SlotServed). slot.before) slots ≡ outs_seen g.tried g.faults (map (λ (one : SlotLeft O g). out_of one.slot.first) lefts)
    pub jobs_are : map (λ (slot : SlotServed). slot.jobs) slots ≡ map (λ (one : SlotLeft O g). one.slot.jobs) lefts
    pub after_are : map (λ (slot : SlotServed). slot.after) slots ≡ outs_seen g.tried g.faults (map (λ (one : SlotLeft O g). one.left.out) lefts)
    pub views_are : map (λ (slot : SlotServed). slot.view) slots ≡ views
    pub each : All (IsServed settings) slots
    pub sent_is : sum_by (λ (slot : SlotServed). slot.sent) slots ≡ sum_by (λ (one : SlotLeft O g). one.left.sent) lefts
    pub unsent_is : sum_by (λ (slot : SlotServed). slot.unsent) slots ≡ sum_by (λ (one : SlotLeft O g). one.left.unsent) lefts

  abbrev slot_served : SlotLeft O g → List (List Change) → View → SlotServed
  slot_served one logs view = record {
    before = out_seen (g.tried (out_of one.slot.first)) (g.faults (out_of one.slot.first));
    jobs = one.slot.jobs;
    logs = logs;
    after = out_seen (g.tried one.left.out) (g.faults one.left.out);
    view = view;
    sent = one.left.sent;
    unsent = one.left.unsent;
  }

  -- what the slot handled, by the settings
  abbrev handled_by : (settings : Settings) (book : Book) (one : SlotLeft O g) → IsStart settings book one.slot.first
      → (has : HasHandled one.slot.first one.slot.jobs one.left.out one.left.view one.left.sent one.left.unsent)
      → Handled (table_settings_of settings) settings.packet_limit [] one.slot.jobs has.wanted (seen one.left.view)
  handled_by settings book one start has =
      subst (λ (terms : Terms). Handled (settings_by terms) settings.packet_limit [] one.slot.jobs has.wanted (seen one.left.view)) start.new.by
      (subst (λ (limit : ℕ). Handled (settings_by (terms_of (view_of one.slot.first))) limit [] one.slot.jobs has.wanted (seen one.left.view)) start.limit
      (subst (λ (log : List Change). Handled (settings_by (terms_of (view_of one.slot.first))) (limit_of one.slot.first) log one.slot.jobs has.wanted (seen one.left.view)) start.new.seen_none has.handled))

  abbrev logs_of_slot : (settings : Settings) (book : Book) (one : SlotLeft O g) → IsStart settings book one.slot.first
      → HasHandled one.slot.first one.slot.jobs one.left.out one.left.view one.left.sent one.left.unsent → List (List Change)
  logs_of_slot settings book one start has =
      logs_in (table_settings_of settings) settings.packet_limit [] one.slot.jobs has.wanted (seen one.left.view) (handled_by settings book one start has)

  one_served : (settings : Settings) (book : Book) (one : SlotLeft O g) (view : View) (start : IsStart settings book one.slot.first)
      (has : HasHandled one.slot.first one.slot.jobs one.left.out one.left.view one.left.sent one.left.unsent) → BeginsWith (seen view) (seen one.left.view)
      → IsServed settings (slot_served one (logs_of_slot settings book one start has) view)
  one_served settings book one view start has further = record {
    wanted = has.wanted;
    last = seen one.left.view;
    handled = handled_by settings book one start has;
    logs_are = refl;
    tried = has.tried;
    further = further;
  }

  slotted_more : (settings : Settings) (one : SlotLeft O g) (lefts : List (SlotLeft O g)) (logs : List (List Change)) (view : View) (views : List View)
      → IsServed settings (slot_served one logs view) → Slotted settings lefts views → Slotted settings (one ∷ lefts) (view ∷ views)
  slotted_more settings one lefts logs view views served rest =
      let slot = slot_served one logs view in record {
        slots = slot ∷ rest.slots;
        before_are = ap (λ (list : List OutSeen). slot.before ∷ list) rest.before_are;
        jobs_are = ap (λ (list : List (List Job)). one.slot.jobs ∷ list) rest.jobs_are;
        after_are = ap (λ (list : List OutSeen). slot.after ∷ list) rest.after_are;
        views_are = ap (λ (list : List View). view ∷ list) rest.views_are;
        each = All-cons (IsServed settings) slot rest.slots served rest.each;
        sent_is = sum_by-cons (λ (slot : SlotServed). slot.sent) slot rest.slots ∙ ap (λ (sum : ℕ). one.left.sent + sum) rest.sent_is ∙ sym (sum_by-cons (λ (one : SlotLeft O g). one.left.sent) one lefts);
        unsent_is = sum_by-cons (λ (slot : SlotServed). slot.unsent) slot rest.slots ∙ ap (λ (sum : ℕ). one.left.unsent + sum) rest.unsent_is ∙ sym (sum_by-cons (λ (one : SlotLeft O g). one.left.unsent) one lefts);
      }

  -- by which logs jobs were handled is known, and not told
  pub slotted : (settings : Settings) (book : Book) (lefts : List (SlotLeft O g)) (views : List View) → All (λ (one : SlotLeft O g). IsLeft one.slot one.left) lefts
      → AreStarts settings book (starts_in (map (λ (one : SlotLeft O g). one.slot) lefts))
      → AllZip (λ one other. BeginsWith (seen other) (seen one)) (map (λ (one : SlotLeft O g). one.left.view) lefts) views → ∥ Slotted settings lefts views ∥₁
  slotted settings book [] [] each starts further = ∣ record { slots = []; before_are = refl; jobs_are = refl; after_are = refl; views_are = refl; each = All-nil (IsServed settings); sent_is = refl; unsent_is = refl } ∣₁
  slotted settings book [] (view ∷ views) each starts further = absurd further
  slotted settings book (one ∷ lefts) [] each starts further = absurd further
  slotted settings book (one ∷ lefts) (view ∷ views) each starts further =
      let left = All-head (λ (one : SlotLeft O g). IsLeft one.slot one.left) one lefts each in
      let start = All-head (IsStart settings book) one.slot.first (starts_in (map (λ (one : SlotLeft O g). one.slot) lefts)) starts in
      let rest = slotted settings book lefts views (All-tail (λ (one : SlotLeft O g). IsLeft one.slot one.left) one lefts each)
      (All-tail (IsStart settings book) one.slot.first (starts_in (map (λ (one : SlotLeft O g). one.slot) lefts)) starts) further.1 in
      ∥∥₁_elim left.has_handled ∥∥₁_prop (λ has. ∥∥₁_map rest (λ others. slotted_more settings one lefts (logs_of_slot settings book one start has) view views (one_served settings book one view start has further.0) others))

  firsts_out : (lefts : List (SlotLeft O g)) → map (λ (one : SlotLeft O g). out_of one.slot.first) lefts ≡ map out_of (starts_in (map (λ (one : SlotLeft O g). one.slot) lefts))
  firsts_out [] = refl
  firsts_out (one ∷ lefts) = ap (λ (list : List O). out_of one.slot.first ∷ list) (firsts_out lefts)

  abbrev jobs_of : List (SlotState O g) → List (List Job)
  jobs_of slots = map (λ (slot : SlotState O g). slot.jobs) slots

  jobs_left : (lefts : List (SlotLeft O g)) → map (λ (one : SlotLeft O g). one.slot.jobs) lefts ≡ jobs_of (map (λ (one : SlotLeft O g). one.slot) lefts)
  jobs_left [] = refl
  jobs_left (one ∷ lefts) = ap (λ (list : List (List Job)). one.slot.jobs ∷ list) (jobs_left lefts)

  jobs_numbered : (number from : ℕ) (firsts : List (Replicator O g)) (jobs : List Job)
      → jobs_of (map (λ (numbered : ℕ × Replicator O g). record { first = numbered.1; jobs = jobs_at number numbered.0 jobs }) (enumerate_from from firsts))
      ≡ map (λ (numbered : ℕ × OutSeen). jobs_at number numbered.0 jobs) (enumerate_from from (outs_seen g.tried g.faults (map out_of firsts)))
  jobs_numbered number from [] jobs = refl
  jobs_numbered number from (first ∷ firsts) jobs = ap (λ (list : List (List Job)). jobs_at number from jobs ∷ list) (jobs_numbered number (from + 1) firsts jobs)

  number_seen : (firsts : List (Replicator O g)) → length firsts ≡ length (outs_seen g.tried g.faults (map out_of firsts))
  number_seen [] = refl
  number_seen (first ∷ firsts) = ap suc (number_seen firsts)

  jobs_by_outs : (firsts : List (Replicator O g)) (outs : List O) (jobs : List Job) → map out_of firsts ≡ outs
      → jobs_of (slots_after firsts jobs)
      ≡ map (λ (numbered : ℕ × OutSeen). jobs_at (length (outs_seen g.tried g.faults outs)) numbered.0 jobs) (enumerate_from 0 (outs_seen g.tried g.faults outs))
  jobs_by_outs firsts outs jobs is =
      jobs_numbered (length firsts) 0 firsts jobs
      ∙ ap (λ (number : ℕ). map (λ (numbered : ℕ × OutSeen). jobs_at number numbered.0 jobs) (enumerate_from 0 (outs_seen g.tried g.faults (map out_of firsts)))) (number_seen firsts)
      ∙ ap (λ (list : List O). map (λ (numbered : ℕ × OutSeen). jobs_at (length (outs_seen g.tried g.faults list)) numbered.0 jobs) (enumerate_from 0 (outs_seen g.tried g.faults list))) is

  -- the slots of a run, as they are seen
  pub are_served : (settings : Settings) (outs after : List O) (jobs : List Job) (slots : List (SlotState O g)) (left_views views : List View) (sent unsent : ℕ)
      (left : HaveLeft slots after left_views sent unsent) → slots ≡ slots_after (starts_in slots) jobs → map out_of (starts_in slots) ≡ outs → Slotted settings left.lefts views
      → AreServed settings (outs_seen g.tried g.faults outs) jobs (outs_seen g.tried g.faults after) views sent unsent
  are_served settings outs after jobs slots left_views views sent unsent left at_slots outs_are served = record {
    slots = served.slots;
    outs_are = served.before_are ∙ ap (outs_seen g.tried g.faults) (firsts_out left.lefts ∙ ap (λ (list : List (SlotState O g)). map out_of (starts_in list)) left.slots_are ∙ outs_are);
    jobs_are = served.jobs_are ∙ jobs_left left.lefts ∙ ap jobs_of left.slots_are ∙ ap jobs_of at_slots ∙ jobs_by_outs (starts_in slots) outs jobs outs_are;
    after_are = served.after_are ∙ ap (outs_seen g.tried g.faults) left.outs_are;
    views_are = served.views_are;
    each = served.each;
    sent_is = left.sent_is ∙ sym served.sent_is;
    unsent_is = left.unsent_is ∙ sym served.unsent_is;
  }

  few_each : (lefts : List (SlotLeft O g)) → All (λ (one : SlotLeft O g). IsLeft one.slot one.left) lefts
      → sum_by (λ (one : SlotLeft O g). one.left.sent) lefts + sum_by (λ (one : SlotLeft O g). one.left.unsent) lefts ≤ 65536 * jobs_in_all (map (λ (one : SlotLeft O g). one.slot) lefts)
  few_each [] each = omega arith
  few_each (one ∷ lefts) each =
      let left = All-head (λ (one : SlotLeft O g). IsLeft one.slot one.left) one lefts each in
      let rest = few_each lefts (All-tail (λ (one : SlotLeft O g). IsLeft one.slot one.left) one lefts each) in
      let sent = sum_by-cons (λ (one : SlotLeft O g). one.left.sent) one lefts in
      let unsent = sum_by-cons (λ (one : SlotLeft O g). one.left.unsent) one lefts in
      let jobs = sum_by-cons (λ (slot : SlotState O g). length slot.jobs) one.slot (map (λ (one : SlotLeft O g). one.slot) lefts) in
      let few : one.left.sent + one.left.unsent ≤ 65536 * length one.slot.jobs = subst (λ (count : ℕ). one.left.sent + one.left.unsent ≤ 65536 * count) left.counted left.few in
      omega (arith, sent, unsent, jobs, few, rest)

  -- what slots tried is at most 65,536 a job
  pub left_few : (slots : List (SlotState O g)) (outs : List O) (views : List View) (sent unsent : ℕ) → HaveLeft slots outs views sent unsent
      → sent + unsent ≤ 65536 * jobs_in_all slots
  left_few slots outs views sent unsent left =
      let few = few_each left.lefts left.each in
      let jobs = ap jobs_in_all left.slots_are in
      omega (arith, few, jobs, left.sent_is, left.unsent_is)

  -- one slot has all jobs
  pub all_inline : (slots : List (SlotState O g)) (jobs : List Job) → length (starts_in slots) ≡ 1 → slots ≡ slots_after (starts_in slots) jobs → jobs_in_all slots ≡ length jobs
  all_inline slots jobs one is = ap jobs_in_all is ∙ of_only (starts_in slots) one
    where
      of_only : (firsts : List (Replicator O g)) → length firsts ≡ 1 → jobs_in_all (slots_after firsts jobs) ≡ length jobs
      of_only [] none = absurd (omega (arith, none))
      of_only (first ∷ []) only = sym (none_more _) ∙ ap length (all_at_first jobs)
      of_only (first ∷ second ∷ firsts) many = absurd (omega (arith, many))

  each_publisher : (book : Book) (lefts : List (SlotLeft O g)) → All (λ (one : SlotLeft O g). IsLeft one.slot one.left) lefts → AreOfPublisher book (map (λ (one : SlotLeft O g). one.slot) lefts)
      → All (λ view. publisher_of view ≡ book) (map (λ (one : SlotLeft O g). one.left.view) lefts)
  each_publisher book [] each of = All-nil (λ view. publisher_of view ≡ book)
  each_publisher book (one ∷ lefts) each of =
      let slots = map (λ (one : SlotLeft O g). one.slot) lefts in
      let left = All-head (λ (one : SlotLeft O g). IsLeft one.slot one.left) one lefts each in
      let first = All-head (λ (slot : SlotState O g). publisher_of (view_of slot.first) ≡ book) one.slot slots of in
      let rest = each_publisher book lefts (All-tail (λ (one : SlotLeft O g). IsLeft one.slot one.left) one lefts each)
      (All-tail (λ (slot : SlotState O g). publisher_of (view_of slot.first) ≡ book) one.slot slots of) in
      let same : publisher_of one.left.view ≡ publisher_of (view_of one.slot.first) = ∥∥₁_elim left.has_handled (hlevel props) (λ has. has.publisher) in
      All-cons (λ view. publisher_of view ≡ book) one.left.view (map (λ (one : SlotLeft O g). one.left.view) lefts) (same ∙ first) rest

  -- the views that slots left are of the slots' publisher
  pub left_publisher : (book : Book) (slots : List (SlotState O g)) (outs : List O) (views : List View) (sent unsent : ℕ) → HaveLeft slots outs views sent unsent → AreOfPublisher book slots
      → All (λ view. publisher_of view ≡ book) views
  left_publisher book slots outs views sent unsent left of =
      subst (All (λ view. publisher_of view ≡ book)) left.views_are (each_publisher book left.lefts left.each (subst (AreOfPublisher book) (sym left.slots_are) of))

  -- each slot left one view
  pub left_number : (slots : List (SlotState O g)) (outs : List O) (views : List View) (sent unsent : ℕ) → HaveLeft slots outs views sent unsent → length views ≡ length slots
  left_number slots outs views sent unsent left =
      ap length (sym left.views_are) ∙ length-map left.lefts (λ (one : SlotLeft O g). one.left.view)
      ∙ sym (length-map left.lefts (λ (one : SlotLeft O g). one.slot)) ∙ ap length left.slots_are
