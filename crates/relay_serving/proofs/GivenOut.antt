-- One job more, given to the slot of its packet.
use Rattle.std.proofs.{Common.{◌≡◌, ◌≢◌, ◌≤◌, ◌<◌, ◌+◌, ◌^◌, ℕ, zero, suc, Bool, true, false, cond, List, [], ◌∷◌, ◌++◌, length, map, reverse, ⊎_elim, refl, sym, ap, subst, ◌∙◌, append-nil, arith, length-append}, Math.Logic.{∥∥₁_elim, ∥∥₁_map}, Props.{props}}
use Rattle.std.{proofs.lemmas.{Bool.Decides.{eqb_tells}, List.{length-map, length-reverse, length_push, map-append, reverse-append, reverse-reverse, Elements.{All-cons, All-head, All-tail, filter-append}, Sums.{sum_by-cons}}}, specs.{Prelude.{nat_eq, count_by}, List.{enumerate_from}}}
use Rattle.logbook.specs.Pages.{Book}
use Rattle.amt_ports.specs.declared.out_link.OutLink.{Ghosts}
use Rattle.published_table.specs.Views.{named, publisher_of}
use Rattle.response_mac.specs.declared.secret.Secret.{Secret}
use Rattle.relay_machine.specs.{Events.{now_of}, Published.{published_log}, declared.{event.Event.{Event, TheVariants.{Moment, Datagram, Packet, Rotate, Limits}}, settings.Settings.{Settings}}}
use Rattle.replication_workers.specs.{Dispatchers.{slot_for}, Replicators.{view_of}, SlotStates.{SlotState, jobs_in_all, with_job}, declared.{job.Job.{Job}, replicator.Replicator.{Replicator}}}
use Rattle.relay_serving.{specs.{Counting.{is_packet}, GivenOut.{AreGivenOut, AreOfPublisher, jobs_at, slots_after, starts_in}, Happenings.{Happening, Took, Published, events_among, published_events_among}, Sending.{due_of, due_to, dues_after}}, proofs.Entering.{dues-next}}

same_number : (a b : ℕ) → a ≡ b → nat_eq a b ≡ true
same_number a b is = ⊎_elim (λ (yes : (nat_eq a b ≡ true) × (a ≡ b)). yes.0) (λ (no : (nat_eq a b ≡ false) × (a ≢ b)). absurd (no.1 is)) (eqb_tells a b)

pub other_number : (a b : ℕ) → a ≢ b → nat_eq a b ≡ false
other_number a b isnt = ⊎_elim (λ (yes : (nat_eq a b ≡ true) × (a ≡ b)). absurd (isnt yes.1)) (λ (no : (nat_eq a b ≡ false) × (a ≢ b)). no.0) (eqb_tells a b)

-- of jobs and one more
jobs_more : (slots number : ℕ) (jobs : List Job) (job : Job) → jobs_at slots number (jobs ++ job ∷ []) ≡ jobs_at slots number jobs ++ cond (nat_eq (slot_for slots job.packet) number) (job ∷ []) []
jobs_more slots number jobs job = filter-append (λ (one : Job). nat_eq (slot_for slots one.packet) number) jobs (job ∷ [])

jobs_here : (slots number : ℕ) (jobs : List Job) (job : Job) → slot_for slots job.packet ≡ number → jobs_at slots number (jobs ++ job ∷ []) ≡ jobs_at slots number jobs ++ job ∷ []
jobs_here slots number jobs job is =
    jobs_more slots number jobs job ∙ ap (λ (known : Bool). jobs_at slots number jobs ++ cond known (job ∷ []) []) (same_number (slot_for slots job.packet) number is)

jobs_elsewhere : (slots number : ℕ) (jobs : List Job) (job : Job) → slot_for slots job.packet ≢ number → jobs_at slots number (jobs ++ job ∷ []) ≡ jobs_at slots number jobs
jobs_elsewhere slots number jobs job isnt =
    jobs_more slots number jobs job
    ∙ (ap (λ (known : Bool). jobs_at slots number jobs ++ cond known (job ∷ []) []) (other_number (slot_for slots job.packet) number isnt) ∙ append-nil (jobs_at slots number jobs))

module _ {O : Type 0} {g : Ghosts O} where
  -- the slots from this number on, of so many
  abbrev slots_from : ℕ → ℕ → List (Replicator O g) → List Job → List (SlotState O g)
  slots_from slots from firsts jobs = map (λ numbered. record { first = numbered.1; jobs = jobs_at slots numbered.0 jobs }) (enumerate_from from firsts)

  slots_later : (slots from : ℕ) (firsts : List (Replicator O g)) (jobs : List Job) (job : Job) → slot_for slots job.packet < from → slots_from slots from firsts (jobs ++ job ∷ []) ≡ slots_from slots from firsts jobs
  slots_later slots from [] jobs job earlier = refl
  slots_later slots from (replicator ∷ firsts) jobs job earlier =
      let here = jobs_elsewhere slots from jobs job (λ same. omega (arith, same, earlier)) in
      let later = slots_later slots (from + 1) firsts jobs job (omega (arith, earlier)) in
      λ i. record { first = replicator; jobs = here i } ∷ later i

  slots_put : (slots from place : ℕ) (firsts : List (Replicator O g)) (jobs : List Job) (job : Job) → slot_for slots job.packet ≡ from + place
      → slots_from slots from firsts (jobs ++ job ∷ []) ≡ with_job place job (slots_from slots from firsts jobs)
  slots_put slots from place [] jobs job is = refl
  slots_put slots from zero (replicator ∷ firsts) jobs job is =
      let here = jobs_here slots from jobs job (omega (arith, is)) in
      let later = slots_later slots (from + 1) firsts jobs job (omega (arith, is)) in
      λ i. record { first = replicator; jobs = here i } ∷ later i
  slots_put slots from (suc place) (replicator ∷ firsts) jobs job is =
      let here = jobs_elsewhere slots from jobs job (λ same. omega (arith, same, is)) in
      let later = slots_put slots (from + 1) place firsts jobs job (omega (arith, is)) in
      λ i. record { first = replicator; jobs = here i } ∷ later i

  pub slots_after-put : (firsts : List (Replicator O g)) (jobs : List Job) (job : Job)
      → slots_after firsts (jobs ++ job ∷ []) ≡ with_job (slot_for (length firsts) job.packet) job (slots_after firsts jobs)
  slots_after-put firsts jobs job = slots_put (length firsts) 0 (slot_for (length firsts) job.packet) firsts jobs job (omega arith)

  pub starts_in-put : (place : ℕ) (job : Job) (slots : List (SlotState O g)) → starts_in (with_job place job slots) ≡ starts_in slots
  starts_in-put place job [] = refl
  starts_in-put zero job (slot ∷ slots) = refl
  starts_in-put (suc place) job (slot ∷ slots) = ap (λ (later : List (Replicator O g)). slot.first ∷ later) (starts_in-put place job slots)

  few_put : (place : ℕ) (job : Job) (slots : List (SlotState O g)) → jobs_in_all (with_job place job slots) ≤ jobs_in_all slots + 1
  few_put place job [] = omega arith
  few_put zero job (slot ∷ slots) =
      let after = sum_by-cons (λ (one : SlotState O g). length one.jobs) (record { first = slot.first; jobs = slot.jobs ++ job ∷ [] }) slots in
      let before = sum_by-cons (λ (one : SlotState O g). length one.jobs) slot slots in
      let longer = length_push slot.jobs job in omega (arith, after, before, longer)
  few_put (suc place) job (slot ∷ slots) =
      let after = sum_by-cons (λ (one : SlotState O g). length one.jobs) slot (with_job place job slots) in
      let before = sum_by-cons (λ (one : SlotState O g). length one.jobs) slot slots in
      let later = few_put place job slots in omega (arith, after, before, later)

  no_jobs : (slots from : ℕ) (firsts : List (Replicator O g)) → jobs_in_all (slots_from slots from firsts []) ≡ 0
  no_jobs slots from [] = refl
  no_jobs slots from (replicator ∷ firsts) =
      let sum = sum_by-cons (λ (one : SlotState O g). length one.jobs) (record { first = replicator; jobs = [] }) (slots_from slots (from + 1) firsts []) in
      let later = no_jobs slots (from + 1) firsts in omega (arith, sum, later)

  few_back : (firsts : List (Replicator O g)) (back : List Job) → jobs_in_all (slots_after firsts (reverse back)) ≤ length back
  few_back firsts [] = let none = no_jobs (length firsts) 0 firsts in omega (arith, none)
  few_back firsts (job ∷ earlier) =
      let before = few_back firsts earlier in
      let turned = ap (λ (all : List Job). jobs_in_all (slots_after firsts all)) (reverse-append (job ∷ []) earlier) in
      let put = ap jobs_in_all (slots_after-put firsts (reverse earlier) job) in
      let more = few_put (slot_for (length firsts) job.packet) job (slots_after firsts (reverse earlier)) in
      omega (arith, before, turned, put, more)

  few_jobs : (firsts : List (Replicator O g)) (jobs : List Job) → jobs_in_all (slots_after firsts jobs) ≤ length jobs
  few_jobs firsts jobs =
      let back = few_back firsts (reverse jobs) in
      let turned = ap (λ (all : List Job). jobs_in_all (slots_after firsts all)) (reverse-reverse jobs) in
      let same = length-reverse jobs in omega (arith, back, turned, same)

-- each packet is due once
one_due : (settings : Settings) (first : Secret) (earlier : List Happening) (event : Event) → length (due_to settings first earlier (Took event)) ≡ cond (is_packet event) 1 0
one_due settings first earlier (Moment moment) = refl
one_due settings first earlier (Datagram bytes from) = refl
one_due settings first earlier (Rotate secret) = refl
one_due settings first earlier (Limits limits) = refl
one_due settings first earlier (Packet bytes) = refl

dues-counted : (settings : Settings) (first : Secret) (earlier later : List Happening) → length (dues_after settings first earlier later) ≡ count_by is_packet (events_among later)
dues-counted settings first earlier [] = refl
dues-counted settings first earlier (Took event ∷ later) =
    let all = length-append (due_to settings first earlier (Took event)) (dues_after settings first (earlier ++ Took event ∷ []) later) in
    let one = one_due settings first earlier event in
    let more = dues-counted settings first (earlier ++ Took event ∷ []) later in
    let sum = sum_by-cons (λ (known : Event). cond (is_packet known) 1 0) event (events_among later) in omega (arith, all, one, more, sum)
dues-counted settings first earlier (Published ∷ later) = dues-counted settings first (earlier ++ Published ∷ []) later

-- there are as many jobs as packets
pub jobs_count : (settings : Settings) (first : Secret) (past : List Happening) (jobs : List Job) → map due_of jobs ≡ dues_after settings first [] past
    → length jobs ≡ count_by is_packet (events_among past)
jobs_count settings first past jobs due = sym (length-map jobs due_of) ∙ ap length due ∙ dues-counted settings first [] past

due_is : (settings : Settings) (first : Secret) (past : List Happening) (job : Job) (bytes : List ℕ) → job.packet ≡ bytes → job.at ≡ now_of (events_among past)
    → named job.note ≡ published_log settings first (published_events_among past) → due_of job ∷ [] ≡ due_to settings first past (Took (Packet bytes))
due_is settings first past job bytes packet at log = λ i. record { packet = packet i; at = at i; log = log i } ∷ []

module _ {O : Type 0} {g : Ghosts O} where
  -- all jobs are packets that were counted
  pub few-given : (settings : Settings) (first : Secret) (past : List Happening) (slots : List (SlotState O g)) (packets : ℕ) → ∥ AreGivenOut settings first past slots ∥₁
      → packets ≡ count_by is_packet (events_among past) → packets < 2 ^ 46 → jobs_in_all slots < 2 ^ 46
  few-given settings first past slots packets given counted few =
      ∥∥₁_elim given (hlevel props) (λ known.
      let at = ap jobs_in_all known.at_slots in
      let all = few_jobs (starts_in slots) known.jobs in
      let number = jobs_count settings first past known.jobs known.are_due in omega (arith, at, all, number, counted, few))

  given_more : (settings : Settings) (first : Secret) (past : List Happening) (slots slots' : List (SlotState O g)) (job : Job) (bytes : List ℕ) (place : ℕ) → place ≡ slot_for (length slots) job.packet
      → slots' ≡ with_job place job slots → job.packet ≡ bytes → job.at ≡ now_of (events_among past) → named job.note ≡ published_log settings first (published_events_among past)
      → AreGivenOut settings first past slots → AreGivenOut settings first (past ++ Took (Packet bytes) ∷ []) slots'
  given_more settings first past slots slots' job bytes place slot put packet at log given =
      let firsts = starts_in slots in
      let same_firsts = ap starts_in put ∙ starts_in-put place job slots in
      let same_place : place ≡ slot_for (length firsts) job.packet = slot ∙ ap (λ (number : ℕ). slot_for number job.packet) (sym (length-map slots (λ (one : SlotState O g). one.first))) in record {
        jobs = given.jobs ++ job ∷ [];
        are_due = map-append due_of given.jobs (job ∷ [])
            ∙ ((λ i. given.are_due i ++ due_is settings first past job bytes packet at log i) ∙ sym (dues-next settings first past (Took (Packet bytes))));
        at_slots = put
            ∙ ((λ i. with_job (same_place i) job (given.at_slots i))
            ∙ (sym (slots_after-put firsts given.jobs job)
            ∙ ap (λ (known : List (Replicator O g)). slots_after known (given.jobs ++ job ∷ [])) (sym same_firsts)));
      }

  pub given_out-packet : (settings : Settings) (first : Secret) (past later : List Happening) (slots slots' : List (SlotState O g)) (job : Job) (bytes : List ℕ) (place : ℕ) → place ≡ slot_for (length slots) job.packet
      → slots' ≡ with_job place job slots → later ≡ past ++ Took (Packet bytes) ∷ [] → job.packet ≡ bytes → job.at ≡ now_of (events_among past)
      → named job.note ≡ published_log settings first (published_events_among past) → ∥ AreGivenOut settings first past slots ∥₁ → ∥ AreGivenOut settings first later slots' ∥₁
  given_out-packet settings first past later slots slots' job bytes place slot put next packet at log given =
      subst (λ (all : List Happening). ∥ AreGivenOut settings first all slots' ∥₁) (sym next)
      (∥∥₁_map given (given_more settings first past slots slots' job bytes place slot put packet at log))

  -- which stays so
  of_publisher-with : (publisher : Book) (place : ℕ) (job : Job) (slots : List (SlotState O g)) → AreOfPublisher publisher slots → AreOfPublisher publisher (with_job place job slots)
  of_publisher-with publisher place job [] of = of
  of_publisher-with publisher zero job (slot ∷ later) of =
      let Of : SlotState O g → Type 0 = λ one. publisher_of (view_of one.first) ≡ publisher in
      All-cons Of (record { first = slot.first; jobs = slot.jobs ++ job ∷ [] }) later (All-head Of slot later of) (All-tail Of slot later of)
  of_publisher-with publisher (suc place) job (slot ∷ later) of =
      let Of : SlotState O g → Type 0 = λ one. publisher_of (view_of one.first) ≡ publisher in
      All-cons Of slot (with_job place job later) (All-head Of slot later of) (of_publisher-with publisher place job later (All-tail Of slot later of))

  pub of_publisher-put : (publisher : Book) (place : ℕ) (job : Job) (slots slots' : List (SlotState O g)) → slots' ≡ with_job place job slots → AreOfPublisher publisher slots → AreOfPublisher publisher slots'
  of_publisher-put publisher place job slots slots' put of = subst (AreOfPublisher publisher) (sym put) (of_publisher-with publisher place job slots of)
