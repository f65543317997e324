-- One job more for one slot of many.
use Rattle.std.{proofs.{Common.{◌≡◌, ℕ, zero, suc, ◌+◌, ◌<◌, ◌≤◌, false, List, [], ◌∷◌, get_or, length, map, set, take, drop, sym, ap, subst, ◌∙◌, arith, length-append, length-set}, lemmas.List.{get_or-map, length-map, length-take, map-set, set-get_or, set_split, Elements.{All-get_or, All-set}, Sums.{get_or-le-sum_by, sum_by-set}}}, specs.List.{All, sum_by}}
use Rattle.amt_ports.specs.declared.out_link.OutLink.{Ghosts}
use Rattle.replication_workers.specs.{KeptSlots.{AreGiven, IsGiven, IsRunBy, is_threaded_slot, now_of, state_of}, Replicators.{HasCopied}, SlotStates.{CopiedAt, SlotState, jobs_in_all, with_job, with_one_job}, declared.{dispatcher.kept.Kept.{Kept}, job.Job.{Job}}}

none_within : (place : ℕ) → place < 0 → ⊥
none_within place within = omega (arith, within)

within_rest : (place count : ℕ) → suc place < suc count → place < count
within_rest place count within = omega (arith, within)

still_within : (place count images : ℕ) → place < count → images ≡ count → place < images
still_within place count images within same = omega (arith, within, same)

one_more : (before after one more : ℕ) → after + one ≡ before + more → more ≡ one + 1 → after ≡ before + 1
one_more before after one more sums is = omega (arith, sums, is)

module _ {O T : Type 0} {g : Ghosts O} where
  -- the slots then
  with_job-set : (slots : List (Kept O T g)) (place : ℕ) (job : Job) (before after : Kept O T g) → place < length slots → before ≡ get_or slots place before
      → state_of after ≡ with_one_job job (state_of before) → map state_of (set slots place after) ≡ with_job place job (map state_of slots)
  with_job-set [] place job before after within is next = absurd (none_within place within)
  with_job-set (slot ∷ slots) zero job before after within is next =
      ap (λ (state : SlotState O g). state ∷ map state_of slots) (next ∙ ap (λ (one : Kept O T g). with_one_job job (state_of one)) is)
  with_job-set (slot ∷ slots) (suc place) job before after within is next =
      ap (λ (states : List (SlotState O g)). state_of slot ∷ states) (with_job-set slots place job before after (within_rest place (length slots) within) is next)

module _ {O T : Type 0} {g : Ghosts O} (slots : List (Kept O T g)) (place : ℕ) (before : Kept O T g) (within : place < length slots) (is : before ≡ get_or slots place before) where
  -- what is said of each is said of the one at the place, and of its state
  here : (P : Kept O T g → Type 0) → All P slots → P before
  here P all = subst P (sym is) (All-get_or P slots place before within all)

  within_all : {B : Type 0} (f : Kept O T g → B) → place < length (map f slots)
  within_all f = still_within place (length slots) (length (map f slots)) within (length-map slots f)

  state_at : get_or (map state_of slots) place (state_of before) ≡ state_of before
  state_at = get_or-map state_of slots place before (state_of before) within ∙ ap (λ (one : Kept O T g). state_of one) (sym is)

  pub said_at : (P : SlotState O g → Type 0) → All P (map state_of slots) → P (state_of before)
  said_at P all = subst P state_at (All-get_or P (map state_of slots) place (state_of before) (within_all state_of) all)

  -- the one at the place has no more jobs than all together
  pub few_at : length (state_of before).jobs ≤ jobs_in_all (map state_of slots)
  few_at = subst (λ (state : SlotState O g). length state.jobs ≤ jobs_in_all (map state_of slots)) state_at
      (get_or-le-sum_by (λ (state : SlotState O g). length state.jobs) (map state_of slots) place (state_of before) (within_all state_of))

  copied_at : (job : Job) (after : Kept O T g) → HasCopied (now_of before) job (now_of after) → CopiedAt place job (map now_of slots) (map now_of (set slots place after))
  copied_at job after copied = record {
    earlier = take place (map now_of slots);
    one = now_of before;
    copied = now_of after;
    later = drop (suc place) (map now_of slots);
    at = (let long = within_all now_of in omega (arith, long, length-take place (map now_of slots)));
    before_is = ap (λ (list : List (Kept O T g)). map now_of list) (sym (ap (set slots place) is ∙ set-get_or slots place before)) ∙ map-set now_of slots place before ∙ set_split (map now_of slots) place (now_of before) (within_all now_of);
    after_is = map-set now_of slots place after ∙ set_split (map now_of slots) place (now_of after) (within_all now_of);
    has_copied = copied;
  }

  pub are_given : (job : Job) (after : Kept O T g) → IsGiven job before after → AreGiven place job slots (set slots place after)
  are_given job after given =
      let count : SlotState O g → ℕ = λ state. length state.jobs in
      let states = map state_of slots in
      let sums = sum_by-set count states place (state_of after) (state_of before) (within_all state_of) in
      record {
        states = with_job-set slots place job before after within is given.state;
        jobs = ap jobs_in_all (map-set state_of slots place after) ∙ one_more (sum_by count states) (sum_by count (set states place (state_of after))) (count (state_of before)) (count (state_of after))
            (ap (λ (state : SlotState O g). sum_by count (set states place (state_of after)) + count state) (sym state_at) ∙ sums) (ap count given.state ∙ length-append (state_of before).jobs (job ∷ []));
        number = length-set slots place after;
        kinds = λ threads all. All-set (λ slot. is_threaded_slot slot ≡ threads) slots place after (given.kind ∙ here (λ slot. is_threaded_slot slot ≡ threads) all) all;
        run = λ task_of all. All-set (IsRunBy task_of) slots place after (given.run task_of (here (IsRunBy task_of) all)) all;
        copied = λ all. copied_at job after (given.copied (here (λ slot. is_threaded_slot slot ≡ false) all));
      }
