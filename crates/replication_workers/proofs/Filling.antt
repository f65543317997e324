-- Slots that are filled one after another.
use Rattle.std.{proofs.{Common.{◌≡◌, ℕ, ◌+◌, ◌≤◌, ◌^◌, suc, Bool, true, false, true≢false, List, [], ◌∷◌, ◌++◌, get_or, length, map, refl, sym, ap, subst, ◌∙◌, append_assoc, append-nil, arith, length-append}, lemmas.List.{length-map, map-append, Elements.{All-push}, Sums.{sum_by-append, sum_by-cons}}}, specs.{Prelude.{IfErr, Option, Some, None, Result, Ok, Err}, List.{All}}}
use Rattle.amt_ports.specs.{Causes.{next_count}, Starts.{HasStarted}, declared.out_link.OutLink.{Ghosts}}
use Rattle.replication_workers.specs.{KeptSlots.{AreStarted, AreThreaded, HasKept, IsRunBy, is_threaded_slot, now_of, state_of}, SlotStates.{SlotState, jobs_in_all, new_slot}, Starting.{HaveStarted, OnFailed}}
use Rattle.replication_workers.specs.declared.{dispatcher.{StartFault.{StartFault, TheVariants.{Memory, Failed}}, inline_slot.InlineSlot.{InlineSlot}, kept.Kept.{Kept, TheVariants.{Threaded, Inline}}}, replicator.Replicator.{Replicator}, worker.Worker.{Worker}}

-- one start more was told
pub one_started : (number : ℕ) (before now after : Option ℕ) → HaveStarted number before now → HasStarted now after → HaveStarted (suc number) before after
one_started number before now None first second = tt
one_started number before now (Some after) first second =
    let told = subst (HaveStarted number before) second.1 first in (told.0, told.1, second.2 ∙ ap next_count told.2)

pub none_started : (told : Option ℕ) → HaveStarted 0 told told
none_started None = tt
none_started (Some number) = (number, refl, refl)

-- images of a list with one item more
push_then : {A B : Type 0} (f : A → B) (list longer : List A) (last : A) (images : List B) (image : B) → longer ≡ list ++ last ∷ [] → map f list ≡ images → f last ≡ image → map f longer ≡ images ++ image ∷ []
push_then f list longer last images image is are one = ap (map f) is ∙ map-append f list (last ∷ []) ∙ (λ i. are i ++ one i ∷ [])

both_none : (first second : ℕ) → first ≡ 0 → second ≡ 0 → first + second ≡ 0
both_none first second one other = omega (arith, one, other)

few_when_none : (jobs : ℕ) → jobs ≡ 0 → jobs ≤ 2 ^ 46
few_when_none jobs none = omega (arith, none)

module _ {O : Type 0} {g : Ghosts O} where
  -- slots of which no one has a job
  no_jobs : (replicators : List (Replicator O g)) → jobs_in_all (map new_slot replicators) ≡ 0
  no_jobs [] = refl
  no_jobs (one ∷ replicators) =
      sum_by-cons (λ (slot : SlotState O g). length slot.jobs) (new_slot one) (map new_slot replicators)
      ∙ both_none (length (new_slot one).jobs) (jobs_in_all (map new_slot replicators)) refl (no_jobs replicators)

module _ {O T : Type 0} {g : Ghosts O} where
  pub kept_none : (before : List (Kept O T g)) → HasKept [] before before
  kept_none before = record { states = sym (append-nil (map state_of before)); now = sym (append-nil (map now_of before)); kinds = λ all. all; run = λ task_of all. all }

  -- one replicator more was kept
  pub kept_more : (done : List (Replicator O g)) (one : Replicator O g) (before now next : List (Kept O T g)) (last : InlineSlot O g) → HasKept done before now
      → next ≡ now ++ Inline last ∷ [] → state_of {T = T} (Inline last) ≡ new_slot one → now_of {T = T} (Inline last) ≡ one → HasKept (done ++ one ∷ []) before next
  kept_more done one before now next last kept after state same = record {
    states = push_then state_of now next (Inline last) (map state_of before ++ map new_slot done) (new_slot one) after kept.states state
        ∙ append_assoc (map state_of before) (map new_slot done) (new_slot one ∷ []) ∙ ap (λ (list : List (SlotState O g)). map state_of before ++ list) (sym (map-append new_slot done (one ∷ [])));
    now = push_then now_of now next (Inline last) (map now_of before ++ done) one after kept.now same ∙ append_assoc (map now_of before) done (one ∷ []);
    kinds = λ all. subst (AreThreaded false) (sym after) (All-push (λ slot. is_threaded_slot slot ≡ false) now (Inline last) (kept.kinds all) refl);
    run = λ task_of all. subst (All (IsRunBy task_of)) (sym after) (All-push (IsRunBy task_of) now (Inline last) (kept.run task_of all) tt);
  }

  -- one worker more was started
  pub started_more : (task_of : T → Worker O g) (done : List (Replicator O g)) (one : Replicator O g) (slots next : List (Kept O T g)) (last : Kept O T g) → AreStarted task_of done slots
      → next ≡ slots ++ last ∷ [] → state_of last ≡ new_slot one → is_threaded_slot last ≡ true → IsRunBy task_of last → AreStarted task_of (done ++ one ∷ []) next
  started_more task_of done one slots next last started after state kind run = record {
    states = push_then state_of slots next last (map new_slot done) (new_slot one) after started.states state ∙ sym (map-append new_slot done (one ∷ []));
    kind = subst (AreThreaded true) (sym after) (All-push (λ slot. is_threaded_slot slot ≡ true) slots last started.kind kind);
    run = subst (All (IsRunBy task_of)) (sym after) (All-push (IsRunBy task_of) slots last started.run run);
  }

  -- as many slots as replicators, and no jobs
  pub filled_length : (replicators : List (Replicator O g)) (slots : List (Kept O T g)) → map state_of slots ≡ map new_slot replicators → length slots ≡ length replicators
  filled_length replicators slots states = sym (length-map slots state_of) ∙ ap (λ (list : List (SlotState O g)). length list) states ∙ length-map replicators new_slot

  pub filled_idle : (replicators : List (Replicator O g)) (slots : List (Kept O T g)) → map state_of slots ≡ map new_slot replicators → jobs_in_all (map state_of slots) ≡ 0
  filled_idle replicators slots states = ap jobs_in_all states ∙ no_jobs replicators

  pub filled_few : (replicators : List (Replicator O g)) (slots : List (Kept O T g)) → map state_of slots ≡ map new_slot replicators → jobs_in_all (map state_of slots) ≤ 2 ^ 46
  filled_few replicators slots states = few_when_none (jobs_in_all (map state_of slots)) (filled_idle replicators slots states)

  -- those that were kept beside others: so many more, and still no job
  pub kept_length : (replicators : List (Replicator O g)) (before after : List (Kept O T g)) → HasKept replicators before after → length after ≡ length before + length replicators
  kept_length replicators before after kept =
      let all = ap length kept.now in omega (arith, all, length-append (map now_of before) replicators, length-map after now_of, length-map before now_of)

  pub kept_few : (replicators : List (Replicator O g)) (before after : List (Kept O T g)) → HasKept replicators before after → jobs_in_all (map state_of before) ≡ 0 → jobs_in_all (map state_of after) ≤ 2 ^ 46
  kept_few replicators before after kept idle =
      few_when_none (jobs_in_all (map state_of after)) (ap jobs_in_all kept.states ∙ sum_by-append (λ (slot : SlotState O g). length slot.jobs) (map state_of before) (map new_slot replicators)
      ∙ both_none (jobs_in_all (map state_of before)) (jobs_in_all (map new_slot replicators)) idle (no_jobs replicators))

  -- a slot without a thread has no task
  inline_run : (task_of : T → Worker O g) (slot : Kept O T g) → is_threaded_slot slot ≡ false → IsRunBy task_of slot
  inline_run task_of (Threaded slot) kind = absurd (true≢false kind)
  inline_run task_of (Inline slot) kind = tt

  pub inline_runs : (task_of : T → Worker O g) (threads : Bool) (slots : List (Kept O T g)) → AreThreaded threads slots → threads ≡ false → All (IsRunBy task_of) slots
  inline_runs task_of threads slots kinds none place default within = inline_run task_of (get_or slots place default) (kinds place default within ∙ none)

-- one fact more of a start that failed
pub on_failed_also : {A O : Type 0} {g : Ghosts O} (result : Result A (StartFault O g)) (first second : Type 0) → first → IfErr result (λ fault. OnFailed fault (λ _ _. second))
    → IfErr result (λ fault. OnFailed fault (λ _ _. first × second))
on_failed_also (Ok made) first second one other = other
on_failed_also (Err (Memory back)) first second one other = other
on_failed_also (Err (Failed outs views)) first second one other = (one, other)
