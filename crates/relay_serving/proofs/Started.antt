-- Which workers a run started.
use Rattle.std.{proofs.Common.{◌≡◌, ◌≢◌, ℕ, zero, suc, ◌==◌, ◌<◌, ◌≤◌, max, not, Bool, true, false, List, [], ◌∷◌, length, refl, sym, ap, subst, ◌∙◌, arith, length-append}, specs.Prelude.{Option, None, Some}}
use Rattle.amt_ports.specs.declared.end.End.{End, TheVariants.{SpawnFault}}
use Rattle.replication_workers.specs.Starting.{HaveStarted}
use Rattle.relay_serving.{specs.{Asked.{Round}, Runs.{HasDone, HasEnded, all_turns, stopped, with_cut}, Serving.{StartsWorkers}, Turns.{Progress, Turn}, declared.plan.ServePlan.{ServePlan}}, proofs.GivenOut.{other_number}}

-- no start was tried
pub starts_none : (workers : ℕ) (end : End) (before after : Option ℕ) → after ≡ before → StartsWorkers workers [] end before after
starts_none workers end before after same = record { all = λ some. absurd (some refl); none = λ _. same; none_yet = λ _ _. same }

-- the copying is in the turns' own thread exactly where the plan has no workers
no_threads : (workers : ℕ) (threads : Bool) → threads ≡ not (workers == 0) → workers ≡ 0 → threads ≡ false
no_threads workers threads mode none = mode ∙ ap (λ (number : ℕ). not (number == 0)) none

-- a start was refused
pub starts_refused : (workers : ℕ) (threads : Bool) (before after : Option ℕ) → threads ≡ not (workers == 0) → (threads ≡ false → after ≡ before)
    → StartsWorkers workers [] SpawnFault before after
starts_refused workers threads before after mode idle = record {
  all = λ some. absurd (some refl);
  none = λ none. idle (no_threads workers threads mode none);
  none_yet = λ _ other. absurd (other refl);
}

has_threads : (others : ℕ) → not (suc others == 0) ≡ true
has_threads others = ap not (other_number (suc others) 0 (λ is. omega (arith, is)))

have_started_none : (told : Option ℕ) → HaveStarted 0 told told
have_started_none None = tt
have_started_none (Some number) = (number, refl, refl)

each_started : (workers outs : ℕ) (threads : Bool) (before after : Option ℕ) → threads ≡ not (workers == 0) → outs ≡ max workers 1
    → (threads ≡ true → HaveStarted outs before after) → (threads ≡ false → after ≡ before) → HaveStarted workers before after
each_started zero outs threads before after mode number started idle =
    subst (λ (told : Option ℕ). HaveStarted 0 before told) (sym (idle mode)) (have_started_none before)
each_started (suc others) outs threads before after mode number started idle =
    subst (λ (workers : ℕ). HaveStarted workers before after) (let is : outs ≡ suc others = omega (arith, number) in is) (started (mode ∙ has_threads others))

-- a run that has ended had a turn
some_done : (plan : ServePlan) (done : ℕ) (rounds : List Round) → 1 ≤ plan.turns → HasDone plan done rounds → 0 < done
some_done plan done rounds some (all_turns is goes) = omega (arith, some, is)
some_done plan done rounds some (stopped earlier last are goes stops has few) = has

some_turn : (plan : ServePlan) (end : End) (rounds : List Round) (last : Progress) (whole : List Turn) (cut : Option Turn) → 1 ≤ plan.turns → HasEnded plan end (length whole) rounds last cut
    → with_cut whole cut ≢ []
some_turn plan end rounds last whole None some ended = λ none. let has = some_done plan (length whole) rounds some ended.1 in omega (arith, has, ap length none)
some_turn plan end rounds last whole (Some turn) some ended = λ none. omega (arith, length-append whole (turn ∷ []), ap length none)

-- the turns began
pub starts_all : (plan : ServePlan) (end : End) (rounds : List Round) (last : Progress) (whole : List Turn) (cut : Option Turn) (outs : ℕ) (threads : Bool) (before after : Option ℕ)
    → 1 ≤ plan.turns → HasEnded plan end (length whole) rounds last cut → threads ≡ not (plan.workers == 0) → outs ≡ max plan.workers 1
    → (threads ≡ true → HaveStarted outs before after) → (threads ≡ false → after ≡ before) → StartsWorkers plan.workers (with_cut whole cut) end before after
starts_all plan end rounds last whole cut outs threads before after some ended mode number started idle = record {
  all = λ _. each_started plan.workers outs threads before after mode number started idle;
  none = λ none. idle (no_threads plan.workers threads mode none);
  none_yet = λ none _. absurd (some_turn plan end rounds last whole cut some ended none);
}
