-- Replicators that are made and taken apart from the end of a list, and slots without jobs.
use Rattle.std.{proofs.{Common.{◌≡◌, ℕ, suc, ◌+◌, ◌≤◌, List, [], ◌∷◌, ◌++◌, length, map, reverse, refl, sym, ap, subst, ◌∙◌, append_assoc, arith, length-append, false, true≢false}, lemmas.List.{length-map, length-reverse, reverse-append, Elements.{All-cons, All-head, All-nil, All-pop, All-push, All-tail}}}, specs.{Prelude.{Result, Ok, Err, IfOk, OnOk, Option, Some}, List.{All, enumerate_from}}}
use Rattle.core.specs.Result.{is_err}
use Rattle.logbook.specs.Pages.{Book}
use Rattle.amt_ports.specs.{declared.out_link.OutLink.{Ghosts}, Devices.{OutSeen}}
use Rattle.published_table.specs.{Views.{IsNew, publisher_of, terms_of}, declared.{terms.Terms.{Terms}, view.View.{View}}}
use Rattle.relay_machine.specs.declared.settings.Settings.{Settings}
use Rattle.replication_workers.specs.{Backs.{AreBack, IsBack, SlotBack}, Replicators.{limit_of, out_of, view_of}, SlotStates.{SlotState, new_slot}, Starting.{AllButOneBack, HaveStarted}, declared.replicator.Replicator.{Replicator}}
use Rattle.relay_serving.specs.{Devices.{outs_seen}, GivenOut.{AreOfPublisher, jobs_at, slots_after, starts_in, terms_by}, Starting.{AreStarts, IsStart, LosesOne}}

-- the last one comes first
pub last_first : {A : Type 0} (before after : List A) (one : A) → before ≡ after ++ one ∷ [] → reverse before ≡ one ∷ reverse after
last_first before after one is = ap reverse is ∙ reverse-append after (one ∷ [])

-- one goes from the end of one list to the end of the other
pub turned_on : {A : Type 0} (before after to longer : List A) (one : A) → before ≡ after ++ one ∷ [] → longer ≡ to ++ one ∷ [] → longer ++ reverse after ≡ to ++ reverse before
turned_on before after to longer one is long =
    ap (λ (list : List _). list ++ reverse after) long ∙ append_assoc to (one ∷ []) (reverse after)
    ∙ ap (λ (list : List _). to ++ list) (sym (last_first before after one is))

-- the same of what stands for each
pub turned_by : {A B : Type 0} (f : A → B) (before after : List A) (to longer : List B) (one : A) → before ≡ after ++ one ∷ [] → longer ≡ to ++ f one ∷ []
    → longer ++ map f (reverse after) ≡ to ++ map f (reverse before)
turned_by f before after to longer one is long =
    ap (λ (list : List _). list ++ map f (reverse after)) long ∙ append_assoc to (f one ∷ []) (map f (reverse after))
    ∙ ap (λ (list : List _). to ++ map f list) (sym (last_first before after one is))

-- what was taken from the end of one list stands at the end of the other
pub made_from : {A B : Type 0} (f : A → B) (outs fewer : List B) (made more : List A) (out : B) (one : A) → outs ≡ fewer ++ out ∷ [] → more ≡ made ++ one ∷ [] → f one ≡ out
    → fewer ++ map f (reverse more) ≡ outs ++ map f (reverse made)
made_from f outs fewer made more out one is long same =
    ap (λ (list : List _). fewer ++ map f list) (last_first more made one long)
    ∙ ap (λ (first : _). fewer ++ first ∷ map f (reverse made)) same
    ∙ sym (append_assoc fewer (out ∷ []) (map f (reverse made)))
    ∙ ap (λ (list : List _). list ++ map f (reverse made)) (sym is)

pub All-reverse : {A : Type 0} (P : A → Type 0) (list : List A) → All P list → All P (reverse list)
All-reverse P [] all = all
All-reverse P (one ∷ list) all =
    subst (All P) (sym (reverse-append (one ∷ []) list)) (All-push P (reverse list) one (All-reverse P list (All-tail P one list all)) (All-head P one list all))

-- so many were taken from one list and put in the other
pub as_many : {A B : Type 0} (f : A → B) (outs all : List B) (made : List A) → outs ++ map f (reverse made) ≡ all → length outs + length made ≡ length all
as_many f outs all made is = omega (arith, ap length is, length-append outs (map f (reverse made)), length-map (reverse made) f, length-reverse made)

-- of all but the last one, and of that
pub all_but_last : {A : Type 0} (P : A → Type 0) (list shorter : List A) (one : A) → list ≡ shorter ++ one ∷ [] → All P list → All P shorter × P one
all_but_last P list shorter one is all = All-pop P list shorter (Some one) is all

-- what holds where nothing was refused
pub of_no_err : {T E P : Type 0} (result : Result T E) → false ≡ is_err result → OnOk result P → P
of_no_err (Ok value) same holds = holds
of_no_err (Err fault) same holds = absurd (true≢false (sym same))

-- one fact of what was made gives another
pub if_ok_then : {T E : Type 0} (result : Result T E) (P Q : T → Type 0) → IfOk result P → ((made : T) → P made → Q made) → IfOk result Q
if_ok_then (Ok made) P Q holds then = then made holds
if_ok_then (Err fault) P Q holds then = holds

-- a view reads by the settings' limits
pub few_endpoints : (settings : Settings) (view : View) → terms_of view ≡ terms_by settings → (terms_of view).limits.endpoints ≤ settings.limits.endpoints
few_endpoints settings view by = let same = ap (λ (terms : Terms). terms.limits.endpoints) by in omega (arith, same)

module _ {O : Type 0} {g : Ghosts O} where
  -- a replicator as it was made
  pub is_start : (settings : Settings) (book : Book) (view : View) (made : Replicator O g) → view_of made ≡ view → limit_of made ≡ settings.packet_limit
      → IsNew book (terms_by settings) view → IsStart settings book made
  is_start settings book view made same limit new = record { new = subst (IsNew book (terms_by settings)) (sym same) new; limit = limit }

  same_seen : (backs : List (SlotBack O g)) → All (λ (back : SlotBack O g). IsBack back.given back.out back.view) backs
      → outs_seen g.tried g.faults (map (λ (back : SlotBack O g). back.out) backs) ≡ outs_seen g.tried g.faults (map out_of (map (λ (back : SlotBack O g). back.given) backs))
  same_seen [] each = refl
  same_seen (back ∷ backs) each =
      let one = All-head (λ (back : SlotBack O g). IsBack back.given back.out back.view) back backs each in
      let rest = same_seen backs (All-tail (λ (back : SlotBack O g). IsBack back.given back.out back.view) back backs each) in
      λ i. record { tried = one.tried i; faults = one.faults i } ∷ rest i

  -- what came back is seen as before
  pub backs_seen : (given : List (Replicator O g)) (outs : List O) (views : List View) → AreBack given outs views
      → outs_seen g.tried g.faults outs ≡ outs_seen g.tried g.faults (map out_of given)
  backs_seen given outs views back =
      ap (outs_seen g.tried g.faults) (sym back.outs_are) ∙ same_seen back.backs back.each
      ∙ ap (λ (list : List (Replicator O g)). outs_seen g.tried g.faults (map out_of list)) back.given_are

  seen_apart : (earlier later : List (Replicator O g))
      → outs_seen g.tried g.faults (map out_of (earlier ++ later)) ≡ outs_seen g.tried g.faults (map out_of earlier) ++ outs_seen g.tried g.faults (map out_of later)
  seen_apart [] later = refl
  seen_apart (one ∷ earlier) later = ap (λ (list : List OutSeen). record { tried = g.tried (out_of one); faults = g.faults (out_of one) } ∷ list) (seen_apart earlier later)

  seen_length : (replicators : List (Replicator O g)) → length (outs_seen g.tried g.faults (map out_of replicators)) ≡ length replicators
  seen_length [] = refl
  seen_length (one ∷ replicators) = ap suc (seen_length replicators)

  -- the out of the worker whose start was refused is gone
  pub loses_one : (given : List (Replicator O g)) (before after : Option ℕ) (outs : List O) (views : List View) → AllButOneBack given before after outs views
      → LosesOne (outs_seen g.tried g.faults (map out_of given)) (outs_seen g.tried g.faults outs) before after
  loses_one given before after outs views back = record {
    earlier = outs_seen g.tried g.faults (map out_of back.earlier);
    lost = record { tried = g.tried (out_of back.refused); faults = g.faults (out_of back.refused) };
    later = outs_seen g.tried g.faults (map out_of back.later);
    outs_are = ap (λ (list : List (Replicator O g)). outs_seen g.tried g.faults (map out_of list)) back.given_are ∙ seen_apart back.earlier (back.refused ∷ back.later);
    left_are = backs_seen _ outs views back.back ∙ seen_apart back.earlier back.later;
    started = subst (λ (count : ℕ). HaveStarted count before after) (sym (seen_length back.earlier)) back.started;
  }

  -- slots as they were started
  pub starts_of_new : (firsts : List (Replicator O g)) → starts_in (map new_slot firsts) ≡ firsts
  starts_of_new [] = refl
  starts_of_new (first ∷ firsts) = ap (λ (list : List (Replicator O g)). first ∷ list) (starts_of_new firsts)

  slots_new : (number from : ℕ) (firsts : List (Replicator O g))
      → map (λ (numbered : ℕ × Replicator O g). record { first = numbered.1; jobs = jobs_at number numbered.0 [] }) (enumerate_from from firsts) ≡ map new_slot firsts
  slots_new number from [] = refl
  slots_new number from (first ∷ firsts) = ap (λ (list : List (SlotState O g)). new_slot first ∷ list) (slots_new number (from + 1) firsts)

  -- no job is given out
  pub none_given : (slots : List (SlotState O g)) → slots ≡ map new_slot (starts_in slots) → slots ≡ slots_after (starts_in slots) []
  none_given slots is = is ∙ sym (slots_new (length (starts_in slots)) 0 (starts_in slots))

  pub of_publisher : (settings : Settings) (book : Book) (slots : List (SlotState O g)) → AreStarts settings book (starts_in slots) → AreOfPublisher book slots
  of_publisher settings book [] starts = All-nil (λ (slot : SlotState O g). publisher_of (view_of slot.first) ≡ book)
  of_publisher settings book (slot ∷ slots) starts =
      All-cons (λ (slot : SlotState O g). publisher_of (view_of slot.first) ≡ book) slot slots (All-head (IsStart settings book) slot.first (starts_in slots) starts).new.of
      (of_publisher settings book slots (All-tail (IsStart settings book) slot.first (starts_in slots) starts))
