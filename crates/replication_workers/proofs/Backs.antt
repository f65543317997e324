-- What slots give back that were given no job.
use Rattle.std.{proofs.{Common.{◌≡◌, ℕ, ◌<◌, List, length, map, refl, sym, ap, subst, ◌∙◌, map-id}, lemmas.{List.{get_or-map, length-map, Elements.{All-map}}, Simd.{map-map}}}, specs.List.{All}}
use Rattle.amt_ports.specs.declared.out_link.OutLink.{Ghosts}
use Rattle.published_table.specs.declared.view.View.{View}
use Rattle.replication_workers.specs.{Replicators.{out_of, view_of}, SlotStates.{HaveLeft, SlotLeft, SlotState, new_slot}, Backs.{AreBack, IsBack, SlotBack}, declared.replicator.Replicator.{Replicator}}

all_of_map : {A B : Type 0} (P : B → Type 0) (f : A → B) (list : List A) → All P (map f list) → All (λ (one : A). P (f one)) list
all_of_map P f list all place default within =
    subst P (get_or-map f list place default (f default) within) (all place (f default) (subst (λ (count : ℕ). place < count) (sym (length-map list f)) within))

module _ {O : Type 0} {g : Ghosts O} where
  -- a replicator's own link and view
  pub back_itself : (given : Replicator O g) → IsBack given (out_of given) (view_of given)
  back_itself given = record { tried = refl; faults = refl; same_seen = refl; terms = refl; publisher = refl }

  abbrev back_of : SlotLeft O g → SlotBack O g
  back_of one = record { given = one.slot.first; out = one.left.out; view = one.left.view }

  pub are_back : (given : List (Replicator O g)) (slots : List (SlotState O g)) (outs : List O) (views : List View) (sent unsent : ℕ) → HaveLeft slots outs views sent unsent → slots ≡ map new_slot given → AreBack given outs views
  are_back given slots outs views sent unsent left are =
      let whole = left.slots_are ∙ are in
      let first : SlotState O g → Replicator O g = λ slot. slot.first in
      let idle : SlotState O g → Type 0 = λ slot. length slot.jobs ≡ 0 in
      let none : All idle (map (λ one. one.slot) left.lefts) = subst (All idle) (sym whole) (All-map idle new_slot given (λ place default within. refl)) in record {
        backs = map back_of left.lefts;
        given_are = map-map (λ (back : SlotBack O g). back.given) back_of left.lefts ∙ sym (map-map first (λ (one : SlotLeft O g). one.slot) left.lefts)
            ∙ ap (map first) whole ∙ map-map first new_slot given ∙ map-id given;
        outs_are = map-map (λ (back : SlotBack O g). back.out) back_of left.lefts ∙ left.outs_are;
        views_are = map-map (λ (back : SlotBack O g). back.view) back_of left.lefts ∙ left.views_are;
        each = All-map (λ (back : SlotBack O g). IsBack back.given back.out back.view) back_of left.lefts (λ place default within.
            let one = left.each place default within in
            one.idle (one.counted ∙ all_of_map idle (λ (one : SlotLeft O g). one.slot) left.lefts none place default within));
      }
