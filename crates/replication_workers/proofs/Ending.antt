-- Slots that were ended one after another, and what they left.
use Rattle.std.{proofs.{Common.{◌≡◌, ℕ, ◌+◌, ◌≤◌, ◌^◌, false, List, [], ◌∷◌, ◌++◌, Some, length, map, vec_capacity, refl, sym, ap, ◌∙◌, arith}, lemmas.{List.{map-append, nil_from_length, Elements.{All-nil, All-pop, All-push}, Sums.{sum_by-append, sum_by-cons, sum_by_push}}}}}
use Rattle.amt_ports.specs.declared.out_link.OutLink.{Ghosts}
use Rattle.published_table.specs.Views.{room_of, views_of}
use Rattle.replication_workers.specs.{Gathering.{HasAdded, HasRoom, HaveEnded, IsFresh}, KeptSlots.{AreThreaded, is_threaded_slot, now_of, state_of}, Replicators.{out_of, view_of}, SlotStates.{IsLeft, SlotLeft, SlotState, jobs_in_all}, declared.{dispatcher.{gathered.Gathered.{Gathered}, kept.Kept.{Kept}}, replicator.Replicator.{Replicator}, slot.Left.{Left}}}

-- a sum of three, and the parts before and after
room_in_sum : (now done left one later all : ℕ) → now ≡ done → left ≡ one → all ≡ done + (one + later) → all ≤ 2 ^ 46 → now + left ≤ 2 ^ 46
room_in_sum now done left one later all is counted sums few = omega (arith, is, counted, sums, few)

pub less_room : {O : Type 0} (fewer more : ℕ) (gathered : Gathered O) → fewer ≤ more → HasRoom more gathered → HasRoom fewer gathered
less_room fewer more gathered fits room = record {
  for_outs = within (length gathered.outs.items) fewer more (vec_capacity gathered.outs) fits room.for_outs;
  for_views = within (length (views_of gathered.views)) fewer more (room_of gathered.views) fits room.for_views;
}
  where
    within : (taken fewer more capacity : ℕ) → fewer ≤ more → taken + more ≤ capacity → taken + fewer ≤ capacity
    within taken fewer more capacity fits room = omega (arith, fits, room)

module _ {O T : Type 0} {g : Ghosts O} where
  -- without threads, one thing more of a slot
  mapped_more : {A : Type 0} (f : Replicator O g → A) (done : List (Kept O T g)) (one : Kept O T g) (before after : List A) (last : A) → after ≡ before ++ last ∷ []
      → (AreThreaded false done → before ≡ map f (map now_of done)) → (is_threaded_slot one ≡ false → last ≡ f (now_of one))
      → AreThreaded false (done ++ one ∷ []) → after ≡ map f (map now_of (done ++ one ∷ []))
  mapped_more f done one before after last is same own kinds =
      let both = All-pop (λ (slot : Kept O T g). is_threaded_slot slot ≡ false) (done ++ one ∷ []) done (Some one) refl kinds in
      is ∙ (λ i. same both.0 i ++ own both.1 i ∷ []) ∙ sym (ap (map f) (map-append now_of done (one ∷ [])) ∙ map-append f (map now_of done) (now_of one ∷ []))

  -- no slot was ended
  pub ended_none : (first : Gathered O) → IsFresh first → HaveEnded {T = T} {g = g} [] first
  ended_none first fresh =
      let outs = nil_from_length first.outs.items fresh.no_out in
      let views = nil_from_length (views_of first.views) fresh.no_view in record {
        left = record { lefts = []; slots_are = refl; outs_are = sym outs; views_are = sym views; sent_is = fresh.none_sent; unsent_is = fresh.none_unsent; each = All-nil (λ (one : SlotLeft O g). IsLeft one.slot one.left) };
        jobs = fresh.no_job;
        outs = λ _. outs;
        views = λ _. views;
      }

  -- one slot more was ended
  pub ended_more : (done : List (Kept O T g)) (now next : Gathered O) (one : Kept O T g) (left : Left O) → HaveEnded done now → IsLeft (state_of one) left
      → (is_threaded_slot one ≡ false → left.out ≡ out_of (now_of one)) → (is_threaded_slot one ≡ false → left.view ≡ view_of (now_of one)) → HasAdded left now next → HaveEnded (done ++ one ∷ []) next
  ended_more done now next one left ended is out view added =
      let last : SlotLeft O g = record { slot = state_of one; left = left } in
      let before = ended.left in
      let lefts = before.lefts in
      let states = map-append state_of done (one ∷ []) in record {
        left = record {
          lefts = lefts ++ last ∷ [];
          slots_are = map-append (λ (one : SlotLeft O g). one.slot) lefts (last ∷ []) ∙ ap (λ (list : List (SlotState O g)). list ++ state_of one ∷ []) before.slots_are ∙ sym states;
          outs_are = map-append (λ (one : SlotLeft O g). one.left.out) lefts (last ∷ []) ∙ ap (λ (list : List _). list ++ left.out ∷ []) before.outs_are ∙ sym added.outs_are;
          views_are = map-append (λ (one : SlotLeft O g). one.left.view) lefts (last ∷ []) ∙ ap (λ (list : List _). list ++ left.view ∷ []) before.views_are ∙ sym added.views_are;
          sent_is = added.sent_is ∙ ap (λ (sum : ℕ). sum + left.sent) before.sent_is ∙ sym (sum_by_push (λ (one : SlotLeft O g). one.left.sent) lefts last);
          unsent_is = added.unsent_is ∙ ap (λ (sum : ℕ). sum + left.unsent) before.unsent_is ∙ sym (sum_by_push (λ (one : SlotLeft O g). one.left.unsent) lefts last);
          each = All-push (λ (one : SlotLeft O g). IsLeft one.slot one.left) lefts last before.each is;
        };
        jobs = added.jobs_are ∙ (λ i. ended.jobs i + is.counted i) ∙ sym (ap jobs_in_all states ∙ sum_by_push (λ (state : SlotState O g). length state.jobs) (map state_of done) (state_of one));
        outs = mapped_more out_of done one now.outs.items next.outs.items left.out added.outs_are ended.outs out;
        views = mapped_more view_of done one (views_of now.views) (views_of next.views) left.view added.views_are ended.views view;
      }

  jobs_of_all : (done : List (Kept O T g)) (one : Kept O T g) (later all : List (Kept O T g)) → all ≡ done ++ one ∷ later
      → jobs_in_all (map state_of all) ≡ jobs_in_all (map state_of done) + (length (state_of one).jobs + jobs_in_all (map state_of later))
  jobs_of_all done one later all is =
      let count : SlotState O g → ℕ = λ state. length state.jobs in
      ap (λ (list : List (Kept O T g)). jobs_in_all (map state_of list)) is ∙ ap jobs_in_all (map-append state_of done (one ∷ later))
      ∙ sum_by-append count (map state_of done) (map state_of (one ∷ later)) ∙ ap (λ (sum : ℕ). jobs_in_all (map state_of done) + sum) (sum_by-cons count (state_of one) (map state_of later))

  pub few_with : (done : List (Kept O T g)) (one : Kept O T g) (later all : List (Kept O T g)) (now : Gathered O) (left : Left O) → HaveEnded done now → IsLeft (state_of one) left → all ≡ done ++ one ∷ later
      → jobs_in_all (map state_of all) ≤ 2 ^ 46 → now.jobs + left.jobs ≤ 2 ^ 46
  few_with done one later all now left ended after is few =
      room_in_sum now.jobs (jobs_in_all (map state_of done)) left.jobs (length (state_of one).jobs) (jobs_in_all (map state_of later)) (jobs_in_all (map state_of all)) ended.jobs after.counted (jobs_of_all done one later all is) few
