-- Slots that are taken from the end of a list.
use Rattle.std.proofs.{Common.{◌≡◌, List, [], ◌∷◌, ◌++◌, Option, Some, None, length, map, option_to_list, reverse, sym, ap, ◌∙◌, append_assoc, append-nil}, lemmas.List.{length-map, length-reverse, map-append, reverse-append}}
use Rattle.amt_ports.specs.declared.out_link.OutLink.{Ghosts}
use Rattle.replication_workers.specs.{Slots.{from_the_end, ready_worker, replicator_of}, declared.{replicator.Replicator.{Replicator}, slot.ReadySlot.{ReadySlot}}}

module _ {O : Type 0} {g : Ghosts O} where
  abbrev taken_from : ReadySlot O g → Replicator O g
  taken_from one = replicator_of (ready_worker one)

  -- the last one comes first
  pub from_the_end-last : (ready : List (ReadySlot O g)) (one : ReadySlot O g) → from_the_end (ready ++ one ∷ []) ≡ replicator_of (ready_worker one) ∷ from_the_end ready
  from_the_end-last ready one = ap reverse (map-append taken_from ready (one ∷ [])) ∙ reverse-append (map taken_from ready) (taken_from one ∷ [])

  pub length-from_the_end : (ready : List (ReadySlot O g)) → length (from_the_end ready) ≡ length ready
  length-from_the_end ready = length-reverse (map taken_from ready) ∙ length-map ready taken_from

  -- one goes from the end of one list to the end of the other
  pub moved_back : (slots longer : List (Replicator O g)) (later ready : List (ReadySlot O g)) (one : ReadySlot O g) → ready ≡ later ++ one ∷ []
      → longer ≡ slots ++ replicator_of (ready_worker one) ∷ [] → longer ++ from_the_end later ≡ slots ++ from_the_end ready
  moved_back slots longer later ready one is long =
      ap (λ (list : List (Replicator O g)). list ++ from_the_end later) long
      ∙ append_assoc slots (replicator_of (ready_worker one) ∷ []) (from_the_end later)
      ∙ ap (λ (list : List (Replicator O g)). slots ++ list) (sym (from_the_end-last later one) ∙ ap (λ (list : List (ReadySlot O g)). from_the_end list) (sym is))

-- the last one of the one list becomes the first one of the other
pub put_on : {A : Type 0} (all shorter next rest more : List A) (one : A) → all ≡ shorter ++ one ∷ [] → next ≡ shorter → more ≡ one ∷ rest → next ++ more ≡ all ++ rest
put_on all shorter next rest more one is same first =
    ap (λ (list : List _). list ++ more) same ∙ ap (λ (list : List _). shorter ++ list) first
    ∙ sym (append_assoc shorter (one ∷ []) rest) ∙ ap (λ (list : List _). list ++ rest) (sym is)

-- the last one came back
pub put_back : {A : Type 0} (all shorter next rest more : List A) (one : A) → all ≡ shorter ++ one ∷ [] → next ≡ shorter ++ one ∷ [] → more ≡ rest → next ++ more ≡ all ++ rest
put_back all shorter next rest more one is back kept =
    ap (λ (list : List _). list ++ more) (back ∙ sym is) ∙ ap (λ (list : List _). all ++ list) kept

-- the list without the last one that was taken out
pub popped : {A : Type 0} (before after : List A) (result : Option A) (last : A) → before ≡ after ++ option_to_list result → result ≡ Some last → before ≡ after ++ last ∷ []
popped before after result last items is = items ∙ ap (λ (one : Option _). after ++ option_to_list one) is

pub none_popped : {A : Type 0} (before after : List A) (result : Option A) → before ≡ after ++ option_to_list result → result ≡ None → before ≡ after
none_popped before after result items is = items ∙ ap (λ (one : Option _). after ++ option_to_list one) is ∙ append-nil after
