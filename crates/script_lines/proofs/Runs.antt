-- A run over the items of a script, item by item.
use Rattle.std.proofs.{Common.{◌≡◌, ℕ, suc, ◌+◌, ◌<◌, ◌≤◌, Option, List, [], ◌∷◌, ◌++◌, length, take, drop, get_or, sym, ap, subst, ◌∙◌, append_assoc, arith, add-one, length-take}, Math.Seq.{drop-cons}, lemmas.List.{take_more, drop_all}}
use Rattle.script_lines.{specs.{Running.{items_text, script_text}, Texts.{closing_text}, Writing.{WritesUpTo, WritesPrefix}}, proofs.Writes.{written_more, written_prefix, written_prefix_of_last}}

-- the value has taken so many of the items, and of all their text what is held and what is left isn't written
pub record IsRunning {X I : Type 0} (IsAt : X → List I → Type 0) (text_of : List I → ℕ → I → List ℕ) (value : X) (items : List I) (taken : ℕ) (held : List ℕ) (old new : Option (List ℕ)) : Type 0 where
  pub at : IsAt value (take taken items)
  pub text : WritesUpTo old new (script_text text_of items) (held ++ (items_text text_of (take taken items) (drop taken items) ++ closing_text (length items)))

module _ {I : Type 0} (text_of : List I → ℕ → I → List ℕ) where
  taken_more : (items : List I) (i : ℕ) (item : I) → i < length items → item ≡ get_or items i item → take (i + 1) items ≡ take i items ++ item ∷ []
  taken_more items i item within is = take_more items i item within ∙ ap (λ (e : I). take i items ++ e ∷ []) (sym is)

  -- the next item is the first of those that are left
  next_item : (items : List I) (i : ℕ) (item : I) → i < length items → item ≡ get_or items i item → drop i items ≡ item ∷ drop (i + 1) items
  next_item items i item within is =
      drop-cons items i item within
      ∙ (ap (λ (e : I). e ∷ drop (suc i) items) (sym is) ∙ ap (λ (n : ℕ). item ∷ drop n items) (sym (add-one i)))

  opened : (before rest : List I) (item : I) (closing : List ℕ)
      → items_text text_of before (item ∷ rest) ++ closing
      ≡ text_of before (length before + 1) item ++ (items_text text_of (before ++ item ∷ []) rest ++ closing)
  opened before rest item closing =
      append_assoc (text_of before (length before + 1) item) (items_text text_of (before ++ item ∷ []) rest) closing

  -- the text of what is left begins with that of the next item
  taken_text : (items : List I) (i : ℕ) (item : I) (closing : List ℕ) → i < length items → item ≡ get_or items i item
      → items_text text_of (take i items) (drop i items) ++ closing
      ≡ text_of (take i items) (i + 1) item ++ (items_text text_of (take (i + 1) items) (drop (i + 1) items) ++ closing)
  taken_text items i item closing within is =
      let before = take i items in
      let numbered : length before + 1 ≡ i + 1 = omega (arith, length-take i items) in
      ap (λ (left : List I). items_text text_of before left ++ closing) (next_item items i item within is)
      ∙ (opened before (drop (i + 1) items) item closing
      ∙ (ap (λ (n : ℕ). text_of before n item ++ (items_text text_of (before ++ item ∷ []) (drop (i + 1) items) ++ closing)) numbered
      ∙ ap (λ (taken : List I). text_of before (i + 1) item ++ (items_text text_of taken (drop (i + 1) items) ++ closing)) (sym (taken_more items i item within is))))

  module _ {X : Type 0} (IsAt : X → List I → Type 0) where
    -- what is held, and the text of the next item, come next
    next_text : (value : X) (items : List I) (i : ℕ) (item : I) (held : List ℕ) (old new : Option (List ℕ))
        → i < length items → item ≡ get_or items i item → IsRunning IsAt text_of value items i held old new
        → WritesUpTo old new (script_text text_of items)
        ((held ++ text_of (take i items) (i + 1) item) ++ (items_text text_of (take (i + 1) items) (drop (i + 1) items) ++ closing_text (length items)))
    next_text value items i item held old new within is before =
        let line = text_of (take i items) (i + 1) item in
        let rest = items_text text_of (take (i + 1) items) (drop (i + 1) items) ++ closing_text (length items) in
        subst (WritesUpTo old new (script_text text_of items))
        (ap (λ (text : List ℕ). held ++ text) (taken_text items i item (closing_text (length items)) within is) ∙ sym (append_assoc held line rest)) before.text

    -- one more item was taken, and its text was written or is held
    pub run_more : (value value' : X) (items : List I) (i : ℕ) (item : I) (held held' : List ℕ) (old new newer : Option (List ℕ))
        → i < length items → item ≡ get_or items i item → IsRunning IsAt text_of value items i held old new
        → WritesUpTo new newer (held ++ text_of (take i items) (i + 1) item) held'
        → IsAt value' (take i items ++ item ∷ []) → IsRunning IsAt text_of value' items (i + 1) held' old newer
    run_more value value' items i item held held' old new newer within is before written at = record {
      at = subst (IsAt value') (sym (taken_more items i item within is)) at;
      text = written_more old new newer _ _ _ held' (next_text value items i item held old new within is before) written;
    }

    -- a prefix of what was held and of an item's text was written
    pub run_cut : (value : X) (items : List I) (i : ℕ) (item : I) (held : List ℕ) (old new newer : Option (List ℕ))
        → i < length items → item ≡ get_or items i item → IsRunning IsAt text_of value items i held old new
        → WritesPrefix new newer (held ++ text_of (take i items) (i + 1) item)
        → WritesPrefix old newer (script_text text_of items)
    run_cut value items i item held old new newer within is before prefix =
        written_prefix old new newer _ _ _ (next_text value items i item held old new within is before) prefix

    -- no item is left: what is held and the closing line come last
    last_text : (value : X) (items : List I) (i : ℕ) (held : List ℕ) (old new : Option (List ℕ))
        → length items ≤ i → IsRunning IsAt text_of value items i held old new
        → WritesUpTo old new (script_text text_of items) (held ++ closing_text (length items))
    last_text value items i held old new past before =
        let none : drop i items ≡ [] = drop_all i items past in
        subst (λ (left : List I). WritesUpTo old new (script_text text_of items) (held ++ (items_text text_of (take i items) left ++ closing_text (length items)))) none before.text

    -- a prefix of them was written
    pub run_closed : (value : X) (items : List I) (i : ℕ) (held : List ℕ) (old new newer : Option (List ℕ))
        → length items ≤ i → IsRunning IsAt text_of value items i held old new → WritesPrefix new newer (held ++ closing_text (length items))
        → WritesPrefix old newer (script_text text_of items)
    run_closed value items i held old new newer past before prefix =
        written_prefix_of_last old new newer _ _ (last_text value items i held old new past before) prefix
