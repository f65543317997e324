-- The items of an array one after another, as those among them that are read.
use Rattle.std.{proofs.{Common.{◌≡◌, ℕ, ◌+◌, ◌<◌, ◌≤◌, List, [], Option, length, get_or, drop, sym, ap, ◌∙◌}, lemmas.List.{drop_all}}}
use Rattle.toml.{proofs.Views.{items_view-drop}, specs.{Data.{Data}, View.{items_view, view}, declared.value.Value.{Value}}}
use Rattle.amt_config.specs.Arrays.{those_in, with_first}

module _ {X : Type 0} (read : Data → Option X) where
  -- those from an index on
  abbrev pub those_from : ℕ → List Value → List X
  those_from i items = those_in read (items_view (drop i items))

  -- by the next item
  pub next_those : (items : List Value) (i : ℕ) (one : Value) (r : Option X) → i < length items → one ≡ get_or items i one → read (view one) ≡ r
      → those_from i items ≡ with_first r (those_from (i + 1) items)
  next_those items i one r within is reads =
      ap (those_in read) (items_view-drop items i one within)
      ∙ ap (λ (o : Option X). with_first o (those_from (i + 1) items)) (ap (λ (v : Value). read (view v)) (sym is) ∙ reads)

  -- past the last item
  pub end_those : (items : List Value) (i : ℕ) → length items ≤ i → those_from i items ≡ []
  end_those items i past = ap (λ (vs : List Value). those_in read (items_view vs)) (drop_all i items past)
