-- The keys of a table, one after another: the first that is unknown is the least.
use Rattle.std.{proofs.{Common.{◌≡◌, ◌≢◌, ℕ, Bool, true, false, ◌||◌, List, [], ◌∷◌, Option, Some, None, option_map, is_some, String, Global, string_bytes, refl, sym, ap, ◌∙◌}, lemmas.{Cmp.{nat_list_cmp_total, tied_itself}, Map.{Keys.{sorted_head, sorted_tail}, Lookups.{exact_bytes}, Made.{is_some-lookup}}}}, specs.{BTreeMap.{is_at}, Cmp.Lexicographic.{slice_cmp}, List.{AllByRecursion, list_any, Sorted.{IsStrictlySortedBy}}, Map.{keys_of, lookup}, Ordering.{is_eq, nat_cmp, ordering_reverse}, Prelude.{IsSome}, String.{string_cmp}, declared.cmp.Ordering.{Ordering, TheVariants.{Less, Equal, Greater}}}}
use Rattle.toml.{proofs.Views.{view-lookup}, specs.{Data.{Members, get_member}, View.{members_view, view}, declared.value.Value.{Value}}}
use Rattle.amt_config.specs.Table.{IsLeastUnknown, IsUnknownKey, is_among}

-- the key is this word
abbrev has : List ℕ → String Global → Bool
has word key = is_at (λ k. slice_cmp nat_cmp word (string_bytes k)) key

-- what is left of the keys has every unknown one, they ascend, and the table has them
pub record IsScanned (words : List (List ℕ)) (table : Members) (left : List (String Global)) : Type 0 where
  pub unknown : (word : List ℕ) → IsUnknownKey words table word → list_any (has word) left ≡ true
  pub there : (word : List ℕ) → list_any (has word) left ≡ true → IsSome (get_member word table)
  pub ordered : IsStrictlySortedBy string_cmp left

some_mapped : {X Y : Type 0} (f : X → Y) (o : Option X) → is_some (option_map f o) ≡ is_some o
some_mapped f None = refl
some_mapped f (Some x) = refl

by_keys : (es : List (String Global × Value)) (word : List ℕ) → is_some (get_member word (members_view es)) ≡ list_any (has word) (keys_of es)
by_keys es word = sym (ap is_some (view-lookup word es)) ∙ (some_mapped view (lookup (has word) es) ∙ is_some-lookup (has word) es)

pub scan_start : (words : List (List ℕ)) (es : List (String Global × Value)) → IsStrictlySortedBy string_cmp (keys_of es) → IsScanned words (members_view es) (keys_of es)
scan_start words es ordered = record {
  unknown = λ word is. sym (by_keys es word) ∙ is.there;
  there = λ word among. by_keys es word ∙ among;
  ordered = ordered;
}

later_too : (here later : Bool) → later ≡ true → (here || later) ≡ true
later_too true later among = refl
later_too false later among = among

module _ (words : List (List ℕ)) (table : Members) (key : String Global) (rest : List (String Global)) (before : IsScanned words table (key ∷ rest)) where
  in_rest : (word : List ℕ) (order : Ordering) → slice_cmp nat_cmp word (string_bytes key) ≡ order → is_among words (string_bytes key) ≡ true
      → IsUnknownKey words table word → (is_eq order || list_any (has word) rest) ≡ true → list_any (has word) rest ≡ true
  in_rest word Less order known is among = among
  in_rest word Equal order known is among = absurd (is.unknown (ap (is_among words) (exact_bytes word (string_bytes key) order) ∙ known))
  in_rest word Greater order known is among = among

  pub scan_more : is_among words (string_bytes key) ≡ true → IsScanned words table rest
  scan_more known = record {
    unknown = λ word is. in_rest word (slice_cmp nat_cmp word (string_bytes key)) refl known is (before.unknown word is);
    there = λ word among. before.there word (later_too (has word key) (list_any (has word) rest) among);
    ordered = sorted_tail string_cmp key rest before.ordered;
  }

  -- a word before all of them is none
  below : (word : List ℕ) (keys : List (String Global)) → AllByRecursion (λ later. string_cmp key later ≡ Less) keys → slice_cmp nat_cmp word (string_bytes key) ≡ Less
      → list_any (has word) keys ≡ false
  below word [] all less = refl
  below word (next ∷ keys) all less = rw (nat_list_cmp_total.trans word (string_bytes key) (string_bytes next) less all.0) (below word keys all.1 less)

  pub scan_found : is_among words (string_bytes key) ≢ true → IsLeastUnknown words table (string_bytes key)
  scan_found unknown = record {
    unknown = record { there = before.there (string_bytes key) (rw (tied_itself nat_list_cmp_total (string_bytes key)) refl); unknown = unknown };
    least = λ other is less.
        let none : list_any (has other) (key ∷ rest) ≡ false = rw less (below other rest (sorted_head string_cmp key rest before.ordered) less) in
        let both : false ≡ true = sym none ∙ before.unknown other is in cc;
  }

one_by_order : (o : Ordering) (one other : List ℕ) → slice_cmp nat_cmp other one ≡ o → o ≢ Less → slice_cmp nat_cmp one other ≢ Less → one ≡ other
one_by_order Less one other is not_one not_other = absurd (not_one refl)
one_by_order Equal one other is not_one not_other = sym (exact_bytes other one is)
one_by_order Greater one other is not_one not_other =
    absurd (not_other (nat_list_cmp_total.antisymm one other ∙ ap ordering_reverse is))

-- there is one least unknown key
pub one_unknown : (words : List (List ℕ)) (table : Members) (one other : List ℕ) → IsLeastUnknown words table one → IsLeastUnknown words table other → one ≡ other
one_unknown words table one other h k =
    one_by_order (slice_cmp nat_cmp other one) one other refl (h.least other k.unknown) (k.least one h.unknown)
