-- Items of lists: where they stand, and what a list of them comes to with one more at its end.
use Rattle.std.proofs.{Common.{◌≡◌, ℕ, zero, suc, ◌-◌, ◌⊎◌, nat_lt, Bool, true, false, cond, List, [], ◌∷◌, ◌++◌, map, reverse, slice_get, Contains, Option, Some, None, refl, ap, ◌∙◌, arith, inl, inr}, lemmas.{Bool.{cond_both}, List.{append-nil, get_or-map, length-map, Elements.{Contains-append_right, filter-append}}, Option.{get_or_from_slice_get, slice_get_within}}}
use Rattle.std.specs.List.{cons_option, filter, filter_map}
use mathlib.Core.List.{reverse-cons}
use Rattle.gateway_machine.specs.Laws.{last_of}
use Rattle.amt_pair.{specs.{Schedule.{Member, numbered}}, proofs.MembersAt.{host_at}}

module _ {X : Type 0} where
  -- ---- where an item stands

  pub first-is : (x y : X) (xs : List X) → Contains (x ∷ xs) y → (x ≡ y) ⊎ Contains xs y
  first-is x y xs (zero, below, is) = inl is
  first-is x y xs (suc place, below, is) = inr (place, omega arith, is)

  pub Contains-first : (x : X) (xs : List X) → Contains (x ∷ xs) x
  Contains-first x xs = (0, omega arith, refl)

  pub Contains-later : (x y : X) (xs : List X) → Contains xs y → Contains (x ∷ xs) y
  Contains-later x y xs among = Contains-append_right (x ∷ []) xs y among

  pub none-in : (x : X) → Contains [] x → ⊥
  none-in x (place, below, is) = absurd (omega arith)

  -- an item that passes a test is among those that do
  pub Contains-kept : (test : X → Bool) (xs : List X) (x : X) → Contains xs x → test x ≡ true → Contains (filter test xs) x
  Contains-kept test [] x among passes = absurd (none-in x among)
  Contains-kept test (first ∷ xs) x among passes = elim (first-is first x xs among) [
    | inl is ↦ let here : test first ≡ true = ap test is ∙ passes in rw here (0, omega arith, is)
    | inr later ↦
        let rest = Contains-kept test xs x later passes in
        cond_both (test first) (first ∷ filter test xs) (filter test xs) (λ kept. Contains kept x) (λ _. Contains-later first x (filter test xs) rest) (λ _. rest)
  ]

  -- ---- the item of a number

  numbered-by : (test : Bool) (found : Option X) (x : X) → cond test found None ≡ Some x → found ≡ Some x
  numbered-by true found x is = is
  numbered-by false found x is = cc

  pub numbered-among : (xs : List X) (number : ℕ) (x : X) → numbered xs number ≡ Some x → Contains xs x
  numbered-among xs number x is =
      let found = numbered-by (nat_lt 0 number) (slice_get xs (number - 1)) x is in
      (number - 1, slice_get_within xs (number - 1) x found, get_or_from_slice_get xs (number - 1) x x found)

  -- ---- the last item

  pub last_of-append : (before : Option X) (xs more : List X) → last_of before (xs ++ more) ≡ last_of (last_of before xs) more
  last_of-append before [] more = refl
  last_of-append before (x ∷ xs) more = last_of-append (Some x) xs more

  pub last_of-push : (before : Option X) (xs : List X) (x : X) → last_of before (xs ++ x ∷ []) ≡ Some x
  last_of-push before xs x = last_of-append before xs (x ∷ [])

  last-by : (test : Bool) (xs : List X) (x : X) → last_of None (xs ++ cond test (x ∷ []) []) ≡ cond test (Some x) (last_of None xs)
  last-by true xs x = last_of-push None xs x
  last-by false xs x = ap (last_of None) (append-nil xs)

  -- the last item that passes a test, of items newest first
  pub last-passing : (test : X → Bool) (x : X) (older : List X)
      → last_of None (filter test (reverse (x ∷ older))) ≡ cond (test x) (Some x) (last_of None (filter test (reverse older)))
  last-passing test x older =
      ap (λ (all : List X). last_of None (filter test all)) (reverse-cons x older)
      ∙ ap (last_of None) (filter-append test (reverse older) (x ∷ []))
      ∙ last-by (test x) (filter test (reverse older)) x

pub Contains-filter_map : {X Y : Type 0} (f : X → Option Y) (xs : List X) (x : X) (y : Y) → Contains xs x → f x ≡ Some y → Contains (filter_map f xs) y
Contains-filter_map {X} {Y} f [] x y among is = absurd (none-in x among)
Contains-filter_map {X} {Y} f (first ∷ xs) x y among is = elim (first-is first x xs among) [
  | inl same ↦ let here : f first ≡ Some y = ap f same ∙ is in rw here (0, omega arith, refl)
  | inr later ↦ onto (f first) (Contains-filter_map f xs x y later is)
]
  where
    onto : (found : Option Y) → Contains (filter_map f xs) y → Contains (cons_option found (filter_map f xs)) y
    onto None rest = rest
    onto (Some z) rest = Contains-later z y (filter_map f xs) rest

-- the host of a listed member is listed
pub contains-host : (members : List Member) (member : Member) → Contains members member → Contains (map host_at members) member.host
contains-host members member (k, below, is) = (k, omega (arith, length-map members host_at), get_or-map host_at members k member member.host below ∙ ap host_at is)
