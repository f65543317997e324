-- Keys of two parts, ordered by the first and then by the second: those that share their first part
-- stand together, from the least of them on.
use Rattle.std.proofs.{Common.{◌≡◌, ℕ, ◌==◌, nat_lt, arith, Bool, true, false, not, cond, List, [], ◌∷◌, ◌++◌, filter, refl, sym, ap, subst, ◌∙◌}, lemmas.{Bool.{and_from, and_parts, Decides.{nat_tests}}, Cmp.{alike_right, eq_by_cmp_equiv}, List.Kept.{IsStrictlySortedBy-filter}, Map.Keys.{sorted_head, sorted_tail}}}
use Rattle.std.specs.{BTreeMap.Range.{range_contains}, Cmp.{IsTotalOrder}, List.{AllByRecursion, Sorted.{IsStrictlySortedBy}}, Ordering.{eq_by_cmp, is_eq, is_le, nat_cmp, on, ordering_then, then_cmp}, declared.{cmp.Ordering.{Ordering, TheVariants.{Less, Equal, Greater}}, ops.Bound.TheVariants.{Included, Unbounded}}}
use Rattle.amt_values.proofs.AscendingLaws.{Equal-from_test}

kept_by : {K : Type 0} (test wider : K → Bool) (passes kept : Bool) (x : K) (xs : List K) → test x ≡ passes → (passes ≡ true → kept ≡ true) → filter test (filter wider xs) ≡ filter test xs
    → filter test (cond kept (x ∷ filter wider xs) (filter wider xs)) ≡ cond passes (x ∷ filter test xs) (filter test xs)
kept_by test wider true true x xs is within rest = rw is (ap (λ ys. x ∷ ys) rest)
kept_by test wider true false x xs is within rest = let never = within refl in cc
kept_by test wider false true x xs is within rest = rw is rest
kept_by test wider false false x xs is within rest = rest

-- a test keeps the same where a wider test went before
pub filter-wider : {K : Type 0} (test wider : K → Bool) → ((x : K) → test x ≡ true → wider x ≡ true) → (xs : List K) → filter test (filter wider xs) ≡ filter test xs
filter-wider test wider within [] = refl
filter-wider test wider within (x ∷ xs) = kept_by test wider (test x) (wider x) x xs refl (within x) (filter-wider test wider within xs)

-- a test that nothing passes keeps nothing
pub filter-none : {K : Type 0} (test : K → Bool) (xs : List K) → AllByRecursion (λ x. test x ≡ false) xs → filter test xs ≡ []
filter-none test [] none = refl
filter-none test (x ∷ xs) none = rw none.0 (filter-none test xs none.1)

passing_by : {K : Type 0} (P : K → Type 0) (passes : Bool) (x : K) (xs : List K) → (passes ≡ true → P x) → AllByRecursion P xs → AllByRecursion P (cond passes (x ∷ xs) xs)
passing_by P true x xs here rest = (here refl, rest)
passing_by P false x xs here rest = rest

-- what follows from a test holds of all that pass it
pub All-passing : {K : Type 0} (P : K → Type 0) (test : K → Bool) → ((x : K) → test x ≡ true → P x) → (xs : List K) → AllByRecursion P (filter test xs)
All-passing P test follows [] = tt
All-passing P test follows (x ∷ xs) = passing_by P (test x) x (filter test xs) (follows x) (All-passing P test follows xs)

pub all_back : {K : Type 0} (P : K → Type 0) (xs ys : List K) → AllByRecursion P (xs ++ ys) → AllByRecursion P ys
all_back P [] ys all = all
all_back P (x ∷ xs) ys all = all_back P xs ys all.1

pub sorted_back : {K : Type 0} (order : K → K → Ordering) (xs ys : List K) → IsStrictlySortedBy order (xs ++ ys) → IsStrictlySortedBy order ys
sorted_back order [] ys sorted = sorted
sorted_back order (x ∷ xs) ys sorted = sorted_back order xs ys (sorted_tail order x (xs ++ ys) sorted)

not_twice : (a b : Bool) → not a ≡ b → a ≡ not b
not_twice true b is = ap not is
not_twice false b is = ap not is

-- whether two values are the same, as `!=` found that they differ or not
pub same-ne : (same equal differ answer : Bool) → equal ≡ same → differ ≡ not equal → differ ≡ answer → same ≡ not answer
same-ne same equal differ answer tied is found = sym tied ∙ not_twice equal answer (sym is ∙ found)

past_by : (first second : Ordering) → is_le (ordering_then first second) ≡ true → is_eq first ≡ false → first ≡ Less
past_by Less second le apart = refl
past_by Equal second le apart = cc
past_by Greater second le apart = cc

tied_first : (first second : Ordering) → first ≡ Equal → is_le second ≡ true → is_le (ordering_then first second) ≡ true
tied_first Less second tied le = cc
tied_first Equal second tied le = le
tied_first Greater second tied le = cc

least_by : (less same : Bool) → (less ≡ false → same ≡ true) → is_le (cond less Less (cond same Equal Greater)) ≡ true
least_by true same otherwise = refl
least_by false same otherwise = rw (otherwise refl) refl

-- no number comes before 0
pub least_number : (number : ℕ) → is_le (nat_cmp 0 number) ≡ true
least_number number = least_by (nat_lt 0 number) (0 == number) (λ is. grind (arith, nat_tests))

module _ {K A B : Type 0} (first : A → A → Ordering) (second : B → B → Ordering) (outer : K → A) (inner : K → B) where
  -- by the first part, then the second
  abbrev pub by_parts : K → K → Ordering
  by_parts = then_cmp (on outer first) (on inner second)

  module _ (total : IsTotalOrder first) (least : K) where
    -- the key has the first part of the least one
    abbrev pub shares : K → Bool
    shares key = eq_by_cmp first (outer key) (outer least)

    turned : (key : K) → eq_by_cmp first (outer least) (outer key) ≡ shares key
    turned key = (eq_by_cmp_equiv total).symm (outer least) (outer key)

    -- what shares the first part of the least key is in the range from there
    pub in_range-shares : ((part : B) → is_le (second (inner least) part) ≡ true) → (key : K) → shares key ≡ true → range_contains by_parts (Included least) Unbounded key ≡ true
    in_range-shares lowest key same =
        let tied = Equal-from_test (first (outer least) (outer key)) (turned key ∙ same) in
        and_from (is_le (by_parts least key)) true (tied_first (first (outer least) (outer key)) (second (inner least) (inner key)) tied (lowest (inner key))) refl

    later_by : (order : Ordering) (one next : K) → first (outer one) (outer next) ≡ order → first (outer least) (outer one) ≡ Less → ordering_then order (second (inner one) (inner next)) ≡ Less
        → first (outer least) (outer next) ≡ Less
    later_by Less one next is past less = total.trans (outer least) (outer one) (outer next) past is
    later_by Equal one next is past less = sym (alike_right total (outer one) (outer next) (outer least) is) ∙ past
    later_by Greater one next is past less = cc

    apart : (key : K) → first (outer least) (outer key) ≡ Less → shares key ≡ false
    apart key past = sym (turned key) ∙ ap is_eq past

    apart_each : (one : K) (rest : List K) → first (outer least) (outer one) ≡ Less → AllByRecursion (λ next. by_parts one next ≡ Less) rest → AllByRecursion (λ next. shares next ≡ false) rest
    apart_each one [] past after = tt
    apart_each one (next ∷ rest) past after =
        (apart next (later_by (first (outer one) (outer next)) one next refl past after.0), apart_each one rest past after.1)

    -- from the first key of the range that does not share the first part on, none does
    pub others : (keys before rest : List K) (key : K) → IsStrictlySortedBy by_parts keys → filter (range_contains by_parts (Included least) Unbounded) keys ≡ before ++ key ∷ rest → shares key ≡ false
        → AllByRecursion (λ next. shares next ≡ false) (key ∷ rest)
    others keys before rest key sorted is other =
        let within = range_contains by_parts (Included least) Unbounded in
        let inside = all_back (λ (one : K). within one ≡ true) before (key ∷ rest) (subst (AllByRecursion (λ (one : K). within one ≡ true)) is (All-passing (λ (one : K). within one ≡ true) within (λ one passes. passes) keys)) in
        let ascending = sorted_back by_parts before (key ∷ rest) (subst (IsStrictlySortedBy by_parts) is (IsStrictlySortedBy-filter by_parts within keys sorted)) in
        let past = past_by (first (outer least) (outer key)) (second (inner least) (inner key)) (and_parts (is_le (by_parts least key)) true inside.0).0 (turned key ∙ other) in
        (other, apart_each key rest past (sorted_head by_parts key rest ascending))
