-- Memberships that are found one after another, by the pairs of filters in their order.
use Rattle.std.proofs.{Common.{◌≡◌, ℕ, ◌+◌, Bor, Bool, true, false, cond, is_some, List, [], ◌∷◌, ◌++◌, map, filter, Option, Some, None, if◌then◌else◌, refl, sym, ap, subst, append_assoc, ◌∙◌}, lemmas.List.{append-nil, map-append}}
use Rattle.std.{proofs.lemmas.{List.Elements.{filter-append, filter_map-append}, Map.Iter.{rest_so_far}}, specs.{List.{cons_option, filter_map}, Iterator.{Yields}, Map.Iter.{TakesFirst, deref}}}
use Rattle.amt_values.specs.{EndpointValue.{EndpointValue}, Ascending.{IsAscending}}
use Rattle.endpoint_membership.specs.{EndpointGroup.{EndpointGroup}, Filters.{membership_with}, Limits.{live_count}, Membership.{Membership, endpoint_group_of, membership_order}}
use Rattle.endpoint_membership.{specs.{Memberships.{membership_in, row_of}, Stored.{ends_with, only}, declared.{row.Row.{Row}, stored.StoredFilter.{StoredFilter}}}, proofs.AfterEntries.{IsAscending-prefix}}
use Rattle.endpoint_membership.proofs.{CountedLive.{filter-push_yes, last_of, last_of-push, more_live}, MembershipIn.{GivesItsEndpointGroup-membership_in, all_found}, ReportBounds.{given_by, some_by}}

-- the memberships of these pairs
abbrev pub memberships_of : List Membership → List EndpointGroup → List Membership
memberships_of rows pairs = filter_map (membership_in rows) pairs

-- those of the pairs that a walk has seen
abbrev pub seen_memberships : List Membership → List (Bor EndpointGroup) → List Membership
seen_memberships rows seen = memberships_of rows (map deref seen)

-- the membership of a pair is what a search of the filters found
pub stored_at : (filters rows : List Membership) (at : EndpointGroup) (found : Option StoredFilter) → filters ≡ rows → membership_with at found ≡ membership_in filters at → membership_in rows at ≡ membership_with at found
stored_at filters rows at found view is = ap (λ (all : List Membership). membership_in all at) (sym view) ∙ sym is

-- one pair more
pub seen-push : (rows : List Membership) (seen : List (Bor EndpointGroup)) (at : Bor EndpointGroup) (found : Option Membership) → membership_in rows at.now ≡ found
    → seen_memberships rows (seen ++ at ∷ []) ≡ seen_memberships rows seen ++ cons_option found []
seen-push rows seen at found is =
    ap (memberships_of rows) (map-append deref seen (at ∷ [])) ∙ filter_map-append (membership_in rows) (map deref seen) (at.now ∷ [])
    ∙ ap (λ (one : Option Membership). seen_memberships rows seen ++ cons_option one []) is

-- a pair with no membership
pub seen-none : (rows : List Membership) (seen : List (Bor EndpointGroup)) (at : Bor EndpointGroup) → membership_in rows at.now ≡ None → seen_memberships rows (seen ++ at ∷ []) ≡ seen_memberships rows seen
seen-none rows seen at none = seen-push rows seen at None none ∙ append-nil (seen_memberships rows seen)

-- the pairs that a walk has seen, and the rest
pub pairs_walked : (pairs keys start rest : List EndpointGroup) (seen : List (Bor EndpointGroup)) → keys ≡ pairs → start ≡ keys → Yields (TakesFirst deref) start seen rest → pairs ≡ map deref seen ++ rest
pairs_walked pairs keys start rest seen same begins yields = sym (begins ∙ same) ∙ rest_so_far deref seen start rest yields

-- after the last pair all memberships are seen
pub all_seen : (rows : List Membership) (keys start rest : List EndpointGroup) (seen : List (Bor EndpointGroup)) → IsAscending membership_order rows → keys ≡ map endpoint_group_of rows
    → start ≡ keys → Yields (TakesFirst deref) start seen rest → rest ≡ [] → seen_memberships rows seen ≡ rows
all_seen rows keys start rest seen ascends same begins yields none =
    let whole = pairs_walked (map endpoint_group_of rows) keys start rest seen same begins yields in
    sym (ap (memberships_of rows) (whole ∙ ap (λ (more : List EndpointGroup). map deref seen ++ more) none ∙ append-nil (map deref seen))) ∙ all_found rows ascends

found_by : (passes : Bool) (membership : Membership) → is_some (cond passes (Some membership) None) ≡ passes
found_by true membership = refl
found_by false membership = refl

-- a membership that is there by what passes
pub is_some-only : (test : Membership → Bool) (membership : Membership) (found : Option Membership) → found ≡ Some membership → is_some (only test found) ≡ test membership
is_some-only test membership found is = ap (λ (one : Option Membership). is_some (only test one)) is ∙ found_by (test membership) membership

-- ---- rows

-- one row more
pub rows-push : (rows : List Membership) (seen : List (Bor EndpointGroup)) (at : Bor EndpointGroup) (membership : Membership) (before after : List Row) → membership_in rows at.now ≡ Some membership
    → before ≡ map row_of (seen_memberships rows seen) → after ≡ before ++ row_of membership ∷ [] → after ≡ map row_of (seen_memberships rows (seen ++ at ∷ []))
rows-push rows seen at membership before after is so_far more =
    more ∙ ap (λ (first : List Row). first ++ row_of membership ∷ []) so_far
    ∙ sym (ap (map row_of) (seen-push rows seen at (Some membership) is) ∙ map-append row_of (seen_memberships rows seen) (membership ∷ []))

-- ---- counts

so_far_ascends : (rows : List Membership) (pairs done rest : List EndpointGroup) (at : EndpointGroup) (membership : Membership) → IsAscending membership_order rows → memberships_of rows pairs ≡ rows → pairs ≡ done ++ at ∷ rest
    → membership_in rows at ≡ Some membership → IsAscending membership_order (memberships_of rows done ++ membership ∷ [])
so_far_ascends rows pairs done rest at membership ascends all is found =
    let before = memberships_of rows done in
    let later = memberships_of rows rest in
    let whole = sym all ∙ ap (memberships_of rows) is ∙ filter_map-append (membership_in rows) done (at ∷ rest)
    ∙ ap (λ (one : Option Membership). before ++ cons_option one later) found ∙ sym (append_assoc before (membership ∷ []) later) in
    IsAscending-prefix (before ++ membership ∷ []) later (subst (IsAscending membership_order) whole ascends)

-- what is counted after a pair whose membership counts
pub record IsCounted (test : Membership → Bool) (rows : List Membership) (number : ℕ) (endpoint : Option EndpointValue) : Type 0 where
  pub count : number ≡ live_count (filter test rows)
  pub last : endpoint ≡ last_of (filter test rows)

pub IsCounted-more : (rows : List Membership) (pairs rest : List EndpointGroup) (seen : List (Bor EndpointGroup)) (at : Bor EndpointGroup) (test : Membership → Bool) (count step : ℕ) (last : Option EndpointValue)
    → IsAscending membership_order rows → memberships_of rows pairs ≡ rows → pairs ≡ map deref seen ++ at.now ∷ rest → is_some (only test (membership_in rows at.now)) ≡ true
    → IsCounted test (seen_memberships rows seen) count last → step ≡ (if ends_with last at.now.endpoint then 0 else 1)
    → IsCounted test (seen_memberships rows (seen ++ at ∷ [])) (count + step) (Some at.now.endpoint)
IsCounted-more rows pairs rest seen at test count step last ascends all is passes so_far more =
    given_by (IsCounted test (seen_memberships rows (seen ++ at ∷ [])) (count + step) (Some at.now.endpoint)) (membership_in rows at.now) (some_by test (membership_in rows at.now) passes) (λ membership found.
    let yes : test membership ≡ true = sym (found_by (test membership) membership) ∙ ap (λ (one : Option Membership). is_some (only test one)) (sym found) ∙ passes in
    let its : membership.endpoint ≡ at.now.endpoint = ap (λ (one : EndpointGroup). one.endpoint) (GivesItsEndpointGroup-membership_in rows at.now membership found) in
    let before = seen_memberships rows seen in
    let push = seen-push rows seen at (Some membership) found in record {
      count = more_live test before membership count step last (so_far_ascends rows pairs (map deref seen) rest at.now membership ascends all is found) yes so_far.count so_far.last
          (more ∙ ap (λ (endpoint : EndpointValue). if ends_with last endpoint then 0 else 1) (sym its))
          ∙ sym (ap (λ (some : List Membership). live_count (filter test some)) push);
      last = ap (λ (endpoint : EndpointValue). Some endpoint) (sym its)
          ∙ sym (ap (λ (some : List Membership). last_of (filter test some)) push ∙ ap last_of (filter-push_yes test before membership yes) ∙ last_of-push (filter test before) membership);
    })

left_by : (found : Option Membership) (test : Membership → Bool) → is_some (only test found) ≡ false → filter test (cons_option found []) ≡ []
left_by None test fails = refl
left_by (Some membership) test fails = rw (sym (found_by (test membership) membership) ∙ fails) refl

-- what is counted after a pair whose membership does not count
pub IsCounted-same : (rows : List Membership) (seen : List (Bor EndpointGroup)) (at : Bor EndpointGroup) (test : Membership → Bool) (count : ℕ) (last : Option EndpointValue) → is_some (only test (membership_in rows at.now)) ≡ false
    → IsCounted test (seen_memberships rows seen) count last → IsCounted test (seen_memberships rows (seen ++ at ∷ [])) count last
IsCounted-same rows seen at test count last fails so_far =
    let before = seen_memberships rows seen in
    let found = membership_in rows at.now in
    let same : filter test before ≡ filter test (seen_memberships rows (seen ++ at ∷ [])) =
    sym (ap (filter test) (seen-push rows seen at found refl) ∙ filter-append test before (cons_option found [])
    ∙ ap (λ (more : List Membership). filter test before ++ more) (left_by found test fails) ∙ append-nil (filter test before)) in record {
      count = so_far.count ∙ ap live_count same;
      last = so_far.last ∙ ap last_of same;
    }
