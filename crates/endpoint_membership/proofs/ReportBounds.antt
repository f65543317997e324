-- What holds of all memberships holds of the one that is found; and how many sources a report can bring.
use Rattle.std.proofs.{Common.{◌≡◌, ℕ, ◌+◌, ◌≤◌, Bool, true, false, cond, not, List, [], ◌∷◌, ◌++◌, length, filter, Option, Some, None, is_some, sum_by, unwrap_or, refl, sym, ap, subst, arith, length-append}, lemmas.{List.{Filters.{length-filter_both, sum_by-filter_both}, Sums.{sum_by-cons}}}}
use Rattle.std.specs.List.{AllByRecursion, find}
use Rattle.amt_values.{specs.{declared.address.Ip.{Ip}, Order.{ip_order}, Ascending.{has, ascending}}, proofs.AscendingLaws.{length-ascending}}
use Rattle.source_filter.specs.{Filter.{FilterValue, filter_after, filter_after_all, sources_after}, declared.mode.Mode.{Mode, TheVariants.{Include, Exclude}}, declared.record.{Record.{Record}, RecordKind.{RecordKind, TheVariants.{Allow, Block}}}}
use Rattle.endpoint_membership.specs.{EndpointGroup.{EndpointGroup, same_endpoint_group, same_group}, Log.{on_group}, Membership.{endpoint_group_of, Membership}, Memberships.{membership_in}, Stored.{only}}

-- what passes is there
pub some_by : (test : Membership → Bool) (found : Option Membership) → is_some (only test found) ≡ true → is_some found ≡ true
some_by test None some = some
some_by test (Some membership) some = refl

-- what follows from a membership that is there
pub given_by : (X : Type 0) (found : Option Membership) → is_some found ≡ true → ((membership : Membership) → found ≡ Some membership → X) → X
given_by X None some given = cc
given_by X (Some membership) some given = given membership refl

found_here : (P : Membership → Type 0) (passes : Bool) (one membership : Membership) (later : Option Membership) → P one → (Some membership ≡ later → P membership) → Some membership ≡ cond passes (Some one) later → P membership
found_here P true one membership later first rest found = subst P (sym (ap (λ (each : Option Membership). unwrap_or each one) found)) first
found_here P false one membership later first rest found = rest found

-- what holds of all memberships holds of the one that is found
pub All-find : (P : Membership → Type 0) (test : Membership → Bool) (rows : List Membership) (membership : Membership) → AllByRecursion P rows → Some membership ≡ find test rows → P membership
All-find P test [] membership all found = cc
All-find P test (one ∷ rest) membership all found = found_here P (test one) one membership (find test rest) all.0 (All-find P test rest membership all.1) found

pub All-at : (P : Membership → Type 0) (rows : List Membership) (endpoint_group : EndpointGroup) (membership : Membership) → AllByRecursion P rows → membership_in rows endpoint_group ≡ Some membership → P membership
All-at P rows endpoint_group membership each found = All-find P (λ (one : Membership). same_endpoint_group endpoint_group (endpoint_group_of one)) rows membership each (sym found)

length-union : (old listed : List Ip) → length (ascending ip_order (old ++ listed)) ≤ length old + length listed
length-union old listed = omega (arith, length-ascending ip_order (old ++ listed), length-append old listed)

length-difference : (old listed : List Ip) → length (filter (λ (source : Ip). not (has ip_order listed source)) old) ≤ length old + length listed
length-difference old listed =
    let lost = λ (source : Ip). not (has ip_order listed source) in
    omega (arith, length-filter_both lost (λ (source : Ip). not (lost source)) (λ (source : Ip). refl) old)

length-listed : (old listed : List Ip) → length (ascending ip_order listed) ≤ length old + length listed
length-listed old listed = omega (arith, length-ascending ip_order listed)

-- a record brings at most its own sources
length-sources_after : (kind : RecordKind) (mode : Mode) (old listed : List Ip) → length (sources_after kind mode old listed) ≤ length old + length listed
length-sources_after Allow Include old listed = length-union old listed
length-sources_after Allow Exclude old listed = length-difference old listed
length-sources_after Block Include old listed = length-difference old listed
length-sources_after Block Exclude old listed = length-union old listed
length-sources_after full mode old listed = length-listed old listed

abbrev width : Record → ℕ
width one = length one.sources

pub sources-filter_after_all : (filter : FilterValue) (records : List Record)
    → length (filter_after_all filter records).sources ≤ length filter.sources + sum_by (λ (one : Record). length one.sources) records
sources-filter_after_all filter [] = omega arith
sources-filter_after_all filter (first ∷ later) =
    omega (arith, length-sources_after first.kind filter.mode filter.sources first.sources, sources-filter_after_all (filter_after filter first) later, sum_by-cons width first later)

pub sum_by-on_group : (group : Ip) (records : List Record)
    → sum_by (λ (one : Record). length one.sources) (on_group group records) ≤ sum_by (λ (one : Record). length one.sources) records
sum_by-on_group group records =
    let test = λ (one : Record). same_group group one.group in
    omega (arith, sum_by-filter_both test (λ (one : Record). not (test one)) (λ (one : Record). refl) width records)
