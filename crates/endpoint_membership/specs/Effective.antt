-- Records of a report that others of it leave without effect. No public contract says these words.
use Rattle.std.specs.{Prelude.{◌≡◌, ℕ, Bool, true, false, not, ◌&&◌, ◌||◌, List, Option, Some, None, map}, Borrow.{Bor}, BTreeMap.{BTreeMap, get}}
use Rattle.amt_values.specs.{declared.address.Ip.{Ip}, Order.{ip_order}, Ascending.{IsAscending}}
use Rattle.source_filter.specs.{Record.{is_full}, declared.record.Record.{Record}}
use Rattle.endpoint_membership.specs.{EndpointMemberships.{filter_or_nothing, renewed_filter_after_all}, Log.{is_empty, on_group}, declared.after_report.RenewedFilter.{RenewedFilter}}

-- what is borrowed
abbrev pub lent : List (Bor Record) → List Record
lent records = map (λ one. one.now) records

-- the sources of a group's filter ascend
abbrev pub IsInOrder : Option RenewedFilter → Type 0
IsInOrder before = IsAscending ip_order (filter_or_nothing before).sources

-- some records make of each group's filter what all of them make of it
abbrev pub AreEnough : List Record → List Record → Type 0
AreEnough some all =
    (moment : ℕ) (group : Ip) (before : Option RenewedFilter) → IsInOrder before
    → renewed_filter_after_all moment (on_group group some) before ≡ renewed_filter_after_all moment (on_group group all) before

-- the same filter, renewed at the moment
abbrev pub renewed_at : ℕ → Option RenewedFilter → Option RenewedFilter
renewed_at moment before = Some (record { filter = filter_or_nothing before; renewed = moment })

-- what records on a group leave of what was before them: nothing, or all but when it was renewed
abbrev pub Settle : Bool → ℕ → List Record → Type 0
Settle true moment records = (one other : Option RenewedFilter) → renewed_filter_after_all moment records one ≡ renewed_filter_after_all moment records other
Settle false moment records = (before : Option RenewedFilter) → renewed_filter_after_all moment records (renewed_at moment before) ≡ renewed_filter_after_all moment records before

-- so with the groups that are known, each by whether nothing is left
abbrev pub AreKnown : BTreeMap Ip Bool → List Record → Type 0
AreKnown known records = (moment : ℕ) (group : Ip) (whole : Bool) → get ip_order known group ≡ Some whole → Settle whole moment (on_group group records)

-- a change of sources that lists none
abbrev pub only_renews : Record → Bool
only_renews group_record = not (is_full group_record.kind) && is_empty group_record.sources

-- by what is known of its group, later records leave nothing of it
abbrev pub is_idle : Option Bool → Record → Bool
is_idle None group_record = false
is_idle (Some whole) group_record = whole || only_renews group_record
