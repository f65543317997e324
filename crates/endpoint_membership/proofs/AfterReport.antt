-- The memberships of an endpoint after its report are those by the log with the report.
use Rattle.std.{proofs.{Common.{◌≡◌, ℕ, ◌≤◌, ◌<◌, if◌then◌else◌, List, [], ◌∷◌, Option, Some, None, refl, sym, ap, subst, ◌∙◌}, lemmas.{Cmp.{tied_itself}, Map.Views.{tells_apart}}}, specs.Ordering.{is_eq}}
use Rattle.amt_values.{specs.{declared.address.Ip.{Ip}, EndpointValue.{EndpointValue}, Ascending.{IsAscending}}, proofs.Orders.{endpoint_order-exact, endpoint_order-total}}
use Rattle.source_filter.specs.{Filter.{FilterValue, filter_after_all}, declared.mode.Mode.{Mode, TheVariants.{Include, Exclude}}, declared.record.Record.{Record}}
use Rattle.endpoint_membership.specs.{declared.{change.Change.{Change, TheVariants.{Reported}}, after_report.RenewedFilter.{RenewedFilter}}, Membership.{Membership, is_fresh, membership_order}, Stored.{only}}
use Rattle.endpoint_membership.specs.{Log.{is_empty, latest, on_group}, EndpointMemberships.{AreOwn, filter_or_nothing, membership_of_renewed, renewed_filter_after, renewed_filter_after_all, renewed_filter_of}}
use Rattle.endpoint_membership.{specs.{EndpointGroup.{EndpointGroup, same_endpoint}, Memberships.{membership_of, membership_in, membership_at}, Table.{AreMembershipsAt}}, proofs.{MembershipAt.{filter_in, membership_at-later, membership_at-other, membership_at-report}, MembershipIn.{cond_by}}}

abbrev endpoint_group : EndpointValue → Ip → EndpointGroup
endpoint_group endpoint group = record { endpoint = endpoint; group = group }

abbrev made : Mode → List Ip → FilterValue
made mode sources = record { mode = mode; sources = sources }

-- a membership that was made by a filter is made by it again
renewed_again : (endpoint : EndpointValue) (group : Ip) (mode : Mode) (sources : List Ip) (renewed : ℕ)
    → membership_of_renewed endpoint group (renewed_filter_of (membership_of (endpoint_group endpoint group) (made mode sources) renewed)) ≡ membership_of (endpoint_group endpoint group) (made mode sources) renewed
renewed_again endpoint group Exclude sources renewed = refl
renewed_again endpoint group Include [] renewed = refl
renewed_again endpoint group Include (source ∷ sources) renewed = refl

filter_or_nothing-in : (found : Option Membership) → filter_or_nothing (renewed_filter_of found) ≡ filter_in found
filter_or_nothing-in None = refl
filter_or_nothing-in (Some membership) = refl

-- records one by one leave the filter of them all, renewed
pub renewed_filter_after_all-is : (moment : ℕ) (first : Record) (later : List Record) (renewed_filter : Option RenewedFilter)
    → renewed_filter_after_all moment (first ∷ later) renewed_filter ≡ Some (record { filter = filter_after_all (filter_or_nothing renewed_filter) (first ∷ later); renewed = moment })
renewed_filter_after_all-is moment first [] renewed_filter = refl
renewed_filter_after_all-is moment first (second ∷ later) renewed_filter = renewed_filter_after_all-is moment second later (renewed_filter_after moment first renewed_filter)

row_by : (endpoint : EndpointValue) (group : Ip) (moment : ℕ) (on : List Record) (filter : FilterValue) (renewed : ℕ) (found : Option Membership) → found ≡ membership_of (endpoint_group endpoint group) filter renewed
    → membership_of_renewed endpoint group (renewed_filter_after_all moment on (renewed_filter_of found))
    ≡ (if is_empty on then found else membership_of (endpoint_group endpoint group) (filter_after_all (filter_in found) on) moment)
row_by endpoint group moment [] filter renewed found is =
    subst (λ (one : Option Membership). membership_of_renewed endpoint group (renewed_filter_of one) ≡ one) (sym is) (renewed_again endpoint group filter.mode filter.sources renewed)
row_by endpoint group moment (first ∷ later) filter renewed found is =
    ap (membership_of_renewed endpoint group) (renewed_filter_after_all-is moment first later (renewed_filter_of found))
    ∙ ap (λ (before : FilterValue). membership_of (endpoint_group endpoint group) (filter_after_all before (first ∷ later)) moment) (filter_or_nothing-in found)

-- the membership of a pair after a report of the endpoint: one of its own, or an old one of another endpoint where that is fresh
abbrev pub after_at : ℕ → ℕ → EndpointValue → List Membership → List Membership → EndpointGroup → Option Membership
after_at lifetime moment endpoint rows own at = if same_endpoint at.endpoint endpoint then membership_in own at else only (is_fresh lifetime moment) (membership_in rows at)

-- the memberships after a report of the endpoint, from those before and its own ones
pub record AreAfterReport (lifetime moment : ℕ) (endpoint : EndpointValue) (rows own after : List Membership) : Type 0 where
  pub ascend : IsAscending membership_order after
  pub each : (at : EndpointGroup) → membership_in after at ≡ after_at lifetime moment endpoint rows own at

module _ (lifetime moment at : ℕ) (endpoint : EndpointValue) (records : List Record) (past : List Change) (rows own : List Membership) (some : 0 < lifetime)
    (onward : moment ≤ latest (Reported endpoint records at ∷ past)) (are : AreMembershipsAt lifetime moment past rows) (owned : AreOwn lifetime (latest (Reported endpoint records at ∷ past)) endpoint records rows own) where
  abbrev log : List Change
  log = Reported endpoint records at ∷ past

  -- the endpoint's filters make the memberships by the log with the report
  own_membership : (group : Ip) → membership_in own (endpoint_group endpoint group) ≡ membership_at lifetime (latest log) log (endpoint_group endpoint group)
  own_membership group =
      let here = endpoint_group endpoint group in
      let found = ap (only (is_fresh lifetime (latest log))) (are.each here) ∙ sym (membership_at-later lifetime moment (latest log) past here onward) in
      owned.each group
      ∙ ap (λ (one : Option Membership). membership_of_renewed endpoint group (renewed_filter_after_all (latest log) (on_group group records) (renewed_filter_of one))) found
      ∙ row_by endpoint group (latest log) (on_group group records) _ _ (membership_at lifetime (latest log) past here) refl
      ∙ sym (membership_at-report lifetime at endpoint records past here some (ap is_eq (tied_itself endpoint_order-total endpoint)))

  reported_at : (here : EndpointGroup) → after_at lifetime (latest log) endpoint rows own here ≡ membership_at lifetime (latest log) log here
  reported_at here =
      cond_by (same_endpoint here.endpoint endpoint) (membership_in own here) (only (is_fresh lifetime (latest log)) (membership_in rows here)) (membership_at lifetime (latest log) log here)
      (λ same. let exact = ap (λ (one : EndpointValue). endpoint_group one here.group) (tells_apart endpoint_order-exact here.endpoint endpoint same) in
      ap (membership_in own) exact ∙ own_membership here.group ∙ ap (membership_at lifetime (latest log) log) (sym exact))
      (λ apart. ap (only (is_fresh lifetime (latest log))) (are.each here) ∙ sym (membership_at-later lifetime moment (latest log) past here onward)
      ∙ sym (membership_at-other lifetime (latest log) (Reported endpoint records at) past here (rw apart refl)))

  -- they are those by the log with the report
  pub AreMembershipsAt-reported : (after : List Membership) → AreAfterReport lifetime (latest log) endpoint rows own after → AreMembershipsAt lifetime (latest log) log after
  AreMembershipsAt-reported after put = record { ascend = put.ascend; each = λ here. put.each here ∙ reported_at here }

  pub AreAfterReport-log : (after : List Membership) → AreMembershipsAt lifetime (latest log) log after → AreAfterReport lifetime (latest log) endpoint rows own after
  AreAfterReport-log after stand = record { ascend = stand.ascend; each = λ here. stand.each here ∙ sym (reported_at here) }
