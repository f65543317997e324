-- The rows of a log let in what its newest records want.
use Rattle.std.proofs.Common.{◌≡◌, ℕ, ◌≤◌, ◌&&◌, ◌||◌, Bool, true, false, cond, List, [], ◌∷◌, map, filter, is_some, reverse, Option, Some, None, refl, sym, ap, ◌∙◌}
use Rattle.amt_values.specs.{EndpointValue.{EndpointValue}, declared.address.Ip.{Ip}}
use Rattle.source_filter.specs.Filter.{admits}
use Rattle.endpoint_membership.specs.{Admission.{is_admitted, rows_admit}, EndpointGroup.{EndpointGroup, same_endpoint_group}, Log.{latest}, Membership.{Membership, endpoint_group_of}, Memberships.{membership_at, membership_in, memberships_at, row_of, rows_of}, Stored.{only}}
use Rattle.endpoint_membership.{specs.declared.change.Change.{Change}, proofs.{EndpointGroupOrder.{same_endpoint_group-is}, MembershipIn.{membership_in-cond, membership_in-filter}, MembershipsByLog.{AreMembershipsAt-memberships_at}, MembershipAt.{admits-none, admits-row}, TargetsByLog.{is_some-cond}}}

-- some membership passes both tests where one that passes the first is found among those that pass the other
both-by : (first second : Bool) (membership : Membership) (rest : Option Membership) → ((first && second) || is_some rest) ≡ is_some (cond second (cond first (Some membership) rest) rest)
both-by true true membership rest = refl
both-by true false membership rest = refl
both-by false true membership rest = refl
both-by false false membership rest = refl

module _ (endpoint : EndpointValue) (group source : Ip) where
  abbrev pair : EndpointGroup
  pair = record { endpoint = endpoint; group = group }

  abbrev lets_in : Membership → Bool
  lets_in membership = admits membership.filter source

  -- a row lets the source in where the pair's membership is found among those that do
  any_rows : (memberships : List Membership) → rows_admit (map row_of memberships) endpoint group source ≡ is_some (membership_in (filter lets_in memberships) pair)
  any_rows [] = refl
  any_rows (membership ∷ rest) =
      let here = same_endpoint_group pair (endpoint_group_of membership) in
      let passes = lets_in membership in
      ap (λ (one : Bool). (one && passes) || rows_admit (map row_of rest) endpoint group source) (sym (same_endpoint_group-is pair (endpoint_group_of membership)))
      ∙ ap (λ (later : Bool). (here && passes) || later) (any_rows rest)
      ∙ both-by here passes membership (membership_in (filter lets_in rest) pair)
      ∙ ap is_some (sym (membership_in-cond passes membership (filter lets_in rest) pair))

  module _ (lifetime : ℕ) (log : List Change) (moment : ℕ) (early : latest log ≤ moment) where
    found-admits : (found : Option Membership) → membership_at lifetime moment (reverse log) pair ≡ found
        → is_some (only lets_in found) ≡ is_admitted lifetime log pair source moment
    found-admits None is = sym (admits-none lifetime log pair source moment early is)
    found-admits (Some membership) is = is_some-cond (lets_in membership) membership ∙ admits-row lifetime log pair source moment membership early is

    -- the rows let in a source of the group exactly where it is admitted
    pub rows_admit-log : rows_admit (rows_of lifetime moment log) endpoint group source ≡ is_admitted lifetime log pair source moment
    rows_admit-log =
        let memberships = memberships_at lifetime moment log in
        let are = AreMembershipsAt-memberships_at lifetime moment log in
        any_rows memberships
        ∙ ap is_some (membership_in-filter lets_in memberships pair are.ascend)
        ∙ ap (λ (found : Option Membership). is_some (only lets_in found)) (are.each pair)
        ∙ found-admits (membership_at lifetime moment (reverse log) pair) refl
