-- The endpoints that want a packet, by the memberships and by the log.
use Rattle.std.proofs.{Common.{◌≡◌, ℕ, ◌≤◌, ◌↔◌, max, Bool, true, false, cond, ◌&&◌, ◌||◌, List, [], ◌∷◌, ◌++◌, reverse, length, Option, Some, None, is_some, Contains, refl, sym, ap, subst, ◌∙◌, arith, inl, inr}, lemmas.{Bool.{cases_Bool, or_from, or_parts}, Cmp.{eq_by_cmp_equiv}}}
use Rattle.std.proofs.lemmas.{List.{reverse-append}, Map.Views.{Contains-from_any, list_any-from_Contains, tells_apart}}
use Rattle.amt_values.{specs.{declared.address.Ip.{Ip}, Order.{endpoint_order}, EndpointValue.{EndpointValue}, Ascending.{IsAscending, has, ascending}}, proofs.{Orders.{endpoint_order-exact, endpoint_order-total}, AscendingLaws.{IsAscending-filter, IsAscending-ascending, has-append, has-filter, has-ascending, same_ascending}}}
use Rattle.source_filter.specs.{Filter.{admits}, declared.record.Record.{Record}}
use Rattle.endpoint_membership.specs.{declared.change.Change.{Change, TheVariants.{Reported, Clear, Mark}}, Membership.{Membership, is_fresh}, Admission.{is_admitted}, Stored.{AreTargets, is_target, only}, Limits.{live_count}, Log.{latest}}
use Rattle.endpoint_membership.specs.{EndpointGroup.{EndpointGroup, endpoint_group_order, same_endpoint, same_group, same_endpoint_group}, Memberships.{endpoint_groups_in, endpoint_groups_of, membership_in, membership_at}, Table.{AreMembershipsAt, Holds, TableValue, TableSettings}}
use Rattle.endpoint_membership.{specs.Targets.{endpoints_in, targets_of}, proofs.{MembershipsByLog.{bare}, CountedLive.{endpoints_of, length-within}, FewRows.{All-own}, MembershipIn.{GivesItsEndpointGroup-membership_in}, ReportBounds.{All-at, given_by, some_by}, EndpointGroupOrder.{same_endpoint_group-is}, MembershipAt.{admits-none, admits-row, membership_at-later}}}

abbrev at : EndpointValue → Ip → EndpointGroup
at endpoint group = record { endpoint = endpoint; group = group }

-- the endpoint of a membership is among those of all
listed : (rows : List Membership) (endpoint_group : EndpointGroup) → is_some (membership_in rows endpoint_group) ≡ true → has endpoint_order (endpoints_of rows) endpoint_group.endpoint ≡ true
listed rows endpoint_group some = given_by (has endpoint_order (endpoints_of rows) endpoint_group.endpoint ≡ true) (membership_in rows endpoint_group) some
    (λ membership found. ap (λ (one : EndpointGroup). has endpoint_order (endpoints_of rows) one.endpoint) (sym (GivesItsEndpointGroup-membership_in rows endpoint_group membership found))
    ∙ All-at (λ (one : Membership). has endpoint_order (endpoints_of rows) one.endpoint ≡ true) rows endpoint_group membership (All-own rows) found)

-- targets are at most the live endpoints
pub length-targets : (lifetime moment : ℕ) (group source : Ip) (rows : List Membership) (endpoints : List EndpointValue) → AreTargets lifetime moment group source rows endpoints → length endpoints ≤ live_count rows
length-targets lifetime moment group source rows endpoints targets =
    length-within endpoint_order endpoint_order-total endpoint_order-exact endpoints (ascending endpoint_order (endpoints_of rows)) targets.ascend (IsAscending-ascending endpoint_order-total (endpoints_of rows))
    (λ endpoint among. has-ascending endpoint_order-total (endpoints_of rows) endpoint
    ∙ listed rows (at endpoint group) (some_by (is_target lifetime moment source) (membership_in rows (at endpoint group)) (sym (targets.each endpoint) ∙ among)))

pub is_some-cond : (test : Bool) (membership : Membership) → is_some (cond test (Some membership) None) ≡ test
is_some-cond true membership = refl
is_some-cond false membership = refl

-- what is wanted at the later moment is what is wanted at the moment
pub admitted_later : (lifetime : ℕ) (log : List Change) (endpoint_group : EndpointGroup) (source : Ip) (moment : ℕ)
    → is_admitted lifetime log endpoint_group source (max moment (latest log)) ≡ is_admitted lifetime log endpoint_group source moment
admitted_later lifetime log endpoint_group source moment = let again : max (max moment (latest log)) (latest log) ≡ max moment (latest log) = omega arith in rw again refl

-- a membership lets the packet in exactly where the newest record that applies wants it
target_by : (lifetime : ℕ) (log : List Change) (group source : Ip) (moment : ℕ) (endpoint : EndpointValue) (found : Option Membership)
    → membership_at lifetime (latest log) (reverse log) (at endpoint group) ≡ found
    → is_some (only (is_target lifetime (max moment (latest log)) source) found) ≡ is_admitted lifetime log (at endpoint group) source (max moment (latest log))
target_by lifetime log group source moment endpoint None is =
    let later = max moment (latest log) in
    let endpoint_group = at endpoint group in
    let forward : latest log ≤ later = omega arith in
    sym (admits-none lifetime log endpoint_group source later forward
    (membership_at-later lifetime (latest log) later (reverse log) endpoint_group forward ∙ ap (only (is_fresh lifetime later)) is))
target_by lifetime log group source moment endpoint (Some membership) is =
    let later = max moment (latest log) in
    let endpoint_group = at endpoint group in
    let forward : latest log ≤ later = omega arith in
    let stands = membership_at-later lifetime (latest log) later (reverse log) endpoint_group forward ∙ ap (only (is_fresh lifetime later)) is in
    is_some-cond (is_target lifetime later source membership) membership ∙ elim (cases_Bool (is_fresh lifetime later membership)) [
      | inl fresh ↦ ap (λ (test : Bool). test && admits membership.filter source) fresh ∙ admits-row lifetime log endpoint_group source later membership forward (stands ∙ rw fresh refl)
      | inr old ↦ ap (λ (test : Bool). test && admits membership.filter source) old ∙ sym (admits-none lifetime log endpoint_group source later forward (stands ∙ rw old refl))
    ]

-- the memberships let a packet in exactly where it is wanted by the log
has-wanted : (lifetime : ℕ) (log : List Change) (group source : Ip) (moment : ℕ) (rows : List Membership) (endpoints : List EndpointValue) (endpoint : EndpointValue) → AreMembershipsAt lifetime (latest log) (reverse log) rows
    → AreTargets lifetime (max moment (latest log)) group source rows endpoints → has endpoint_order endpoints endpoint ≡ is_admitted lifetime log (at endpoint group) source moment
has-wanted lifetime log group source moment rows endpoints endpoint are targets =
    targets.each endpoint
    ∙ ap (λ (found : Option Membership). is_some (only (is_target lifetime (max moment (latest log)) source) found)) (are.each (at endpoint group))
    ∙ target_by lifetime log group source moment endpoint (membership_at lifetime (latest log) (reverse log) (at endpoint group)) refl
    ∙ admitted_later lifetime log (at endpoint group) source moment

endpoint_groups_of-none : (endpoint : EndpointValue) (records : List Record) (endpoint_group : EndpointGroup) → same_endpoint endpoint_group.endpoint endpoint ≡ false → has endpoint_group_order (endpoint_groups_of endpoint records) endpoint_group ≡ false
endpoint_groups_of-none endpoint [] endpoint_group apart = refl
endpoint_groups_of-none endpoint (first ∷ later) endpoint_group apart =
    let away = same_endpoint_group-is endpoint_group (at endpoint first.group) ∙ ap (λ (test : Bool). test && same_group endpoint_group.group first.group) apart in
    or_from (same_endpoint_group endpoint_group (at endpoint first.group)) (has endpoint_group_order (endpoint_groups_of endpoint later) endpoint_group) away (endpoint_groups_of-none endpoint later endpoint_group apart)

-- no report of an endpoint names a pair of it
endpoint_groups_in-none : (past : List Change) (endpoint_group : EndpointGroup) → has endpoint_order (endpoints_in past) endpoint_group.endpoint ≡ false → has endpoint_group_order (endpoint_groups_in past) endpoint_group ≡ false
endpoint_groups_in-none [] endpoint_group none = refl
endpoint_groups_in-none (Reported endpoint records at_moment ∷ older) endpoint_group none =
    let both = or_parts (same_endpoint endpoint_group.endpoint endpoint) (has endpoint_order (endpoints_in older) endpoint_group.endpoint) none in
    has-append endpoint_group_order (endpoint_groups_of endpoint records) (endpoint_groups_in older) endpoint_group
    ∙ or_from (has endpoint_group_order (endpoint_groups_of endpoint records) endpoint_group) (has endpoint_group_order (endpoint_groups_in older) endpoint_group)
    (endpoint_groups_of-none endpoint records endpoint_group both.0) (endpoint_groups_in-none older endpoint_group both.1)
endpoint_groups_in-none (Clear endpoint at_moment ∷ older) endpoint_group none = endpoint_groups_in-none older endpoint_group none
endpoint_groups_in-none (Mark at_moment ∷ older) endpoint_group none = endpoint_groups_in-none older endpoint_group none

endpoints_in-append : (xs ys : List Change) → endpoints_in (xs ++ ys) ≡ endpoints_in xs ++ endpoints_in ys
endpoints_in-append [] ys = refl
endpoints_in-append (Reported endpoint records at_moment ∷ xs) ys = ap (λ (rest : List EndpointValue). endpoint ∷ rest) (endpoints_in-append xs ys)
endpoints_in-append (Clear endpoint at_moment ∷ xs) ys = endpoints_in-append xs ys
endpoints_in-append (Mark at_moment ∷ xs) ys = endpoints_in-append xs ys

swapped : (a b : Bool) → (a || b) ≡ (b || a)
swapped true true = refl
swapped true false = refl
swapped false true = refl
swapped false false = refl

-- a log turned round has reports of the same endpoints
has-reverse : (log : List Change) (endpoint : EndpointValue) → has endpoint_order (endpoints_in (reverse log)) endpoint ≡ has endpoint_order (endpoints_in log) endpoint
has-reverse [] endpoint = refl
has-reverse (entry ∷ rest) endpoint =
    ap (λ (past : List Change). has endpoint_order (endpoints_in past) endpoint) (reverse-append (entry ∷ []) rest)
    ∙ ap (λ (all : List EndpointValue). has endpoint_order all endpoint) (endpoints_in-append (reverse rest) (entry ∷ []))
    ∙ has-append endpoint_order (endpoints_in (reverse rest)) (endpoints_in (entry ∷ [])) endpoint
    ∙ ap (λ (test : Bool). test || has endpoint_order (endpoints_in (entry ∷ [])) endpoint) (has-reverse rest endpoint)
    ∙ swapped (has endpoint_order (endpoints_in rest) endpoint) (has endpoint_order (endpoints_in (entry ∷ [])) endpoint)
    ∙ sym (has-append endpoint_order (endpoints_in (entry ∷ [])) (endpoints_in rest) endpoint)
    ∙ ap (λ (all : List EndpointValue). has endpoint_order all endpoint) (sym (endpoints_in-append (entry ∷ []) rest))

-- an endpoint with no report wants nothing
unreported : (lifetime : ℕ) (log : List Change) (group source : Ip) (moment : ℕ) (endpoint : EndpointValue) → has endpoint_order (endpoints_in log) endpoint ≡ false
    → is_admitted lifetime log (at endpoint group) source moment ≡ false
unreported lifetime log group source moment endpoint none =
    let later = max moment (latest log) in
    sym (admitted_later lifetime log (at endpoint group) source moment)
    ∙ admits-none lifetime log (at endpoint group) source later (omega arith)
    (bare lifetime later (reverse log) (at endpoint group) (endpoint_groups_in-none (reverse log) (at endpoint group) (has-reverse log endpoint ∙ none)))

known_by : (listed wanted : Bool) → (listed ≡ false → wanted ≡ false) → (listed && wanted) ≡ wanted
known_by true wanted none = refl
known_by false wanted none = sym (none refl)

pub has-targets_of : (lifetime : ℕ) (log : List Change) (group source : Ip) (moment : ℕ) (endpoint : EndpointValue)
    → has endpoint_order (targets_of lifetime log group source moment) endpoint ≡ is_admitted lifetime log (at endpoint group) source moment
unfolding targets_of
has-targets_of lifetime log group source moment endpoint =
    let wanted = λ (one : EndpointValue). is_admitted lifetime log (at one group) source moment in
    has-filter endpoint_order-exact wanted (ascending endpoint_order (endpoints_in log)) endpoint
    ∙ ap (λ (test : Bool). test && wanted endpoint) (has-ascending endpoint_order-total (endpoints_in log) endpoint)
    ∙ known_by (has endpoint_order (endpoints_in log) endpoint) (wanted endpoint) (unreported lifetime log group source moment endpoint)

-- the targets by the log ascend
pub IsAscending-targets_of : (lifetime : ℕ) (log : List Change) (group source : Ip) (moment : ℕ) → IsAscending endpoint_order (targets_of lifetime log group source moment)
unfolding targets_of
IsAscending-targets_of lifetime log group source moment =
    IsAscending-filter endpoint_order (λ (one : EndpointValue). is_admitted lifetime log (at one group) source moment) (ascending endpoint_order (endpoints_in log)) (IsAscending-ascending endpoint_order-total (endpoints_in log))

-- a list has an endpoint where the test finds it
pub Contains-has : (endpoints : List EndpointValue) (endpoint : EndpointValue) (wanted : Bool) → has endpoint_order endpoints endpoint ≡ wanted → Contains endpoints endpoint ↔ (wanted ≡ true)
Contains-has endpoints endpoint wanted is = (
  (λ among. sym is ∙ list_any-from_Contains (eq_by_cmp_equiv endpoint_order-total) endpoint endpoints among),
  (λ given. Contains-from_any (λ (one other : EndpointValue). tells_apart endpoint_order-exact one other) endpoint endpoints (is ∙ given)),
)

-- exactly those that want the packet are targets
pub targets_want : (lifetime : ℕ) (log : List Change) (group source : Ip) (moment : ℕ) (endpoint : EndpointValue)
    → Contains (targets_of lifetime log group source moment) endpoint ↔ (is_admitted lifetime log (record { endpoint = endpoint; group = group }) source moment ≡ true)
targets_want lifetime log group source moment endpoint =
    Contains-has (targets_of lifetime log group source moment) endpoint (is_admitted lifetime log (at endpoint group) source moment) (has-targets_of lifetime log group source moment endpoint)

-- the targets by the memberships of a table are those by its log
pub targets_are : (settings : TableSettings) (table : TableValue) (log : List Change) (group source : Ip) (moment later : ℕ) (endpoints : List EndpointValue) → later ≡ max table.moment moment
    → AreTargets table.lifetime later group source table.rows endpoints → Holds settings table log → endpoints ≡ targets_of settings.lifetime log group source moment
targets_are settings table log group source moment later endpoints is targets holds =
    let same = holds.moment in
    let turned : later ≡ max moment (latest log) = omega arith in
    let here = subst (λ (lifetime : ℕ). AreTargets lifetime (max moment (latest log)) group source table.rows endpoints) holds.lifetime
    (subst (λ (one : ℕ). AreTargets table.lifetime one group source table.rows endpoints) turned targets) in
    same_ascending endpoint_order-total endpoint_order-exact endpoints (targets_of settings.lifetime log group source moment) here.ascend (IsAscending-targets_of settings.lifetime log group source moment)
    (λ endpoint. has-wanted settings.lifetime log group source moment table.rows endpoints endpoint holds.rows here ∙ sym (has-targets_of settings.lifetime log group source moment endpoint))
