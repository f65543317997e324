-- A clearing of an endpoint with no membership changes nothing, then or later.
use Rattle.std.proofs.{Common.{◌≡◌, ℕ, ◌≤◌, ◌<◌, max, Bool, false, not, ◌&&◌, ◌||◌, List, [], ◌∷◌, ◌++◌, reverse, map, filter, Option, None, refl, sym, ap, subst, ◌∙◌, arith, inl, inr}, lemmas.{Bool.{cases_Bool}, List.{append_assoc, reverse-append, reverse-reverse}}}
use Rattle.amt_values.specs.{declared.address.Ip.{Ip}, EndpointValue.{EndpointValue}}
use Rattle.source_filter.specs.{declared.record.Record.{Record}, Filter.{filter_after_all}}
use Rattle.endpoint_membership.specs.{declared.{change.Change.{Change, TheVariants.{Clear, Mark}}, limits.Limits.{Limits}}, Membership.{Membership, is_fresh, endpoint_group_of}, Admission.{HasNoMembership}, Stored.{is_of_another, only}, Limits.{IsWithin}, Log.{brought, concerns, is_empty, latest, records_at}}
use Rattle.endpoint_membership.specs.{EndpointGroup.{EndpointGroup, same_endpoint, same_group}, Memberships.{is_live, membership_of, membership_in, rows_of, row_of, membership_at, memberships_at}, Table.{Holds, TableValue, TableSettings, memberships_now}}
use Rattle.endpoint_membership.proofs.{MembershipsByLog.{AreMembershipsAt-memberships_at, rows_are}, HoldsAfter.{Holds-clear, latest-reverse, no_later, table_of}, EndpointGroupOrder.{same_endpoint_group-is}, MembershipAt.{filter_in, membership_at-clear, membership_at-entry, membership_at-later, membership_at-other}, AfterEntries.{same_back, same_endpoint-exact}, CountedLive.{others_left}, WithinLimits.{IsWithin-filter}}

-- by two logs the pair has the same membership from now on
abbrev pub AreAlike : ℕ → EndpointGroup → List Change → List Change → Type 0
AreAlike lifetime endpoint_group one other =
    (latest one ≡ latest other) × ((moment : ℕ) → latest one ≤ moment → membership_at lifetime moment one endpoint_group ≡ membership_at lifetime moment other endpoint_group)

-- what is alike at the latest moment is alike from then on
alike_later : (lifetime : ℕ) (endpoint_group : EndpointGroup) (one other : List Change) → latest one ≡ latest other
    → membership_at lifetime (latest one) one endpoint_group ≡ membership_at lifetime (latest one) other endpoint_group → AreAlike lifetime endpoint_group one other
alike_later lifetime endpoint_group one other same now = (
  same,
  λ moment onward. membership_at-later lifetime (latest one) moment one endpoint_group onward
      ∙ ap (only (is_fresh lifetime moment)) now
      ∙ sym (membership_at-later lifetime (latest one) moment other endpoint_group onward),
)

nothing_there : (records : List Record) → not (is_empty records) ≡ false → records ≡ []
nothing_there [] none = refl
nothing_there (newest ∷ older) none = cc

-- what an entry does is alike where all was alike before
alike_now : (lifetime : ℕ) (endpoint_group : EndpointGroup) (one other : List Change) (entry : Change) → 0 < lifetime → AreAlike lifetime endpoint_group one other
    → latest (entry ∷ one) ≡ latest (entry ∷ other)
    → membership_at lifetime (latest (entry ∷ one)) (entry ∷ one) endpoint_group ≡ membership_at lifetime (latest (entry ∷ one)) (entry ∷ other) endpoint_group
alike_now lifetime endpoint_group one other entry some alike same =
    let moment = latest (entry ∷ one) in
    let records = reverse (records_at endpoint_group entry) in
    let turned = sym (reverse-reverse (records_at endpoint_group entry)) in
    let before = alike.1 moment (omega arith) in elim (cases_Bool (concerns endpoint_group entry)) [
      | inl here ↦ membership_at-entry lifetime entry one endpoint_group records some turned here
          ∙ ap (λ (row : Option Membership). membership_of endpoint_group (filter_after_all (filter_in row) records) moment) before
          ∙ sym (subst (λ (later : ℕ). membership_at lifetime later (entry ∷ other) endpoint_group ≡ membership_of endpoint_group (filter_after_all (filter_in (membership_at lifetime later other endpoint_group)) records) later)
          (sym same) (membership_at-entry lifetime entry other endpoint_group records some turned here))
      | inr apart ↦ membership_at-other lifetime moment entry one endpoint_group (nothing_there (records_at endpoint_group entry) apart)
          ∙ before
          ∙ sym (membership_at-other lifetime moment entry other endpoint_group (nothing_there (records_at endpoint_group entry) apart))
    ]

pub alike_all : (lifetime : ℕ) (endpoint_group : EndpointGroup) (one other newer : List Change) → 0 < lifetime → AreAlike lifetime endpoint_group one other
    → AreAlike lifetime endpoint_group (newer ++ one) (newer ++ other)
alike_all lifetime endpoint_group one other [] some alike = alike
alike_all lifetime endpoint_group one other (entry ∷ newer) some alike =
    let older = alike_all lifetime endpoint_group one other newer some alike in
    let same = ap (max (brought entry)) older.0 in
    alike_later lifetime endpoint_group (entry ∷ (newer ++ one)) (entry ∷ (newer ++ other)) same (alike_now lifetime endpoint_group (newer ++ one) (newer ++ other) entry some older same)

abbrev pub at_group : EndpointValue → Ip → EndpointGroup
at_group endpoint group = record { endpoint = endpoint; group = group }

-- a clearing of nothing and a mark are alike
pub alike_cleared : (lifetime : ℕ) (endpoint_group : EndpointGroup) (endpoint : EndpointValue) (at : ℕ) (past : List Change)
    → ((group : Ip) → membership_at lifetime (max at (latest past)) past (at_group endpoint group) ≡ None)
    → AreAlike lifetime endpoint_group (Clear endpoint at ∷ past) (Mark at ∷ past)
alike_cleared lifetime endpoint_group endpoint at past none =
    let moment = max at (latest past) in
    let marked = membership_at-other lifetime moment (Mark at) past endpoint_group refl in
    alike_later lifetime endpoint_group (Clear endpoint at ∷ past) (Mark at ∷ past) refl (elim (cases_Bool (same_endpoint endpoint_group.endpoint endpoint)) [
      | inl here ↦ membership_at-clear lifetime at endpoint past endpoint_group here
          ∙ sym (marked ∙ ap (λ (one : EndpointValue). membership_at lifetime moment past (at_group one endpoint_group.group)) (same_endpoint-exact endpoint_group.endpoint endpoint here) ∙ none endpoint_group.group)
      | inr apart ↦ membership_at-other lifetime moment (Clear endpoint at) past endpoint_group (rw apart refl) ∙ sym marked
    ])

pub reverse-around : (log later : List Change) (entry : Change) → reverse (log ++ entry ∷ later) ≡ reverse later ++ entry ∷ reverse log
reverse-around log later entry =
    reverse-append log (entry ∷ later)
    ∙ ap (λ (newer : List Change). newer ++ reverse log) (reverse-append (entry ∷ []) later)
    ∙ append_assoc (reverse later) (entry ∷ []) (reverse log)

-- where an endpoint has no membership, its clearing changes none
pub membership_at-unless_cleared : (lifetime : ℕ) (log later : List Change) (endpoint : EndpointValue) (at moment : ℕ) (endpoint_group : EndpointGroup) → 0 < lifetime
    → HasNoMembership lifetime (max at (latest log)) log endpoint → latest (log ++ Clear endpoint at ∷ later) ≤ moment
    → membership_at lifetime moment (reverse (log ++ Clear endpoint at ∷ later)) endpoint_group ≡ membership_at lifetime moment (reverse (log ++ Mark at ∷ later)) endpoint_group
membership_at-unless_cleared lifetime log later endpoint at moment endpoint_group some none onward =
    let cleared = reverse-around log later (Clear endpoint at) in
    let before = subst (λ (newest : ℕ). (group : Ip) → membership_at lifetime (max at newest) (reverse log) (at_group endpoint group) ≡ None) (sym (latest-reverse log)) none in
    let alike = alike_all lifetime endpoint_group (Clear endpoint at ∷ reverse log) (Mark at ∷ reverse log) (reverse later) some (alike_cleared lifetime endpoint_group endpoint at (reverse log) before) in
    let latest_one = sym (ap latest cleared) ∙ latest-reverse (log ++ Clear endpoint at ∷ later) in
    ap (λ (past : List Change). membership_at lifetime moment past endpoint_group) cleared
    ∙ alike.1 moment (omega (arith, latest_one, onward))
    ∙ sym (ap (λ (past : List Change). membership_at lifetime moment past endpoint_group) (reverse-around log later (Mark at)))

-- an endpoint that isn't live has no membership
pub unseen : (endpoint : EndpointValue) (group : Ip) (rows : List Membership) → is_live endpoint rows ≡ false → membership_in rows (at_group endpoint group) ≡ None
unseen endpoint group [] none = refl
unseen endpoint group (membership ∷ rest) none = elim (cases_Bool (same_endpoint membership.endpoint endpoint)) [
  | inl here ↦ let wrong = ap (λ (test : Bool). test || is_live endpoint rest) (sym here) ∙ none in absurd cc
  | inr apart ↦ let elsewhere = same_endpoint_group-is (at_group endpoint group) (endpoint_group_of membership)
      ∙ ap (λ (test : Bool). test && same_group group membership.group) (same_back endpoint membership.endpoint ∙ apart) in
      rw elsewhere (unseen endpoint group rest (ap (λ (test : Bool). test || is_live endpoint rest) (sym apart) ∙ none))
]

-- where an endpoint isn't live, its clearing changes no membership
pub rows-unless_cleared : (lifetime : ℕ) (log later : List Change) (endpoint : EndpointValue) (at moment : ℕ) → 0 < lifetime
    → is_live endpoint (memberships_at lifetime (max at (latest log)) log) ≡ false
    → latest (log ++ Clear endpoint at ∷ later) ≤ moment
    → rows_of lifetime moment (log ++ Clear endpoint at ∷ later) ≡ rows_of lifetime moment (log ++ Mark at ∷ later)
rows-unless_cleared lifetime log later endpoint at moment some none onward =
    let before = AreMembershipsAt-memberships_at lifetime (max at (latest log)) log in
    let cleared = AreMembershipsAt-memberships_at lifetime moment (log ++ Clear endpoint at ∷ later) in
    ap (λ (rows : List Membership). map row_of rows) (rows_are lifetime moment (log ++ Mark at ∷ later) (memberships_at lifetime moment (log ++ Clear endpoint at ∷ later)) (record {
      ascend = cleared.ascend;
      each = λ endpoint_group. cleared.each endpoint_group ∙ membership_at-unless_cleared lifetime log later endpoint at moment endpoint_group some
          (λ group. sym (before.each (at_group endpoint group)) ∙ unseen endpoint group (memberships_at lifetime (max at (latest log)) log) none) onward;
    }))

-- where no time passes, a table from which no membership is taken is as it was
pub none_cleared : (settings : TableSettings) (table : TableValue) (log : List Change) (endpoint : EndpointValue) (at moment : ℕ) (fresh rows : List Membership) → moment ≡ max table.moment at
    → fresh ≡ filter (is_fresh table.lifetime moment) table.rows → rows ≡ filter (is_of_another endpoint) fresh → Holds settings table log → at ≤ latest log
    → is_live endpoint fresh ≡ false → table_of moment table rows ≡ table
none_cleared settings table log endpoint at moment fresh rows is left gone holds before none =
    ap (table_of moment table) (gone ∙ others_left endpoint fresh none) ∙ no_later settings table log at moment fresh is left holds before

-- memberships after a clearing are within all limits that they were within before
pub IsWithin-cleared : (limits : Limits) (settings : TableSettings) (log : List Change) (endpoint : EndpointValue) (at : ℕ) → IsWithin limits (memberships_now settings log)
    → IsWithin limits (memberships_now settings (log ++ Clear endpoint at ∷ []))
IsWithin-cleared limits settings log endpoint at within =
    let before = memberships_now settings log in
    let cleared = log ++ Clear endpoint at ∷ [] in
    let moment = max (latest log) at in
    let fresh = filter (is_fresh settings.lifetime moment) before in
    let stands : Holds settings (record { moment = latest log; limits = settings.limits; in_force = settings.limits; lifetime = settings.lifetime; rows = before }) log =
    record { limits = refl; lifetime = refl; moment = refl; rows = AreMembershipsAt-memberships_at settings.lifetime (latest log) log } in
    let after = Holds-clear settings _ log endpoint at moment fresh (filter (is_of_another endpoint) fresh) refl refl refl stands in
    subst (IsWithin limits) (rows_are settings.lifetime (latest cleared) cleared (filter (is_of_another endpoint) fresh) after.rows)
    (IsWithin-filter limits (is_of_another endpoint) fresh (IsWithin-filter limits (is_fresh settings.lifetime moment) before within))
