-- A report that fits limits no greater than a table's leaves what the log tells within the table's.
use Rattle.std.proofs.Common.{◌≡◌, ℕ, Bool, true, false, List, [], ◌∷◌, refl, sym, ap, ◌∙◌, subst, arith, max, ◌++◌, reverse, if◌then◌else◌}
use Rattle.amt_values.specs.EndpointValue.{EndpointValue}
use Rattle.source_filter.specs.declared.record.Record.{Record}
use Rattle.endpoint_membership.specs.{Limits.{IsWithin, AreAtMost}, Log.{on_group, latest, records_at}, EndpointGroup.{EndpointGroup, same_endpoint}, Membership.{Membership, is_fresh}, Memberships.{membership_in, membership_at}, declared.{limits.Limits.{Limits}, change.Change.{Change, TheVariants.{Reported}}}, Table.{Holds, TableValue, TableSettings, memberships_now, memberships_without, memberships_with, ReportFits}}
use Rattle.endpoint_membership.proofs.{MembershipsByLog.{AreMembershipsAt-memberships_at}, HoldsAfter.{reverse-push, fresh_are, latest-push}, MembershipAt.{membership_at-other}, WithinLimits.{IsWithin-filter, IsWithin-report}}

silent_by : (here : Bool) (records : List Record) → records ≡ [] → (if here then reverse records else []) ≡ []
silent_by true records none = ap (λ (all : List Record). reverse all) none
silent_by false records none = refl

-- what is within limits stays so as time passes
pub IsWithin-later : (settings : TableSettings) (log : List Change) (at : ℕ) (given : Limits) → IsWithin given (memberships_now settings log)
    → IsWithin given (memberships_without settings log at)
IsWithin-later settings log at given within =
    let later = max at (latest log) in
    let now = memberships_now settings log in
    let table : TableValue = record { moment = latest log; limits = settings.limits; in_force = settings.limits; lifetime = settings.lifetime; rows = now } in
    let stands : Holds settings table log = record { limits = refl; lifetime = refl; moment = refl; rows = AreMembershipsAt-memberships_at settings.lifetime (latest log) log } in
    subst (IsWithin given) (fresh_are settings table log at later (omega arith) stands) (IsWithin-filter given (is_fresh settings.lifetime later) now within)

module _ (settings : TableSettings) (log : List Change) (endpoint : EndpointValue) (records : List Record) (at : ℕ) where
  abbrev entry : Change
  entry = Reported endpoint records at

  abbrev without : List Membership
  without = memberships_without settings log at

  abbrev after : List Membership
  after = memberships_with settings log endpoint records at

  -- a pair on which the report makes no record has the membership that it has without the report
  unconcerned : (place : EndpointGroup) → records_at place entry ≡ [] → membership_in after place ≡ membership_in without place
  unconcerned place none =
      let later = max at (latest log) in
      (AreMembershipsAt-memberships_at settings.lifetime (latest (log ++ entry ∷ [])) (log ++ entry ∷ [])).each place
      ∙ ap (λ (moment : ℕ). membership_at settings.lifetime moment (reverse (log ++ entry ∷ [])) place) (latest-push log entry)
      ∙ ap (λ (past : List Change). membership_at settings.lifetime later past place) (reverse-push log entry)
      ∙ membership_at-other settings.lifetime later entry (reverse log) place none
      ∙ sym ((AreMembershipsAt-memberships_at settings.lifetime later log).each place)

  pub IsWithin-fits : (given limits : Limits) → AreAtMost given limits → IsWithin given without → ReportFits (record settings { limits = limits }) log endpoint records at → IsWithin given after
  IsWithin-fits given limits less within fits =
      let later = max at (latest log) in
      IsWithin-report given limits endpoint records without after (AreMembershipsAt-memberships_at settings.lifetime later log).ascend
      (AreMembershipsAt-memberships_at settings.lifetime (latest (log ++ entry ∷ [])) (log ++ entry ∷ [])).ascend less within fits
      (λ place apart. unconcerned place (rw apart refl))
      (λ group membership silent found. sym (unconcerned (record { endpoint = endpoint; group = group }) (silent_by (same_endpoint endpoint endpoint) (on_group group records) silent)) ∙ found)
