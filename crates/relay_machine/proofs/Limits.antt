-- The memberships by the accepted log are within the limits, whatever the events.
use Rattle.std.proofs.Common.{ℕ, max, List, [], ◌∷◌, ◌++◌, reverse, filter, Option, Some, None, refl, arith}
use Rattle.response_mac.specs.declared.secret.Secret.{Secret}
use Rattle.endpoint_membership.specs.{Membership.{is_fresh}, Limits.{AreAtMost, IsWithin}, Log.{latest}, Table.{Holds, TableValue, TableSettings, memberships_now}, declared.{change.Change.{Change, TheVariants.{Clear, Mark, Reported}}, limits.Limits.{Limits}}}
use Rattle.endpoint_membership.proofs.{MembershipsByLog.{AreMembershipsAt-memberships_at}, Clearings.{IsWithin-cleared}, FittingReports.{IsWithin-fits, IsWithin-later}, HoldsAfter.{Holds-mark, IsWithin-log, none_where_it_fits}, WithinLimits.{IsWithin-filter}}
use Rattle.relay_machine.specs.{declared.{event.Event.{Event, TheVariants.{Moment}}, settings.Settings.{Settings}}, Accepted.{accepted_back, accepted_log, entry_after, with_change}, Events.{limits_at, now_of, secrets_of, settings_at}, Settings.{table_settings_of}}
use Rattle.relay_machine.proofs.{InForce.{AreAtMost-limits_at}, Judged.{MayEnter, may-enter}}

-- the memberships by the log are within the limits
abbrev IsLogWithin : TableSettings → List Change → Type 0
IsLogWithin terms log = IsWithin terms.limits (memberships_now terms log)

-- a table that represents the log
abbrev table_for : TableSettings → List Change → TableValue
table_for terms log = record { moment = latest log; limits = terms.limits; in_force = terms.limits; lifetime = terms.lifetime; rows = memberships_now terms log }

stands_for : (terms : TableSettings) (log : List Change) → Holds terms (table_for terms log) log
stands_for terms log = record { limits = refl; lifetime = refl; moment = refl; rows = AreMembershipsAt-memberships_at terms.lifetime (latest log) log }

-- as time passes
within-mark : (terms : TableSettings) (log : List Change) (at : ℕ) → IsLogWithin terms log → IsLogWithin terms (log ++ Mark at ∷ [])
within-mark terms log at within =
    let table = table_for terms log in
    let fresh = is_fresh terms.lifetime (max (latest log) at) in
    IsWithin-log terms _ (log ++ Mark at ∷ []) (Holds-mark terms table log at (max (latest log) at) (filter fresh table.rows) refl refl (stands_for terms log))
    (IsWithin-filter terms.limits fresh table.rows within)

-- by an entry that may be made: a report fits limits that are at most the settings'
within-entry : (terms : TableSettings) (limits : Limits) (log : List Change) (moment : ℕ) (entry : Option Change) → AreAtMost terms.limits limits
    → MayEnter (record terms { limits = limits }) log moment entry → IsLogWithin terms log → IsLogWithin terms (with_change log entry)
within-entry terms limits log moment None less may within = within
within-entry terms limits log moment (Some (Mark at)) less may within = within-mark terms log at within
within-entry terms limits log moment (Some (Clear endpoint at)) less may within = IsWithin-cleared terms.limits terms log endpoint at within
within-entry terms limits log moment (Some (Reported source records at)) less may within =
    IsWithin-fits terms log source records at terms.limits limits less (IsWithin-later terms log at terms.limits within)
    ((none_where_it_fits (record terms { limits = limits }) log source records at).0 may.1)

within-back : (settings : Settings) (first : Secret) (back : List Event) → IsLogWithin (table_settings_of settings) (accepted_back settings first back)
unfolding accepted_back
within-back settings first [] = record { endpoints = omega arith; groups = λ endpoint. omega arith; sources = tt }
within-back settings first (Moment moment ∷ earlier) =
    within-mark (table_settings_of settings) (accepted_back settings first earlier) (max (now_of (reverse earlier)) moment) (within-back settings first earlier)
within-back settings first (event ∷ earlier) =
    let log = accepted_back settings first earlier in
    let now = now_of (reverse earlier) in
    within-entry (table_settings_of settings) (limits_at settings (reverse earlier)) log now (entry_after settings first (reverse earlier) log event) (AreAtMost-limits_at settings (reverse earlier))
    (may-enter (settings_at settings (reverse earlier)) (secrets_of settings first (reverse earlier)) now log event refl) (within-back settings first earlier)

pub always_within : (settings : Settings) (first : Secret) (events : List Event)
    → IsWithin settings.limits (memberships_now (table_settings_of settings) (accepted_log settings first events))
always_within settings first events = within-back settings first (reverse events)
