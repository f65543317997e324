-- What a membership table stands for.
use Rattle.std.specs.Prelude.{◌≡◌, ℕ, ◌≤◌, max, ◌++◌, ◌∷◌, [], List, Option, Result, Ok, Err, reverse}
use Rattle.amt_values.specs.{EndpointValue.{EndpointValue}, Ascending.{IsAscending}}
use Rattle.source_filter.specs.declared.record.Record.{Record}
use Rattle.endpoint_membership.specs.{EndpointGroup.{EndpointGroup}, Limits.{Fits, IsWithin, first_limit}, Log.{latest}, Membership.{Membership, membership_order}, Memberships.{membership_at, membership_in, memberships_at}, declared.{change.Change.{Change, TheVariants.{Reported}}, limits.{AcceptFault.{AcceptFault, TheVariants.{Limit, Memory}}, LimitFault.{LimitFault}, Limits.{Limits}}}}

-- what contracts see of a table: the moment, the memberships, how it was made, and the limits by which
-- reports are judged now
pub record TableValue : Type 0 where
  pub moment : ℕ
  pub limits : Limits
  pub in_force : Limits
  pub lifetime : ℕ
  pub rows : List Membership

-- the limits, and the lifetime in milliseconds, by which a log is read
pub record TableSettings : Type 0 where
  pub limits : Limits
  pub lifetime : ℕ

-- the memberships ascend by endpoint and group, and are those by the entries
pub record AreMembershipsAt (lifetime moment : ℕ) (past : List Change) (rows : List Membership) : Type 0 where
  pub ascend : IsAscending membership_order rows
  pub each : (endpoint_group : EndpointGroup) → membership_in rows endpoint_group ≡ membership_at lifetime moment past endpoint_group

-- the table stands for the log, oldest entry first, by these settings
pub record Holds (settings : TableSettings) (table : TableValue) (log : List Change) : Type 0 where
  pub limits : table.limits ≡ settings.limits
  pub lifetime : table.lifetime ≡ settings.lifetime
  pub moment : table.moment ≡ latest log
  pub rows : AreMembershipsAt settings.lifetime (latest log) (reverse log) table.rows

-- of every log that the table stands for by these settings
abbrev pub ForLogBy : TableSettings → TableValue → (List Change → Type 0) → Type 0
ForLogBy settings table Fact = (log : List Change) → Holds settings table log → Fact log

-- of every log that the table stands for, and its settings
abbrev pub ForLog : TableValue → (TableSettings → List Change → Type 0) → Type 0
ForLog table Fact = (settings : TableSettings) → ForLogBy settings table (Fact settings)

-- what the table keeps is within the limits that it was made with
abbrev pub IsWithinLimits : TableValue → Type 0
IsWithinLimits table = IsWithin table.limits table.rows

-- the memberships by the log at its latest moment
abbrev pub memberships_now : TableSettings → List Change → List Membership
memberships_now settings log = memberships_at settings.lifetime (latest log) log

-- the limits and the lifetime that a table may have
pub record AreLawful (limits : Limits) (lifetime : ℕ) : Type 0 where
  pub some_time : 1 ≤ lifetime
  pub at_most : lifetime ≤ 1000000000
  pub endpoints : limits.endpoints ≤ 16777216
  pub groups : limits.groups ≤ 16777216
  pub sources : limits.sources ≤ 16777216

-- the settings with the limits in force, by which reports are judged
abbrev pub in_force_of : TableSettings → TableValue → TableSettings
in_force_of settings table = record settings { limits = table.in_force }

-- the memberships by the log at the moment of a report, without the report
abbrev pub memberships_without : TableSettings → List Change → ℕ → List Membership
memberships_without settings log at = memberships_at settings.lifetime (max at (latest log)) log

-- the memberships by the log with a report
abbrev pub memberships_with : TableSettings → List Change → EndpointValue → List Record → ℕ → List Membership
memberships_with settings log endpoint records at = memberships_now settings (log ++ Reported endpoint records at ∷ [])

-- by the log, the report fits the limits
abbrev pub ReportFits : TableSettings → List Change → EndpointValue → List Record → ℕ → Type 0
ReportFits settings log endpoint records at =
    Fits settings.limits endpoint records (memberships_without settings log at) (memberships_with settings log endpoint records at)

-- the limit that a report passes, by the log without it and with it
abbrev pub limit_passed : TableSettings → List Change → EndpointValue → List Record → ℕ → Option LimitFault
limit_passed settings log endpoint records at =
    first_limit settings.limits endpoint records (memberships_without settings log at) (memberships_with settings log endpoint records at)

-- what holds where a limit refused a report
abbrev pub OnLimit : Result (Unit {0}) AcceptFault → (LimitFault → Type 0) → Type 0
OnLimit (Ok done) P = Unit {0}
OnLimit (Err (Limit fault)) P = P fault
OnLimit (Err Memory) P = Unit {0}

-- what holds where memory ran out
abbrev pub OnMemory : Result (Unit {0}) AcceptFault → Type 0 → Type 0
OnMemory (Ok done) P = Unit {0}
OnMemory (Err (Limit fault)) P = Unit {0}
OnMemory (Err Memory) P = P
