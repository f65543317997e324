-- A membership table, and what goes upstream, of one log.
use Rattle.std.specs.Prelude.{◌≤◌, List}
use Rattle.endpoint_membership.specs.{Table.{Holds, IsWithinLimits, TableSettings, TableValue}, declared.change.Change.{Change, TheVariants.{Reported, Clear, Mark}}}
use Rattle.source_filter.specs.Record.{item_count}

-- some log is that of both, and its memberships are within the limits
pub record AreOfOneLog (table upstream : TableValue) : Type 0 where
  pub settings : TableSettings
  pub log : List Change
  pub table_holds : Holds settings table log
  pub upstream_holds : Holds settings upstream log
  pub within : IsWithinLimits table

-- a report has few records and sources
abbrev pub HasFewItems : Change → Type 0
HasFewItems (Reported endpoint records at) = item_count records ≤ 16777216
HasFewItems (Clear endpoint at) = Unit {0}
HasFewItems (Mark at) = Unit {0}
