-- A table that accepts what a publisher takes, as a relay's does.
use Rattle.std.specs.Prelude.{List, ◌++◌}
use Rattle.endpoint_membership.specs.{Table.{Holds, IsWithinLimits, TableValue}, declared.change.Change.{Change}}
use Rattle.published_table.specs.{Publishers.{owing, published, reading_terms}, Terms.{settings_by}, declared.publisher.Publisher.{Publisher}}

-- what is published, and then what is owed
abbrev pub whole_log : Publisher → List Change
whole_log publisher = published publisher ++ owing publisher

-- the table represents that log, and is within its limits
pub record Follows (table : TableValue) (publisher : Publisher) : Type 0 where
  pub stands : Holds (settings_by (reading_terms publisher)) table (whole_log publisher)
  pub within : IsWithinLimits table
