-- What holds of each relay's table.
use Rattle.std.specs.Prelude.{List}
use Rattle.endpoint_membership.specs.{Table.{Holds, TableValue, TableSettings}, declared.change.Change.{Change}}

-- the table represents some log by these terms
abbrev pub HasLog : TableSettings → TableValue → Type 0
HasLog terms table = (log : List Change) × Holds terms table log
