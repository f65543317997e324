-- Which logs a view was told of.
use Rattle.std.specs.Prelude.{List, [], ◌∷◌}
use Rattle.endpoint_membership.specs.declared.change.Change.{Change}
use Rattle.published_table.specs.{Logs.{entries}, declared.told.Told.{Told, Nothing, Also'}}

-- the logs, newest first
abbrev pub logs_told : Told → List (List Change)
logs_told Nothing = []
logs_told (Also' _ before log) = entries log.value ∷ logs_told before
