-- The records that tell of a change of a group's filter (RFC 3376, section 5.1).
use Rattle.std.specs.Prelude.{List, [], ◌∷◌, ◌++◌}
use Rattle.amt_values.specs.{declared.address.Ip.{Ip}, Order.{ip_order}, Ascending.{difference}}
use Rattle.source_filter.specs.{Filter.{FilterValue}, declared.mode.Mode.{Mode, TheVariants.{Include, Exclude}}, declared.record.{Record.{Record}, RecordKind.{RecordKind, TheVariants.{ToIn, ToEx, Allow, Block}}}}

-- a record of these sources; without a source it is left out
abbrev pub record_of_some : RecordKind → Ip → List Ip → List Record
record_of_some kind group [] = []
record_of_some kind group (source ∷ more) = record { kind = kind; group = group; sources = source ∷ more } ∷ []

-- the table by the two modes: the old list, then the new one
abbrev pub changes_by : Mode → Mode → Ip → List Ip → List Ip → List Record
changes_by Include Include group old new =
    record_of_some Allow group (difference ip_order new old) ++ record_of_some Block group (difference ip_order old new)
changes_by Exclude Exclude group old new =
    record_of_some Allow group (difference ip_order old new) ++ record_of_some Block group (difference ip_order new old)
changes_by Include Exclude group old new = record { kind = ToEx; group = group; sources = new } ∷ []
changes_by Exclude Include group old new = record { kind = ToIn; group = group; sources = new } ∷ []

-- the change records from the old filter to the new one
abbrev pub changes_on : FilterValue → FilterValue → Ip → List Record
changes_on old new group = changes_by old.mode new.mode group old.sources new.sources
