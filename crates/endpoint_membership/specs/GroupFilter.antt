-- What records make of a group's filter. No filter is in these definitions: each record speaks for
-- itself, and for each source the newest record that applies to it counts. Lists of records stand
-- newest first.
use Rattle.std.specs.{Prelude.{Bool, true, false, not, List, [], ◌∷◌, ◌++◌, if◌then◌else◌}, List.{filter}}
use Rattle.amt_values.specs.declared.address.Ip.{Ip}
use Rattle.source_filter.specs.{Filter.{FilterValue, ascending_sources}, Record.{is_full, speaks, says}, declared.mode.Mode.TheVariants.{Include, Exclude}, declared.record.{Record.{Record}, RecordKind.{RecordKind, TheVariants.{IsIn, IsEx, ToIn, ToEx, Allow, Block}}}}

-- what the newest record that applies to the source says (RFC 3376, section 4.2.12), and no where
-- none applies
abbrev pub records_admit : List Record → Ip → Bool
records_admit [] source = false
records_admit (newest ∷ older) source = if speaks newest source then says newest source else records_admit older source

-- a record by which all sources but the listed ones are wanted
abbrev pub is_excluding : RecordKind → Bool
is_excluding IsIn = false
is_excluding IsEx = true
is_excluding ToIn = false
is_excluding ToEx = true
is_excluding Allow = false
is_excluding Block = false

-- the newest full record is IS_EX or TO_EX
abbrev pub excludes : List Record → Bool
excludes [] = false
excludes (newest ∷ older) = if is_full newest.kind then is_excluding newest.kind else excludes older

-- the sources that the records name, with repeats
abbrev pub named_sources : List Record → List Ip
named_sources [] = []
named_sources (newest ∷ older) = newest.sources ++ named_sources older

-- a source that a list of this mode lists: an unwanted one where the records exclude, and a wanted one otherwise
abbrev pub is_counted_source : List Record → Ip → Bool
is_counted_source records source = if excludes records then not (records_admit records source) else records_admit records source

-- the different named sources that are so, ascending; their number is the group's size
abbrev pub counted_sources : List Record → List Ip
counted_sources records = ascending_sources (filter (is_counted_source records) (named_sources records))

-- the same as a mode and a list
abbrev pub filter_of : List Record → FilterValue
filter_of records = record { mode = if excludes records then Exclude else Include; sources = counted_sources records }
