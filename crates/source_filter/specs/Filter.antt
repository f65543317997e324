-- Filters of one group (RFC 3376, section 3.2), and what a group record of the same listener makes
-- of them (section 4.2.12).
use Rattle.std.specs.Prelude.{Bool, true, false, not, List, [], ◌∷◌}
use Rattle.amt_values.specs.{declared.address.Ip.{Ip}, Order.{ip_order}, Ascending.{ascending, union, difference}}
use Rattle.source_filter.specs.{Record.{lists}, declared.mode.Mode.{Mode, TheVariants.{Include, Exclude}}, declared.record.{Record.{Record}, RecordKind.{RecordKind, TheVariants.{IsIn, IsEx, ToIn, ToEx, Allow, Block}}}}

-- what contracts see of a filter: its mode, and its sources, which ascend
pub record FilterValue : Type 0 where
  pub mode : Mode
  pub sources : List Ip

-- the listed sources are wanted, or all others
abbrev pub admits_by : Mode → Bool → Bool
admits_by Include listed = listed
admits_by Exclude listed = not listed

-- the filter lets the source in
abbrev pub admits : FilterValue → Ip → Bool
admits filter source = admits_by filter.mode (lists filter.sources source)

-- some source is wanted, by mode and list
abbrev pub wants_any_by : Mode → List Ip → Bool
wants_any_by Include [] = false
wants_any_by Include (source ∷ more) = true
wants_any_by Exclude sources = true

-- some source is wanted: INCLUDE of nothing is no membership (RFC 3376, section 3.1)
abbrev pub wants_any : FilterValue → Bool
wants_any filter = wants_any_by filter.mode filter.sources

-- a group of which nothing is wanted
abbrev pub nothing : FilterValue
nothing = record { mode = Include; sources = [] }

-- the different sources, ascending
abbrev pub ascending_sources : List Ip → List Ip
ascending_sources sources = ascending ip_order sources

-- IS and TO records set the mode; ALLOW and BLOCK leave it
abbrev pub mode_after : RecordKind → Mode → Mode
mode_after IsIn mode = Include
mode_after IsEx mode = Exclude
mode_after ToIn mode = Include
mode_after ToEx mode = Exclude
mode_after Allow mode = mode
mode_after Block mode = mode

-- IS and TO records replace the sources; ALLOW and BLOCK add to a filter's list or take from it
abbrev pub sources_after : RecordKind → Mode → List Ip → List Ip → List Ip
sources_after IsIn mode old listed = ascending_sources listed
sources_after IsEx mode old listed = ascending_sources listed
sources_after ToIn mode old listed = ascending_sources listed
sources_after ToEx mode old listed = ascending_sources listed
sources_after Allow Include old listed = union ip_order old listed
sources_after Allow Exclude old listed = difference ip_order old listed
sources_after Block Include old listed = difference ip_order old listed
sources_after Block Exclude old listed = union ip_order old listed

-- the filter after the record
abbrev pub filter_after : FilterValue → Record → FilterValue
filter_after filter group_record = record {
  mode = mode_after group_record.kind filter.mode;
  sources = sources_after group_record.kind filter.mode filter.sources group_record.sources;
}

-- the filter after records, oldest first
abbrev pub filter_after_all : FilterValue → List Record → FilterValue
filter_after_all filter [] = filter
filter_after_all filter (group_record ∷ later) = filter_after_all (filter_after filter group_record) later
