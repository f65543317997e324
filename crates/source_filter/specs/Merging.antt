-- The one filter of an interface for all its sockets (RFC 3376, section 3.2).
use Rattle.std.specs.Prelude.{List, [], ◌∷◌, ◌++◌, Option, Some, None}
use Rattle.amt_values.specs.{declared.address.Ip.{Ip}, Order.{ip_order}, Ascending.{difference, intersection}}
use Rattle.source_filter.specs.{Filter.{FilterValue, ascending_sources}, declared.mode.Mode.{Mode, TheVariants.{Include, Exclude}}}

-- the list of a filter in INCLUDE mode
abbrev pub include_list : Mode → List Ip → List (List Ip)
include_list Include sources = sources ∷ []
include_list Exclude sources = []

-- the list of a filter in EXCLUDE mode
abbrev pub exclude_list : Mode → List Ip → List (List Ip)
exclude_list Include sources = []
exclude_list Exclude sources = sources ∷ []

-- the lists of the filters in INCLUDE mode
abbrev pub include_lists : List FilterValue → List (List Ip)
include_lists [] = []
include_lists (filter ∷ more) = include_list filter.mode filter.sources ++ include_lists more

-- the lists of the filters in EXCLUDE mode
abbrev pub exclude_lists : List FilterValue → List (List Ip)
exclude_lists [] = []
exclude_lists (filter ∷ more) = exclude_list filter.mode filter.sources ++ exclude_lists more

-- the sources of all lists, one list after another
abbrev pub all_sources : List (List Ip) → List Ip
all_sources [] = []
all_sources (first ∷ more) = first ++ all_sources more

-- the sources that some list has
abbrev pub union_of : List (List Ip) → List Ip
union_of source_lists = ascending_sources (all_sources source_lists)

-- the sources of a list that all others have too
abbrev pub common_sources : List Ip → List (List Ip) → List Ip
common_sources first [] = first
common_sources first (next ∷ more) = common_sources (intersection ip_order first next) more

-- the sources that each list has, where there is a list
abbrev pub intersection_of : List (List Ip) → Option (List Ip)
intersection_of [] = None
intersection_of (first ∷ more) = Some (common_sources first more)

-- by the sources that all filters in EXCLUDE mode exclude, where there is one, and those that some filter
-- in INCLUDE mode includes
abbrev pub merged_by : Option (List Ip) → List Ip → FilterValue
merged_by None included = record { mode = Include; sources = included }
merged_by (Some excluded) included = record { mode = Exclude; sources = difference ip_order excluded included }

-- where some filter is in EXCLUDE mode, EXCLUDE of the intersection of the EXCLUDE lists, less each source
-- in an INCLUDE list; else INCLUDE of the union of all lists
abbrev pub merged : List FilterValue → FilterValue
merged filters = merged_by (intersection_of (exclude_lists filters)) (union_of (include_lists filters))
