-- The full report of a host: the answer to a General Query, with a farewell for each group that was
-- left not long ago, so that a lost report of leaving it is made good (RFC 3376, sections 5.1 and 5.2).
use Rattle.std.specs.{Prelude.{ℕ, ◌+◌, min, nat_lt, not, ◌&&◌, Bool, true, false, List, [], ◌∷◌, Option, Some, None, if◌then◌else◌}, List.{filter, flat_map, list_any}}
use Rattle.amt_values.specs.{declared.address.Ip.{Ip}, Order.{ip_order}, Ascending.{ascending}}
use Rattle.source_filter.specs.{Filter.{FilterValue}, declared.mode.Mode.{Mode, TheVariants.{Include, Exclude}}, declared.record.{Record.{Record}, RecordKind.{RecordKind, TheVariants.{IsIn, IsEx, ToIn}}}}
use Rattle.group_records.specs.{declared.family.Family.{Family, TheVariants.{V4, V6}}, Written.{is_of_family}}
use Rattle.socket_merge.specs.{History.{AcceptedCall, groups_opened, open_sockets}, Interface.{interface, is_wanted, left_at}}

-- how long a farewell may last, in milliseconds: a longer time is read as this one
abbrev pub longest_farewell : ℕ
longest_farewell = 100000000

-- the family of IPv6 groups, or of IPv4 groups
abbrev pub family_by : Bool → Family
family_by true = V6
family_by false = V4

-- the record that states a filter of this mode (RFC 3376, section 4.2.12)
abbrev pub state_kind : Mode → RecordKind
state_kind Include = IsIn
state_kind Exclude = IsEx

-- the current-state record of a group
abbrev pub states : Ip → FilterValue → Record
states group filter = record { kind = state_kind filter.mode; group = group; sources = filter.sources }

-- nothing is wanted of the group any more: TO_IN of nothing (RFC 3376, section 5.1)
abbrev pub farewell : Ip → Record
farewell group = record { kind = ToIn; group = group; sources = [] }

-- a group was left less than so long before the moment
abbrev pub is_recent : ℕ → ℕ → Option ℕ → Bool
is_recent at keep None = false
is_recent at keep (Some left) = nat_lt at (left + min keep longest_farewell)

-- what a full report says of a group at a moment, with farewells that last so long
abbrev pub full_on : List AcceptedCall → ℕ → ℕ → Ip → List Record
full_on history at keep group =
    if is_wanted history group then states group (interface history group) ∷ []
    else (if is_recent at keep (left_at history group) then farewell group ∷ [] else [])

-- the groups of the family that sockets were opened of, ascending
abbrev pub groups_of : Family → List AcceptedCall → List Ip
groups_of family history = filter (is_of_family family) (ascending ip_order (groups_opened history))

-- the full report of the family at a moment: what is said of each group, by group
unfoldable pub full_report_of : Family → List AcceptedCall → ℕ → ℕ → List Record
full_report_of family history at keep = flat_map (full_on history at keep) (groups_of family history)

-- the list has no item
abbrev pub is_empty : {X : Type 0} → List X → Bool
is_empty [] = true
is_empty (x ∷ xs) = false

-- no socket is open, and no farewell lasts at the moment
abbrev pub is_quiet : List AcceptedCall → ℕ → ℕ → Bool
is_quiet history at keep =
    is_empty (open_sockets history) && not (list_any (λ group. is_recent at keep (left_at history group)) (groups_opened history))
