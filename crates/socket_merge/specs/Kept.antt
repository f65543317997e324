-- How sockets are kept: by name, with a slot for the farewell of each group. No public contract says these words.
use Rattle.std.specs.Prelude.{◌≡◌, ℕ, ◌+◌, ◌*◌, ◌≤◌, not, ◌&&◌, ◌||◌, Bool, true, false, is_some, List, [], ◌∷◌, ◌++◌, length, map, All, sum_by, count_by, Option, Some, None, if◌then◌else◌}
use Rattle.std.specs.{List.{filter, filter_map, list_any}, Map.{lookup}, Option.{option_map, unwrap_or}}
use Rattle.amt_values.specs.{declared.address.Ip.{Ip}, Group.{is_forwardable}, Order.{ip_order}, Ascending.{ascending}}
use Rattle.source_filter.specs.{Filter.{wants_any}, Merging.{merged}, declared.record.Record.{Record}}
use Rattle.group_records.specs.{Family.{width}, Reading.{head_length}, Written.{is_of_family}, declared.family.Family.{Family}}
use Rattle.socket_merge.specs.{FullReport.{farewell, is_empty, is_recent, states}, History.{AcceptedCall, Socket, groups_opened, open_sockets, same_name}, Interface.{filters_on, on_group, same_group}, Refusal.{IsWithinLimits, may_be_due}, Sockets.{AreOfGroup, Farewell, SocketsHold, left_in}}

-- some socket is of the group
abbrev pub has_socket : Ip → List Socket → Bool
has_socket group sockets = not (is_empty (on_group group sockets))

-- some socket of the group wants a source
abbrev pub some_wants : Ip → List Socket → Bool
some_wants group sockets = list_any wants_any (filters_on group sockets)

-- how many sources the sockets list whose groups pass, with repeats
abbrev pub listed : (Ip → Bool) → List Socket → ℕ
listed test sockets = sum_by (λ socket. if test socket.group then length socket.filter.sources else 0) sockets

-- those of a group
abbrev pub listed_on : Ip → List Socket → ℕ
listed_on group sockets = listed (same_group group) sockets

-- and of a family
abbrev pub listed_in : Family → List Socket → ℕ
listed_in family sockets = listed (is_of_family family) sockets

-- the farewell in a slot, if there is one
abbrev pub farewell_of : Ip × Option ℕ → Option Farewell
farewell_of slot = option_map (λ left. record { group = slot.0; left = left }) slot.1

-- the farewells, by group
abbrev pub farewells_in : List (Ip × Option ℕ) → List Farewell
farewells_in slots = filter_map farewell_of slots

-- the slots of sockets and farewells: one for each group that has either
abbrev pub slots_of : List Socket → List Farewell → List (Ip × Option ℕ)
slots_of sockets farewells =
    map (λ group. (group, left_in farewells group))
    (ascending ip_order (map (λ socket. socket.group) sockets ++ map (λ one. one.group) farewells))

-- the slot of a group, if it has one
abbrev pub slot_at : List (Ip × Option ℕ) → Ip → Option (Option ℕ)
slot_at slots group = lookup (same_group group) slots

-- when a group was left, by its slot
abbrev pub kept_at : List (Ip × Option ℕ) → Ip → Option ℕ
kept_at slots group = unwrap_or (slot_at slots group) None

-- the slot of a group that has some socket or none, and this farewell
abbrev pub slot_of : Bool → Option ℕ → Option (Option ℕ)
slot_of some left = if some || is_some left then Some left else None

-- the farewell of a group after a call, by whether it is wanted then and was before
abbrev pub left_after : Bool → Bool → ℕ → Option ℕ → Option ℕ
left_after wanted before moment left = if wanted then None else (if before then Some moment else left)

-- a farewell, unless it can't be due any more
abbrev pub left_fresh : ℕ → Option ℕ → Option ℕ
left_fresh moment left = if may_be_due moment left then left else None

-- the slot of one group is another one, and no other is
abbrev pub HasSlot : Ip → Option (Option ℕ) → List (Ip × Option ℕ) → List (Ip × Option ℕ) → Type 0
HasSlot group slot before after =
    (other : Ip) → slot_at after other ≡ if same_group group other then slot else slot_at before other

-- what becomes of a slot, if there is one
abbrev pub made : (Option ℕ → Option (Option ℕ)) → Option (Option ℕ) → Option (Option ℕ)
made to None = None
made to (Some left) = to left

-- each slot is made another one, or none
abbrev pub AreMade : (Ip → Option ℕ → Option (Option ℕ)) → List (Ip × Option ℕ) → List (Ip × Option ℕ) → Type 0
AreMade to before after = (group : Ip) → slot_at after group ≡ made (to group) (slot_at before group)

-- the slot of a group that is left without sockets
abbrev pub slot_left : List Socket → ℕ → Ip → Option ℕ → Option (Option ℕ)
slot_left sockets moment group left = slot_of false (left_after false (some_wants group sockets) moment left)

-- the slot without a farewell that can't be due any more
abbrev pub slot_fresh : List Socket → ℕ → Ip → Option ℕ → Option (Option ℕ)
slot_fresh sockets moment group left =
    if not (is_some left) || (is_some (left_fresh moment left) || has_socket group sockets) then Some (left_fresh moment left) else None

-- another group of the family has a socket, or a farewell that may still be due
abbrev pub has_place_besides : List Socket → Family → ℕ → Ip → Ip × Option ℕ → Bool
has_place_besides sockets family moment group slot =
    not (same_group group slot.0)
    && (is_of_family family slot.0 && (not (is_some slot.1) || (may_be_due moment slot.1 || has_socket slot.0 sockets)))

-- how many such groups there are
abbrev pub places_besides : List Socket → Family → ℕ → Ip → List (Ip × Option ℕ) → ℕ
places_besides sockets family moment group slots = length (filter (has_place_besides sockets family moment group) slots)

-- the octets of a report with so many records that list so many sources
abbrev pub raw_octets : Family → ℕ → ℕ → ℕ
raw_octets family records sources = 8 + (records * head_length family + sources * width family)

-- what a full report says of a group
abbrev pub said_on : List Socket → ℕ → ℕ → Ip × Option ℕ → List Record
said_on sockets at keep slot =
    if wants_any (merged (filters_on slot.0 sockets)) then states slot.0 (merged (filters_on slot.0 sockets)) ∷ []
    else (if is_recent at keep slot.1 then farewell slot.0 ∷ [] else [])

-- and that of the family, where the group is of it
abbrev pub said_of : Family → List Socket → ℕ → ℕ → Ip × Option ℕ → List Record
said_of family sockets at keep slot = if is_of_family family slot.0 then said_on sockets at keep slot else []

-- a farewell of some group lasts at the moment
abbrev pub some_recent : ℕ → ℕ → List (Ip × Option ℕ) → Bool
some_recent at keep slots = list_any (λ slot. is_recent at keep slot.1) slots

-- No two open sockets have one name, the groups are forwarded, the sources are of their families, and the
-- limits are kept: so it is after calls that were made as they may be, and accepted.
pub record IsLawful (history : List AcceptedCall) : Type 0 where
  pub apart : (name : List ℕ) → count_by (λ socket. same_name name socket.name) (open_sockets history) ≤ 1
  pub forwarded : All (λ group. is_forwardable group ≡ true) (groups_opened history)
  pub family : All (λ socket. AreOfGroup socket.group socket.filter) (open_sockets history)
  pub limits : IsWithinLimits history

-- Sockets and slots stand for such a history, and there is a slot for each group with a socket or a
-- farewell, and no other.
pub record IsSound (moment : ℕ) (sockets : List Socket) (slots : List (Ip × Option ℕ)) : Type 0 where
  pub history : List AcceptedCall
  pub holds : SocketsHold (record { moment = moment; sockets = sockets; farewells = farewells_in slots }) history
  pub lawful : IsLawful history
  pub back : slots_of sockets (farewells_in slots) ≡ slots
