-- Which socket calls are refused: the sockets of a host may list only so many sources that a full
-- report of either family is one datagram, even where merging saves nothing.
use Rattle.std.specs.{Prelude.{ℕ, ◌+◌, ◌≤◌, not, nat_le, nat_lt, ◌||◌, Bool, true, false, is_some, List, [], ◌∷◌, length, map, Option, Some, None}, List.{filter, flat_map}}
use Rattle.amt_values.specs.{declared.address.Ip.{Ip, TheVariants.{V4 as Address4, V6 as Address6}}, Conditions.{Conditions, first_holding}}
use Rattle.source_filter.specs.declared.record.{Record.{Record}, RecordKind.TheVariants.{IsIn}}
use Rattle.group_records.specs.{declared.family.Family.{Family, TheVariants.{V4, V6}}, Written.{report_length}}
use Rattle.socket_merge.specs.{History.{AcceptedCall, Open, Change, Close, LeaveAll, Socket, SocketCall, latest, open_sockets, socket_named, with_call}, Interface.{left_at, on_group}, FullReport.{groups_of, is_empty, longest_farewell}, declared.fault.SocketFault.{SocketFault, TheVariants.{NoSocket, ReportFull, SourcesFull, Taken}}}

-- the family of a group
abbrev pub family_of : Ip → Family
family_of (Address4 number) = V4
family_of (Address6 number) = V6

-- the sources that the sockets of a group list, with repeats
abbrev pub raw_sources : Ip → List Socket → List Ip
raw_sources group sockets = flat_map (λ socket. socket.filter.sources) (on_group group sockets)

-- the record of a group with these sources; its type changes nothing in its length
abbrev pub raw_record : List Socket → Ip → Record
raw_record sockets group = record { kind = IsIn; group = group; sources = raw_sources group sockets }

-- a farewell may still be due: the group was left at most so long before the moment
abbrev pub may_be_due : ℕ → Option ℕ → Bool
may_be_due at None = false
may_be_due at (Some left) = nat_le at (left + longest_farewell)

-- the group has a socket, or its farewell may still be due
abbrev pub has_place : List AcceptedCall → Ip → Bool
has_place history group =
    not (is_empty (on_group group (open_sockets history))) || may_be_due (latest history) (left_at history group)

-- the report of the family in which nothing is merged, after the newest call
abbrev pub raw_report : Family → List AcceptedCall → List Record
raw_report family history =
    map (raw_record (open_sockets history)) (filter (has_place history) (groups_of family history))

-- the number of its octets (RFC 3376, section 4.2; RFC 3810, section 5.2)
unfoldable pub raw_report_length : Family → List AcceptedCall → ℕ
raw_report_length family history = report_length family (raw_report family history)

-- the sockets of a group list at most so many sources, with repeats
abbrev pub source_limit : ℕ
source_limit = 32

-- a report has at most so many octets, so that it is one datagram
abbrev pub report_limit : ℕ
report_limit = 1400

-- both counts are within their limits
pub record IsWithinLimits (history : List AcceptedCall) : Type 0 where
  pub sources : (group : Ip) → length (raw_sources group (open_sockets history)) ≤ source_limit
  pub octets : (family : Family) → raw_report_length family history ≤ report_limit

-- neither count that is limited grows from one history to the other
pub record FillsNoMore (before after : List AcceptedCall) : Type 0 where
  pub sources : (group : Ip) → length (raw_sources group (open_sockets after)) ≤ length (raw_sources group (open_sockets before))
  pub octets : (family : Family) → raw_report_length family after ≤ raw_report_length family before

-- the limits, in the order in which they are tried, by the number of a group's raw sources and the
-- octets of the raw report of its family
abbrev pub limit_conditions : ℕ → ℕ → Conditions SocketFault
limit_conditions sources octets =
    (nat_lt source_limit sources, SourcesFull sources) ∷ (nat_lt report_limit octets, ReportFull octets) ∷ []

-- the limits that a filter of the group may pass, by the history with the call that sets it
abbrev pub limits_after : Ip → List AcceptedCall → Conditions SocketFault
limits_after group history =
    limit_conditions (length (raw_sources group (open_sockets history))) (raw_report_length (family_of group) history)

-- a socket of this name is open
abbrev pub is_open : List ℕ → List AcceptedCall → Bool
is_open name history = is_some (socket_named name (open_sockets history))

-- the conditions of a change, by the socket that has the name
abbrev pub change_conditions : Option Socket → List AcceptedCall → Conditions SocketFault
change_conditions None history = (true, NoSocket) ∷ []
change_conditions (Some socket) history = limits_after socket.group history

-- the conditions that refuse a call, in the order in which they are tried
abbrev pub conditions_of : ℕ → SocketCall → List AcceptedCall → Conditions SocketFault
conditions_of at (Open name group filter) history =
    (is_open name history, Taken) ∷ limits_after group (with_call at (Open name group filter) history)
conditions_of at (Change name filter) history =
    change_conditions (socket_named name (open_sockets history)) (with_call at (Change name filter) history)
conditions_of at (Close name) history = (not (is_open name history), NoSocket) ∷ []
conditions_of at LeaveAll history = []

-- why a call is refused that is made at the moment, if it is
unfoldable pub refusal_of : ℕ → SocketCall → List AcceptedCall → Option SocketFault
refusal_of at call history = first_holding (conditions_of at call history)
