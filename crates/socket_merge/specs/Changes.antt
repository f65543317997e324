-- The change records of a host: what becomes of its groups' filters (RFC 3376, section 5.1; RFC 3810, section 6.1).
use Rattle.std.specs.{Prelude.{◌≡◌, List, ◌++◌, map}, List.{filter, flat_map}}
use Rattle.amt_values.specs.{declared.address.Ip.{Ip}, Order.{ip_order}, Ascending.{ascending}}
use Rattle.source_filter.specs.{Changes.{changes_on}, Merging.{merged}, declared.record.Record.{Record}}
use Rattle.group_records.specs.{Written.{is_of_family}, declared.family.Family.{Family}}
use Rattle.socket_merge.specs.{FullReport.{groups_of}, History.{AcceptedCall, Socket, SocketCall, sockets_after}, Interface.{filters_on, interface}}

-- the groups of the family that some of the sockets has, ascending
abbrev pub groups_among : Family → List Socket → List Ip
groups_among family sockets = filter (is_of_family family) (ascending ip_order (map (λ socket. socket.group) sockets))

-- the change records of a group, from its one filter for the sockets before to that for those after
abbrev pub changed_on : List Socket → List Socket → Ip → List Record
changed_on before after group = changes_on (merged (filters_on group before)) (merged (filters_on group after)) group

-- those of each group of the family that has a socket before or after, by group
unfoldable pub changes_between : Family → List Socket → List Socket → List Record
changes_between family before after = flat_map (changed_on before after) (groups_among family (before ++ after))

-- the sockets after are those before with one call made
pub record IsOneCallAfter (before after : List Socket) : Type 0 where
  pub call : SocketCall
  pub made : after ≡ sockets_after call before

-- the records of the changes from one history to a later one, by group, on the groups of the family that
-- sockets were opened of; none where every filter is as before
unfoldable pub change_records : Family → List AcceptedCall → List AcceptedCall → List Record
change_records family before after =
    flat_map (λ group. changes_on (interface before group) (interface after group) group) (groups_of family after)
