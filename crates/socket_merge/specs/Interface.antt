-- What a host wants of each group by its socket calls (RFC 3376, section 3.2), and when it left one.
use Rattle.std.specs.{Prelude.{ℕ, Bool, List, [], ◌∷◌, map, Option, Some, None, if◌then◌else◌}, List.{filter, list_any}, Ordering.{eq_by_cmp}}
use Rattle.amt_values.specs.{declared.address.Ip.{Ip}, Order.{ip_order}}
use Rattle.source_filter.specs.{Filter.{FilterValue, admits, wants_any}, Merging.{merged}}
use Rattle.socket_merge.specs.History.{AcceptedCall, Socket, open_sockets}

-- the groups are one
abbrev pub same_group : Ip → Ip → Bool
same_group one other = eq_by_cmp ip_order one other

-- the sockets of the group
abbrev pub on_group : Ip → List Socket → List Socket
on_group group sockets = filter (λ socket. same_group group socket.group) sockets

-- their filters
abbrev pub filters_on : Ip → List Socket → List FilterValue
filters_on group sockets = map (λ socket. socket.filter) (on_group group sockets)

-- some socket of the group lets the source in
abbrev pub some_admits : Ip → Ip → List Socket → Bool
some_admits group source sockets = list_any (λ filter. admits filter source) (filters_on group sockets)

-- some open socket of the group lets the source in
abbrev pub wants : List AcceptedCall → Ip → Ip → Bool
wants history group source = some_admits group source (open_sockets history)

-- the interface state of the group: one filter for all of its sockets (RFC 3376, section 3.2)
abbrev pub interface : List AcceptedCall → Ip → FilterValue
interface history group = merged (filters_on group (open_sockets history))

-- the host listens to the group: INCLUDE of nothing is no reception state (RFC 3376, section 3.1)
abbrev pub is_wanted : List AcceptedCall → Ip → Bool
is_wanted history group = wants_any (interface history group)

-- the moment of the last call by which the group stopped being wanted, where it isn't wanted now
abbrev pub left_at : List AcceptedCall → Ip → Option ℕ
left_at [] group = None
left_at (newest ∷ older) group =
    if is_wanted (newest ∷ older) group then None
    else (if is_wanted older group then Some newest.moment else left_at older group)
