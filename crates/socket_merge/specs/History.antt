-- The socket calls of a host (RFC 3376, section 2), and the sockets that they leave open.
--
-- A history stands newest call first: what is said of it by recursion reads it from its newest call,
-- and the next call is put before it. Each call has the moment as which it was read.
use Rattle.std.specs.{Prelude.{ℕ, max, nat_eq, not, Bool, List, [], ◌∷◌, ◌++◌, map, Option, if◌then◌else◌}, Cmp.Lexicographic.{pointwise}, List.{filter, find}}
use Rattle.amt_values.specs.declared.address.Ip.{Ip}
use Rattle.source_filter.specs.Filter.{FilterValue}
-- an open socket (RFC 3376, section 3.1): its name, its group and its filter
pub use Rattle.socket_merge.specs.declared.stored.Socket.{Socket}

-- a call; a name is a list of octets
pub data SocketCall : Type 0 where
  -- a socket of this name joins the group, with its filter
  Open : (name : List ℕ) (group : Ip) (filter : FilterValue) → SocketCall
  -- the socket has another filter
  Change : (name : List ℕ) (filter : FilterValue) → SocketCall
  -- the socket leaves its group
  Close : (name : List ℕ) → SocketCall
  -- every socket leaves its group
  LeaveAll : SocketCall

-- a call that was accepted, and when
pub record AcceptedCall : Type 0 where
  pub moment : ℕ
  pub call : SocketCall

-- the moment of the newest call, or 0
abbrev pub latest : List AcceptedCall → ℕ
latest [] = 0
latest (newest ∷ older) = newest.moment

-- a moment as a call reads it: time doesn't run backwards
abbrev pub moment_read : ℕ → List AcceptedCall → ℕ
moment_read at history = max (latest history) at

-- the history with one more call, made at the moment
abbrev pub with_call : ℕ → SocketCall → List AcceptedCall → List AcceptedCall
with_call at call history = record { moment = moment_read at history; call = call } ∷ history

-- the names are one
abbrev pub same_name : List ℕ → List ℕ → Bool
same_name one other = pointwise nat_eq one other

-- the socket with another filter, where it has the name
abbrev pub refiltered : List ℕ → FilterValue → Socket → Socket
refiltered name filter socket =
    if same_name name socket.name then record { name = socket.name; group = socket.group; filter = filter } else socket

-- the open sockets after a call
abbrev pub sockets_after : SocketCall → List Socket → List Socket
sockets_after (Open name group filter) sockets = sockets ++ record { name = name; group = group; filter = filter } ∷ []
sockets_after (Change name filter) sockets = map (refiltered name filter) sockets
sockets_after (Close name) sockets = filter (λ socket. not (same_name name socket.name)) sockets
sockets_after LeaveAll sockets = []

-- the open sockets, in the order in which they were opened
abbrev pub open_sockets : List AcceptedCall → List Socket
open_sockets [] = []
open_sockets (newest ∷ older) = sockets_after newest.call (open_sockets older)

-- the socket of this name
abbrev pub socket_named : List ℕ → List Socket → Option Socket
socket_named name sockets = find (λ socket. same_name name socket.name) sockets

-- the groups that a call opens a socket of
abbrev pub group_opened : SocketCall → List Ip
group_opened (Open name group filter) = group ∷ []
group_opened (Change name filter) = []
group_opened (Close name) = []
group_opened LeaveAll = []

-- the groups that sockets were opened of, with repeats
abbrev pub groups_opened : List AcceptedCall → List Ip
groups_opened [] = []
groups_opened (newest ∷ older) = group_opened newest.call ++ groups_opened older
