-- What the sockets of a host stand for.
use Rattle.std.specs.{Prelude.{◌≡◌, ℕ, ◌+◌, ◌≤◌, true, false, List, All, Option, Some, Result, IfErr}, List.{find}, Option.{option_map}}
use Rattle.amt_values.specs.{declared.address.Ip.{Ip}, Answer.{TellsCause}}
use Rattle.source_filter.specs.Filter.{FilterValue}
use Rattle.group_records.specs.Written.{is_of_family}
use Rattle.socket_merge.specs.{History.{AcceptedCall, Socket, latest, open_sockets, socket_named}, Interface.{is_wanted, left_at, same_group}, FullReport.{longest_farewell}, Refusal.{family_of}, declared.fault.SocketFault.{SocketFault, TheVariants.{Memory}}}

-- a group that isn't wanted any more, and when it was left
pub record Farewell : Type 0 where
  pub group : Ip
  pub left : ℕ

-- what contracts see of sockets: the moment of the last call, the open sockets in the order in which
-- they were opened, and the farewells, by group
pub record SocketsValue : Type 0 where
  pub moment : ℕ
  pub sockets : List Socket
  pub farewells : List Farewell

-- when a group was left, by the farewells
abbrev pub left_in : List Farewell → Ip → Option ℕ
left_in farewells group = option_map (λ one. one.left) (find (λ one. same_group group one.group) farewells)

-- A farewell that is kept is when the group was left; and where that was not too long before the
-- newest call, it is kept.
pub record IsKept (left : Option ℕ) (newest : ℕ) (kept : Option ℕ) : Type 0 where
  pub of_history : (moment : ℕ) → kept ≡ Some moment → left ≡ Some moment
  pub there : (moment : ℕ) → left ≡ Some moment → newest ≤ moment + longest_farewell → kept ≡ Some moment

-- the sockets stand for the history: of each group, what is kept of its farewell, and each farewell
pub record SocketsHold (value : SocketsValue) (history : List AcceptedCall) : Type 0 where
  pub moment : value.moment ≡ latest history
  pub sockets : value.sockets ≡ open_sockets history
  pub farewells : (group : Ip) → IsKept (left_at history group) (latest history) (left_in value.farewells group)
  pub each : All (λ one. left_at history one.group ≡ Some one.left) value.farewells

-- of every history that the sockets stand for
abbrev pub ForHistory : SocketsValue → (List AcceptedCall → Type 0) → Type 0
ForHistory value Fact = (history : List AcceptedCall) → SocketsHold value history → Fact history

-- the sources are of the group's family
abbrev pub AreOfGroup : Ip → FilterValue → Type 0
AreOfGroup group filter = All (λ source. is_of_family (family_of group) source ≡ true) filter.sources

-- the same of the group of the socket of this name, if there is one
abbrev pub AreOfSocket : List ℕ → SocketsValue → FilterValue → Type 0
AreOfSocket name value filter =
    (socket : Socket) → socket_named name value.sockets ≡ Some socket → AreOfGroup socket.group filter

-- a call that is refused answers why, and any other is accepted unless memory runs out
abbrev pub AnswersRefusal : {A : Type 0} → Option SocketFault → Result A SocketFault → Type 0
AnswersRefusal refusal result = TellsCause refusal result (IfErr result (λ fault. fault ≡ Memory))

-- farewells that can't be due any more are gone
abbrev pub HasNoOldFarewell : SocketsValue → Type 0
HasNoOldFarewell value = All (λ one. value.moment ≤ one.left + longest_farewell) value.farewells

-- each farewell stays, unless its group is wanted by the history
abbrev pub KeepsFarewells : List AcceptedCall → SocketsValue → SocketsValue → Type 0
KeepsFarewells history before after =
    (group : Ip) (left : ℕ) → left_in before.farewells group ≡ Some left → is_wanted history group ≡ false → left_in after.farewells group ≡ Some left
