-- The histories of socket calls that a gateway of a family may have: each call was one that may come to it, and was
-- not refused when it came. So a full report after them is one datagram.
use Rattle.std.proofs.{Common.{◌≡◌, ℕ, Bool, true, false, not, List, [], ◌∷◌, ◌++◌, All, Option, Some, None, is_some, if◌then◌else◌, refl, sym, ap, subst, inl, inr}, lemmas.{Bool.{cond_both, or_cases}, List.Elements.{All-cons, All-filter, All-head, All-map, All-nil, All-push, All-tail, All-weaker}}}
use Rattle.amt_values.specs.{Conditions.{Conditions, first_holding}, Group.{is_forwardable}, Order.{ip_order}, Ascending.{has}, declared.address.Ip.{Ip}}
use Rattle.source_filter.specs.Filter.{FilterValue}
use Rattle.group_records.specs.{Written.{is_of_family}, declared.family.Family.{Family}}
use Rattle.socket_merge.specs.{History.{AcceptedCall, Change, Close, LeaveAll, Open, SocketCall, group_opened, groups_opened, open_sockets, refiltered, same_name, socket_named, sockets_after, with_call}, declared.stored.Socket.{Socket}, Interface.{same_group}, Kept.{IsLawful}, Refusal.{change_conditions, conditions_of, refusal_of}, declared.fault.SocketFault.{SocketFault}}
use Rattle.socket_merge.proofs.{Lawful.{IsLawful-next, IsLawful-none, MayCall as MayBeMade}, RawOctets.{family_is}, Wanted.{same_group-exact}}
use Rattle.gateway_machine.{specs.Refusals.{refusal_by, refusal_in}, proofs.OwnSockets.{filter-of_socket}}
use Rattle.amt_pair.specs.Events.{IsFilter}

-- the group is one of the family that packets are forwarded to
pub record IsGroupOf (family : Family) (group : Ip) : Type 0 where
  pub forwarded : is_forwardable group ≡ true
  pub own : is_of_family family group ≡ true

-- the filter is one with sources of the family
pub record IsFilterOf (family : Family) (filter : FilterValue) : Type 0 where
  pub is : IsFilter filter
  pub own : All (λ source. is_of_family family source ≡ true) filter.sources

-- the socket is one of a gateway of the family
pub record IsSocketOf (family : Family) (socket : Socket) : Type 0 where
  pub group : is_of_family family socket.group ≡ true
  pub filter : IsFilterOf family socket.filter

-- a call that may come to a gateway of the family: it opens only groups of the family that packets are
-- forwarded to
abbrev pub MayCall : Family → SocketCall → Type 0
MayCall family (Open name group filter) = IsGroupOf family group × IsFilterOf family filter
MayCall family (Change name filter) = IsFilterOf family filter
MayCall family call = Unit {0}

-- so it is after such calls, of which none was refused
pub record IsHistoryOf (family : Family) (history : List AcceptedCall) : Type 0 where
  pub lawful : IsLawful history
  pub groups : All (IsGroupOf family) (groups_opened history)
  pub sockets : All (IsSocketOf family) (open_sockets history)

-- ---- a call that a gateway doesn't refuse is accepted

-- each cause is told as a refusal
abbrev AreTold : Conditions SocketFault → Type 0
AreTold [] = Unit {0}
AreTold (condition ∷ rest) = (is_some (refusal_in condition.1) ≡ true) × AreTold rest

told-by : (test : Bool) (fault : SocketFault) (rest : Option SocketFault) → is_some (refusal_in fault) ≡ true → (refusal_by rest ≡ None → rest ≡ None)
    → refusal_by (if test then Some fault else rest) ≡ None → (if test then Some fault else rest) ≡ None
told-by true fault rest told later none = let no : is_some (refusal_in fault) ≡ false = ap is_some none in absurd cc
told-by false fault rest told later none = later none

told : (conditions : Conditions SocketFault) → AreTold conditions → refusal_by (first_holding conditions) ≡ None → first_holding conditions ≡ None
told [] are none = refl
told (condition ∷ rest) are none = told-by condition.0 condition.1 (first_holding rest) are.0 (told rest are.1) none

told-change : (socket : Option Socket) (after : List AcceptedCall) → AreTold (change_conditions socket after)
told-change None after = (refl, tt)
told-change (Some socket) after = (refl, (refl, tt))

told-call : (at : ℕ) (call : SocketCall) (history : List AcceptedCall) → AreTold (conditions_of at call history)
told-call at (Open name group filter) history = (refl, (refl, (refl, tt)))
told-call at (Change name filter) history = told-change (socket_named name (open_sockets history)) (with_call at (Change name filter) history)
told-call at (Close name) history = (refl, tt)
told-call at LeaveAll history = tt

unrefused : (at : ℕ) (call : SocketCall) (history : List AcceptedCall) → refusal_by (refusal_of at call history) ≡ None → refusal_of at call history ≡ None
unfolding refusal_of
unrefused at call history none = told (conditions_of at call history) (told-call at call history) none

-- ---- histories

module _ (family : Family) where
  sockets-after : (call : SocketCall) (sockets : List Socket) → MayCall family call → All (IsSocketOf family) sockets → All (IsSocketOf family) (sockets_after call sockets)
  sockets-after (Open name group filter) sockets may all =
      All-push (IsSocketOf family) sockets (record { name = name; group = group; filter = filter }) all (record { group = may.0.own; filter = may.1 })
  sockets-after (Change name filter) sockets may all =
      All-map (IsSocketOf family) (refiltered name filter) sockets
      (All-weaker (IsSocketOf family) (λ socket. IsSocketOf family (refiltered name filter socket)) (λ socket is.
      cond_both (same_name name socket.name) _ _ (IsSocketOf family) (λ _. record { group = is.group; filter = may }) (λ _. is)) sockets all)
  sockets-after (Close name) sockets may all = All-filter (λ socket. not (same_name name socket.name)) (IsSocketOf family) sockets all
  sockets-after LeaveAll sockets may all = All-nil (IsSocketOf family)

  groups-after : (call : SocketCall) (groups : List Ip) → MayCall family call → All (IsGroupOf family) groups → All (IsGroupOf family) (group_opened call ++ groups)
  groups-after (Open name group filter) groups may all = All-cons (IsGroupOf family) group groups may.0 all
  groups-after call groups may all = all

  -- a call that may come to a gateway may be made of its sockets
  may-made : (call : SocketCall) (sockets : List Socket) → MayCall family call → All (IsSocketOf family) sockets → MayBeMade call sockets
  may-made (Open name group filter) sockets may all =
      (may.0.forwarded, subst (λ (own : Family). All (λ source. is_of_family own source ≡ true) filter.sources) (family_is family group may.0.own) may.1.own)
  may-made (Change name filter) sockets may all = filter-of_socket family name sockets filter (λ k socket below. (all k socket below).group) may.own
  may-made (Close name) sockets may all = tt
  may-made LeaveAll sockets may all = tt

  pub IsHistoryOf-none : IsHistoryOf family []
  IsHistoryOf-none = record { lawful = IsLawful-none; groups = All-nil (IsGroupOf family); sockets = All-nil (IsSocketOf family) }

  pub IsHistoryOf-next : (at : ℕ) (call : SocketCall) (history : List AcceptedCall) → MayCall family call → refusal_by (refusal_of at call history) ≡ None
      → IsHistoryOf family history → IsHistoryOf family (with_call at call history)
  IsHistoryOf-next at call history may none is = record {
    lawful = IsLawful-next at call history is.lawful (may-made call (open_sockets history) may is.sockets) (unrefused at call history none);
    groups = groups-after call (groups_opened history) may is.groups;
    sockets = sockets-after call (open_sockets history) may is.sockets;
  }

-- what holds of the groups of a list holds of each that it has
pub has-such : (P : Ip → Type 0) (groups : List Ip) (group : Ip) → All P groups → has ip_order groups group ≡ true → P group
has-such P [] group all listed = absurd cc
has-such P (first ∷ more) group all listed = elim (or_cases (same_group group first) (has ip_order more group) listed) [
  | inl is ↦ subst P (sym (same_group-exact group first is)) (All-head P first more all)
  | inr later ↦ has-such P more group (All-tail P first more all) later
]
