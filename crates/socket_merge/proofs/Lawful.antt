-- Accepted calls keep histories lawful: names apart, sources of their families, and counts within the limits.
use Rattle.std.{proofs.{Common.{◌≡◌, ℕ, ◌≤◌, Bool, true, false, not, cond, is_some, List, [], ◌∷◌, ◌++◌, filter, length, Option, Some, None, refl, sym, ap, subst, ◌∙◌, append-nil, arith}, lemmas.{Bool.{cond-false, ltb-false}, List.{Elements.{All-cons, All-filter, All-head, All-nil, All-push, All-tail, filter-append}, Filters.{sum_by-filter_both}, Sums.{sum_by_push}}}}, specs.List.{All, flat_map}}
use Rattle.amt_values.{specs.{declared.address.Ip.{Ip}, Group.{is_forwardable}, Conditions.{first_holding}}, proofs.ConditionLaws.{NoneHolds-of, skipped}}
use Rattle.source_filter.specs.Filter.{FilterValue}
use Rattle.group_records.specs.{Written.{is_of_family}, declared.family.Family.{Family}}
use Rattle.socket_merge.specs.{FullReport.{is_empty}, History.{AcceptedCall, Change, Close, LeaveAll, Open, Socket, SocketCall, groups_opened, latest, open_sockets, socket_named, sockets_after, with_call}, Interface.{on_group, same_group}, Kept.{IsLawful, has_socket, listed, listed_in, listed_on}, Refusal.{FillsNoMore, IsWithinLimits, change_conditions, family_of, is_open, limit_conditions, limits_after, raw_report_length, raw_sources, refusal_of}, Sockets.{AreOfGroup}, declared.fault.SocketFault.{TheVariants.{Taken}}}
use Rattle.socket_merge.proofs.{Amounts.{AreApart-changed, AreApart-filter, AreApart-opened, HasName, HasName-of, has_name, kept-changed, sum-changed, sum-closed, with_filter}, HoldsAfter.{read_at}, RawOctets.{TakesAway, family_is, raw-sum, raw-taken, raw_sources-listed}, Reports.{IsOfOwnFamily}, Wanted.{same_group-exact}}

-- the sockets of the other groups are as they were
abbrev pub AreOthersKept : Ip → List Socket → List Socket → Type 0
AreOthersKept group before after = (other : Ip) → same_group other group ≡ false → on_group other after ≡ on_group other before

pub kept-opened : (sockets : List Socket) (socket : Socket) → AreOthersKept socket.group sockets (sockets ++ socket ∷ [])
kept-opened sockets socket other apart =
    filter-append (λ (one : Socket). same_group other one.group) sockets (socket ∷ [])
    ∙ ap (λ (test : Bool). on_group other sockets ++ cond test (socket ∷ []) []) apart ∙ append-nil (on_group other sockets)

-- ---- calls by which no count grows

filtered_by : (kept same : Bool) (group : Ip) (socket : Socket) (filtered on : List Socket) → same_group group socket.group ≡ same → (has_socket group filtered ≡ true → not (is_empty on) ≡ true)
    → has_socket group (cond kept (socket ∷ filtered) filtered) ≡ true → not (is_empty (cond same (socket ∷ on) on)) ≡ true
filtered_by kept true group socket filtered on is rest some = refl
filtered_by true false group socket filtered on is rest some =
    rest (ap (λ (test : Bool). not (is_empty (cond test (socket ∷ on_group group filtered) (on_group group filtered)))) (sym is) ∙ some)
filtered_by false false group socket filtered on is rest some = rest some

some_filtered : (test : Socket → Bool) (group : Ip) (sockets : List Socket) → has_socket group (filter test sockets) ≡ true → has_socket group sockets ≡ true
some_filtered test group [] some = some
some_filtered test group (socket ∷ more) some =
    filtered_by (test socket) (same_group group socket.group) group socket (filter test more) (on_group group more) refl (some_filtered test group more) some

listed_filtered : (test : Socket → Bool) (of : Ip → Bool) (sockets : List Socket) → listed of (filter test sockets) ≤ listed of sockets
listed_filtered test of sockets =
    omega (arith, sum_by-filter_both test (λ socket. not (test socket)) (λ _. refl) (λ (socket : Socket). cond (of socket.group) (length socket.filter.sources) 0) sockets)

-- no group gets more of anything by closing sockets
abbrev pub Closes : SocketCall → Type 0
Closes (Open name group filter) = ⊥
Closes (Change name filter) = ⊥
Closes (Close name) = Unit {0}
Closes LeaveAll = Unit {0}

taken_by : (call : SocketCall) (at : ℕ) (family : Family) (history : List AcceptedCall) → Closes call → TakesAway family (read_at at call history) history
taken_by (Open name group filter) at family history closes = absurd closes
taken_by (Change name filter) at family history closes = absurd closes
taken_by (Close name) at family history closes = record {
  onward = omega arith;
  some = λ group of some. some_filtered (λ socket. not (has_name name socket)) group (open_sockets history) some;
  less = listed_filtered (λ socket. not (has_name name socket)) (is_of_family family) (open_sockets history);
}
taken_by LeaveAll at family history closes = record { onward = omega arith; some = λ group of some. absurd cc; less = omega arith }

listed_by : (call : SocketCall) (group : Ip) (sockets : List Socket) → Closes call → listed_on group (sockets_after call sockets) ≤ listed_on group sockets
listed_by (Open name at filter) group sockets closes = absurd closes
listed_by (Change name filter) group sockets closes = absurd closes
listed_by (Close name) group sockets closes = listed_filtered (λ socket. not (has_name name socket)) (same_group group) sockets
listed_by LeaveAll group sockets closes = omega arith

pub fills_no_more : (at : ℕ) (call : SocketCall) (history : List AcceptedCall) → Closes call → FillsNoMore history (with_call at call history)
fills_no_more at call history closes = record {
  sources = λ group.
      omega (arith, raw_sources-listed group (open_sockets history), raw_sources-listed group (sockets_after call (open_sockets history)), listed_by call group (open_sockets history) closes);
  octets = λ family. raw-taken family (read_at at call history) history (taken_by call at family history closes);
}

limits_closed : (at : ℕ) (call : SocketCall) (history : List AcceptedCall) → Closes call → IsWithinLimits history → IsWithinLimits (with_call at call history)
limits_closed at call history closes limits =
    let less = fills_no_more at call history closes in
    record { sources = λ group. omega (arith, less.sources group, limits.sources group); octets = λ family. omega (arith, less.octets family, limits.octets family) }

-- ---- calls that set a filter

sources_by : (test : Bool) (group other : Ip) (before after : List Socket) → same_group other group ≡ test → length (raw_sources group after) ≤ 32 → AreOthersKept group before after
    → length (raw_sources other before) ≤ 32 → length (raw_sources other after) ≤ 32
sources_by true group other before after is own others few = subst (λ (at : Ip). length (raw_sources at after) ≤ 32) (sym (same_group-exact other group is)) own
sources_by false group other before after is own others few = subst (λ (on : List Socket). length (flat_map (λ (socket : Socket). socket.filter.sources) on) ≤ 32) (sym (others other is)) few

other_by : (test : Bool) (family : Family) (group other : Ip) → same_group other group ≡ test → is_of_family family group ≡ false → is_of_family family other ≡ true → test ≡ false
other_by true family group other is apart of = let same = ap (is_of_family family) (same_group-exact other group is) in cc
other_by false family group other is apart of = refl

octets_by : (test : Bool) (family : Family) (newest : AcceptedCall) (older : List AcceptedCall) (group : Ip) → is_of_family family group ≡ test → latest older ≤ newest.moment
    → raw_report_length (family_of group) (newest ∷ older) ≤ 1400 → AreOthersKept group (open_sockets older) (open_sockets (newest ∷ older))
    → (is_of_family family group ≡ false → listed_in family (open_sockets (newest ∷ older)) ≤ listed_in family (open_sockets older)) → raw_report_length family older ≤ 1400
    → raw_report_length family (newest ∷ older) ≤ 1400
octets_by true family newest older group is onward own others less short = subst (λ (one : Family). raw_report_length one (newest ∷ older) ≤ 1400) (sym (family_is family group is)) own
octets_by false family newest older group is onward own others less short =
    omega (
      arith,
      short,
      raw-taken family newest older (record {
        onward = onward;
        some = λ other of some. ap (λ (on : List Socket). not (is_empty on)) (sym (others other (other_by (same_group other group) family group other refl is of))) ∙ some;
        less = less is;
      }),
    )

-- a call that sets a filter of one group, within the limits
limits-one : (newest : AcceptedCall) (older : List AcceptedCall) (group : Ip) → latest older ≤ newest.moment → first_holding (limits_after group (newest ∷ older)) ≡ None
    → AreOthersKept group (open_sockets older) (open_sockets (newest ∷ older))
    → ((family : Family) → is_of_family family group ≡ false → listed_in family (open_sockets (newest ∷ older)) ≤ listed_in family (open_sockets older)) → IsWithinLimits older
    → IsWithinLimits (newest ∷ older)
limits-one newest older group onward none others less limits =
    let each = NoneHolds-of (limit_conditions (length (raw_sources group (open_sockets (newest ∷ older)))) (raw_report_length (family_of group) (newest ∷ older))) none in
    let few = ltb-false 32 (length (raw_sources group (open_sockets (newest ∷ older)))) each.0 in
    let short = ltb-false 1400 (raw_report_length (family_of group) (newest ∷ older)) each.1.0 in
    record {
      sources = λ other. sources_by (same_group other group) group other (open_sockets older) (open_sockets (newest ∷ older)) refl few others (limits.sources other);
      octets = λ family. octets_by (is_of_family family group) family newest older group refl onward short others (less family) (limits.octets family);
    }

none_found : (found : Option Socket) → is_some found ≡ false → found ≡ None
none_found None none = refl
none_found (Some socket) none = absurd cc

-- a call that may be made of these sockets
abbrev pub MayCall : SocketCall → List Socket → Type 0
MayCall (Open name group filter) sockets = (is_forwardable group ≡ true) × AreOfGroup group filter
MayCall (Change name filter) sockets = (socket : Socket) → socket_named name sockets ≡ Some socket → AreOfGroup socket.group filter
MayCall (Close name) sockets = Unit {0}
MayCall LeaveAll sockets = Unit {0}

All-again : (P : Socket → Type 0) (before after : List Socket) (one other : Socket) → P other → All P (before ++ one ∷ after) → All P (before ++ other ∷ after)
All-again P [] after one other is all = All-cons P other after is (All-tail P one after all)
All-again P (first ∷ more) after one other is all =
    All-cons P first (more ++ other ∷ after) (All-head P first (more ++ one ∷ after) all) (All-again P more after one other is (All-tail P first (more ++ one ∷ after) all))

lawful_changed : (at : ℕ) (name : List ℕ) (filter : FilterValue) (history : List AcceptedCall) (found : Option Socket) → IsLawful history → MayCall (Change name filter) (open_sockets history)
    → socket_named name (open_sockets history) ≡ found → first_holding (change_conditions found (with_call at (Change name filter) history)) ≡ None → IsLawful (with_call at (Change name filter) history)
lawful_changed at name filter history None lawful may is free = absurd cc
lawful_changed at name filter history (Some socket) lawful may is free =
    let sockets = open_sockets history in
    let named : HasName name socket sockets = HasName-of name socket sockets (lawful.apart name) is in
    record {
      apart = AreApart-changed name socket sockets named filter lawful.apart;
      forwarded = lawful.forwarded;
      family = subst (All IsOfOwnFamily) (sym (named.again filter))
          (All-again IsOfOwnFamily named.before named.after socket (with_filter filter socket) (may socket is) (subst (All IsOfOwnFamily) named.whole lawful.family));
      limits = limits-one (read_at at (Change name filter) history) history socket.group (omega arith) free (kept-changed name socket sockets named filter)
          (λ family apart.
          let measure : Socket → ℕ = λ one. cond (is_of_family family one.group) (length one.filter.sources) 0 in
          omega (arith, sum-closed name socket sockets named measure, sum-changed name socket sockets named measure filter, cond-false (is_of_family family socket.group) (length filter.sources) 0 apart)) lawful.limits;
    }

-- accepted calls leave a lawful history
pub IsLawful-next : (at : ℕ) (call : SocketCall) (history : List AcceptedCall) → IsLawful history → MayCall call (open_sockets history) → refusal_of at call history ≡ None → IsLawful (with_call at call history)
unfolding refusal_of
IsLawful-next at (Open name group filter) history lawful may free =
    let sockets = open_sockets history in
    let socket : Socket = record { name = name; group = group; filter = filter } in
    let next = with_call at (Open name group filter) history in
    let rest = skipped (is_open name history) Taken (limits_after group next) free in
    record {
      apart = AreApart-opened sockets socket lawful.apart (none_found (socket_named name sockets) rest.0);
      forwarded = All-cons (λ one. is_forwardable one ≡ true) group (groups_opened history) may.0 lawful.forwarded;
      family = All-push IsOfOwnFamily sockets socket lawful.family may.1;
      limits = limits-one (read_at at (Open name group filter) history) history group (omega arith) rest.1 (kept-opened sockets socket)
          (λ family apart. omega (arith, sum_by_push (λ (one : Socket). cond (is_of_family family one.group) (length one.filter.sources) 0) sockets socket, cond-false (is_of_family family group) (length filter.sources) 0 apart)) lawful.limits;
    }
IsLawful-next at (Change name filter) history lawful may free =
    lawful_changed at name filter history (socket_named name (open_sockets history)) lawful may refl free
IsLawful-next at (Close name) history lawful may free = record {
  apart = AreApart-filter (λ socket. not (has_name name socket)) (open_sockets history) lawful.apart;
  forwarded = lawful.forwarded;
  family = All-filter (λ socket. not (has_name name socket)) IsOfOwnFamily (open_sockets history) lawful.family;
  limits = limits_closed at (Close name) history tt lawful.limits;
}
IsLawful-next at LeaveAll history lawful may free =
    record { apart = λ name. omega arith; forwarded = lawful.forwarded; family = All-nil IsOfOwnFamily; limits = limits_closed at LeaveAll history tt lawful.limits }

-- as before any call
pub IsLawful-none : IsLawful []
IsLawful-none = record {
  apart = λ name. omega arith;
  forwarded = All-nil (λ group. is_forwardable group ≡ true);
  family = All-nil IsOfOwnFamily;
  limits = record { sources = λ group. omega arith; octets = λ family. omega (arith, raw-sum family []) };
}
