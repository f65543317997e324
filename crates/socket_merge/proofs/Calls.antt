-- What each call of the sockets leaves, by what its private calls answer.
use Rattle.std.{proofs.{Common.{◌≡◌, ℕ, ◌+◌, ◌≤◌, max, Bool, true, false, ◌||◌, cond, is_some, List, [], ◌∷◌, length, Option, Some, None, IsSome, refl, sym, ap, subst, ◌∙◌, arith}, lemmas.{Bool.{leb-true}, List.Elements.{All-nil}}}, specs.{List.{All}, Map.{keys_of}}}
use Rattle.amt_values.specs.{declared.address.Ip.{Ip}, Order.{ip_order}, Ascending.{IsAscending}}
use Rattle.source_filter.specs.Filter.{FilterValue}
use Rattle.socket_merge.specs.{FullReport.{longest_farewell}, History.{AcceptedCall, Change, Close, LeaveAll, Open, Socket, SocketCall, latest, open_sockets, socket_named, sockets_after, with_call}, Interface.{filters_on, is_wanted, left_at, on_group, same_group}, Kept.{AreMade, HasSlot, IsSound, farewells_in, has_socket, kept_at, left_after, left_fresh, listed_in, listed_on, places_besides, raw_octets, slot_at, slot_fresh, slot_left, slot_of, slots_of, some_wants}, Refusal.{IsWithinLimits, family_of, has_place, may_be_due, raw_sources, refusal_of}, Sockets.{Farewell, HasNoOldFarewell, IsKept, KeepsFarewells, SocketsHold, SocketsValue, left_in}, declared.fault.SocketFault.{SocketFault}}
use Rattle.socket_merge.proofs.{Amounts.{AreApart, HasName, HasName-of, kept-changed, kept-closed}, HoldsAfter.{AreFollowed, AreFollowed-one, Stands, Stands-fresh, Stands-next, farewell_stays, may_be_due-kept, read_at}, Lawful.{AreOthersKept, IsLawful-next, IsLawful-none, MayCall, kept-opened}, RawOctets.{IsFew-of, raw-is, raw_groups, raw_sources-listed, same-raw}, Refused.{IsCounted, IsCounted-of, IsKeptBy, limit_by, places-few, refusal-changed, refusal-opened, some_on}, Slots.{AreSlots, AreSlots-back, AreSlots-fresh, AreSlots-left, AreSlots-one, back-of, each_farewell, kept-is, left_in-is}, Wanted.{wants_any-merged}}

-- what contracts see of sockets that are kept so
abbrev pub value_of : ℕ → List Socket → List (Ip × Option ℕ) → SocketsValue
value_of moment sockets slots = record { moment = moment; sockets = sockets; farewells = farewells_in slots }

-- what is kept, of one history that it stands for
pub record KeptFor (moment : ℕ) (sockets : List Socket) (slots : List (Ip × Option ℕ)) (history : List AcceptedCall) : Type 0 where
  pub now : moment ≡ latest history
  pub same : sockets ≡ open_sockets history
  pub are : AreSlots sockets slots (left_in (farewells_in slots))
  pub apart : AreApart sockets
  pub limits : IsWithinLimits history
  pub kept : IsKeptBy history slots

has_place-by : (moment : ℕ) (sockets : List Socket) (slots : List (Ip × Option ℕ)) (history : List AcceptedCall) → SocketsHold (value_of moment sockets slots) history → (group : Ip)
    → has_place history group ≡ (has_socket group sockets || may_be_due moment (left_in (farewells_in slots) group))
has_place-by moment sockets slots history holds group =
    ap (λ (all : List Socket). has_socket group all || may_be_due (latest history) (left_at history group)) (sym holds.sockets)
    ∙ ap (λ (due : Bool). has_socket group sockets || due) (sym (may_be_due-kept (left_at history group) (left_in (farewells_in slots) group) (latest history) (latest history) (holds.farewells group) (omega arith)))
    ∙ ap (λ (at : ℕ). has_socket group sockets || may_be_due at (left_in (farewells_in slots) group)) (sym holds.moment)

-- the limits are kept in each history that the sockets stand for, where they are in one
limits-same : (moment : ℕ) (sockets : List Socket) (slots : List (Ip × Option ℕ)) (first second : List AcceptedCall) → SocketsHold (value_of moment sockets slots) first
    → SocketsHold (value_of moment sockets slots) second → IsWithinLimits first → IsWithinLimits second
limits-same moment sockets slots first second one other limits =
    let same : open_sockets first ≡ open_sockets second = sym one.sockets ∙ other.sockets in
    record {
      sources = λ group. subst (λ (all : List Socket). length (raw_sources group all) ≤ 32) same (limits.sources group);
      octets = λ family.
          let groups = same-raw family first second (λ group. has_place-by moment sockets slots first one group ∙ sym (has_place-by moment sockets slots second other group)) in
          let places = ap length groups in
          let listed = ap (listed_in family) same in
          let octets = raw-is family first ∙ ap (λ (number : ℕ). raw_octets family number (listed_in family (open_sockets first))) places
          ∙ ap (raw_octets family (length (raw_groups family second))) listed ∙ sym (raw-is family second) in
          omega (arith, octets, limits.octets family);
    }

pub keeps : (moment : ℕ) (sockets : List Socket) (slots : List (Ip × Option ℕ)) (history : List AcceptedCall) → IsSound moment sockets slots → SocketsHold (value_of moment sockets slots) history
    → KeptFor moment sockets slots history
keeps moment sockets slots history sound holds = record {
  now = holds.moment;
  same = holds.sockets;
  are = AreSlots-back sockets slots sound.back;
  apart = subst AreApart (sym sound.holds.sockets) sound.lawful.apart;
  limits = limits-same moment sockets slots sound.history history sound.holds holds sound.lawful.limits;
  kept = record { back = subst (λ (all : List Socket). slots_of all (farewells_in slots) ≡ slots) holds.sockets sound.back; stands = holds.farewells };
}

-- what is kept after a call
pub record IsAfter (newest : AcceptedCall) (history : List AcceptedCall) (moment : ℕ) (sockets : List Socket) (slots new : List (Ip × Option ℕ)) (left : Ip → Option ℕ) : Type 0 where
  pub now : moment ≡ newest.moment
  pub same : sockets ≡ sockets_after newest.call (open_sockets history)
  pub are : AreSlots sockets new left
  pub stands : Stands (newest ∷ history) left

pub SocketsHold-after : (newest : AcceptedCall) (history : List AcceptedCall) (moment : ℕ) (sockets : List Socket) (slots new : List (Ip × Option ℕ)) (left : Ip → Option ℕ)
    → IsAfter newest history moment sockets slots new left → SocketsHold (value_of moment sockets new) (newest ∷ history)
SocketsHold-after newest history moment sockets slots new left is = record {
  moment = is.now;
  sockets = is.same;
  farewells = λ group. subst (IsKept (left_at (newest ∷ history) group) newest.moment) (sym (left_in-is sockets new left is.are group)) (is.stands group);
  each = each_farewell (λ one. left_at (newest ∷ history) one.group ≡ Some one.left) sockets new left is.are (λ group at same. (is.stands group).of_history at same);
}

pub IsSound-after : (at : ℕ) (call : SocketCall) (moment later : ℕ) (sockets after : List Socket) (slots new : List (Ip × Option ℕ)) (old : SocketsValue) → value_of moment sockets slots ≡ old
    → IsSound moment sockets slots → ((history : List AcceptedCall) → SocketsHold old history → SocketsHold (value_of later after new) (with_call at call history))
    → slots_of after (farewells_in new) ≡ new → MayCall call sockets → ((history : List AcceptedCall) → SocketsHold old history → refusal_of at call history ≡ None) → IsSound later after new
IsSound-after at call moment later sockets after slots new old view sound holds back may free =
    let now = subst (λ (value : SocketsValue). SocketsHold value sound.history) view sound.holds in
    record {
      history = with_call at call sound.history;
      holds = holds sound.history now;
      lawful = IsLawful-next at call sound.history sound.lawful (subst (MayCall call) sound.holds.sockets may) (free sound.history now);
      back = back;
    }

-- what is sound is within the limits
pub within_limits : (moment : ℕ) (sockets : List Socket) (slots : List (Ip × Option ℕ)) → IsSound moment sockets slots → (history : List AcceptedCall) → SocketsHold (value_of moment sockets slots) history
    → IsWithinLimits history
within_limits moment sockets slots sound history holds = (keeps moment sockets slots history sound holds).limits

-- ---- the slots after calls

wanted-is : (history : List AcceptedCall) (sockets : List Socket) (group : Ip) → sockets ≡ open_sockets history → some_wants group sockets ≡ is_wanted history group
wanted-is history sockets group same = ap (some_wants group) same ∙ sym (wants_any-merged (filters_on group (open_sockets history)))

-- a call that changes the sockets of one group
pub after_one : (at : ℕ) (call : SocketCall) (history : List AcceptedCall) (moment later : ℕ) (sockets after : List Socket) (slots new : List (Ip × Option ℕ)) (group : Ip) → KeptFor moment sockets slots history
    → later ≡ max moment at → after ≡ sockets_after call sockets → AreOthersKept group sockets after → IsAscending ip_order (keys_of new)
    → HasSlot group (slot_of (has_socket group after) (left_after (some_wants group after) (some_wants group sockets) later (kept_at slots group))) slots new
    → (left : Ip → Option ℕ) × AreFollowed (read_at at call history) history (left_in (farewells_in slots)) left × IsAfter (read_at at call history) history later after slots new left
after_one at call history moment later sockets after slots new group keeps now rest others ordered is =
    let newest = read_at at call history in
    let left = left_in (farewells_in slots) in
    let same : after ≡ open_sockets (newest ∷ history) = rest ∙ ap (sockets_after call) keeps.same in
    let read : later ≡ max (latest history) at = now ∙ ap (λ (one : ℕ). max one at) keeps.now in
    let own : Option ℕ = left_after (some_wants group after) (some_wants group sockets) later (kept_at slots group) in
    let follow : own ≡ left_after (is_wanted (newest ∷ history) group) (is_wanted history group) newest.moment (left group) =
    ap (λ (wanted : Bool). left_after wanted (some_wants group sockets) later (kept_at slots group)) (wanted-is (newest ∷ history) after group same)
    ∙ ap (λ (before : Bool). left_after (is_wanted (newest ∷ history) group) before later (kept_at slots group)) (wanted-is history sockets group keeps.same)
    ∙ ap (λ (one : ℕ). left_after (is_wanted (newest ∷ history) group) (is_wanted history group) one (kept_at slots group)) read
    ∙ ap (left_after (is_wanted (newest ∷ history) group) (is_wanted history group) newest.moment) (kept-is sockets slots left keeps.are group) in
    let followed = AreFollowed-one newest history left group own keeps.kept.stands
    (λ other apart. ap (on_group other) (sym same) ∙ others other apart ∙ ap (on_group other) keeps.same) follow in
    let lefts : Ip → Option ℕ = λ other. cond (same_group group other) own (left other) in (
      lefts,
      followed,
      record {
        now = read;
        same = same;
        are = AreSlots-one sockets after slots new left group own keeps.are ordered is others;
        stands = Stands-next newest history left lefts (omega arith) keeps.kept.stands followed;
      },
    )

-- the call that closes every socket
pub after_all : (at : ℕ) (history : List AcceptedCall) (moment later : ℕ) (sockets : List Socket) (slots new : List (Ip × Option ℕ)) → KeptFor moment sockets slots history → later ≡ max moment at
    → IsAscending ip_order (keys_of new) → AreMade (slot_left sockets later) slots new
    → (left : Ip → Option ℕ) × AreFollowed (read_at at LeaveAll history) history (left_in (farewells_in slots)) left × IsAfter (read_at at LeaveAll history) history later [] slots new left
after_all at history moment later sockets slots new keeps now ordered is =
    let newest = read_at at LeaveAll history in
    let left = left_in (farewells_in slots) in
    let read : later ≡ max (latest history) at = now ∙ ap (λ (one : ℕ). max one at) keeps.now in
    let lefts : Ip → Option ℕ = λ group. left_after false (some_wants group sockets) later (left group) in
    let followed : AreFollowed newest history left lefts = λ group.
    ap (λ (before : Bool). left_after false before later (left group)) (wanted-is history sockets group keeps.same)
    ∙ ap (λ (one : ℕ). left_after false (is_wanted history group) one (left group)) read in (
      lefts,
      followed,
      record {
        now = read;
        same = refl;
        are = AreSlots-left sockets slots new left later keeps.are ordered is;
        stands = Stands-next newest history left lefts (omega arith) keeps.kept.stands followed;
      },
    )

-- each farewell stays, unless its group is wanted
pub keeps_farewells : (at : ℕ) (call : SocketCall) (history : List AcceptedCall) (moment later : ℕ) (sockets after : List Socket) (slots new : List (Ip × Option ℕ)) (left : Ip → Option ℕ)
    → KeptFor moment sockets slots history → AreFollowed (read_at at call history) history (left_in (farewells_in slots)) left → IsAfter (read_at at call history) history later after slots new left
    → KeepsFarewells (with_call at call history) (value_of moment sockets slots) (value_of later after new)
keeps_farewells at call history moment later sockets after slots new left keeps follow is group one kept unwanted =
    left_in-is after new left is.are group ∙ farewell_stays (read_at at call history) history (left_in (farewells_in slots)) left keeps.kept.stands follow group one kept unwanted

due_by : (test : Bool) (left : Option ℕ) (later moment : ℕ) → may_be_due later left ≡ test → cond test left None ≡ Some moment → later ≤ moment + longest_farewell
due_by true None later moment due is = absurd cc
due_by true (Some other) later moment due is =
    let same : other ≡ moment = cc in let within = leb-true later (other + longest_farewell) due in omega arith
due_by false left later moment due is = absurd cc

-- where old farewells are dropped
pub after_fresh : (newest : AcceptedCall) (history : List AcceptedCall) (later : ℕ) (after : List Socket) (slots between new : List (Ip × Option ℕ)) (left : Ip → Option ℕ)
    → IsAfter newest history later after slots between left → IsAscending ip_order (keys_of new) → AreMade (slot_fresh after later) between new
    → IsAfter newest history later after slots new (λ group. left_fresh later (left group)) × HasNoOldFarewell (value_of later after new)
after_fresh newest history later after slots between new left is ordered fresh =
    let are = AreSlots-fresh after between new left later is.are ordered fresh in (
      record {
        now = is.now;
        same = is.same;
        are = are;
        stands = subst (λ (one : ℕ). Stands (newest ∷ history) (λ group. left_fresh one (left group))) (sym is.now) (Stands-fresh (newest ∷ history) left is.stands);
      },
      each_farewell (λ one. later ≤ one.left + longest_farewell) after new (λ group. left_fresh later (left group)) are
          (λ group moment same. due_by (may_be_due later (left group)) (left group) later moment refl same),
    )

-- ---- the limits

-- what the first limit that is passed asks for
pub record MayPass (moment later : ℕ) (sockets : List Socket) (slots : List (Ip × Option ℕ)) (group : Ip) : Type 0 where
  pub few : listed_on group sockets ≤ 32
  pub total : listed_in (family_of group) sockets ≤ 1400
  pub places : places_besides sockets (family_of group) later group slots ≤ 1400

pub MayPass-of : (moment later : ℕ) (sockets : List Socket) (slots : List (Ip × Option ℕ)) (group : Ip) → IsSound moment sockets slots → moment ≤ later → MayPass moment later sockets slots group
MayPass-of moment later sockets slots group sound onward =
    let history = sound.history in
    let keep = keeps moment sockets slots history sound sound.holds in
    let family = family_of group in
    let few = IsFew-of family (length (raw_groups family history)) (listed_in family (open_sockets history)) 1400 (omega (arith, raw-is family history, keep.limits.octets family)) in
    let now = keep.now in
    let within = places-few history slots keep.kept family later group (omega arith) in
    let on = ap (listed_on group) keep.same in
    let all = ap (listed_in family) keep.same in
    let places = ap (λ (some : List Socket). places_besides some family later group slots) keep.same in
    record {
      few = omega (arith, on, raw_sources-listed group (open_sockets history), keep.limits.sources group);
      total = omega (arith, all, few.sources);
      places = omega (arith, places, within, few.records);
    }

-- ---- what the calls leave

-- what a call on one group leaves
pub record IsOne (later : ℕ) (call : SocketCall) (group : Ip) (sockets after : List Socket) (slots new : List (Ip × Option ℕ)) : Type 0 where
  pub rest : after ≡ sockets_after call sockets
  pub slot : HasSlot group (slot_of (has_socket group after) (left_after (some_wants group after) (some_wants group sockets) later (kept_at slots group))) slots new
  pub ordered : IsAscending ip_order (keys_of new)

pub one_of : (later : ℕ) (call : SocketCall) (group : Ip) (sockets after : List Socket) (slots new : List (Ip × Option ℕ)) (before : Bool) → before ≡ some_wants group sockets
    → after ≡ sockets_after call sockets → HasSlot group (slot_of (has_socket group after) (left_after (some_wants group after) before later (kept_at slots group))) slots new
    → IsAscending ip_order (keys_of new) → IsOne later call group sockets after slots new
one_of later call group sockets after slots new before wanted rest slot ordered = record {
  rest = rest;
  slot = subst (λ (test : Bool). HasSlot group (slot_of (has_socket group after) (left_after (some_wants group after) test later (kept_at slots group))) slots new) wanted slot;
  ordered = ordered;
}

-- what is promised of a call, where contracts see this of the sockets before
pub record Does (at : ℕ) (call : SocketCall) (old : SocketsValue) (later : ℕ) (after : List Socket) (new : List (Ip × Option ℕ)) : Type 0 where
  pub stands : (history : List AcceptedCall) → SocketsHold old history → SocketsHold (value_of later after new) (with_call at call history)
  pub keep : (history : List AcceptedCall) → SocketsHold old history → KeepsFarewells (with_call at call history) old (value_of later after new)
  pub back : slots_of after (farewells_in new) ≡ new

does_by : (at : ℕ) (call : SocketCall) (moment later : ℕ) (sockets after : List Socket) (slots new : List (Ip × Option ℕ)) (old : SocketsValue) → value_of moment sockets slots ≡ old
    → IsSound moment sockets slots
    → ((history : List AcceptedCall) → KeptFor moment sockets slots history
    → (left : Ip → Option ℕ) × AreFollowed (read_at at call history) history (left_in (farewells_in slots)) left × IsAfter (read_at at call history) history later after slots new left)
    → Does at call old later after new
does_by at call moment later sockets after slots new old view sound done =
    let kept = λ (history : List AcceptedCall). keeps moment sockets slots history sound in
    subst (λ (value : SocketsValue). Does at call value later after new) view
    (record {
      stands = λ history holds. let is = done history (kept history holds) in SocketsHold-after (read_at at call history) history later after slots new is.0 is.2;
      keep = λ history holds. let is = done history (kept history holds) in keeps_farewells at call history moment later sockets after slots new is.0 (kept history holds) is.1 is.2;
      back = let is = done sound.history (kept sound.history sound.holds) in back-of after new is.0 is.2.are;
    })

module _ (at moment later : ℕ) (name : List ℕ) (sockets after : List Socket) (slots new : List (Ip × Option ℕ)) (old : SocketsValue) (view : value_of moment sockets slots ≡ old) (socket : Socket)
    (sound : IsSound moment sockets slots) (now : later ≡ max moment at) (found : socket_named name sockets ≡ Some socket) where
  named : HasName name socket sockets
  named = HasName-of name socket sockets ((keeps moment sockets slots sound.history sound sound.holds).apart name) found

  does_one : (call : SocketCall) → AreOthersKept socket.group sockets (sockets_after call sockets) → IsOne later call socket.group sockets after slots new → Does at call old later after new
  does_one call others one =
      does_by at call moment later sockets after slots new old view sound
      (λ history keep. after_one at call history moment later sockets after slots new socket.group keep now one.rest (λ other apart. ap (on_group other) one.rest ∙ others other apart) one.ordered one.slot)

  -- closing a socket
  pub does_closed : IsOne later (Close name) socket.group sockets after slots new → Does at (Close name) old later after new
  does_closed = does_one (Close name) (kept-closed name socket sockets named)

  -- another filter of a socket
  pub does_changed : (filter : FilterValue) → IsOne later (Change name filter) socket.group sockets after slots new → Does at (Change name filter) old later after new
  does_changed filter = does_one (Change name filter) (kept-changed name socket sockets named filter)

-- closing all of them
pub does_left : (at moment later : ℕ) (sockets : List Socket) (slots new : List (Ip × Option ℕ)) (old : SocketsValue) → value_of moment sockets slots ≡ old → IsSound moment sockets slots
    → later ≡ max moment at → IsAscending ip_order (keys_of new) → AreMade (slot_left sockets later) slots new → Does at LeaveAll old later [] new
does_left at moment later sockets slots new old view sound now ordered made =
    does_by at LeaveAll moment later sockets [] slots new old view sound (λ history keep. after_all at history moment later sockets slots new keep now ordered made)

-- what a new socket leaves
pub record Opens (at : ℕ) (call : SocketCall) (old : SocketsValue) (later : ℕ) (after : List Socket) (new : List (Ip × Option ℕ)) : Type 0 where
  pub stands : (history : List AcceptedCall) → SocketsHold old history → SocketsHold (value_of later after new) (with_call at call history)
  pub drops : HasNoOldFarewell (value_of later after new)
  pub back : slots_of after (farewells_in new) ≡ new

pub does_opened : (at moment later : ℕ) (name : List ℕ) (group : Ip) (filter : FilterValue) (sockets after : List Socket) (slots between new : List (Ip × Option ℕ)) (old : SocketsValue)
    → value_of moment sockets slots ≡ old → IsSound moment sockets slots → later ≡ max moment at → after ≡ sockets_after (Open name group filter) sockets
    → HasSlot group (Some (left_after (some_wants group after) (some_wants group sockets) later (kept_at slots group))) slots between → IsAscending ip_order (keys_of between)
    → IsAscending ip_order (keys_of new) → AreMade (slot_fresh after later) between new → Opens at (Open name group filter) old later after new
does_opened at moment later name group filter sockets after slots between new old view sound now rest slot ordered last fresh =
    let call = Open name group filter in
    let left = left_after (some_wants group after) (some_wants group sockets) later (kept_at slots group) in
    let socket : Socket = record { name = name; group = group; filter = filter } in
    let some : has_socket group after ≡ true = ap (has_socket group) rest ∙ some_on group sockets socket [] refl in
    let others : AreOthersKept group sockets after = λ other apart. ap (on_group other) rest ∙ kept-opened sockets socket other apart in
    let own : HasSlot group (slot_of (has_socket group after) left) slots between = subst (λ (test : Bool). HasSlot group (slot_of test left) slots between) (sym some) slot in
    let one = λ (history : List AcceptedCall) (holds : SocketsHold (value_of moment sockets slots) history).
    after_one at call history moment later sockets after slots between group (keeps moment sockets slots history sound holds) now rest others ordered own in
    let done = λ (history : List AcceptedCall) (holds : SocketsHold (value_of moment sockets slots) history).
    let is = one history holds in after_fresh (read_at at call history) history later after slots between new is.0 is.2 last fresh in
    subst (λ (value : SocketsValue). Opens at call value later after new) view
    (record {
      stands = λ history holds. let is = done history holds in SocketsHold-after (read_at at call history) history later after slots new (λ at. left_fresh later ((one history holds).0 at)) is.0;
      drops = (done sound.history sound.holds).1;
      back = let is = done sound.history sound.holds in back-of after new (λ at. left_fresh later ((one sound.history sound.holds).0 at)) is.0.are;
    })

-- the limit that a new socket passes is why it is refused
pub refused_opening : (at moment later : ℕ) (name : List ℕ) (group : Ip) (filter : FilterValue) (sockets : List Socket) (slots : List (Ip × Option ℕ)) (old : SocketsValue) (sources : List Ip)
    (passed : Option SocketFault) → value_of moment sockets slots ≡ old → IsSound moment sockets slots → later ≡ max moment at → is_some (socket_named name sockets) ≡ false → sources ≡ filter.sources
    → passed ≡ limit_by sockets slots later group 0 (length sources) → (history : List AcceptedCall) → SocketsHold old history → refusal_of at (Open name group filter) history ≡ passed
refused_opening at moment later name group filter sockets slots old sources passed view sound now absent listed limit history old_holds =
    let holds = subst (λ (value : SocketsValue). SocketsHold value history) (sym view) old_holds in
    refusal-opened at name group filter history slots (keeps moment sockets slots history sound holds).kept
    (ap (λ (all : List Socket). is_some (socket_named name all)) (sym holds.sockets) ∙ absent)
    ∙ ap (λ (all : List Socket). limit_by all slots (max (latest history) at) group 0 (length filter.sources)) (sym holds.sockets)
    ∙ ap (λ (one : ℕ). limit_by sockets slots one group 0 (length filter.sources)) (sym (now ∙ ap (λ (one : ℕ). max one at) holds.moment))
    ∙ sym (limit ∙ ap (λ (all : List Ip). limit_by sockets slots later group 0 (length all)) listed)

-- and so it is with another filter
pub refused_change : (at moment later : ℕ) (name : List ℕ) (filter : FilterValue) (sockets : List Socket) (slots : List (Ip × Option ℕ)) (socket : Socket) (old : SocketsValue)
    (before sources : List Ip) (passed : Option SocketFault) → value_of moment sockets slots ≡ old → IsSound moment sockets slots → later ≡ max moment at → socket_named name sockets ≡ Some socket
    → before ≡ socket.filter.sources → sources ≡ filter.sources → passed ≡ limit_by sockets slots later socket.group (length before) (length sources) → (history : List AcceptedCall) → SocketsHold old history
    → refusal_of at (Change name filter) history ≡ passed
refused_change at moment later name filter sockets slots socket old before sources passed view sound now found were listed limit history old_holds =
    let holds = subst (λ (value : SocketsValue). SocketsHold value history) (sym view) old_holds in
    let keep = keeps moment sockets slots history sound holds in
    refusal-changed at name filter socket history slots keep.kept (subst (HasName name socket) holds.sockets (HasName-of name socket sockets (keep.apart name) found))
    (ap (socket_named name) (sym holds.sockets) ∙ found)
    ∙ ap (λ (all : List Socket). limit_by all slots (max (latest history) at) socket.group (length socket.filter.sources) (length filter.sources)) (sym holds.sockets)
    ∙ ap (λ (one : ℕ). limit_by sockets slots one socket.group (length socket.filter.sources) (length filter.sources)) (sym (now ∙ ap (λ (one : ℕ). max one at) holds.moment))
    ∙ sym (limit ∙ ap (λ (all : List Ip). limit_by sockets slots later socket.group (length before) (length all)) listed
    ∙ ap (λ (all : List Ip). limit_by sockets slots later socket.group (length all) (length filter.sources)) were)

-- as before any call
pub IsSound-none : (moment : ℕ) (sockets : List Socket) (slots : List (Ip × Option ℕ)) → moment ≡ 0 → sockets ≡ [] → slots ≡ [] → IsSound moment sockets slots
IsSound-none moment sockets slots now none empty = record {
  history = [];
  holds = record {
    moment = now;
    sockets = none;
    farewells = λ group. subst (λ (all : List (Ip × Option ℕ)). IsKept None 0 (left_in (farewells_in all) group)) (sym empty)
        (record { of_history = λ left is. is; there = λ left is recent. is });
    each = subst (λ (all : List (Ip × Option ℕ)). All (λ one. left_at [] one.group ≡ Some one.left) (farewells_in all)) (sym empty) (All-nil (λ (one : Farewell). left_at [] one.group ≡ Some one.left));
  };
  lawful = IsLawful-none;
  back = ap (λ (all : List Socket). slots_of all (farewells_in slots)) none ∙ ap (λ (all : List (Ip × Option ℕ)). slots_of [] (farewells_in all)) empty ∙ sym empty;
}

-- a socket that is open is counted, and its group has a slot
pub found-counted : (moment : ℕ) (name : List ℕ) (sockets : List Socket) (slots : List (Ip × Option ℕ)) (socket : Socket) → IsSound moment sockets slots → socket_named name sockets ≡ Some socket
    → IsCounted socket sockets × IsSome (slot_at slots socket.group)
found-counted moment name sockets slots socket sound found =
    let keep = keeps moment sockets slots sound.history sound sound.holds in
    let counted = IsCounted-of name socket sockets (HasName-of name socket sockets (keep.apart name) found) in
    (counted, ap is_some (keep.are.each socket.group ∙ ap (λ (some : Bool). slot_of some (left_in (farewells_in slots) socket.group)) counted.some))
