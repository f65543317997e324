-- Why calls are refused, by what is kept.
use Rattle.std.{proofs.{Common.{◌≡◌, ℕ, ◌+◌, ◌-◌, ◌≤◌, max, Bool, true, false, not, ◌&&◌, ◌||◌, cond, is_some, List, [], ◌∷◌, ◌++◌, filter, length, map, Option, Some, None, Ok, Err, refl, sym, ap, subst, ◌∙◌, arith}, Math.Bool.{and-false, or-false, or-true}, lemmas.{Bool.{cond-true, or_parts}, Cmp.{eq_by_cmp_equiv}, List.{length-map, Sums.{sum_by_push}}, Map.{Keys.{IsDistinct-cons, IsDistinct-from_sorted}, Made.{length-from_same_keys}}}}, specs.{List.{AllByRecursion, sum_by}, Ordering.{eq_by_cmp}}}
use Rattle.amt_values.{specs.{declared.address.Ip.{Ip}, Order.{ip_order}, Ascending.{IsAscending, has}, Conditions.{first_holding}}, proofs.{Orders.{ip_order-exact, ip_order-total}, AscendingLaws.{IsAscending-ascending, IsAscending-filter, has-filter}}}
use Rattle.source_filter.specs.Filter.{FilterValue}
use Rattle.group_records.specs.{Written.{is_of_family}, declared.family.Family.{Family}}
use Rattle.socket_merge.specs.{FullReport.{is_empty}, History.{AcceptedCall, Change, Close, LeaveAll, Open, Socket, latest, open_sockets, socket_named, sockets_after, with_call}, Interface.{is_wanted, left_at, on_group, same_group}, Kept.{farewells_in, has_place_besides, has_socket, left_after, listed_in, listed_on, places_besides, raw_octets, slots_of}, Refusal.{change_conditions, family_of, has_place, is_open, limit_conditions, limits_after, may_be_due, raw_report_length, refusal_of}, Sockets.{AnswersRefusal, IsKept, left_in}, declared.fault.SocketFault.{SocketFault, TheVariants.{Memory, NoSocket, Taken}}}
use Rattle.socket_merge.proofs.{Amounts.{HasName, kept-changed, sum-changed, sum-closed, with_filter}, ByGroup.{group_of, same_group-turned}, HoldsAfter.{AreFollowed-one, Stands, Stands-next, may_be_due-kept, read_at}, Lawful.{AreOthersKept, kept-opened}, RawOctets.{IsAscending-raw, due_earlier, few-raw, has-raw, of_own_family, raw-is, raw_groups, raw_sources-listed}, Slots.{farewell_group, groups_in, has-groups}, Wanted.{same_group-exact, same_group-itself}}

-- ---- the groups that have a place, by the slots

made_first : (test : Bool) (left : Ip → Option ℕ) (group : Ip) (passing : List Ip) (filtered : List (Ip × Option ℕ)) → filtered ≡ map (λ one. (one, left one)) passing
    → cond test ((group, left group) ∷ filtered) filtered ≡ map (λ one. (one, left one)) (cond test (group ∷ passing) passing)
made_first true left group passing filtered is = ap (λ rest. (group, left group) ∷ rest) is
made_first false left group passing filtered is = is

filter_made : (test : Ip × Option ℕ → Bool) (left : Ip → Option ℕ) (groups : List Ip)
    → filter test (map (λ group. (group, left group)) groups) ≡ map (λ group. (group, left group)) (filter (λ group. test (group, left group)) groups)
filter_made test left [] = refl
filter_made test left (group ∷ more) = made_first (test (group, left group)) left group (filter (λ one. test (one, left one)) more) (filter test (map (λ one. (one, left one)) more)) (filter_made test left more)

few_by : (some apart of : Bool) (left : Option ℕ) (later : ℕ) (due : Bool) → (may_be_due later left ≡ true → due ≡ true)
    → ((some || is_some left) && (apart && (of && (not (is_some left) || (may_be_due later left || some))))) ≡ true → (of && (some || due)) ≡ true
few_by true true true left later due is listed = refl
few_by true true false left later due is listed = listed
few_by true false of left later due is listed = absurd cc
few_by false apart of None later due is listed = absurd cc
few_by false true true (Some moment) later due is listed = is (sym (or-false (may_be_due later (Some moment))) ∙ listed)
few_by false true false (Some moment) later due is listed = listed
few_by false false of (Some moment) later due is listed = absurd cc

plain_by : (some of : Bool) (left : Option ℕ) (later : ℕ)
    → ((some || is_some left) && (of && (not (is_some left) || (may_be_due later left || some)))) ≡ (of && (some || may_be_due later left))
plain_by true true None later = refl
plain_by true true (Some moment) later = or-true (may_be_due later (Some moment))
plain_by true false left later = refl
plain_by false true None later = refl
plain_by false true (Some moment) later = or-false (may_be_due later (Some moment))
plain_by false false None later = refl
plain_by false false (Some moment) later = refl

member_by : (same of some after : Bool) (left : Option ℕ) (later : ℕ) (due : Bool) → (same ≡ true → (of && (after || due)) ≡ true) → (same ≡ false → after ≡ some)
    → (same ≡ false → may_be_due later left ≡ due)
    → (same || ((some || is_some left) && (not same && (of && (not (is_some left) || (may_be_due later left || some)))))) ≡ (of && (after || due))
member_by true of some after left later due own kept is = sym (own refl)
member_by false of some after left later due own kept is =
    plain_by some of left later ∙ ap (λ (test : Bool). of && (test || may_be_due later left)) (sym (kept refl)) ∙ ap (λ (test : Bool). of && (after || test)) (is refl)

apart_all : (group : Ip) (groups : List Ip) → has ip_order groups group ≡ false → AllByRecursion (λ other. same_group group other ≡ false) groups
apart_all group [] none = tt
apart_all group (next ∷ more) none = let both = or_parts (same_group group next) (has ip_order more group) none in (both.0, apart_all group more both.1)

-- what is kept stands for the history
pub record IsKeptBy (history : List AcceptedCall) (slots : List (Ip × Option ℕ)) : Type 0 where
  pub back : slots_of (open_sockets history) (farewells_in slots) ≡ slots
  pub stands : Stands history (left_in (farewells_in slots))

module _ (history : List AcceptedCall) (slots : List (Ip × Option ℕ)) (is : IsKeptBy history slots) (family : Family) (later : ℕ) (group : Ip) where
  abbrev sockets : List Socket
  sockets = open_sockets history

  -- what is kept of a group's farewell
  abbrev left : Ip → Option ℕ
  left = left_in (farewells_in slots)

  -- the other groups of the family that have a place
  abbrev others : List Ip
  others = filter (λ other. has_place_besides sockets family later group (other, left other)) (groups_in sockets (farewells_in slots))

  places-are : places_besides sockets family later group slots ≡ length others
  places-are =
      ap (λ (all : List (Ip × Option ℕ)). length (filter (has_place_besides sockets family later group) all)) (sym is.back)
      ∙ ap length (filter_made (has_place_besides sockets family later group) left (groups_in sockets (farewells_in slots)))
      ∙ length-map others (λ other. (other, left other))

  has-others : (other : Ip) → has ip_order others other ≡ ((has_socket other sockets || is_some (left other)) && has_place_besides sockets family later group (other, left other))
  has-others other =
      has-filter ip_order-exact (λ one. has_place_besides sockets family later group (one, left one)) (groups_in sockets (farewells_in slots)) other
      ∙ ap (λ (some : Bool). some && has_place_besides sockets family later group (other, left other)) (has-groups sockets (farewells_in slots) other)

  IsAscending-others : IsAscending ip_order others
  IsAscending-others =
      IsAscending-filter ip_order (λ other. has_place_besides sockets family later group (other, left other)) (groups_in sockets (farewells_in slots))
      (IsAscending-ascending ip_order-total (map group_of sockets ++ map farewell_group (farewells_in slots)))

  -- they are among the groups that had one
  pub places-few : latest history ≤ later → places_besides sockets family later group slots ≤ length (raw_groups family history)
  places-few onward =
      omega (
        arith,
        places-are,
        few-raw family history others IsAscending-others
            (λ other some. few_by (has_socket other sockets) (not (same_group group other)) (is_of_family family other) (left other) later (may_be_due (latest history) (left_at history other))
            (λ due. sym (may_be_due-kept (left_at history other) (left other) (latest history) (latest history) (is.stands other) (omega arith)) ∙ due_earlier (latest history) later (left other) onward due)
            (sym (has-others other) ∙ some)),
      )

  none_own : has ip_order others group ≡ false
  none_own =
      has-others group
      ∙ ap (λ (same : Bool). (has_socket group sockets || is_some (left group)) && (not same && (is_of_family family group && (not (is_some (left group)) || (may_be_due later (left group) || has_socket group sockets)))))
      (same_group-itself group)
      ∙ and-false (has_socket group sockets || is_some (left group))

-- a call that sets a filter of one group
module _ (newest : AcceptedCall) (history : List AcceptedCall) (slots : List (Ip × Option ℕ)) (is : IsKeptBy history slots) (onward : latest history ≤ newest.moment) (group : Ip)
    (kept : AreOthersKept group (open_sockets history) (open_sockets (newest ∷ history))) (own : has_socket group (open_sockets (newest ∷ history)) ≡ true) where
  abbrev next : List AcceptedCall
  next = newest ∷ history

  abbrev lefts : Ip → Option ℕ
  lefts = left_in (farewells_in slots)

  due_other : (other : Ip) → same_group group other ≡ false → may_be_due newest.moment (lefts other) ≡ may_be_due newest.moment (left_at next other)
  due_other other apart =
      let now : Option ℕ = left_after (is_wanted next group) (is_wanted history group) newest.moment (lefts group) in
      let stands = Stands-next newest history lefts (λ one. cond (same_group group one) now (lefts one)) onward is.stands (AreFollowed-one newest history lefts group now is.stands kept refl) in
      may_be_due-kept (left_at next other) (lefts other) newest.moment newest.moment (subst (λ (test : Bool). IsKept (left_at next other) newest.moment (cond test now (lefts other))) apart (stands other)) (omega arith)

  own_place : (other : Ip) → same_group other group ≡ true → (is_of_family (family_of group) other && has_place next other) ≡ true
  own_place other same =
      subst (λ (at : Ip). (is_of_family (family_of group) at && has_place next at) ≡ true) (sym (same_group-exact other group same))
      (ap (λ (of : Bool). of && has_place next group) (of_own_family group) ∙ ap (λ (some : Bool). some || may_be_due newest.moment (left_at next group)) own)

  places-next : length (raw_groups (family_of group) next) ≡ places_besides (open_sockets history) (family_of group) newest.moment group slots + 1
  places-next =
      let family = family_of group in
      let rest = others history slots is family newest.moment group in
      let all = length-from_same_keys (eq_by_cmp_equiv ip_order-total) (group ∷ rest) (raw_groups family next)
      (IsDistinct-cons (eq_by_cmp ip_order) group rest (apart_all group rest (none_own history slots is family newest.moment group))
      (IsDistinct-from_sorted ip_order rest (IsAscending-others history slots is family newest.moment group)))
      (IsDistinct-from_sorted ip_order (raw_groups family next) (IsAscending-raw family next))
      (λ other.
      ap (λ (listed : Bool). same_group other group || listed) (has-others history slots is family newest.moment group other
      ∙ ap (λ (same : Bool). (has_socket other (open_sockets history) || is_some (lefts other)) && (not same && (is_of_family family other
      && (not (is_some (lefts other)) || (may_be_due newest.moment (lefts other) || has_socket other (open_sockets history)))))) (same_group-turned group other))
      ∙ member_by (same_group other group) (is_of_family family other) (has_socket other (open_sockets history)) (has_socket other (open_sockets next)) (lefts other) newest.moment
      (may_be_due newest.moment (left_at next other)) (own_place other) (λ apart. ap (λ (on : List Socket). not (is_empty on)) (kept other apart))
      (λ apart. due_other other (same_group-turned group other ∙ apart))
      ∙ sym (has-raw family next other)) in
      omega (arith, all, places-are history slots is family newest.moment group)

  -- the limits that the group passes, by what is kept
  pub limits-are : (on all : ℕ) → listed_on group (open_sockets next) ≡ on → listed_in (family_of group) (open_sockets next) ≡ all
      → limits_after group next ≡ limit_conditions on (raw_octets (family_of group) (places_besides (open_sockets history) (family_of group) newest.moment group slots + 1) all)
  limits-are on all here total =
      ap (λ (number : ℕ). limit_conditions number (raw_report_length (family_of group) next)) (raw_sources-listed group (open_sockets next) ∙ here)
      ∙ ap (limit_conditions on)
      (raw-is (family_of group) next ∙ ap (λ (number : ℕ). raw_octets (family_of group) number (listed_in (family_of group) (open_sockets next))) places-next
      ∙ ap (raw_octets (family_of group) (places_besides (open_sockets history) (family_of group) newest.moment group slots + 1)) total)

-- the first limit that the group passes where a socket lists so many sources instead of those before
abbrev pub limit_by : List Socket → List (Ip × Option ℕ) → ℕ → Ip → ℕ → ℕ → Option SocketFault
limit_by sockets slots later group before after =
    first_holding (limit_conditions (listed_on group sockets - before + after)
    (raw_octets (family_of group) (places_besides sockets (family_of group) later group slots + 1) (listed_in (family_of group) sockets - before + after)))

-- the terms of a socket in the sums of its group and family
abbrev on_term : Ip → Socket → ℕ
on_term group one = cond (same_group group one.group) (length one.filter.sources) 0

abbrev in_term : Ip → Socket → ℕ
in_term group one = cond (is_of_family (family_of group) one.group) (length one.filter.sources) 0

first_on : (test : Bool) (first : Socket) (on : List Socket) → not (is_empty on) ≡ true → not (is_empty (cond test (first ∷ on) on)) ≡ true
first_on true first on some = refl
first_on false first on some = some

pub some_on : (group : Ip) (sockets : List Socket) (socket : Socket) (rest : List Socket) → socket.group ≡ group → has_socket group (sockets ++ socket ∷ rest) ≡ true
some_on group [] socket rest is = ap (λ (test : Bool). not (is_empty (cond test (socket ∷ on_group group rest) (on_group group rest)))) (ap (same_group group) is ∙ same_group-itself group)
some_on group (first ∷ more) socket rest is = first_on (same_group group first.group) first (on_group group (more ++ socket ∷ rest)) (some_on group more socket rest is)

-- a socket of the name is open
pub refusal-taken : (at : ℕ) (name : List ℕ) (group : Ip) (filter : FilterValue) (history : List AcceptedCall) → is_open name history ≡ true → refusal_of at (Open name group filter) history ≡ Some Taken
unfolding refusal_of
refusal-taken at name group filter history taken = ap (λ (test : Bool). cond test (Some Taken) (first_holding (limits_after group (with_call at (Open name group filter) history)))) taken

-- a limit that a new socket passes
pub refusal-opened : (at : ℕ) (name : List ℕ) (group : Ip) (filter : FilterValue) (history : List AcceptedCall) (slots : List (Ip × Option ℕ)) → IsKeptBy history slots → is_open name history ≡ false
    → refusal_of at (Open name group filter) history ≡ limit_by (open_sockets history) slots (max (latest history) at) group 0 (length filter.sources)
unfolding refusal_of
refusal-opened at name group filter history slots is absent =
    let sockets = open_sockets history in
    let socket : Socket = record { name = name; group = group; filter = filter } in
    let next = with_call at (Open name group filter) history in
    ap (λ (test : Bool). cond test (Some Taken) (first_holding (limits_after group next))) absent
    ∙ ap first_holding (limits-are (read_at at (Open name group filter) history) history slots is (omega arith) group (kept-opened sockets socket) (some_on group sockets socket [] refl) _ _
    (omega (arith, sum_by_push (on_term group) sockets socket, cond-true (same_group group group) (length filter.sources) 0 (same_group-itself group)))
    (omega (arith, sum_by_push (in_term group) sockets socket, cond-true (is_of_family (family_of group) group) (length filter.sources) 0 (of_own_family group))))

-- no socket of the name is open
pub refusal-unknown : (at : ℕ) (name : List ℕ) (filter : FilterValue) (history : List AcceptedCall) → socket_named name (open_sockets history) ≡ None
    → refusal_of at (Change name filter) history ≡ Some NoSocket
unfolding refusal_of
refusal-unknown at name filter history none = ap (λ (found : Option Socket). first_holding (change_conditions found (with_call at (Change name filter) history))) none

-- a call that closes sockets isn't refused, where some has the name
pub refusal-closed : (at : ℕ) (name : List ℕ) (history : List AcceptedCall) → is_open name history ≡ true → refusal_of at (Close name) history ≡ None
unfolding refusal_of
refusal-closed at name history is = ap (λ (test : Bool). cond (not test) (Some NoSocket) None) is

pub refusal-all : (at : ℕ) (history : List AcceptedCall) → refusal_of at LeaveAll history ≡ None
unfolding refusal_of
refusal-all at history = refl

-- what a socket lists is counted in its group and its family
pub record IsCounted (socket : Socket) (sockets : List Socket) : Type 0 where
  pub on : length socket.filter.sources ≤ listed_on socket.group sockets
  pub all : length socket.filter.sources ≤ listed_in (family_of socket.group) sockets
  pub some : has_socket socket.group sockets ≡ true

module _ (name : List ℕ) (socket : Socket) (sockets : List Socket) (named : HasName name socket sockets) where
  own_on : (number : ℕ) → cond (same_group socket.group socket.group) number 0 ≡ number
  own_on number = cond-true (same_group socket.group socket.group) number 0 (same_group-itself socket.group)

  own_in : (number : ℕ) → cond (is_of_family (family_of socket.group) socket.group) number 0 ≡ number
  own_in number = cond-true (is_of_family (family_of socket.group) socket.group) number 0 (of_own_family socket.group)

  pub IsCounted-of : IsCounted socket sockets
  IsCounted-of = record {
    on = omega (arith, sum-closed name socket sockets named (on_term socket.group), own_on (length socket.filter.sources));
    all = omega (arith, sum-closed name socket sockets named (in_term socket.group), own_in (length socket.filter.sources));
    some = ap (has_socket socket.group) named.whole ∙ some_on socket.group named.before socket named.after refl;
  }

  listed-changed : (term : Socket → ℕ) (filter : FilterValue) → term socket ≡ length socket.filter.sources → term (with_filter filter socket) ≡ length filter.sources
      → sum_by term (sockets_after (Change name filter) sockets) ≡ sum_by term sockets - length socket.filter.sources + length filter.sources
  listed-changed term filter here after = omega (arith, here, after, sum-closed name socket sockets named term, sum-changed name socket sockets named term filter)

  some-changed : (filter : FilterValue) → has_socket socket.group (sockets_after (Change name filter) sockets) ≡ true
  some-changed filter = ap (has_socket socket.group) (named.again filter) ∙ some_on socket.group named.before (with_filter filter socket) named.after refl

-- a limit that another filter passes
pub refusal-changed : (at : ℕ) (name : List ℕ) (filter : FilterValue) (socket : Socket) (history : List AcceptedCall) (slots : List (Ip × Option ℕ)) → IsKeptBy history slots
    → HasName name socket (open_sockets history) → socket_named name (open_sockets history) ≡ Some socket
    → refusal_of at (Change name filter) history ≡ limit_by (open_sockets history) slots (max (latest history) at) socket.group (length socket.filter.sources) (length filter.sources)
unfolding refusal_of
refusal-changed at name filter socket history slots is named found =
    let sockets = open_sockets history in
    ap (λ (one : Option Socket). first_holding (change_conditions one (with_call at (Change name filter) history))) found
    ∙ ap first_holding (limits-are (read_at at (Change name filter) history) history slots is (omega arith) socket.group
    (kept-changed name socket sockets named filter) (some-changed name socket sockets named filter) _ _
    (listed-changed name socket sockets named (on_term socket.group) filter (own_on name socket sockets named (length socket.filter.sources)) (own_on name socket sockets named (length filter.sources)))
    (listed-changed name socket sockets named (in_term socket.group) filter (own_in name socket sockets named (length socket.filter.sources)) (own_in name socket sockets named (length filter.sources))))

-- what a call answers that is refused, or for which there is no memory, or that is accepted
pub answers_refused : (refusal : Option SocketFault) (cause : SocketFault) → refusal ≡ Some cause → AnswersRefusal {A = Unit {0}} refusal (Err cause)
answers_refused refusal cause is = subst (λ (one : Option SocketFault). AnswersRefusal {A = Unit {0}} one (Err cause)) (sym is) refl

pub answers_memory : (refusal : Option SocketFault) → refusal ≡ None → AnswersRefusal {A = Unit {0}} refusal (Err Memory)
answers_memory refusal is = subst (λ (one : Option SocketFault). AnswersRefusal {A = Unit {0}} one (Err Memory)) (sym is) refl

pub answers_accepted : (refusal : Option SocketFault) → refusal ≡ None → AnswersRefusal {A = Unit {0}} refusal (Ok tt)
answers_accepted refusal is = subst (λ (one : Option SocketFault). AnswersRefusal {A = Unit {0}} one (Ok tt)) (sym is) tt
