-- The octets of the raw report: by its groups one by one, and by how many they are and what is listed.
use Rattle.std.proofs.Common.{◌≡◌, ℕ, ◌+◌, ◌*◌, ◌≤◌, Bool, true, false, ◌&&◌, ◌||◌, cond, List, [], ◌∷◌, filter, length, map, Option, Some, None, refl, sym, ap, ◌∙◌, arith}
use Rattle.std.{specs.{Cmp.{eq_by_cmp_equiv}, List.{sum_by}}, proofs.lemmas.{Bool.{le-leb, leb-true}, List.{Concat.{length-flat_map}, Folds.{fold-map}, Sums.{sum_by-cons}}, Map.{Keys.{IsDistinct-from_sorted}, Made.{length-le_from_is_member}, Views.{All-from_any}}}}
use Rattle.amt_values.{specs.{declared.address.Ip.{Ip, TheVariants.{V4 as Address4, V6 as Address6}}, Order.{ip_order}, Ascending.{IsAscending, ascending, has}}, proofs.{Orders.{ip_order-exact, ip_order-total}, AscendingLaws.{IsAscending-ascending, IsAscending-filter, has-ascending, has-filter, same_ascending}}}
use Rattle.source_filter.specs.declared.record.Record.{Record}
use Rattle.group_records.specs.{Family.{width}, Reading.{head_length}, Written.{is_of_family}, declared.family.Family.{Family, TheVariants.{V4, V6}}}
use Rattle.socket_merge.specs.{FullReport.{groups_of, longest_farewell}, History.{AcceptedCall, Socket, groups_opened, latest, open_sockets}, Interface.{is_wanted, left_at, on_group}, Kept.{has_socket, listed_in, listed_on, raw_octets}, Refusal.{family_of, has_place, may_be_due, raw_record, raw_report_length, raw_sources}}
use Rattle.socket_merge.proofs.{Amounts.{listing, sum_by-filter, sum_by-on_group}, ByGroup.{IsOpened, group_of, has_socket-listed, opened-left, opened-some, sum-listed, wanted-some}}

pub of_own_family : (group : Ip) → is_of_family (family_of group) group ≡ true
of_own_family (Address4 number) = refl
of_own_family (Address6 number) = refl

pub family_is : (family : Family) (group : Ip) → is_of_family family group ≡ true → family ≡ family_of group
family_is V4 (Address4 number) is = refl
family_is V4 (Address6 number) is = absurd cc
family_is V6 (Address4 number) is = absurd cc
family_is V6 (Address6 number) is = refl

-- the groups that have a record in the raw report of the family
abbrev pub raw_groups : Family → List AcceptedCall → List Ip
raw_groups family history = filter (has_place history) (groups_of family history)

-- the octets of a group's record
abbrev pub raw_here : Family → List AcceptedCall → Ip → ℕ
raw_here family history group = head_length family + length (raw_sources group (open_sockets history)) * width family

-- the raw report group by group
pub raw-sum : (family : Family) (history : List AcceptedCall)
    → raw_report_length family history ≡ 8 + sum_by (λ group. cond (has_place history group) (raw_here family history group) 0) (groups_of family history)
unfolding raw_report_length
raw-sum family history =
    ap (λ (total : ℕ). 8 + total)
    (fold-map (λ (total : ℕ) (one : Record). total + (head_length family + length one.sources * width family)) (raw_record (open_sockets history)) 0 (raw_groups family history)
    ∙ sum_by-filter (raw_here family history) (has_place history) (groups_of family history))

sum-parts : (family : Family) (f : Ip → ℕ) (groups : List Ip) → sum_by (λ group. head_length family + f group * width family) groups ≡ length groups * head_length family + sum_by f groups * width family
sum-parts V4 f [] = refl
sum-parts V4 f (group ∷ more) = omega (arith, sum-parts V4 f more, sum_by-cons f group more, sum_by-cons (λ one. 8 + f one * 4) group more)
sum-parts V6 f [] = refl
sum-parts V6 f (group ∷ more) = omega (arith, sum-parts V6 f more, sum_by-cons f group more, sum_by-cons (λ one. 20 + f one * 16) group more)

pub raw_sources-listed : (group : Ip) (sockets : List Socket) → length (raw_sources group sockets) ≡ listed_on group sockets
raw_sources-listed group sockets = length-flat_map (λ (socket : Socket). socket.filter.sources) (on_group group sockets) ∙ sum_by-on_group listing group sockets

-- ---- which groups have a record

opened_place : (history : List AcceptedCall) (group : Ip) (some : Bool) (left : Option ℕ) → (some ≡ true → IsOpened history group) → ((moment : ℕ) → left ≡ Some moment → IsOpened history group)
    → (some || may_be_due (latest history) left) ≡ true → IsOpened history group
opened_place history group true left here was place = here refl
opened_place history group false None here was place = absurd cc
opened_place history group false (Some moment) here was place = was moment refl

last_two : (opened of place : Bool) → (place ≡ true → opened ≡ true) → ((opened && of) && place) ≡ (of && place)
last_two true of place is = refl
last_two false true true is = is refl
last_two false true false is = refl
last_two false false place is = refl

pub has-raw : (family : Family) (history : List AcceptedCall) (group : Ip) → has ip_order (raw_groups family history) group ≡ (is_of_family family group && has_place history group)
has-raw family history group =
    has-filter ip_order-exact (has_place history) (groups_of family history) group
    ∙ ap (λ (listed : Bool). listed && has_place history group)
    (has-filter ip_order-exact (is_of_family family) (ascending ip_order (groups_opened history)) group
    ∙ ap (λ (opened : Bool). opened && is_of_family family group) (has-ascending ip_order-total (groups_opened history) group))
    ∙ last_two (has ip_order (groups_opened history) group) (is_of_family family group) (has_place history group)
    (opened_place history group (has_socket group (open_sockets history)) (left_at history group) (opened-some history group) (opened-left history group))

pub IsAscending-raw : (family : Family) (history : List AcceptedCall) → IsAscending ip_order (raw_groups family history)
IsAscending-raw family history =
    IsAscending-filter ip_order (has_place history) (groups_of family history)
    (IsAscending-filter ip_order (is_of_family family) (ascending ip_order (groups_opened history)) (IsAscending-ascending ip_order-total (groups_opened history)))

only_family : (of some due : Bool) → some ≡ true → (of && (some || due)) ≡ of
only_family true true due is = refl
only_family false some due is = refl
only_family true false due is = absurd cc

-- the raw report by its groups and what is listed
pub raw-is : (family : Family) (history : List AcceptedCall) → raw_report_length family history ≡ raw_octets family (length (raw_groups family history)) (listed_in family (open_sockets history))
unfolding raw_report_length
raw-is family history =
    let sockets = open_sockets history in
    let groups = raw_groups family history in
    let sources : Ip → ℕ = λ group. length (raw_sources group sockets) in
    let all = All-from_any (eq_by_cmp_equiv ip_order-total) (λ group. has ip_order groups group ≡ is_of_family family group) (map group_of sockets)
    (λ group some. has-raw family history group
    ∙ only_family (is_of_family family group) (has_socket group sockets) (may_be_due (latest history) (left_at history group)) (has_socket-listed group sockets ∙ some)) in
    let listed : sum_by sources groups ≡ listed_in family sockets =
    (λ i. sum_by (λ group. raw_sources-listed group sockets i) groups)
    ∙ sum-listed (is_of_family family) groups sockets (IsDistinct-from_sorted ip_order groups (IsAscending-raw family history)) all in
    ap (λ (total : ℕ). 8 + total)
    (fold-map (λ (total : ℕ) (one : Record). total + (head_length family + length one.sources * width family)) (raw_record sockets) 0 groups
    ∙ sum-parts family sources groups ∙ ap (λ (number : ℕ). length groups * head_length family + number * width family) listed)

-- a smaller report of the family
pub raw_octets-le : (family : Family) (few more sources others : ℕ) → few ≤ more → sources ≤ others → raw_octets family few sources ≤ raw_octets family more others
raw_octets-le V4 few more sources others less fewer = omega arith
raw_octets-le V6 few more sources others less fewer = omega arith

-- neither number is more than its octets
pub record IsFew (number all most : ℕ) : Type 0 where
  pub records : number ≤ most
  pub sources : all ≤ most

pub IsFew-of : (family : Family) (records sources most : ℕ) → raw_octets family records sources ≤ most → IsFew records sources most
IsFew-of V4 records sources most short = record { records = omega arith; sources = omega arith }
IsFew-of V6 records sources most short = record { records = omega arith; sources = omega arith }

-- how many groups of a list have a record
pub few-raw : (family : Family) (history : List AcceptedCall) (groups : List Ip) → IsAscending ip_order groups → ((group : Ip) → has ip_order groups group ≡ true → (is_of_family family group && has_place history group) ≡ true)
    → length groups ≤ length (raw_groups family history)
few-raw family history groups ascends each =
    length-le_from_is_member (eq_by_cmp_equiv ip_order-total) groups (raw_groups family history) (IsDistinct-from_sorted ip_order groups ascends) (λ group some. has-raw family history group ∙ each group some)

-- the same groups have a record in two raw reports
pub same-raw : (family : Family) (first second : List AcceptedCall) → ((group : Ip) → has_place first group ≡ has_place second group) → raw_groups family first ≡ raw_groups family second
same-raw family first second same =
    same_ascending ip_order-total ip_order-exact (raw_groups family first) (raw_groups family second) (IsAscending-raw family first) (IsAscending-raw family second)
    (λ group. has-raw family first group ∙ ap (λ (place : Bool). is_of_family family group && place) (same group) ∙ sym (has-raw family second group))

-- ---- calls by which no group of the family gets more

-- no group of the family gets a socket by the call, and no more is listed
pub record TakesAway (family : Family) (newest : AcceptedCall) (older : List AcceptedCall) : Type 0 where
  pub onward : latest older ≤ newest.moment
  pub some : (group : Ip) → is_of_family family group ≡ true → has_socket group (open_sockets (newest ∷ older)) ≡ true → has_socket group (open_sockets older) ≡ true
  pub less : listed_in family (open_sockets (newest ∷ older)) ≤ listed_in family (open_sockets older)

pub due_earlier : (earlier later : ℕ) (left : Option ℕ) → earlier ≤ later → may_be_due later left ≡ true → may_be_due earlier left ≡ true
due_earlier earlier later None onward due = due
due_earlier earlier later (Some left) onward due =
    let late = leb-true later (left + longest_farewell) due in le-leb earlier (left + longest_farewell) (omega arith)

place_by : (some here wanted before : Bool) (earlier later : ℕ) (left : Option ℕ) → (some ≡ true → here ≡ true) → (before ≡ true → here ≡ true) → earlier ≤ later
    → (some || may_be_due later (cond wanted None (cond before (Some later) left))) ≡ true → (here || may_be_due earlier left) ≡ true
place_by some true wanted before earlier later left stays held onward due = refl
place_by true false wanted before earlier later left stays held onward due = let no = stays refl in absurd cc
place_by false false true before earlier later left stays held onward due = absurd cc
place_by false false false true earlier later left stays held onward due = let no = held refl in absurd cc
place_by false false false false earlier later left stays held onward due = due_earlier earlier later left onward due

both_by : (of after before : Bool) → (of ≡ true → after ≡ true → before ≡ true) → (of && after) ≡ true → (of && before) ≡ true
both_by true after before is both = is refl both
both_by false after before is both = both

-- the raw report doesn't grow by it
pub raw-taken : (family : Family) (newest : AcceptedCall) (older : List AcceptedCall) → TakesAway family newest older → raw_report_length family (newest ∷ older) ≤ raw_report_length family older
raw-taken family newest older takes =
    let few = few-raw family older (raw_groups family (newest ∷ older)) (IsAscending-raw family (newest ∷ older))
    (λ group listed. both_by (is_of_family family group) (has_place (newest ∷ older) group) (has_place older group)
    (λ of place. place_by (has_socket group (open_sockets (newest ∷ older))) (has_socket group (open_sockets older)) (is_wanted (newest ∷ older) group) (is_wanted older group) (latest older) newest.moment
    (left_at older group) (takes.some group of) (wanted-some (open_sockets older) group) takes.onward place)
    (sym (has-raw family (newest ∷ older) group) ∙ listed)) in
    omega (
      arith,
      raw-is family (newest ∷ older),
      raw-is family older,
      raw_octets-le family (length (raw_groups family (newest ∷ older))) (length (raw_groups family older)) (listed_in family (open_sockets (newest ∷ older))) (listed_in family (open_sockets older)) few takes.less,
    )
