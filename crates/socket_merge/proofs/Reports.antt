-- What a full report says by the slots, whose records it has, and how long it is.
use Rattle.std.proofs.Common.{◌≡◌, ℕ, ◌+◌, ◌*◌, ◌≤◌, min, Bool, true, false, ◌||◌, cond, is_some, List, [], ◌∷◌, ◌++◌, filter, length, map, Option, Some, None, refl, sym, ap, subst, ◌∙◌, append-nil, arith}
use Rattle.std.{specs.{List.{All, flat_map, list_any, sum_by}}, proofs.lemmas.{Bool.{cond_both, ltb-true, le-leb, or_parts, or_right}, List.{Concat.{flat_map-append}, Elements.{All-append, All-cons, All-head, All-nil, All-tail}, Folds.{Any-from_list_any, flat_map-map, fold-map, list_any-from_Any}, Sums.{sum_by-append, sum_by-cons, sum_by-le-sum_by}}}}
use Rattle.amt_values.{specs.{declared.address.Ip.{Ip}, Group.{is_forwardable}, Order.{ip_order}, Ascending.{ascending, has}}, proofs.{Orders.{ip_order-exact, ip_order-total}, AscendingLaws.{flat_map-same, IsAscending-ascending, has-ascending}}}
use Rattle.source_filter.specs.{Filter.{FilterValue, wants_any}, Merging.{merged}, declared.record.Record.{Record}}
use Rattle.group_records.specs.{Family.{width}, Reading.{head_length}, Written.{IsOfFamily, is_of_family, report_length}, declared.family.Family.{Family, TheVariants.{V4, V6}}}
use Rattle.socket_merge.specs.{FullReport.{farewell, full_on, full_report_of, groups_of, is_recent, longest_farewell, states}, History.{AcceptedCall, Socket, groups_opened, latest, open_sockets}, Interface.{filters_on, interface, is_wanted, left_at, on_group, same_group}, Kept.{IsLawful, farewells_in, has_socket, said_of, said_on, slots_of, some_recent}, Refusal.{family_of, has_place, may_be_due, raw_report_length, raw_sources}, Sockets.{AreOfGroup, left_in}}
use Rattle.socket_merge.proofs.{Amounts.{listing, sum_by-on_group}, ByGroup.{flat_map-filter, group_of, opened-left, unopened, wanted-some}, HoldsAfter.{Stands, is_recent-kept}, RawOctets.{family_is, raw-sum, raw_here, raw_sources-listed}, Slots.{farewell_group, groups_in, has-groups}, Wanted.{All-ascending, All-merged, any-map, length-merged, same_group-exact, source_number}}

-- ---- by groups

all_first : (P : Record → Type 0) (Such : Ip → Type 0) (f : Ip → List Record) (groups : List Ip) → ((group : Ip) → Such group → All P (f group)) → All Such groups → All P (flat_map f groups)
all_first P Such f [] each all = All-nil P
all_first P Such f (group ∷ more) each all =
    All-append P (f group) (flat_map f more) (each group (All-head Such group more all)) (all_first P Such f more each (All-tail Such group more all))

-- what holds of what is said of each such group of the family holds of all that is said of such groups
pub All-said : (P : Record → Type 0) (Such : Ip → Type 0) (family : Family) (f : Ip → List Record) (groups : List Ip) → All Such groups
    → ((group : Ip) → Such group → is_of_family family group ≡ true → All P (f group)) → All P (flat_map f (filter (is_of_family family) (ascending ip_order groups)))
All-said P Such family f groups all each =
    subst (All P) (sym (flat_map-filter f (is_of_family family) (ascending ip_order groups)))
    (all_first P Such (λ group. cond (is_of_family family group) (f group) []) (ascending ip_order groups)
    (λ group is. cond_both (is_of_family family group) (f group) [] (All P) (each group is) (λ other. All-nil P)) (All-ascending Such groups all))

-- the sources of the filter are of the family
abbrev pub AreOf : Family → FilterValue → Type 0
AreOf family filter = All (λ source. is_of_family family source ≡ true) filter.sources

-- each socket's sources are of its group's family
abbrev pub IsOfOwnFamily : Socket → Type 0
IsOfOwnFamily socket = AreOfGroup socket.group socket.filter

filters_of_family : (family : Family) (group : Ip) (sockets : List Socket) → is_of_family family group ≡ true → All IsOfOwnFamily sockets → All (AreOf family) (filters_on group sockets)
filters_of_family family group [] of all = All-nil (AreOf family)
filters_of_family family group (socket ∷ more) of all =
    let rest = filters_of_family family group more of (All-tail IsOfOwnFamily socket more all) in
    cond_both (same_group group socket.group) (socket ∷ on_group group more) (on_group group more) (λ on. All (AreOf family) (map (λ (one : Socket). one.filter) on))
    (λ same. All-cons (AreOf family) socket.filter (filters_on group more)
    (subst (λ (one : Family). AreOf one socket.filter) (sym (family_is family group of ∙ ap family_of (same_group-exact group socket.group same))) (All-head IsOfOwnFamily socket more all)) rest) (λ other. rest)

-- the sources that are wanted of a group of the family
pub merged_of_family : (family : Family) (group : Ip) (sockets : List Socket) → is_of_family family group ≡ true → All IsOfOwnFamily sockets → AreOf family (merged (filters_on group sockets))
merged_of_family family group sockets of all = All-merged (λ source. is_of_family family source ≡ true) (filters_on group sockets) (filters_of_family family group sockets of all)

-- the octets of a record
abbrev pub octets_of_record : Family → Record → ℕ
octets_of_record family one = head_length family + length one.sources * width family

pub sum_by-flat_map : (f : Record → ℕ) (g : Ip → List Record) (groups : List Ip) → sum_by f (flat_map g groups) ≡ sum_by (λ group. sum_by f (g group)) groups
sum_by-flat_map f g [] = refl
sum_by-flat_map f g (group ∷ more) = omega (arith, sum_by-append f (g group) (flat_map g more), sum_by-flat_map f g more, sum_by-cons (λ one. sum_by f (g one)) group more)

-- no more octets than the raw report, where that is so of each group
pub short-said : (family : Family) (history : List AcceptedCall) (f : Ip → List Record)
    → ((group : Ip) → sum_by (octets_of_record family) (f group) ≤ cond (has_place history group) (raw_here family history group) 0)
    → report_length family (flat_map f (groups_of family history)) ≤ raw_report_length family history
short-said family history f each =
    omega (
      arith,
      sum_by-flat_map (octets_of_record family) f (groups_of family history),
      raw-sum family history,
      sum_by-le-sum_by (λ group. sum_by (octets_of_record family) (f group)) (λ group. cond (has_place history group) (raw_here family history group) 0) (groups_of family history) each,
    )

pub record_less : (family : Family) (here all : ℕ) → here ≤ all → head_length family + here * width family ≤ head_length family + all * width family
record_less V4 here all less = omega arith
record_less V6 here all less = omega arith

-- the merged filter of a group lists at most the sources that its sockets do
pub merged-few : (group : Ip) (sockets : List Socket) → length (merged (filters_on group sockets)).sources ≤ length (raw_sources group sockets)
merged-few group sockets =
    let mapped : sum_by source_number (filters_on group sockets) ≡ sum_by listing (on_group group sockets) =
    fold-map (λ (total : ℕ) (filter : FilterValue). total + source_number filter) (λ (socket : Socket). socket.filter) 0 (on_group group sockets) in
    omega (
      arith,
      length-merged (filters_on group sockets),
      mapped,
      raw_sources-listed group sockets,
      sum_by-on_group listing group sockets,
    )

-- ---- full reports

-- what is said of a group, by whether it is wanted or was left not long ago
abbrev pub said_by : Bool → Bool → Ip → FilterValue → List Record
said_by wanted lasts group filter = cond wanted (states group filter ∷ []) (cond lasts (farewell group ∷ []) [])

pub all_by : (P : Record → Type 0) (wanted lasts : Bool) (group : Ip) (filter : FilterValue) → P (states group filter) → P (farewell group) → All P (said_by wanted lasts group filter)
all_by P true lasts group filter state left = All-cons P (states group filter) [] state (All-nil P)
all_by P false true group filter state left = All-cons P (farewell group) [] left (All-nil P)
all_by P false false group filter state left = All-nil P

-- each record's group is forwarded
pub full-forwarded : (family : Family) (history : List AcceptedCall) (at keep : ℕ) → IsLawful history → All (λ one. is_forwardable one.group ≡ true) (full_report_of family history at keep)
unfolding full_report_of
full-forwarded family history at keep lawful =
    All-said (λ one. is_forwardable one.group ≡ true) (λ group. is_forwardable group ≡ true) family (full_on history at keep) (groups_opened history) lawful.forwarded
    (λ group is of. all_by (λ one. is_forwardable one.group ≡ true) (is_wanted history group) (is_recent at keep (left_at history group)) group (interface history group) is is)

-- and it is of the family, as are its sources
pub full-of_family : (family : Family) (history : List AcceptedCall) (at keep : ℕ) → IsLawful history → All (IsOfFamily family) (full_report_of family history at keep)
unfolding full_report_of
full-of_family family history at keep lawful =
    All-said (IsOfFamily family) (λ group. is_forwardable group ≡ true) family (full_on history at keep) (groups_opened history) lawful.forwarded
    (λ group is of. all_by (IsOfFamily family) (is_wanted history group) (is_recent at keep (left_at history group)) group (interface history group)
    (record { group = of; sources = merged_of_family family group (open_sockets history) of lawful.family }) (record { group = of; sources = All-nil (λ source. is_of_family family source ≡ true) }))

said_less : (family : Family) (wanted lasts place : Bool) (group : Ip) (filter : FilterValue) (sources : ℕ) → length filter.sources ≤ sources → (wanted ≡ true → place ≡ true) → (lasts ≡ true → place ≡ true)
    → sum_by (octets_of_record family) (said_by wanted lasts group filter) ≤ cond place (head_length family + sources * width family) 0
said_less family true lasts true group filter sources few state left = omega (arith, sum_by-cons (octets_of_record family) (states group filter) [], record_less family (length filter.sources) sources few)
said_less family false true true group filter sources few state left = omega (arith, sum_by-cons (octets_of_record family) (farewell group) [], record_less family 0 sources (omega arith))
said_less family false false place group filter sources few state left = omega arith
said_less family true lasts false group filter sources few state left = let no = state refl in absurd cc
said_less family false true false group filter sources few state left = let no = left refl in absurd cc

due_where_recent : (moment at keep : ℕ) (left : Option ℕ) → moment ≤ at → is_recent at keep left ≡ true → may_be_due moment left ≡ true
due_where_recent moment at keep None onward recent = absurd cc
due_where_recent moment at keep (Some left) onward recent =
    let early = ltb-true at (left + min keep longest_farewell) recent in le-leb moment (left + longest_farewell) (omega arith)

-- no full report after the newest call is longer than the raw one
pub full-within_raw : (family : Family) (history : List AcceptedCall) (at keep : ℕ) → latest history ≤ at → report_length family (full_report_of family history at keep) ≤ raw_report_length family history
unfolding full_report_of
full-within_raw family history at keep onward =
    short-said family history (full_on history at keep)
    (λ group. said_less family (is_wanted history group) (is_recent at keep (left_at history group)) (has_place history group) group (interface history group) (length (raw_sources group (open_sockets history)))
    (merged-few group (open_sockets history))
    (λ wanted. ap (λ (some : Bool). some || may_be_due (latest history) (left_at history group)) (wanted-some (open_sockets history) group wanted))
    (λ lasts. or_right (has_socket group (open_sockets history)) (may_be_due (latest history) (left_at history group)) (due_where_recent (latest history) at keep (left_at history group) onward lasts)))

-- ---- what is said by the slots

-- a slot with the farewell of its group
abbrev with_left : (Ip → Option ℕ) → Ip → Ip × Option ℕ
with_left left group = (group, left group)

no_socket : (sockets : List Socket) (group : Ip) (at keep : ℕ) (left : Option ℕ) → has_socket group sockets ≡ false → left ≡ None → said_on sockets at keep (group, left) ≡ []
no_socket sockets group at keep left none gone =
    ap (λ (one : Option ℕ). said_on sockets at keep (group, one)) gone ∙ unwanted_by (wants_any (merged (filters_on group sockets))) group (merged (filters_on group sockets))
    (λ wanted. let some = wanted-some sockets group wanted in cc)
  where
    unwanted_by : (wanted : Bool) (group : Ip) (filter : FilterValue) → (wanted ≡ true → ⊥) → cond wanted (states group filter ∷ []) [] ≡ []
    unwanted_by true group filter none = absurd (none refl)
    unwanted_by false group filter none = refl

none_kept : (left : Option ℕ) → is_some left ≡ false → left ≡ None
none_kept None is = refl
none_kept (Some moment) is = absurd cc

-- where nothing is said of a group, nothing is said of it by its family
pub nothing_of : (family : Family) (group : Ip) (here : List Record) → here ≡ [] → cond (is_of_family family group) here [] ≡ []
nothing_of family group here none = cond_both (is_of_family family group) here [] (λ said. said ≡ []) (λ own. none) (λ other. refl)

nothing_kept : (history : List AcceptedCall) (group : Ip) (left : Option ℕ) → ((moment : ℕ) → left ≡ Some moment → left_at history group ≡ Some moment) → has ip_order (groups_opened history) group ≡ false → left ≡ None
nothing_kept history group None is none = refl
nothing_kept history group (Some moment) is none = let opened = opened-left history group moment (is moment refl) in absurd cc

-- what the slots say is the full report
pub full_report-is : (family : Family) (history : List AcceptedCall) (slots : List (Ip × Option ℕ)) (at keep : ℕ) → slots_of (open_sockets history) (farewells_in slots) ≡ slots
    → Stands history (left_in (farewells_in slots)) → latest history ≤ at → flat_map (said_of family (open_sockets history) at keep) slots ≡ full_report_of family history at keep
unfolding full_report_of
full_report-is family history slots at keep back stands onward =
    let sockets = open_sockets history in
    let left = left_in (farewells_in slots) in
    let groups = groups_in sockets (farewells_in slots) in
    let opened = ascending ip_order (groups_opened history) in
    let said : Ip → List Record = λ group. said_of family sockets at keep (group, left group) in
    ap (flat_map (said_of family sockets at keep)) (sym back)
    ∙ flat_map-map (said_of family sockets at keep) (with_left left) groups
    ∙ flat_map-same ip_order-total ip_order-exact said groups opened (IsAscending-ascending ip_order-total (map group_of sockets ++ map farewell_group (farewells_in slots))) (IsAscending-ascending ip_order-total (groups_opened history))
    (λ group absent. let none = or_parts (has_socket group sockets) (is_some (left group)) (sym (has-groups sockets (farewells_in slots) group) ∙ absent) in
    nothing_of family group _ (no_socket sockets group at keep (left group) none.0 (none_kept (left group) none.1)))
    (λ group absent. let none = sym (has-ascending ip_order-total (groups_opened history) group) ∙ absent in
    nothing_of family group _ (no_socket sockets group at keep (left group) (unopened history group none) (nothing_kept history group (left group) (stands group).of_history none)))
    ∙ (λ i. flat_map (λ group. cond (is_of_family family group) (said_by (is_wanted history group) (is_recent-kept (left_at history group) (left group) (latest history) at keep (stands group) onward i) group (interface history group)) []) opened)
    ∙ sym (flat_map-filter (full_on history at keep) (is_of_family family) opened)

-- nothing is said of a group of another family
pub nothing_said : (family : Family) (sockets : List Socket) (at keep : ℕ) (done : List (Ip × Option ℕ)) (slot : Ip × Option ℕ) → is_of_family family slot.0 ≡ false
    → flat_map (said_of family sockets at keep) done ≡ flat_map (said_of family sockets at keep) (done ++ slot ∷ [])
nothing_said family sockets at keep done slot other =
    let said = said_of family sockets at keep in
    sym (flat_map-append said done (slot ∷ []) ∙ ap (λ (of : Bool). flat_map said done ++ (cond of (said_on sockets at keep slot) [] ++ [])) other ∙ append-nil (flat_map said done))

-- ---- whether it is quiet

any_within : (q : Ip → Bool) (xs ys : List Ip) → ((group : Ip) → q group ≡ true → has ip_order ys group ≡ true) → list_any q xs ≡ true → list_any q ys ≡ true
any_within q xs ys listed some =
    let one = Any-from_list_any q xs some in
    let there = Any-from_list_any (same_group one.1) ys (listed one.1 one.4) in
    list_any-from_Any q ys (there.0, there.1, there.2, there.3, ap q (sym (same_group-exact one.1 there.1 there.4)) ∙ one.4)

both_ways : (first second : Bool) → (first ≡ true → second ≡ true) → (second ≡ true → first ≡ true) → first ≡ second
both_ways true true there back = refl
both_ways true false there back = let no = there refl in absurd cc
both_ways false true there back = let no = back refl in absurd cc
both_ways false false there back = refl

recent_some : (at keep : ℕ) (left : Option ℕ) → is_recent at keep left ≡ true → is_some left ≡ true
recent_some at keep None recent = absurd cc
recent_some at keep (Some moment) recent = refl

recent_opened : (history : List AcceptedCall) (group : Ip) (at keep : ℕ) (left : Option ℕ) → left_at history group ≡ left → is_recent at keep left ≡ true → has ip_order (groups_opened history) group ≡ true
recent_opened history group at keep None is recent = absurd cc
recent_opened history group at keep (Some moment) is recent = opened-left history group moment is

-- some farewell lasts by the slots where one does by the history
pub some_recent-is : (history : List AcceptedCall) (sockets : List Socket) (slots : List (Ip × Option ℕ)) (at keep : ℕ) → slots_of sockets (farewells_in slots) ≡ slots
    → Stands history (left_in (farewells_in slots)) → latest history ≤ at → some_recent at keep slots ≡ list_any (λ group. is_recent at keep (left_at history group)) (groups_opened history)
some_recent-is history sockets slots at keep back stands onward =
    let left = left_in (farewells_in slots) in
    let groups = groups_in sockets (farewells_in slots) in
    let recent : (group : Ip) → is_recent at keep (left group) ≡ is_recent at keep (left_at history group) = λ group. is_recent-kept (left_at history group) (left group) (latest history) at keep (stands group) onward in
    ap (some_recent at keep) (sym back) ∙ any-map (λ (slot : Ip × Option ℕ). is_recent at keep slot.1) (with_left left) groups ∙ (λ i. list_any (λ group. recent group i) groups)
    ∙ both_ways _ _
    (any_within (λ group. is_recent at keep (left_at history group)) groups (groups_opened history) (λ group is. recent_opened history group at keep (left_at history group) refl is))
    (any_within (λ group. is_recent at keep (left_at history group)) (groups_opened history) groups
    (λ group is. has-groups sockets (farewells_in slots) group ∙ or_right (has_socket group sockets) (is_some (left group)) (recent_some at keep (left group) (recent group ∙ is))))
