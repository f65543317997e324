-- Which groups have sockets, and were opened; sums and texts by group.
use Rattle.std.proofs.Common.{◌≡◌, ℕ, ◌+◌, Bool, true, false, not, ◌||◌, cond, List, [], ◌∷◌, ◌++◌, filter, length, map, Option, Some, None, if◌then◌else◌, refl, sym, ap, ◌∙◌, arith}
use Rattle.std.{proofs.lemmas.{Bool.{cond_both, false_from_ne_true, or_right}, Cmp.{eq_by_cmp_equiv}, List.{Folds.{list_any_none}, Elements.{All-from_recursion, All-filter, All-head, All-map, All-nil, All-push, All-tail, All-weaker}, Sums.{sum_by-cons}}, Map.Keys.{IsDistinct-head, IsDistinct-tail}}, specs.List.{All, IsDistinct, flat_map, list_any, sum_by}}
use Rattle.std.specs.Ordering.{eq_by_cmp}
use Rattle.amt_values.{specs.{declared.address.Ip.{Ip}, Order.{ip_order}, Ascending.{has}}, proofs.{Orders.{ip_order-total}, AscendingLaws.{has-append}}}
use Rattle.socket_merge.specs.{FullReport.{is_empty}, History.{AcceptedCall, Change, Close, LeaveAll, Open, Socket, SocketCall, group_opened, groups_opened, open_sockets, refiltered, sockets_after}, Interface.{is_wanted, left_at, on_group, same_group}, Kept.{has_socket, listed, listed_on}}
use Rattle.source_filter.specs.{Filter.{wants_any}, Merging.{merged}}
use Rattle.socket_merge.{specs.Interface.{filters_on}, proofs.{Amounts.{has_name, listing, with_filter}, Wanted.{All-has, same_group-exact, same_group-itself, wants_any-merged}}}

-- the group of a socket
abbrev pub group_of : Socket → Ip
group_of socket = socket.group

some_by : (test rest : Bool) (socket : Socket) (on : List Socket) → not (is_empty on) ≡ rest → not (is_empty (cond test (socket ∷ on) on)) ≡ (test || rest)
some_by true rest socket on is = refl
some_by false rest socket on is = is

-- a group has a socket where it is among their groups
pub has_socket-listed : (group : Ip) (sockets : List Socket) → has_socket group sockets ≡ has ip_order (map group_of sockets) group
has_socket-listed group [] = refl
has_socket-listed group (socket ∷ more) =
    some_by (same_group group socket.group) (has ip_order (map group_of more) group) socket (on_group group more) (has_socket-listed group more)

-- what holds of the group of each socket holds of each group with a socket
pub All-group : (P : Ip → Type 0) (group : Ip) (sockets : List Socket) → All (λ socket. P socket.group) sockets → has_socket group sockets ≡ true → P group
All-group P group sockets all some = All-has P (map group_of sockets) group (All-map P group_of sockets all) (sym (has_socket-listed group sockets) ∙ some)

-- ---- the groups that sockets were opened of

-- a socket was opened of the group
abbrev pub IsOpened : List AcceptedCall → Ip → Type 0
IsOpened history group = has ip_order (groups_opened history) group ≡ true

opened_later : (call : SocketCall) (history : List AcceptedCall) (group : Ip) → IsOpened history group → has ip_order (group_opened call ++ groups_opened history) group ≡ true
opened_later call history group is = has-append ip_order (group_opened call) (groups_opened history) group ∙ or_right (has ip_order (group_opened call) group) _ is

opened_by : (call : SocketCall) (history : List AcceptedCall) (sockets : List Socket) → All (λ socket. IsOpened history socket.group) sockets
    → All (λ socket. has ip_order (group_opened call ++ groups_opened history) socket.group ≡ true) (sockets_after call sockets)
opened_by (Open name group filter) history sockets all =
    All-push (λ socket. has ip_order (group ∷ groups_opened history) socket.group ≡ true) sockets (record { name = name; group = group; filter = filter })
    (All-weaker (λ socket. IsOpened history socket.group) (λ socket. has ip_order (group ∷ groups_opened history) socket.group ≡ true) (λ socket is. or_right (same_group socket.group group) _ is) sockets all)
    (ap (λ (test : Bool). test || has ip_order (groups_opened history) group) (same_group-itself group))
opened_by (Change name filter) history sockets all =
    All-map (λ socket. IsOpened history socket.group) (refiltered name filter) sockets
    (All-weaker (λ socket. IsOpened history socket.group) (λ socket. IsOpened history (refiltered name filter socket).group)
    (λ socket is. cond_both (has_name name socket) (with_filter filter socket) socket (λ one. IsOpened history one.group) (λ named. is) (λ other. is)) sockets all)
opened_by (Close name) history sockets all = All-filter (λ socket. not (has_name name socket)) (λ socket. IsOpened history socket.group) sockets all
opened_by LeaveAll history sockets all = All-nil (λ socket. IsOpened history socket.group)

all_opened : (history : List AcceptedCall) → All (λ socket. IsOpened history socket.group) (open_sockets history)
all_opened [] = All-nil (λ socket. IsOpened [] socket.group)
all_opened (newest ∷ older) = opened_by newest.call older (open_sockets older) (all_opened older)

-- a group with a socket was opened
pub opened-some : (history : List AcceptedCall) (group : Ip) → has_socket group (open_sockets history) ≡ true → IsOpened history group
opened-some history group some = All-group (IsOpened history) group (open_sockets history) (all_opened history) some

pub any_some : {X Y : Type 0} (p : Y → Bool) (f : X → Y) (xs : List X) → list_any p (map f xs) ≡ true → not (is_empty xs) ≡ true
any_some p f [] some = absurd cc
any_some p f (x ∷ xs) some = refl

-- a group that is wanted has one
pub wanted-some : (sockets : List Socket) (group : Ip) → wants_any (merged (filters_on group sockets)) ≡ true → has_socket group sockets ≡ true
wanted-some sockets group wanted =
    any_some wants_any (λ (socket : Socket). socket.filter) (on_group group sockets) (sym (wants_any-merged (filters_on group sockets)) ∙ wanted)

-- and so was one that is wanted
pub opened-wanted : (history : List AcceptedCall) (group : Ip) → is_wanted history group ≡ true → IsOpened history group
opened-wanted history group wanted = opened-some history group (wanted-some (open_sockets history) group wanted)

left_by : (wanted before : Bool) (moment left : ℕ) (earlier : Option ℕ) (P : Type 0) → (before ≡ true → P) → (earlier ≡ Some left → P) → cond wanted None (cond before (Some moment) earlier) ≡ Some left → P
left_by true before moment left earlier P here later is = absurd cc
left_by false true moment left earlier P here later is = here refl
left_by false false moment left earlier P here later is = later is

-- or that was left
pub opened-left : (history : List AcceptedCall) (group : Ip) (left : ℕ) → left_at history group ≡ Some left → IsOpened history group
opened-left [] group left is = absurd cc
opened-left (newest ∷ older) group left is =
    left_by (is_wanted (newest ∷ older) group) (is_wanted older group) newest.moment left (left_at older group) (IsOpened (newest ∷ older) group)
    (λ wanted. opened_later newest.call older group (opened-wanted older group wanted)) (λ earlier. opened_later newest.call older group (opened-left older group left earlier)) is

none_by : (left : Option ℕ) (opened : Bool) → ((moment : ℕ) → left ≡ Some moment → opened ≡ true) → opened ≡ false → left ≡ None
none_by None opened is none = refl
none_by (Some moment) opened is none = let yes = is moment refl in absurd cc

-- a group of which no socket was opened has none
pub unopened : (history : List AcceptedCall) (group : Ip) → has ip_order (groups_opened history) group ≡ false → has_socket group (open_sockets history) ≡ false
unopened history group none = false_from_ne_true _ (λ some. let opened = opened-some history group some in cc)

-- it isn't wanted, and was never left
pub unwanted : (history : List AcceptedCall) (group : Ip) → has ip_order (groups_opened history) group ≡ false → is_wanted history group ≡ false
unwanted history group none = false_from_ne_true _ (λ wanted. let opened = opened-wanted history group wanted in cc)

pub never_left : (history : List AcceptedCall) (group : Ip) → has ip_order (groups_opened history) group ≡ false → left_at history group ≡ None
never_left history group none = none_by (left_at history group) _ (opened-left history group) none

-- ---- texts of groups

first_of : {X : Type 0} (test : Bool) (f : Ip → List X) (group : Ip) (passing : List Ip) → flat_map f (cond test (group ∷ passing) passing) ≡ cond test (f group) [] ++ flat_map f passing
first_of true f group passing = refl
first_of false f group passing = refl

-- of the groups that pass a test
pub flat_map-filter : {X : Type 0} (f : Ip → List X) (test : Ip → Bool) (groups : List Ip) → flat_map f (filter test groups) ≡ flat_map (λ group. cond (test group) (f group) []) groups
flat_map-filter f test [] = refl
flat_map-filter f test (group ∷ more) =
    first_of (test group) f group (filter test more) ∙ ap (λ later. cond (test group) (f group) [] ++ later) (flat_map-filter f test more)

-- ---- sums over groups

abbrev DistinctGroups : List Ip → Type 0
DistinctGroups groups = IsDistinct (eq_by_cmp ip_order) groups

one_by : (test rest : Bool) (f : Ip → ℕ) (group next : Ip) (sum : ℕ) → (test ≡ true → group ≡ next) → (test ≡ true → rest ≡ false) → sum ≡ cond rest (f group) 0
    → cond test (f next) 0 + sum ≡ cond (test || rest) (f group) 0
one_by true rest f group next sum same apart is =
    let here = ap f (same refl) in
    let none = ap {B = ℕ} (λ (test : Bool). cond test (f group) 0) (apart refl) in
    omega (arith, here, none, is)
one_by false rest f group next sum same apart is = omega (arith, is)

-- the term of one group
pub sum-one : (f : Ip → ℕ) (group : Ip) (groups : List Ip) → DistinctGroups groups → sum_by (λ other. cond (same_group group other) (f other) 0) groups ≡ cond (has ip_order groups group) (f group) 0
sum-one f group [] distinct = refl
sum-one f group (next ∷ more) distinct =
    sum_by-cons (λ other. cond (same_group group other) (f other) 0) next more
    ∙ one_by (same_group group next) (has ip_order more group) f group next (sum_by (λ other. cond (same_group group other) (f other) 0) more) (same_group-exact group next)
    (λ same. ap (has ip_order more) (same_group-exact group next same) ∙ list_any_none (same_group next) more (All-from_recursion (λ other. same_group next other ≡ false) more (IsDistinct-head (eq_by_cmp ip_order) next more distinct)))
    (sum-one f group more (IsDistinct-tail (eq_by_cmp ip_order) next more distinct))

pub sum-both : (f g h : Ip → ℕ) (groups : List Ip) → ((group : Ip) → h group ≡ f group + g group) → sum_by h groups ≡ sum_by f groups + sum_by g groups
sum-both f g h [] is = refl
sum-both f g h (group ∷ more) is =
    omega (arith, is group, sum-both f g h more is, sum_by-cons f group more, sum_by-cons g group more, sum_by-cons h group more)

sum-none : (groups : List Ip) → sum_by (λ group. 0) groups ≡ 0
sum-none [] = refl
sum-none (group ∷ more) = omega (arith, sum-none more, sum_by-cons (λ (one : Ip). 0) group more)

pub same_group-turned : (one other : Ip) → same_group one other ≡ same_group other one
same_group-turned one other = (eq_by_cmp_equiv ip_order-total).symm one other

-- What the sockets of each group list comes to what the sockets list whose groups pass, where the groups
-- are those of the sockets that pass.
pub sum-listed : (test : Ip → Bool) (groups : List Ip) (sockets : List Socket) → DistinctGroups groups → All (λ group. has ip_order groups group ≡ test group) (map group_of sockets)
    → sum_by (λ group. listed_on group sockets) groups ≡ listed test sockets
sum-listed test groups [] distinct all = sum-none groups
sum-listed test groups (socket ∷ more) distinct all =
    let here : Ip → ℕ = λ group. cond (same_group group socket.group) (listing socket) 0 in
    let turned : (group : Ip) → here group ≡ cond (same_group socket.group group) (listing socket) 0 = λ group. ap (λ (same : Bool). cond same (listing socket) 0) (same_group-turned group socket.group) in
    let one : sum_by here groups ≡ cond (test socket.group) (listing socket) 0 =
    (λ i. sum_by (λ group. turned group i) groups) ∙ sum-one (λ (other : Ip). listing socket) socket.group groups distinct
    ∙ ap (λ (some : Bool). cond some (listing socket) 0) (All-head (λ group. has ip_order groups group ≡ test group) socket.group (map group_of more) all) in
    omega (
      arith,
      sum-both here (λ group. listed_on group more) (λ group. listed_on group (socket ∷ more)) groups
          (λ group. sum_by-cons (λ (each : Socket). if same_group group each.group then length each.filter.sources else 0) socket more),
      one,
      sum-listed test groups more distinct (All-tail (λ group. has ip_order groups group ≡ test group) socket.group (map group_of more) all),
      sum_by-cons (λ (each : Socket). if test each.group then length each.filter.sources else 0) socket more,
    )
