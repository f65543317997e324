-- The slots of sockets and farewells, and what calls make of them.
use Rattle.std.{proofs.{Common.{◌≡◌, ℕ, Bool, true, false, not, ◌||◌, cond, is_some, List, [], ◌∷◌, ◌++◌, map, Option, Some, None, refl, sym, ap, subst, ◌∙◌}, lemmas.{Cmp.{eq_by_cmp_equiv}, Map.{lookup-none, Entries.{lookup_head, lookup_tail, none_past_head}, Keys.{IsDistinct-from_sorted, IsDistinct-tail}, Made.{is_some-lookup}}, List.Elements.{All-cons, All-nil}}}, specs.{BTreeMap.{BTreeMap, IsOrdered, get, get_by, is_at}, List.{All, IsDistinct, cons_option, find}, Map.{keys_of, Calls.{RetainsPairs}}, Option.{option_map, unwrap_or}, Ordering.{eq_by_cmp}, declared.cmp.Ordering.{Ordering}}}
use Rattle.amt_values.{specs.{declared.address.Ip.{Ip}, Order.{ip_order}, Ascending.{IsAscending, ascending, has}}, proofs.{Orders.{ip_order-exact, ip_order-total}, AscendingLaws.{IsAscending-ascending, has-append, has-ascending, same_ascending}}}
use Rattle.source_filter.specs.Filter.{wants_any}
use Rattle.socket_merge.specs.{FullReport.{is_empty}, History.{Socket}, Interface.{on_group, same_group}, Kept.{AreMade, HasSlot, farewells_in, has_socket, kept_at, left_after, left_fresh, made, slot_at, slot_fresh, slot_left, slot_of, slots_of, some_wants}, Refusal.{may_be_due}, Sockets.{Farewell, left_in}}
use Rattle.socket_merge.proofs.{Amounts.{some_is}, ByGroup.{any_some, group_of, has_socket-listed, same_group-turned}, Wanted.{same_group-exact, same_group-itself}}

slot_kept : (some : Bool) (left : Option ℕ) → unwrap_or (slot_of some left) None ≡ left
slot_kept true left = refl
slot_kept false None = refl
slot_kept false (Some left) = refl

-- the group of a farewell
abbrev pub farewell_group : Farewell → Ip
farewell_group one = one.group

-- the groups of sockets and farewells, ascending
abbrev pub groups_in : List Socket → List Farewell → List Ip
groups_in sockets farewells = ascending ip_order (map group_of sockets ++ map farewell_group farewells)

found_by : (test rest : Bool) (one : Farewell) (found : Option Farewell) → rest ≡ is_some (option_map (λ (kept : Farewell). kept.left) found)
    → (test || rest) ≡ is_some (option_map (λ (kept : Farewell). kept.left) (cond test (Some one) found))
found_by true rest one found is = refl
found_by false rest one found is = is

listed-left : (farewells : List Farewell) (group : Ip) → has ip_order (map farewell_group farewells) group ≡ is_some (left_in farewells group)
listed-left [] group = refl
listed-left (one ∷ more) group =
    found_by (same_group group one.group) (has ip_order (map farewell_group more) group) one (find (λ (kept : Farewell). same_group group kept.group) more) (listed-left more group)

-- a group has a slot where it has a socket or a farewell
pub has-groups : (sockets : List Socket) (farewells : List Farewell) (group : Ip) → has ip_order (groups_in sockets farewells) group ≡ (has_socket group sockets || is_some (left_in farewells group))
has-groups sockets farewells group =
    has-ascending ip_order-total (map group_of sockets ++ map farewell_group farewells) group
    ∙ has-append ip_order (map group_of sockets) (map farewell_group farewells) group
    ∙ ap (λ (some : Bool). some || has ip_order (map farewell_group farewells) group) (sym (has_socket-listed group sockets))
    ∙ ap (λ (some : Bool). has_socket group sockets || some) (listed-left farewells group)

made_by : (test rest : Bool) (left : Ip → Option ℕ) (group next : Ip) (found : Option (Option ℕ)) → (test ≡ true → group ≡ next) → found ≡ cond rest (Some (left group)) None
    → cond test (Some (left next)) found ≡ cond (test || rest) (Some (left group)) None
made_by true rest left group next found same is = ap (λ (at : Ip). Some (left at)) (sym (same refl))
made_by false rest left group next found same is = is

slot_at-made : (left : Ip → Option ℕ) (groups : List Ip) (group : Ip) → slot_at (map (λ one. (one, left one)) groups) group ≡ cond (has ip_order groups group) (Some (left group)) None
slot_at-made left [] group = refl
slot_at-made left (next ∷ more) group =
    made_by (same_group group next) (has ip_order more group) left group next (slot_at (map (λ one. (one, left one)) more) group) (same_group-exact group next) (slot_at-made left more group)

keys-made : (left : Ip → Option ℕ) (groups : List Ip) → keys_of (map (λ one. (one, left one)) groups) ≡ groups
keys-made left [] = refl
keys-made left (group ∷ more) = ap (λ keys. group ∷ keys) (keys-made left more)

-- the slots are those of the sockets and of the farewells of groups
pub record AreSlots (sockets : List Socket) (slots : List (Ip × Option ℕ)) (left : Ip → Option ℕ) : Type 0 where
  pub ordered : IsAscending ip_order (keys_of slots)
  pub each : (group : Ip) → slot_at slots group ≡ slot_of (has_socket group sockets) (left group)

pub kept-is : (sockets : List Socket) (slots : List (Ip × Option ℕ)) (left : Ip → Option ℕ) → AreSlots sockets slots left → (group : Ip) → kept_at slots group ≡ left group
kept-is sockets slots left are group = ap (λ (slot : Option (Option ℕ)). unwrap_or slot None) (are.each group) ∙ slot_kept (has_socket group sockets) (left group)

-- so are those that sockets and farewells give
AreSlots-of : (sockets : List Socket) (farewells : List Farewell) → AreSlots sockets (slots_of sockets farewells) (left_in farewells)
AreSlots-of sockets farewells =
    let groups = groups_in sockets farewells in
    record {
      ordered = subst (IsAscending ip_order) (sym (keys-made (left_in farewells) groups)) (IsAscending-ascending ip_order-total (map group_of sockets ++ map farewell_group farewells));
      each = λ group. slot_at-made (left_in farewells) groups group ∙ ap (λ (some : Bool). cond some (Some (left_in farewells group)) None) (has-groups sockets farewells group);
    }

-- and so those that are given back
pub AreSlots-back : (sockets : List Socket) (slots : List (Ip × Option ℕ)) → slots_of sockets (farewells_in slots) ≡ slots → AreSlots sockets slots (left_in (farewells_in slots))
AreSlots-back sockets slots back = subst (λ (all : List (Ip × Option ℕ)). AreSlots sockets all (left_in (farewells_in slots))) back (AreSlots-of sockets (farewells_in slots))

none_later : (slot : Ip × Option ℕ) (more : List (Ip × Option ℕ)) (group : Ip) → IsDistinct (eq_by_cmp ip_order) (keys_of (slot ∷ more)) → same_group group slot.0 ≡ true → slot_at more group ≡ None
none_later slot more group distinct same = lookup-none (same_group group) more (none_past_head (eq_by_cmp_equiv ip_order-total) group slot more distinct same)

first_by : (test : Bool) (at : Ip) (left : Option ℕ) (rest : List Farewell) (group : Ip) (later : Option (Option ℕ)) → same_group group at ≡ test → left_in rest group ≡ unwrap_or later None
    → (test ≡ true → later ≡ None) → left_in (cons_option (option_map (λ moment. record { group = at; left = moment }) left) rest) group ≡ unwrap_or (cond test (Some left) later) None
first_by true at None rest group later same is none = is ∙ ap (λ (slot : Option (Option ℕ)). unwrap_or slot None) (none refl)
first_by false at None rest group later same is none = is
first_by true at (Some moment) rest group later same is none = rw same refl
first_by false at (Some moment) rest group later same is none = rw same is

left_in-kept : (slots : List (Ip × Option ℕ)) (group : Ip) → IsDistinct (eq_by_cmp ip_order) (keys_of slots) → left_in (farewells_in slots) group ≡ kept_at slots group
left_in-kept [] group distinct = refl
left_in-kept (slot ∷ more) group distinct =
    first_by (same_group group slot.0) slot.0 slot.1 (farewells_in more) group (slot_at more group) refl (left_in-kept more group (IsDistinct-tail (eq_by_cmp ip_order) slot.0 (keys_of more) distinct))
    (none_later slot more group distinct)

-- the farewells that are kept are those of groups
pub left_in-is : (sockets : List Socket) (slots : List (Ip × Option ℕ)) (left : Ip → Option ℕ) → AreSlots sockets slots left → (group : Ip) → left_in (farewells_in slots) group ≡ left group
left_in-is sockets slots left are group = left_in-kept slots group (IsDistinct-from_sorted ip_order (keys_of slots) are.ordered) ∙ kept-is sockets slots left are group

later_by : (test : Bool) (one other : Ip × Option ℕ) (first second : List (Ip × Option ℕ)) (group : Ip) → same_group group one.0 ≡ test → same_group group other.0 ≡ test
    → (test ≡ true → slot_at first group ≡ None) → (test ≡ true → slot_at second group ≡ None) → slot_at (one ∷ first) group ≡ slot_at (other ∷ second) group → slot_at first group ≡ slot_at second group
later_by true one other first second group here there none gone same = none refl ∙ sym (gone refl)
later_by false one other first second group here there none gone same = sym (lookup_tail (same_group group) one first here) ∙ same ∙ lookup_tail (same_group group) other second there

-- slots of the same groups are the same
same_slots : (first second : List (Ip × Option ℕ)) → keys_of first ≡ keys_of second → IsDistinct (eq_by_cmp ip_order) (keys_of first) → IsDistinct (eq_by_cmp ip_order) (keys_of second)
    → ((group : Ip) → slot_at first group ≡ slot_at second group) → first ≡ second
same_slots [] [] keys distinct again same = refl
same_slots [] (other ∷ second) keys distinct again same = absurd cc
same_slots (one ∷ first) [] keys distinct again same = absurd cc
same_slots (one ∷ first) (other ∷ second) keys distinct again same =
    let group : one.0 ≡ other.0 = cc in
    let rest : keys_of first ≡ keys_of second = cc in
    let left : one.1 ≡ other.1 =
    some_is one.1 other.1
    (sym (lookup_head (same_group one.0) one first (same_group-itself one.0)) ∙ same one.0 ∙ lookup_head (same_group one.0) other second (ap (same_group one.0) (sym group) ∙ same_group-itself one.0)) in
    let more = same_slots first second rest (IsDistinct-tail (eq_by_cmp ip_order) one.0 (keys_of first) distinct) (IsDistinct-tail (eq_by_cmp ip_order) other.0 (keys_of second) again)
    (λ at. later_by (same_group at one.0) one other first second at refl (ap (same_group at) (sym group)) (none_later one first at distinct)
    (λ here. none_later other second at again (ap (same_group at) (sym group) ∙ here)) (same at)) in
    λ i. (group i, left i) ∷ more i

-- and nothing is kept beside the sockets and farewells
pub back-of : (sockets : List Socket) (slots : List (Ip × Option ℕ)) (left : Ip → Option ℕ) → AreSlots sockets slots left → slots_of sockets (farewells_in slots) ≡ slots
back-of sockets slots left are =
    let of = AreSlots-of sockets (farewells_in slots) in
    let all = slots_of sockets (farewells_in slots) in
    let same : (group : Ip) → slot_at all group ≡ slot_at slots group = λ group. of.each group ∙ ap (slot_of (has_socket group sockets)) (left_in-is sockets slots left are group) ∙ sym (are.each group) in
    same_slots all slots
    (same_ascending ip_order-total ip_order-exact (keys_of all) (keys_of slots) of.ordered are.ordered
    (λ group. sym (is_some-lookup (same_group group) all) ∙ ap is_some (same group) ∙ is_some-lookup (same_group group) slots))
    (IsDistinct-from_sorted ip_order (keys_of all) of.ordered) (IsDistinct-from_sorted ip_order (keys_of slots) are.ordered) same

each_by : (P : Farewell → Type 0) (left : Option ℕ) (group : Ip) (rest : List Farewell) → ((moment : ℕ) → left ≡ Some moment → P (record { group = group; left = moment })) → All P rest
    → All P (cons_option (option_map (λ moment. record { group = group; left = moment }) left) rest)
each_by P None group rest one all = all
each_by P (Some moment) group rest one all = All-cons P (record { group = group; left = moment }) rest (one moment refl) all

each_made : (P : Farewell → Type 0) (left : Ip → Option ℕ) (groups : List Ip) → ((group : Ip) (moment : ℕ) → left group ≡ Some moment → P (record { group = group; left = moment }))
    → All P (farewells_in (map (λ one. (one, left one)) groups))
each_made P left [] one = All-nil P
each_made P left (group ∷ more) one = each_by P (left group) group (farewells_in (map (λ at. (at, left at)) more)) (one group) (each_made P left more one)

-- what holds of the farewell of each group holds of each farewell
pub each_farewell : (P : Farewell → Type 0) (sockets : List Socket) (slots : List (Ip × Option ℕ)) (left : Ip → Option ℕ) → AreSlots sockets slots left
    → ((group : Ip) (moment : ℕ) → left group ≡ Some moment → P (record { group = group; left = moment })) → All P (farewells_in slots)
each_farewell P sockets slots left are one =
    let farewells = farewells_in slots in
    subst (λ (all : List (Ip × Option ℕ)). All P (farewells_in all)) (back-of sockets slots left are)
    (each_made P (left_in farewells) (groups_in sockets farewells) (λ group moment is. one group moment (sym (left_in-is sockets slots left are group) ∙ is)))

-- ---- after calls

same_slot : (test : Bool) (group other : Ip) (some : Ip → Bool) (before : Bool) (left old : Option ℕ) → (test ≡ true → group ≡ other) → (test ≡ false → some other ≡ before)
    → cond test (slot_of (some group) left) (slot_of before old) ≡ slot_of (some other) (cond test left old)
same_slot true group other some before left old same kept = ap (λ (at : Ip). slot_of (some at) left) (same refl)
same_slot false group other some before left old same kept = ap (λ (has : Bool). slot_of has old) (sym (kept refl))

-- a call that changes the sockets of one group
pub AreSlots-one : (sockets after : List Socket) (slots new : List (Ip × Option ℕ)) (left : Ip → Option ℕ) (group : Ip) (now : Option ℕ) → AreSlots sockets slots left → IsAscending ip_order (keys_of new)
    → HasSlot group (slot_of (has_socket group after) now) slots new → ((other : Ip) → same_group other group ≡ false → on_group other after ≡ on_group other sockets)
    → AreSlots after new (λ other. cond (same_group group other) now (left other))
AreSlots-one sockets after slots new left group now are ordered is others = record {
  ordered = ordered;
  each = λ other. is other ∙ ap (λ (slot : Option (Option ℕ)). cond (same_group group other) (slot_of (has_socket group after) now) slot) (are.each other)
      ∙ same_slot (same_group group other) group other (λ at. has_socket at after) (has_socket other sockets) now (left other) (same_group-exact group other)
      (λ apart. ap (λ (on : List Socket). not (is_empty on)) (others other (same_group-turned other group ∙ apart)));
}

left_by : (some wanted : Bool) (moment : ℕ) (left : Option ℕ) → (wanted ≡ true → some ≡ true)
    → made (λ one. slot_of false (left_after false wanted moment one)) (slot_of some left) ≡ slot_of false (left_after false wanted moment left)
left_by true wanted moment left is = refl
left_by false true moment left is = let yes = is refl in absurd cc
left_by false false moment None is = refl
left_by false false moment (Some left) is = refl

-- the call that closes every socket
pub AreSlots-left : (sockets : List Socket) (slots new : List (Ip × Option ℕ)) (left : Ip → Option ℕ) (moment : ℕ) → AreSlots sockets slots left → IsAscending ip_order (keys_of new)
    → AreMade (slot_left sockets moment) slots new → AreSlots [] new (λ group. left_after false (some_wants group sockets) moment (left group))
AreSlots-left sockets slots new left moment are ordered is = record {
  ordered = ordered;
  each = λ group. is group ∙ ap (made (slot_left sockets moment group)) (are.each group)
      ∙ left_by (has_socket group sockets) (some_wants group sockets) moment (left group) (any_some wants_any (λ (socket : Socket). socket.filter) (on_group group sockets));
}

due_first : (due some : Bool) (left : ℕ) → cond (is_some (cond due (Some left) None) || some) (Some (cond due (Some left) None)) None ≡ slot_of some (cond due (Some left) None)
due_first true true left = refl
due_first true false left = refl
due_first false true left = refl
due_first false false left = refl

fresh_by : (some : Bool) (moment : ℕ) (left : Option ℕ)
    → made (λ one. cond (not (is_some one) || (is_some (left_fresh moment one) || some)) (Some (left_fresh moment one)) None) (slot_of some left) ≡ slot_of some (left_fresh moment left)
fresh_by true moment None = refl
fresh_by false moment None = refl
fresh_by true moment (Some left) = due_first (may_be_due moment (Some left)) true left
fresh_by false moment (Some left) = due_first (may_be_due moment (Some left)) false left

-- where old farewells are dropped
pub AreSlots-fresh : (sockets : List Socket) (slots new : List (Ip × Option ℕ)) (left : Ip → Option ℕ) (moment : ℕ) → AreSlots sockets slots left → IsAscending ip_order (keys_of new)
    → AreMade (slot_fresh sockets moment) slots new → AreSlots sockets new (λ group. left_fresh moment (left group))
AreSlots-fresh sockets slots new left moment are ordered is = record {
  ordered = ordered;
  each = λ group. is group ∙ ap (made (slot_fresh sockets moment group)) (are.each group) ∙ fresh_by (has_socket group sockets) moment (left group);
}

-- ---- what calls of the map leave

module _ (by : Ip → Ip → Ordering) (compared : by ≡ ip_order) (m n : BTreeMap Ip (Option ℕ)) where
  pub slot_at-get : (group : Ip) → get_by (by group) m ≡ slot_at m.entries group
  slot_at-get group = ap (λ (order : Ip → Ip → Ordering). get_by (order group) m) compared

  pub HasSlot-updates : (group : Ip) (slot : Option (Option ℕ)) → ((q : Ip) → get by n q ≡ cond (is_at (by group) q) slot (get by m q)) → HasSlot group slot m.entries n.entries
  HasSlot-updates group slot updates = subst (λ (order : Ip → Ip → Ordering). (q : Ip) → get order n q ≡ cond (is_at (order group) q) slot (get order m q)) compared updates

  pub ordered_by : IsOrdered by n → IsAscending ip_order (keys_of n.entries)
  ordered_by ordered = subst (λ (order : Ip → Ip → Ordering). IsOrdered order n) compared ordered

stays-is : (some : Bool) (left : Option ℕ) → cond (is_some left || some) (Some left) None ≡ slot_of some left
stays-is true None = refl
stays-is false None = refl
stays-is true (Some left) = refl
stays-is false (Some left) = refl

kept_first : (b : Bool) (entry : Ip × Option ℕ) (rest : List (Ip × Option ℕ)) (group : Ip)
    → slot_at (cond b (entry ∷ rest) rest) group ≡ cond b (cond (same_group group entry.0) (Some entry.1) (slot_at rest group)) (slot_at rest group)
kept_first true entry rest group = refl
kept_first false entry rest group = refl

either_way : {X : Type 0} (b : Bool) (x : X) → cond b x x ≡ x
either_way true x = refl
either_way false x = refl

retained_by : (same : Bool) (to : Ip → Option ℕ → Option ℕ) (stay : Ip → Option ℕ → Bool) (group at : Ip) (left : Option ℕ) (later rest : Option (Option ℕ)) → (same ≡ true → group ≡ at)
    → (same ≡ true → later ≡ None) → rest ≡ made (λ one. cond (stay group one) (Some (to group one)) None) later
    → cond (stay at left) (cond same (Some (to at left)) rest) rest ≡ made (λ one. cond (stay group one) (Some (to group one)) None) (cond same (Some left) later)
retained_by true to stay group at left later rest is none more =
    let gone : rest ≡ None = more ∙ ap (made (λ one. cond (stay group one) (Some (to group one)) None)) (none refl) in
    ap (λ (slot : Option (Option ℕ)). cond (stay at left) (Some (to at left)) slot) gone ∙ ap (λ (one : Ip). cond (stay one left) (Some (to one left)) None) (sym (is refl))
retained_by false to stay group at left later rest is none more = either_way (stay at left) rest ∙ more

module _ {F : Type 0} (T : F → Ip → Option ℕ → Bool → Option ℕ → F → Type 0) (to : Ip → Option ℕ → Option ℕ) (stay : Ip → Option ℕ → Bool) (f : F)
    (says : (k : Ip) (v : Option ℕ) (b : Bool) (w : Option ℕ) (g : F) → T f k v b w g → (b ≡ stay k v) × (w ≡ to k v) × (g ≡ f)) where
  -- what a walk leaves that writes each slot and keeps some
  pub retained : (es kept : List (Ip × Option ℕ)) → RetainsPairs T f es kept → IsDistinct (eq_by_cmp ip_order) (keys_of es)
      → AreMade (λ group left. cond (stay group left) (Some (to group left)) None) es kept
  retained [] kept h distinct group = ap (λ es. slot_at es group) h
  retained (e ∷ es) kept h distinct group =
      let said = says e.0 e.1 h.0 h.1 h.2 h.4 in
      let rest = retained es h.3 (subst (λ g. RetainsPairs T g es h.3) said.2 h.5) (IsDistinct-tail (eq_by_cmp ip_order) e.0 (keys_of es) distinct) group in
      ap (λ all. slot_at all group) h.6 ∙ kept_first h.0 (e.0, h.1) h.3 group
      ∙ (λ i. cond (said.0 i) (cond (same_group group e.0) (Some (said.1 i)) (slot_at h.3 group)) (slot_at h.3 group))
      ∙ retained_by (same_group group e.0) to stay group e.0 e.1 (slot_at es group) (slot_at h.3 group) (same_group-exact group e.0)
      (none_later e es group distinct) rest

-- the slot of a group after a call, by whether it stays
pub slot-is : (stays some wanted seen before : Bool) (moment : ℕ) (now left kept : Option ℕ) → stays ≡ (is_some now || some) → now ≡ left_after seen before moment left → seen ≡ wanted → left ≡ kept
    → cond stays (Some now) None ≡ slot_of some (left_after wanted before moment kept)
slot-is stays some wanted seen before moment now left kept stay follow see keep =
    ap (λ (test : Bool). cond test (Some now) None) stay ∙ stays-is some now
    ∙ ap (slot_of some) (follow ∙ ap (λ (test : Bool). left_after test before moment left) see ∙ ap (left_after wanted before moment) keep)
