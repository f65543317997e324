-- The groups of one endpoint, as a map of filters, as memberships, and as the pairs of which nothing is wanted.
use Rattle.std.{proofs.{Common.{◌≡◌, ℕ, Bool, true, false, cond, ◌&&◌, List, [], ◌∷◌, ◌++◌, filter, Option, Some, None, refl, sym, ap, subst, ◌∙◌, append-nil, not, ◌||◌, map, is_some, if◌then◌else◌, true≢false, length}, lemmas.{Cmp.{eq_by_cmp_equiv, tied_itself}, List.{Elements.{filter_map-append}, Sums.{length-filter}, length-map}, Map.{Keys.{sorted_head, sorted_tail, IsDistinct-from_sorted}, Views.{tells_apart}, Entries.{lookup-filter-values, option_filter, length-keys_of}, Made.{is_some-lookup}}, Bool.{and_parts, and_right}}}, specs.{BTreeMap.{BTreeMap, Updates, get, is_at, IsOrdered}, List.{Sorted.{IsStrictlySortedBy}, AllByRecursion, cons_option, filter_map}, Map.{keys_of, lookup}, Option.{option_or}, Ordering.{is_eq, eq_by_cmp}, declared.cmp.Ordering.{TheVariants.{Less}, Ordering}}}
use Rattle.amt_values.{specs.{declared.address.Ip.{Ip}, Order.{ip_order}, EndpointValue.{EndpointValue}, Ascending.{IsAscending, has}}, proofs.{Orders.{ip_order-exact, ip_order-total, endpoint_order-total, endpoint_order-exact}, AscendingLaws.{IsAscending-filter, same_ascending}}}
use Rattle.source_filter.specs.{Filter.{FilterValue, wants_any}, declared.record.Record.{Record}}
use Rattle.endpoint_membership.specs.{Membership.{Membership, is_fresh, membership_order, endpoint_group_of}, Stored.{only}, declared.after_report.RenewedFilter.{RenewedFilter}, EndpointMemberships.{AreOf, membership_of_entry, membership_of_renewed, renewed_filter_after, renewed_filter_after_all, renewed_filter_of, AreGone, gone_of_entry}, Log.{on_group}, EndpointGroup.{EndpointGroup, endpoint_group_order, same_endpoint, same_group}, Memberships.{membership_in}, Limits.{group_count}}
use Rattle.endpoint_membership.proofs.{MembershipsByLog.{AreAfter-cons_option, IsAscending-cons_option, membership_by, membership_in-cons_option}, MembershipIn.{AreAfter, membership_in-after, has-pairs, IsAscending-pairs, membership_in-filter, membership_in-where}, EndpointGroupOrder.{same_endpoint_group-is, endpoint_group_order-exact, endpoint_group_order-total}}

pub same_group-back : (one other : Ip) → same_group one other ≡ same_group other one
same_group-back one other = (eq_by_cmp_equiv ip_order-total).symm one other

abbrev endpoint_group : EndpointValue → Ip → EndpointGroup
endpoint_group endpoint group = record { endpoint = endpoint; group = group }

abbrev pub made : EndpointValue → Ip → FilterValue → ℕ → Membership
made endpoint group filter renewed = record { endpoint = endpoint; group = group; filter = filter; renewed = renewed }

or_none : (found : Option Membership) → option_or found None ≡ found
or_none None = refl
or_none (Some membership) = refl

-- one more entry, which gives an item
pub one_more_given : {A B : Type 0} (give : A → Option B) (done : List A) (entry : A) (item : B) (so_far more : List B) → give entry ≡ Some item → so_far ≡ filter_map give done → more ≡ so_far ++ item ∷ []
    → more ≡ filter_map give (done ++ entry ∷ [])
one_more_given give done entry item so_far more is same pushed = pushed ∙ ap (λ before. before ++ item ∷ []) same ∙ sym (filter_map-append give done (entry ∷ []) ∙ rw is refl)

-- one more entry, which gives none
pub none_more_given : {A B : Type 0} (give : A → Option B) (done : List A) (entry : A) (so_far : List B) → give entry ≡ None → so_far ≡ filter_map give done → so_far ≡ filter_map give (done ++ entry ∷ [])
none_more_given give done entry so_far is same = same ∙ sym (filter_map-append give done (entry ∷ []) ∙ rw is (append-nil (filter_map give done)))

-- a map after its group's filter was replaced
pub one_applied : (group : Ip) (group_record : Record) (moment : ℕ) (before after : Option RenewedFilter) (key : Bool) → key ≡ same_group group group_record.group
    → after ≡ cond key (renewed_filter_after moment group_record before) before → after ≡ renewed_filter_after_all moment (on_group group (group_record ∷ [])) before
one_applied group group_record moment before after true here is = rw (sym here) is
one_applied group group_record moment before after false here is = rw (sym here) is

-- an insertion, by the order of addresses
pub updated : {V : Type 0} (cmp : Ip → Ip → Ordering) (before after : BTreeMap Ip V) (key : Ip) (value : Option V) → cmp ≡ ip_order → Updates cmp before after key value
    → (other : Ip) → get ip_order after other ≡ cond (same_group key other) value (get ip_order before other)
updated cmp before after key value same updates =
    subst (λ (order : Ip → Ip → Ordering). (other : Ip) → get order after other ≡ cond (is_at (order key) other) value (get order before other)) same updates.0

set_by : (same : Bool) (group_record : Record) (moment : ℕ) (old before : Option RenewedFilter) → (same ≡ true → old ≡ before)
    → cond same (renewed_filter_after moment group_record old) before ≡ cond same (renewed_filter_after moment group_record before) before
set_by true group_record moment old before is = ap (renewed_filter_after moment group_record) (is refl)
set_by false group_record moment old before is = refl

-- the filter of the record's own group is the one that the record changes
pub set_here : (key group : Ip) (group_record : Record) (moment : ℕ) (filters : BTreeMap Ip RenewedFilter) (old : Option RenewedFilter) → old ≡ get ip_order filters key
    → cond (same_group key group) (renewed_filter_after moment group_record old) (get ip_order filters group)
    ≡ cond (same_group key group) (renewed_filter_after moment group_record (get ip_order filters group)) (get ip_order filters group)
set_here key group group_record moment filters old is = set_by (same_group key group) group_record moment old (get ip_order filters group)
    (λ same. is ∙ ap (get ip_order filters) (tells_apart ip_order-exact key group same))

its_endpoint_group : (endpoint : EndpointValue) (entry : Ip × RenewedFilter) (membership : Membership) → membership_of_entry endpoint entry ≡ Some membership → endpoint_group_of membership ≡ endpoint_group endpoint entry.0
its_endpoint_group endpoint entry membership given =
    ap endpoint_group_of (sym (membership_by (wants_any entry.1.filter) (made endpoint entry.0 entry.1.filter entry.1.renewed) membership given))

AreOf-cons_option : (endpoint : EndpointValue) (one : Option Membership) (rest : List Membership) → ((membership : Membership) → one ≡ Some membership → membership.endpoint ≡ endpoint) → AreOf endpoint rest → AreOf endpoint (cons_option one rest)
AreOf-cons_option endpoint None rest its of = of
AreOf-cons_option endpoint (Some membership) rest its of = (ap (λ (one : EndpointValue). same_endpoint one endpoint) (its membership refl) ∙ ap is_eq (tied_itself endpoint_order-total endpoint), of)

pub AreOf-filters : (endpoint : EndpointValue) (entries : List (Ip × RenewedFilter)) → AreOf endpoint (filter_map (membership_of_entry endpoint) entries)
AreOf-filters endpoint [] = tt
AreOf-filters endpoint (entry ∷ rest) =
    AreOf-cons_option endpoint (membership_of_entry endpoint entry) (filter_map (membership_of_entry endpoint) rest)
    (λ membership given. ap (λ (at : EndpointGroup). at.endpoint) (its_endpoint_group endpoint entry membership given)) (AreOf-filters endpoint rest)

-- pairs of one endpoint compare as their groups do
pub endpoint_group_by_group : (endpoint : EndpointValue) (one other : Ip) → endpoint_group_order (endpoint_group endpoint one) (endpoint_group endpoint other) ≡ ip_order one other
endpoint_group_by_group endpoint one other = rw (tied_itself endpoint_order-total endpoint) refl

AreAfter-filters : (endpoint : EndpointValue) (group : Ip) (entries : List (Ip × RenewedFilter)) → AllByRecursion (λ later. ip_order group later ≡ Less) (keys_of entries)
    → AreAfter (endpoint_group endpoint group) (filter_map (membership_of_entry endpoint) entries)
AreAfter-filters endpoint group [] before = tt
AreAfter-filters endpoint group (entry ∷ rest) before =
    AreAfter-cons_option (endpoint_group endpoint group) (endpoint_group endpoint entry.0) (membership_of_entry endpoint entry) (filter_map (membership_of_entry endpoint) rest) (its_endpoint_group endpoint entry)
    (endpoint_group_by_group endpoint group entry.0 ∙ before.0) (AreAfter-filters endpoint group rest before.1)

-- the memberships of a map's filters ascend
pub IsAscending-filters : (endpoint : EndpointValue) (entries : List (Ip × RenewedFilter)) → IsStrictlySortedBy ip_order (keys_of entries) → IsAscending membership_order (filter_map (membership_of_entry endpoint) entries)
unfolding IsStrictlySortedBy
IsAscending-filters endpoint [] sorted = tt
IsAscending-filters endpoint (entry ∷ rest) sorted =
    IsAscending-cons_option (endpoint_group endpoint entry.0) (membership_of_entry endpoint entry) (filter_map (membership_of_entry endpoint) rest) (its_endpoint_group endpoint entry)
    (AreAfter-filters endpoint entry.0 rest sorted.0) (IsAscending-filters endpoint rest sorted.1)

renewed_found : (here : Bool) (endpoint : EndpointValue) (group key : Ip) (renewed_filter : RenewedFilter) (later : Option RenewedFilter) (rest : Option Membership) → (here ≡ true → group ≡ key) → (here ≡ true → rest ≡ None)
    → rest ≡ membership_of_renewed endpoint group later
    → cond here (option_or (membership_of_entry endpoint (key, renewed_filter)) rest) rest ≡ membership_of_renewed endpoint group (cond here (Some renewed_filter) later)
renewed_found true endpoint group key renewed_filter later rest same none is =
    rw (none refl) (or_none (membership_of_entry endpoint (key, renewed_filter))) ∙ ap (λ (at : Ip). membership_of_entry endpoint (at, renewed_filter)) (sym (same refl))
renewed_found false endpoint group key renewed_filter later rest same none is = is

-- the membership of a group is what its filter makes
pub membership_in-filters : (endpoint : EndpointValue) (entries : List (Ip × RenewedFilter)) (group : Ip) → IsStrictlySortedBy ip_order (keys_of entries)
    → membership_in (filter_map (membership_of_entry endpoint) entries) (endpoint_group endpoint group) ≡ membership_of_renewed endpoint group (lookup (is_at (ip_order group)) entries)
membership_in-filters endpoint [] group sorted = refl
membership_in-filters endpoint (entry ∷ rest) group sorted =
    let at = endpoint_group endpoint group in
    let more = filter_map (membership_of_entry endpoint) rest in
    let exact : same_group group entry.0 ≡ true → group ≡ entry.0 = tells_apart ip_order-exact group entry.0 in
    membership_in-cons_option (membership_of_entry endpoint entry) more (endpoint_group endpoint entry.0) at (its_endpoint_group endpoint entry)
    ∙ ap (λ (test : Bool). cond test (option_or (membership_of_entry endpoint entry) (membership_in more at)) (membership_in more at)) (ap is_eq (endpoint_group_by_group endpoint group entry.0))
    ∙ renewed_found (same_group group entry.0) endpoint group entry.0 entry.1 (lookup (is_at (ip_order group)) rest) (membership_in more at) exact
    (λ same. membership_in-after at more (subst (λ (key : Ip). AreAfter (endpoint_group endpoint key) more) (sym (exact same)) (AreAfter-filters endpoint entry.0 rest (sorted_head ip_order entry.0 (keys_of rest) sorted))))
    (membership_in-filters endpoint rest group (sorted_tail ip_order entry.0 (keys_of rest) sorted))

-- nothing is wanted of a group that has a filter
abbrev is_unwanted : Option RenewedFilter → Bool
is_unwanted None = false
is_unwanted (Some renewed_filter) = not (wants_any renewed_filter.filter)

abbrev unwanted : RenewedFilter → Bool
unwanted renewed_filter = not (wants_any renewed_filter.filter)

gone_by : (endpoint : EndpointValue) (wants : Bool) (entry : Ip × RenewedFilter) (rest : List (Ip × RenewedFilter)) (later : List EndpointGroup) → later ≡ map (endpoint_group endpoint) (keys_of rest)
    → cons_option (if wants then None else Some (endpoint_group endpoint entry.0)) later ≡ map (endpoint_group endpoint) (keys_of (cond (not wants) (entry ∷ rest) rest))
gone_by endpoint true entry rest later is = is
gone_by endpoint false entry rest later is = ap (λ (more : List EndpointGroup). endpoint_group endpoint entry.0 ∷ more) is

-- such pairs are the endpoint's, of the groups of which nothing is wanted
gone-groups : (endpoint : EndpointValue) (entries : List (Ip × RenewedFilter)) → filter_map (gone_of_entry endpoint) entries ≡ map (endpoint_group endpoint) (keys_of (filter (λ entry. unwanted entry.1) entries))
gone-groups endpoint [] = refl
gone-groups endpoint (entry ∷ rest) = gone_by endpoint (wants_any entry.1.filter) entry (filter (λ one. unwanted one.1) rest) (filter_map (gone_of_entry endpoint) rest) (gone-groups endpoint rest)

both_by : (here group later : Bool) → ((here && group) || (here && later)) ≡ (here && (group || later))
both_by true group later = refl
both_by false group later = refl

has-groups : (endpoint : EndpointValue) (groups : List Ip) (at : EndpointGroup) → has endpoint_group_order (map (endpoint_group endpoint) groups) at ≡ (same_endpoint at.endpoint endpoint && has ip_order groups at.group)
has-groups endpoint [] at = sym (and_right (same_endpoint at.endpoint endpoint) false refl)
has-groups endpoint (group ∷ rest) at =
    ap (λ (here : Bool). here || has endpoint_group_order (map (endpoint_group endpoint) rest) at) (same_endpoint_group-is at (endpoint_group endpoint group))
    ∙ ap (λ (later : Bool). (same_endpoint at.endpoint endpoint && same_group at.group group) || later) (has-groups endpoint rest at)
    ∙ both_by (same_endpoint at.endpoint endpoint) (same_group at.group group) (has ip_order rest at.group)

some_by : (found : Option RenewedFilter) → is_some (option_filter unwanted found) ≡ is_unwanted found
some_by None = refl
some_by (Some renewed_filter) = by (unwanted renewed_filter)
  where
    by : (test : Bool) → is_some (cond test (Some renewed_filter) None) ≡ test
    by true = refl
    by false = refl

-- a pair is such a pair where it is the endpoint's and its group's filter wants nothing
gone-is : (endpoint : EndpointValue) (filters : BTreeMap Ip RenewedFilter) (at : EndpointGroup) → IsOrdered ip_order filters
    → has endpoint_group_order (filter_map (gone_of_entry endpoint) filters.entries) at ≡ (same_endpoint at.endpoint endpoint && is_unwanted (get ip_order filters at.group))
gone-is endpoint filters at ordered =
    let entries = filter (λ (entry : Ip × RenewedFilter). unwanted entry.1) filters.entries in
    ap (λ (pairs : List EndpointGroup). has endpoint_group_order pairs at) (gone-groups endpoint filters.entries) ∙ has-groups endpoint (keys_of entries) at
    ∙ ap (λ (there : Bool). same_endpoint at.endpoint endpoint && there) (sym (is_some-lookup (eq_by_cmp ip_order at.group) entries)
    ∙ ap is_some (lookup-filter-values (eq_by_cmp_equiv ip_order-total) unwanted at.group filters.entries (IsDistinct-from_sorted ip_order (keys_of filters.entries) ordered)) ∙ some_by (get ip_order filters at.group))

unwanted_by : (wants : Bool) (membership : Membership) → not wants ≡ true → (if wants then Some membership else None) ≡ None
unwanted_by true membership unwanted = absurd (true≢false (sym unwanted))
unwanted_by false membership unwanted = refl

unwanted_none : (endpoint : EndpointValue) (group : Ip) (found : Option RenewedFilter) → is_unwanted found ≡ true → membership_of_renewed endpoint group found ≡ None
unwanted_none endpoint group None unwanted = refl
unwanted_none endpoint group (Some renewed_filter) unwanted =
    unwanted_by (wants_any renewed_filter.filter) (record { endpoint = endpoint; group = group; filter = renewed_filter.filter; renewed = renewed_filter.renewed }) unwanted

wanted_by : (wants : Bool) (membership : Membership) → not wants ≡ false → (if wants then Some membership else None) ≡ None → ⊥
wanted_by true membership wanted none = true≢false (ap is_some none)
wanted_by false membership wanted none = true≢false wanted

none_at_all : (endpoint : EndpointValue) (group : Ip) (found : Option RenewedFilter) → is_unwanted found ≡ false → membership_of_renewed endpoint group found ≡ None → found ≡ None
none_at_all endpoint group None wanted none = refl
none_at_all endpoint group (Some renewed_filter) wanted none =
    absurd (wanted_by (wants_any renewed_filter.filter) (record { endpoint = endpoint; group = group; filter = renewed_filter.filter; renewed = renewed_filter.renewed }) wanted none)

stays : (moment : ℕ) (records : List Record) (renewed_filter : RenewedFilter) → is_some (renewed_filter_after_all moment records (Some renewed_filter)) ≡ true
stays moment [] renewed_filter = refl
stays moment (group_record ∷ later) renewed_filter = stays moment later _

none_before : (moment : ℕ) (records : List Record) (before : Option RenewedFilter) → renewed_filter_after_all moment records before ≡ None → before ≡ None
none_before moment [] before none = none
none_before moment (group_record ∷ later) before none = absurd (true≢false (sym (stays moment later _) ∙ ap is_some none))

no_membership : (found : Option Membership) → renewed_filter_of found ≡ None → found ≡ None
no_membership None none = refl
no_membership (Some membership) none = absurd (true≢false (ap is_some none))

-- the pairs of which nothing is wanted are those without a membership afterwards that may have had one
pub AreGone-filters : (lifetime moment : ℕ) (endpoint : EndpointValue) (records : List Record) (rows own : List Membership) (gone : List EndpointGroup) (filters : BTreeMap Ip RenewedFilter) → IsOrdered ip_order filters
    → ((group : Ip) → get ip_order filters group
    ≡ renewed_filter_after_all moment (on_group group records) (renewed_filter_of (only (is_fresh lifetime moment) (membership_in rows (endpoint_group endpoint group)))))
    → own ≡ filter_map (membership_of_entry endpoint) filters.entries → gone ≡ filter_map (gone_of_entry endpoint) filters.entries → AreGone lifetime moment endpoint rows own gone
AreGone-filters lifetime moment endpoint records rows own gone filters ordered each owned left =
    let gone_at : (at : EndpointGroup) → has endpoint_group_order gone at ≡ (same_endpoint at.endpoint endpoint && is_unwanted (get ip_order filters at.group)) = λ at.
    ap (λ (pairs : List EndpointGroup). has endpoint_group_order pairs at) left ∙ gone-is endpoint filters at ordered in
    let found_in : (group : Ip) → membership_in own (endpoint_group endpoint group) ≡ membership_of_renewed endpoint group (get ip_order filters group) = λ group.
    ap (λ (all : List Membership). membership_in all (endpoint_group endpoint group)) owned ∙ membership_in-filters endpoint filters.entries group ordered in record {
      of = λ at found. (and_parts (same_endpoint at.endpoint endpoint) (is_unwanted (get ip_order filters at.group)) (sym (gone_at at) ∙ found)).0;
      none = λ at found.
          let both = and_parts (same_endpoint at.endpoint endpoint) (is_unwanted (get ip_order filters at.group)) (sym (gone_at at) ∙ found) in
          ap (membership_in own) (ap (λ (one : EndpointValue). endpoint_group one at.group) (tells_apart endpoint_order-exact at.endpoint endpoint both.0)) ∙ found_in at.group
          ∙ unwanted_none endpoint at.group (get ip_order filters at.group) both.1;
      all = λ group none out.
          let wanted = sym (gone_at (endpoint_group endpoint group) ∙ ap (λ (here : Bool). here && is_unwanted (get ip_order filters group)) (ap is_eq (tied_itself endpoint_order-total endpoint))) ∙ out in
          no_membership (only (is_fresh lifetime moment) (membership_in rows (endpoint_group endpoint group)))
          (none_before moment (on_group group records) _ (sym (each group) ∙ none_at_all endpoint group (get ip_order filters group) wanted (sym (found_in group) ∙ none)));
    }

groups_after : (endpoint : EndpointValue) (group : Ip) (groups : List Ip) → AllByRecursion (λ later. ip_order group later ≡ Less) groups
    → AllByRecursion (λ later. endpoint_group_order (endpoint_group endpoint group) later ≡ Less) (map (endpoint_group endpoint) groups)
groups_after endpoint group [] after = tt
groups_after endpoint group (next ∷ rest) after = (endpoint_group_by_group endpoint group next ∙ after.0, groups_after endpoint group rest after.1)

IsAscending-groups : (endpoint : EndpointValue) (groups : List Ip) → IsStrictlySortedBy ip_order groups → IsStrictlySortedBy endpoint_group_order (map (endpoint_group endpoint) groups)
unfolding IsStrictlySortedBy
IsAscending-groups endpoint [] sorted = tt
IsAscending-groups endpoint (group ∷ rest) sorted = (groups_after endpoint group rest sorted.0, IsAscending-groups endpoint rest sorted.1)

is_some-renewed : (found : Option Membership) → is_some (renewed_filter_of found) ≡ is_some found
is_some-renewed None = refl
is_some-renewed (Some membership) = refl

mine_by : (here listed : Bool) (found : Option Membership) → (here ≡ true → listed ≡ is_some found) → (here && listed) ≡ is_some (cond here found None)
mine_by true listed found is = is refl
mine_by false listed found is = refl

-- a map of the filters of an endpoint's memberships has as many groups as the endpoint
pub length-filters : (lifetime moment : ℕ) (endpoint : EndpointValue) (rows : List Membership) (filters : BTreeMap Ip RenewedFilter) → IsAscending membership_order rows → IsOrdered ip_order filters
    → ((group : Ip) → get ip_order filters group ≡ renewed_filter_of (only (is_fresh lifetime moment) (membership_in rows (endpoint_group endpoint group))))
    → length filters.entries ≡ group_count endpoint (filter (is_fresh lifetime moment) rows)
length-filters lifetime moment endpoint rows filters ascends ordered each =
    let test = is_fresh lifetime moment in
    let fresh = filter test rows in
    let fresh_ascends = IsAscending-filter membership_order test rows ascends in
    let is_of = λ (membership : Membership). same_endpoint membership.endpoint endpoint in
    let mine = filter is_of fresh in
    let groups = keys_of filters.entries in
    let same = same_ascending endpoint_group_order-total endpoint_group_order-exact (map (endpoint_group endpoint) groups) (map endpoint_group_of mine) (IsAscending-groups endpoint groups ordered)
    (IsAscending-pairs mine (IsAscending-filter membership_order is_of fresh fresh_ascends)) (λ at. has-groups endpoint groups at
    ∙ mine_by (same_endpoint at.endpoint endpoint) (has ip_order groups at.group) (membership_in fresh at) (λ here.
    sym (is_some-lookup (eq_by_cmp ip_order at.group) filters.entries) ∙ ap is_some (each at.group) ∙ is_some-renewed (only test (membership_in rows (endpoint_group endpoint at.group)))
    ∙ ap (λ (one : EndpointValue). is_some (only test (membership_in rows (endpoint_group one at.group)))) (sym (tells_apart endpoint_order-exact at.endpoint endpoint here))
    ∙ ap is_some (sym (membership_in-filter test rows at ascends)))
    ∙ ap is_some (sym (membership_in-where (λ (one : EndpointGroup). same_endpoint one.endpoint endpoint) fresh at fresh_ascends)) ∙ sym (has-pairs mine at)) in
    sym (length-keys_of filters.entries) ∙ sym (length-map groups (endpoint_group endpoint)) ∙ ap (λ (pairs : List EndpointGroup). length pairs) same ∙ length-map mine endpoint_group_of ∙ length-filter is_of fresh
