-- The change records from some sockets to others: those of calls, and whose they are.
use Rattle.std.{proofs.{Common.{◌≡◌, ℕ, true, false, not, cond, List, [], ◌∷◌, ◌++◌, filter, map, refl, sym, ap, subst, ◌∙◌}, lemmas.{Bool.{or_parts}, List.{map-append, Elements.{All-append, All-cons, All-filter, All-nil}}}}, specs.List.{All, flat_map}}
use Rattle.amt_values.{specs.{declared.address.Ip.{Ip}, Group.{is_forwardable}, Order.{ip_order}, Ascending.{ascending, difference, has}}, proofs.{Orders.{ip_order-exact, ip_order-total}, AscendingLaws.{flat_map-same, IsAscending-ascending, has-append, has-ascending}}}
use Rattle.source_filter.specs.{Changes.{changes_by, changes_on, record_of_some}, Filter.{FilterValue}, Merging.{merged}, declared.mode.Mode.{Mode, TheVariants.{Include, Exclude}}, declared.record.{Record.{Record}, RecordKind.{RecordKind, TheVariants.{ToIn, ToEx, Allow, Block}}}}
use Rattle.group_records.specs.{Written.{IsOfFamily, is_of_family}, declared.family.Family.{Family}}
use Rattle.socket_merge.specs.{Changes.{change_records, changed_on, changes_between}, FullReport.{is_empty}, History.{AcceptedCall, Socket, SocketCall, group_opened, groups_opened, moment_read, open_sockets, with_call}, Interface.{filters_on, on_group}, Kept.{IsLawful, has_socket}, Sockets.{SocketsHold, SocketsValue}}
use Rattle.socket_merge.proofs.{ByGroup.{flat_map-filter, group_of, has_socket-listed, unopened}, Reports.{All-said, merged_of_family, nothing_of}}

-- ---- which groups give no record

no_items : {X : Type 0} (xs : List X) → not (is_empty xs) ≡ false → xs ≡ []
no_items [] none = refl
no_items (x ∷ xs) none = absurd cc

-- a group without a socket before or after gives none
pub unchanged : (before after : List Socket) (group : Ip) → has_socket group before ≡ false → has_socket group after ≡ false → changed_on before after group ≡ []
unchanged before after group first second =
    let merged_of : List Socket → FilterValue = λ on. merged (map (λ (socket : Socket). socket.filter) on) in
    ap (λ (on : List Socket). changes_on (merged_of on) (merged (filters_on group after)) group) (no_items (on_group group before) first)
    ∙ ap (λ (on : List Socket). changes_on (merged_of []) (merged_of on) group) (no_items (on_group group after) second)

-- a group that isn't listed has no socket
none_listed : (before after : List Socket) (group : Ip) → has ip_order (map group_of (before ++ after)) group ≡ false → (has_socket group before ≡ false) × (has_socket group after ≡ false)
none_listed before after group none =
    let both = or_parts (has ip_order (map group_of before) group) (has ip_order (map group_of after) group)
    (sym (ap (λ groups. has ip_order groups group) (map-append group_of before after) ∙ has-append ip_order (map group_of before) (map group_of after) group) ∙ none) in
    (has_socket-listed group before ∙ both.0, has_socket-listed group after ∙ both.1)

-- ---- the records of calls

-- the groups are any that have each group with a socket
pub changes-by : (family : Family) (before after : List Socket) (groups : List Ip) → ((group : Ip) → has ip_order groups group ≡ false → (has_socket group before ≡ false) × (has_socket group after ≡ false))
    → changes_between family before after ≡ flat_map (changed_on before after) (filter (is_of_family family) (ascending ip_order groups))
unfolding changes_between
changes-by family before after groups none =
    let changed = changed_on before after in
    let said : Ip → List Record = λ group. cond (is_of_family family group) (changed group) [] in
    let listed = map group_of (before ++ after) in
    let nothing : (group : Ip) → (has_socket group before ≡ false) × (has_socket group after ≡ false) → said group ≡ [] =
    λ group both. nothing_of family group (changed group) (unchanged before after group both.0 both.1) in
    flat_map-filter changed (is_of_family family) (ascending ip_order listed)
    ∙ flat_map-same ip_order-total ip_order-exact said (ascending ip_order listed) (ascending ip_order groups) (IsAscending-ascending ip_order-total listed) (IsAscending-ascending ip_order-total groups)
    (λ group absent. nothing group (none_listed before after group (sym (has-ascending ip_order-total listed group) ∙ absent)))
    (λ group absent. nothing group (none group (sym (has-ascending ip_order-total groups group) ∙ absent)))
    ∙ sym (flat_map-filter changed (is_of_family family) (ascending ip_order groups))

-- no socket was opened of the group before either
unopened_before : (newer history : List AcceptedCall) (group : Ip) → has ip_order (groups_opened (newer ++ history)) group ≡ false → has ip_order (groups_opened history) group ≡ false
unopened_before [] history group none = none
unopened_before (newest ∷ newer) history group none =
    let older = groups_opened (newer ++ history) in
    unopened_before newer history group
    (or_parts (has ip_order (group_opened newest.call) group) (has ip_order older group) (sym (has-append ip_order (group_opened newest.call) older group) ∙ none)).1

-- from the sockets of a history to those after more calls
pub changes-are : (family : Family) (history newer : List AcceptedCall) → changes_between family (open_sockets history) (open_sockets (newer ++ history)) ≡ change_records family history (newer ++ history)
unfolding change_records
changes-are family history newer =
    let now = newer ++ history in
    changes-by family (open_sockets history) (open_sockets now) (groups_opened now)
    (λ group none. (unopened history group (unopened_before newer history group none), unopened now group none))

-- from sockets to those after one call
pub changes-of_call : (family : Family) (before after : SocketsValue) (history : List AcceptedCall) (at : ℕ) (call : SocketCall) → SocketsHold before history → SocketsHold after (with_call at call history)
    → changes_between family before.sockets after.sockets ≡ change_records family history (with_call at call history)
changes-of_call family before after history at call then now =
    ap (λ (sockets : List Socket). changes_between family sockets after.sockets) then.sockets
    ∙ ap (changes_between family (open_sockets history)) now.sockets
    ∙ changes-are family history (record { moment = moment_read at history; call = call } ∷ [])

-- ---- whose records they are

-- what holds of the records of each forwarded group of the family holds of all
All-changed : (P : Record → Type 0) (family : Family) (first second : List AcceptedCall) → IsLawful first → IsLawful second
    → ((group : Ip) → is_forwardable group ≡ true → is_of_family family group ≡ true → All P (changed_on (open_sockets first) (open_sockets second) group))
    → All P (changes_between family (open_sockets first) (open_sockets second))
All-changed P family first second then now each =
    let Forwarded : Ip → Type 0 = λ group. is_forwardable group ≡ true in
    let groups = groups_opened first ++ groups_opened second in
    subst (All P)
    (sym (changes-by family (open_sockets first) (open_sockets second) groups
    (λ group none.
    let both = or_parts (has ip_order (groups_opened first) group) (has ip_order (groups_opened second) group) (sym (has-append ip_order (groups_opened first) (groups_opened second) group) ∙ none) in
    (unopened first group both.0, unopened second group both.1))))
    (All-said P Forwarded family (changed_on (open_sockets first) (open_sockets second)) groups (All-append Forwarded (groups_opened first) (groups_opened second) then.forwarded now.forwarded) each)

module _ (P : Record → Type 0) (group : Ip) (Such : Ip → Type 0) (one : (kind : RecordKind) (sources : List Ip) → All Such sources → P (record { kind = kind; group = group; sources = sources })) where
  All-some : (kind : RecordKind) (sources : List Ip) → All Such sources → All P (record_of_some kind group sources)
  All-some kind [] all = All-nil P
  All-some kind (source ∷ more) all = All-cons P (record { kind = kind; group = group; sources = source ∷ more }) [] (one kind (source ∷ more) all) (All-nil P)

  All-two : (first second : List Ip) → All Such first → All Such second
      → All P (record_of_some Allow group (difference ip_order first second) ++ record_of_some Block group (difference ip_order second first))
  All-two first second these those =
      All-append P (record_of_some Allow group (difference ip_order first second)) (record_of_some Block group (difference ip_order second first))
      (All-some Allow (difference ip_order first second) (All-filter (λ source. not (has ip_order second source)) Such first these))
      (All-some Block (difference ip_order second first) (All-filter (λ source. not (has ip_order first source)) Such second those))

  -- what holds of each record of the group whose sources are such holds of its change records
  pub All-changes_by : (old new : Mode) (sources others : List Ip) → All Such sources → All Such others → All P (changes_by old new group sources others)
  All-changes_by Include Include sources others these those = All-two others sources those these
  All-changes_by Exclude Exclude sources others these those = All-two sources others these those
  All-changes_by Include Exclude sources others these those = All-cons P (record { kind = ToEx; group = group; sources = others }) [] (one ToEx others those) (All-nil P)
  All-changes_by Exclude Include sources others these those = All-cons P (record { kind = ToIn; group = group; sources = others }) [] (one ToIn others those) (All-nil P)

All-any : (sources : List Ip) → All (λ source. source ≡ source) sources
All-any [] = All-nil (λ source. source ≡ source)
All-any (source ∷ more) = All-cons (λ one. one ≡ one) source more refl (All-any more)

-- each record's group is forwarded
pub changes-forwarded : (family : Family) (first second : List AcceptedCall) → IsLawful first → IsLawful second
    → All (λ one. is_forwardable one.group ≡ true) (changes_between family (open_sockets first) (open_sockets second))
changes-forwarded family first second then now =
    let Forwarded : Record → Type 0 = λ one. is_forwardable one.group ≡ true in
    All-changed Forwarded family first second then now
    (λ group is of.
    let old = merged (filters_on group (open_sockets first)) in
    let new = merged (filters_on group (open_sockets second)) in
    All-changes_by Forwarded group (λ source. source ≡ source) (λ kind sources all. is) old.mode new.mode old.sources new.sources (All-any old.sources) (All-any new.sources))

-- and it is of the family, as are its sources
pub changes-of_family : (family : Family) (first second : List AcceptedCall) → IsLawful first → IsLawful second
    → All (IsOfFamily family) (changes_between family (open_sockets first) (open_sockets second))
changes-of_family family first second then now =
    All-changed (IsOfFamily family) family first second then now
    (λ group is of.
    let old = merged (filters_on group (open_sockets first)) in
    let new = merged (filters_on group (open_sockets second)) in
    All-changes_by (IsOfFamily family) group (λ source. is_of_family family source ≡ true) (λ kind sources own. record { group = of; sources = own }) old.mode new.mode old.sources new.sources
    (merged_of_family family group (open_sockets first) of then.family) (merged_of_family family group (open_sockets second) of now.family))
