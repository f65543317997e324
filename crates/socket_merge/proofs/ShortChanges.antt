-- The change records of one call make a report of at most 1,400 octets.
use Rattle.std.{proofs.{Common.{◌≡◌, ℕ, ◌+◌, ◌*◌, ◌≤◌, Bool, true, false, not, ◌||◌, cond, List, [], ◌∷◌, ◌++◌, filter, length, map, Option, Some, None, refl, sym, ap, subst, ◌∙◌, arith}, lemmas.{Bool.{cond_both}, List.Sums.{sum_by-append, sum_by-cons, sum_by-le-sum_by}, Map.Keys.{IsDistinct-from_sorted}}}, specs.List.{count_by, sum_by}}
use Rattle.amt_values.{specs.{declared.address.Ip.{Ip, TheVariants.{V4 as Address4}}, Order.{ip_order}, Ascending.{ascending, difference, has}}, proofs.{Orders.{ip_order-total}, AscendingLaws.{IsAscending-ascending}}}
use Rattle.source_filter.{specs.{Changes.{changes_by, changes_on, record_of_some}, Merging.{merged}, declared.mode.Mode.{Mode, TheVariants.{Include, Exclude}}, declared.record.{Record.{Record}, RecordKind.{RecordKind, TheVariants.{ToIn, ToEx, Allow, Block}}}}, proofs.Unchanged.{changes_on-itself}}
use Rattle.group_records.specs.{Family.{width}, Reading.{head_length}, Written.{is_of_family, report_length}, declared.family.Family.{Family, TheVariants.{V4, V6}}}
use Rattle.socket_merge.specs.{Changes.{IsOneCallAfter, change_records, changed_on, changes_between}, History.{AcceptedCall, Change, Close, LeaveAll, Open, Socket, SocketCall, latest, open_sockets, socket_named, sockets_after}, Interface.{filters_on, left_at, on_group, same_group}, Kept.{IsLawful, has_socket}, Refusal.{may_be_due, raw_report_length, raw_sources}}
use Rattle.socket_merge.proofs.{Amounts.{HasName, HasName-of, has_name, kept-changed, kept-closed, none_passes, unnamed}, ByGroup.{flat_map-filter, group_of, same_group-turned, sum-one}, Changed.{changes-are, unchanged}, Lawful.{AreOthersKept, kept-opened}, RawOctets.{raw_here}, Reports.{merged-few, nothing_of, octets_of_record, record_less, short-said, sum_by-flat_map}, Wanted.{length-filter_le}}

-- ---- how long the records of one group are

module _ (family : Family) (group : Ip) where
  -- the octets of records
  abbrev octets : List Record → ℕ
  octets records = sum_by (octets_of_record family) records

  some-short : (kind : RecordKind) (sources : List Ip) → octets (record_of_some kind group sources) ≤ head_length family + length sources * width family
  some-short kind [] = omega arith
  some-short kind (source ∷ more) = omega (arith, sum_by-cons (octets_of_record family) (record { kind = kind; group = group; sources = source ∷ more }) [])

  few-short : (family : Family) (sources : ℕ) → sources ≤ 32 → head_length family + sources * width family ≤ 532
  few-short V4 sources few = omega arith
  few-short V6 sources few = omega arith

  two-short : (first second : List Ip) → length first ≤ 32 → length second ≤ 32
      → octets (record_of_some Allow group (difference ip_order first second) ++ record_of_some Block group (difference ip_order second first)) ≤ 1064
  two-short first second few short =
      let allowed = difference ip_order first second in
      let blocked = difference ip_order second first in
      omega (
        arith,
        sum_by-append (octets_of_record family) (record_of_some Allow group allowed) (record_of_some Block group blocked),
        some-short Allow allowed,
        some-short Block blocked,
        few-short family (length allowed) (omega (arith, few, length-filter_le (λ source. not (has ip_order second source)) first)),
        few-short family (length blocked) (omega (arith, short, length-filter_le (λ source. not (has ip_order first source)) second)),
      )

  one-short : (kind : RecordKind) (sources : List Ip) → length sources ≤ 32 → octets (record { kind = kind; group = group; sources = sources } ∷ []) ≤ 1064
  one-short kind sources few =
      omega (arith, sum_by-cons (octets_of_record family) (record { kind = kind; group = group; sources = sources }) [], few-short family (length sources) few)

  short_by : (old new : Mode) (sources others : List Ip) → length sources ≤ 32 → length others ≤ 32 → octets (changes_by old new group sources others) ≤ 1064
  short_by Include Include sources others few short = two-short others sources short few
  short_by Exclude Exclude sources others few short = two-short sources others few short
  short_by Include Exclude sources others few short = one-short ToEx others short
  short_by Exclude Include sources others few short = one-short ToIn others short

  left-short : (old : Mode) (sources : List Ip) → octets (changes_by old Include group sources []) ≤ head_length family + length sources * width family
  left-short Include sources =
      omega (
        arith,
        some-short Block (difference ip_order sources []),
        record_less family (length (difference ip_order sources [])) (length sources) (length-filter_le (λ source. not (has ip_order [] source)) sources),
      )
  left-short Exclude sources =
      omega (arith, sum_by-cons (octets_of_record family) (record { kind = ToIn; group = group; sources = [] }) [], record_less family 0 (length sources) (omega arith))

-- ---- a call that changes one group

-- a group whose sockets are as before gives no record
same-sockets : (before after : List Socket) (group : Ip) → on_group group after ≡ on_group group before → changed_on before after group ≡ []
same-sockets before after group same =
    let old = merged (filters_on group before) in
    ap (λ (sockets : List Socket). changes_on old (merged (map (λ (socket : Socket). socket.filter) sockets)) group) same ∙ changes_on-itself old group

-- the octets of what changed of a group of the family
abbrev cost : Family → List Socket → List Socket → Ip → ℕ
cost family before after group = sum_by (octets_of_record family) (cond (is_of_family family group) (changed_on before after group) [])

-- the sockets of each group list few sources
abbrev pub AreFew : List Socket → Type 0
AreFew sockets = (group : Ip) → length (raw_sources group sockets) ≤ 32

cost-few : (family : Family) (before after : List Socket) (group : Ip) → AreFew before → AreFew after → cost family before after group ≤ 1064
cost-few family before after group few short =
    let old = merged (filters_on group before) in
    let new = merged (filters_on group after) in
    cond_both (is_of_family family group) (changed_on before after group) [] (λ records. sum_by (octets_of_record family) records ≤ 1064)
    (λ own. short_by family group old.mode new.mode old.sources new.sources (omega (arith, few group, merged-few group before)) (omega (arith, short group, merged-few group after))) (λ other. omega arith)

own_cost : (test : Bool) (cost : ℕ) → (test ≡ false → cost ≡ 0) → cost ≤ cond test cost 0
own_cost true cost none = omega arith
own_cost false cost none = omega (arith, none refl)

one-group : (family : Family) (before after : List Socket) (group : Ip) → AreOthersKept group before after → AreFew before → AreFew after → report_length family (changes_between family before after) ≤ 1400
unfolding changes_between
one-group family before after group kept few short =
    let costs = cost family before after in
    let groups = ascending ip_order (map group_of (before ++ after)) in
    let said = ap (sum_by (octets_of_record family)) (flat_map-filter (changed_on before after) (is_of_family family) groups) in
    let within_one = cond_both (has ip_order groups group) (costs group) 0 (λ octets. octets ≤ costs group) (λ listed. omega arith) (λ other. omega arith) in
    omega (
      arith,
      said,
      sum_by-flat_map (octets_of_record family) (λ one. cond (is_of_family family one) (changed_on before after one) []) groups,
      sum_by-le-sum_by costs (λ other. cond (same_group group other) (costs other) 0) groups
          (λ other. own_cost (same_group group other) (costs other)
          (λ apart. ap (sum_by (octets_of_record family)) (nothing_of family other (changed_on before after other) (same-sockets before after other (kept other (same_group-turned other group ∙ apart)))))),
      sum-one costs group groups (IsDistinct-from_sorted ip_order groups (IsAscending-ascending ip_order-total (map group_of (before ++ after)))),
      within_one,
      cost-few family before after group few short,
    )

-- ---- any call

no_place : (some due : Bool) (here : ℕ) (records : List Record) (family : Family) → (some ≡ false → records ≡ []) → sum_by (octets_of_record family) records ≤ here
    → sum_by (octets_of_record family) records ≤ cond (some || due) here 0
no_place true due here records family none less = less
no_place false true here records family none less = less
no_place false false here records family none less = let nothing = ap (sum_by (octets_of_record family)) (none refl) in omega (arith, nothing)

left_less : (family : Family) (group : Ip) (sockets : List Socket) → sum_by (octets_of_record family) (changed_on sockets [] group) ≤ head_length family + length (raw_sources group sockets) * width family
left_less family group sockets =
    let old = merged (filters_on group sockets) in
    omega (arith, left-short family group old.mode old.sources, record_less family (length old.sources) (length (raw_sources group sockets)) (merged-few group sockets))

-- the call that closes every socket
all-closed : (family : Family) (history : List AcceptedCall) → raw_report_length family history ≤ 1400 → report_length family (changes_between family (open_sockets history) []) ≤ 1400
unfolding change_records
all-closed family history short =
    let sockets = open_sockets history in
    let closing : AcceptedCall = record { moment = 0; call = LeaveAll } in
    let same = ap (report_length family) (changes-are family history (closing ∷ [])) in
    omega (
      arith,
      short,
      same,
      short-said family history (changed_on sockets [])
          (λ group. no_place (has_socket group sockets) (may_be_due (latest history) (left_at history group)) (raw_here family history group) (changed_on sockets [] group) family
          (λ none. unchanged sockets [] group none refl) (left_less family group sockets)),
    )

unchanged_all : (family : Family) (sockets : List Socket) → AreFew sockets → report_length family (changes_between family sockets sockets) ≤ 1400
unchanged_all family sockets few = one-group family sockets sockets (Address4 0) (λ other apart. refl) few few

-- a call of one name, which has a socket or none
named : (family : Family) (name : List ℕ) (before after : List Socket) (found : Option Socket) → count_by (has_name name) before ≤ 1 → socket_named name before ≡ found
    → ((socket : Socket) → HasName name socket before → AreOthersKept socket.group before after) → (count_by (has_name name) before ≡ 0 → after ≡ before) → AreFew before → AreFew after
    → report_length family (changes_between family before after) ≤ 1400
named family name before after None apart is some none few short =
    subst (λ (sockets : List Socket). report_length family (changes_between family before sockets) ≤ 1400) (sym (none (none_passes (has_name name) before is))) (unchanged_all family before few)
named family name before after (Some socket) apart is some none few short = one-group family before after socket.group (some socket (HasName-of name socket before apart is)) few short

short_after : (family : Family) (history : List AcceptedCall) (call : SocketCall) → IsLawful history → AreFew (sockets_after call (open_sockets history))
    → report_length family (changes_between family (open_sockets history) (sockets_after call (open_sockets history))) ≤ 1400
short_after family history (Open name group filter) lawful few =
    let socket : Socket = record { name = name; group = group; filter = filter } in
    one-group family (open_sockets history) (open_sockets history ++ socket ∷ []) group (kept-opened (open_sockets history) socket) lawful.limits.sources few
short_after family history (Change name filter) lawful few =
    let sockets = open_sockets history in
    named family name sockets (sockets_after (Change name filter) sockets) (socket_named name sockets) (lawful.apart name) refl
    (λ socket is. kept-changed name socket sockets is filter)
    (λ none. (unnamed name sockets none).again filter) lawful.limits.sources few
short_after family history (Close name) lawful few =
    let sockets = open_sockets history in
    named family name sockets (sockets_after (Close name) sockets) (socket_named name sockets) (lawful.apart name) refl
    (λ socket is. kept-closed name socket sockets is)
    (λ none. (unnamed name sockets none).rest) lawful.limits.sources few
short_after family history LeaveAll lawful few = all-closed family history (lawful.limits.octets family)

-- the change records of one call
pub short-changes : (family : Family) (history : List AcceptedCall) (after : List Socket) → IsLawful history → AreFew after → IsOneCallAfter (open_sockets history) after
    → report_length family (changes_between family (open_sockets history) after) ≤ 1400
short-changes family history after lawful few is =
    subst (λ (sockets : List Socket). report_length family (changes_between family (open_sockets history) sockets) ≤ 1400) (sym is.made)
    (short_after family history is.call lawful (subst AreFew is.made few))
