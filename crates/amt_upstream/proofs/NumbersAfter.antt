-- The numbers beside a table as entries come: those of its memberships, and few.
use Rattle.std.proofs.{Common.{◌≡◌, ℕ, ◌+◌, ◌*◌, ◌≤◌, List, [], ◌∷◌, ◌++◌, filter, length, map, reverse, sum_by, Option, None, unwrap_or, sym, ap, subst, ◌∙◌, arith}, Math.Nat.{mul-le-mul}, lemmas.List.{length-append, length-map, Sums.{count_by-le-length, sum_by-cons}}}
use Rattle.amt_values.{specs.{declared.address.Ip.{Ip}, EndpointValue.{EndpointValue}, Ascending.{IsAscending}, Order.{ip_order}}, proofs.{AscendingLaws.{IsAscending-ascending}, Orders.{ip_order-total}}}
use Rattle.source_filter.specs.declared.mode.Mode.{Mode, TheVariants.{Include, Exclude}}
use Rattle.endpoint_membership.specs.{GroupFilter.{is_counted_source, named_sources}, Limits.{IsWithin}, Log.{latest, live_chain}, Membership.{Membership}, Memberships.{memberships_at, row_of}, MembershipChanges.{AreChanges}, Table.{AreLawful, ForLog, Holds, IsWithinLimits, TableSettings, TableValue, memberships_now}, declared.{change.Change.{Change}, limits.Limits.{Limits}, membership_change.MembershipChange.{MembershipChange}}}
use Rattle.endpoint_membership.proofs.{FewRows.{AreFew-row_of}, HoldsAfter.{rows_now}, MembershipIn.{All-from_membership_in}, MembershipsByLog.{AreMembershipsAt-memberships_at, membership_by}}
use Rattle.endpoint_membership.specs.Parts.{some_unless_zero}
use Rattle.amt_upstream.specs.{Counting.{AreInOrder, HasMoved, HasSame, IsClean, IsCounted, Numbers, entry_at, keys_after, keys_before, keys_by, keys_in, keys_of, number, same_key, times}, Taking.{AreChangesBy, AreNumbersAfter}, Upstream.{StaysWithin}, declared.count_key.{CountKey.{CountKey}, Counted.TheVariants.{Excluding, Including}}}
use Rattle.amt_upstream.proofs.MovedKeys.{keys_moved}

-- each membership by a log lists its sources in order
pub AreInOrder-memberships_at : (lifetime moment : ℕ) (log : List Change) → AreInOrder (memberships_at lifetime moment log)
AreInOrder-memberships_at lifetime moment log =
    let are = AreMembershipsAt-memberships_at lifetime moment log in
    All-from_membership_in (λ membership. IsAscending ip_order membership.filter.sources) (memberships_at lifetime moment log) are.ascend
    (λ at membership found. subst (λ (one : Membership). IsAscending ip_order one.filter.sources) (membership_by _ _ membership (sym (are.each at) ∙ found)) (IsAscending-ascending ip_order-total (filter (is_counted_source (live_chain lifetime at moment (reverse log))) (named_sources (live_chain lifetime at moment (reverse log))))))

pub AreInOrder-Holds : (settings : TableSettings) (table : TableValue) (log : List Change) → Holds settings table log → AreInOrder table.rows
AreInOrder-Holds settings table log holds = subst AreInOrder (sym (rows_now settings table log holds)) (AreInOrder-memberships_at settings.lifetime (latest log) log)

-- ---- few keys

keys_by-few : (mode : Mode) (group : Ip) (endpoint : EndpointValue) (sources : List Ip) → length (keys_by mode group endpoint sources) ≤ 2 + length sources
keys_by-few Include group endpoint sources = omega (arith, length-map {B = CountKey} sources (λ source. record { group = group; counted = Including source }))
keys_by-few Exclude group endpoint sources = omega (arith, length-map {B = CountKey} sources (λ source. record { group = group; counted = Excluding source }))

keys_in-few : (rows : List Membership) → length (keys_in rows) ≤ (length (map row_of rows) + length (map row_of rows)) + sum_by (λ row. length row.filter.sources) (map row_of rows)
keys_in-few [] = omega arith
keys_in-few (membership ∷ rest) =
    let its = keys_by-few membership.filter.mode membership.group membership.endpoint membership.filter.sources in
    let all = length-append (keys_of membership.group membership.endpoint membership.filter) (keys_in rest) in
    let sources = sum_by-cons (λ row. length row.filter.sources) (row_of membership) (map row_of rest) in
    let later = keys_in-few rest in
    omega arith

-- limits that are lawful bound each number
pub times-few : (limits : Limits) (lifetime : ℕ) (rows : List Membership) (key : CountKey) → IsWithin limits rows → AreLawful limits lifetime → (limits.endpoints * limits.groups) * limits.sources ≤ 16777216
    → times key (keys_in rows) ≤ 562949970198528
times-few limits lifetime rows key within lawful product =
    let few = AreFew-row_of limits rows within in
    let pairs : limits.endpoints * limits.groups ≤ 16777216 * 16777216 = mul-le-mul lawful.endpoints lawful.groups in
    let keys = keys_in-few rows in
    let counted = count_by-le-length (same_key key) (keys_in rows) in
    omega arith

-- ---- the numbers after an entry

-- the table of the empty log, and no number
pub IsCounted-first : (limits : Limits) (lifetime : ℕ) (table : TableValue) (tally : Numbers) → AreLawful limits lifetime → (limits.endpoints * limits.groups) * limits.sources ≤ 16777216
    → Holds (record { limits = limits; lifetime = lifetime }) table [] → IsWithinLimits table → ((key : CountKey) → entry_at tally key ≡ None) → IsCounted table tally
IsCounted-first limits lifetime table tally lawful product holds within none =
    let settings : TableSettings = record { limits = limits; lifetime = lifetime } in record {
      numbers = λ key. ap (λ (found : Option ℕ). unwrap_or found 0) (none key) ∙ ap (λ (all : List Membership). times key (keys_in all)) (sym (rows_now settings table [] holds));
      clean = λ key. none key ∙ ap (λ (found : Option ℕ). some_unless_zero (unwrap_or found 0)) (sym (none key));
      ascend = holds.rows.ascend;
      in_order = AreInOrder-Holds settings table [] holds;
      within = within;
      lawful = subst (λ (one : Limits). AreLawful one table.lifetime) (sym holds.limits) (subst (λ (time : ℕ). AreLawful limits time) (sym holds.lifetime) lawful);
      product = subst (λ (one : Limits). (one.endpoints * one.groups) * one.sources ≤ 16777216) (sym holds.limits) product;
    }

-- the same numbers are as good
pub IsCounted-same : (table : TableValue) (tally same : Numbers) → IsCounted table tally → HasSame tally same → IsCounted table same
IsCounted-same table tally same counted has = record {
  numbers = λ key. ap (λ (found : Option ℕ). unwrap_or found 0) (has key) ∙ counted.numbers key;
  clean = λ key. has key ∙ counted.clean key ∙ ap (λ (found : Option ℕ). some_unless_zero (unwrap_or found 0)) (sym (has key));
  ascend = counted.ascend;
  in_order = counted.in_order;
  within = counted.within;
  lawful = counted.lawful;
  product = counted.product;
}

module _ (table : TableValue) (tally : Numbers) (entry : Change) (counted : IsCounted table tally) (within : StaysWithin table entry) where
  abbrev after : List Membership
  after = memberships_now within.settings (within.log ++ entry ∷ [])

  pub number-few : (key : CountKey) → number tally key ≤ 562949970198528
  number-few key = omega (arith, counted.numbers key, times-few table.limits table.lifetime table.rows key counted.within counted.lawful counted.product)

  pub number-few_after : (next : Numbers) → AreNumbersAfter table entry next → (key : CountKey) → number next key ≤ 562949970198528
  number-few_after next are key =
      omega (arith, are within.settings within.log within.holds key, times-few table.limits table.lifetime after key (subst (λ (limits : Limits). IsWithin limits after) (sym within.holds.limits) within.within) counted.lawful counted.product)

  -- the table that stands for the log with the entry, and the numbers with it
  pub IsCounted-next : (next : TableValue) (before settled : Numbers) → AreNumbersAfter table entry before → ForLog table (λ settings log. Holds settings next (log ++ entry ∷ []))
      → ((key : CountKey) → number settled key ≡ number before key) → IsClean settled → IsCounted next settled
  IsCounted-next next before settled are stands same clean =
      let holds = stands within.settings within.log within.holds in
      let log = within.log ++ entry ∷ [] in
      let rows = rows_now within.settings next log holds in
      let limits : table.limits ≡ next.limits = within.holds.limits ∙ sym holds.limits in
      let lifetime : table.lifetime ≡ next.lifetime = within.holds.lifetime ∙ sym holds.lifetime in record {
        numbers = λ key. same key ∙ are within.settings within.log within.holds key ∙ ap (λ (all : List Membership). times key (keys_in all)) (sym rows);
        clean = clean;
        ascend = holds.rows.ascend;
        in_order = AreInOrder-Holds within.settings next log holds;
        within = subst (λ (all : List Membership). IsWithin next.limits all) (sym rows) (subst (λ (one : Limits). IsWithin one after) (sym holds.limits) within.within);
        lawful = subst (λ (one : Limits). AreLawful one next.lifetime) limits (subst (λ (time : ℕ). AreLawful table.limits time) lifetime counted.lawful);
        product = subst (λ (one : Limits). (one.endpoints * one.groups) * one.sources ≤ 16777216) limits counted.product;
      }

module _ (table : TableValue) (tally : Numbers) (entry : Change) (changes : List MembershipChange) (counted : IsCounted table tally) (are : AreChangesBy table entry changes) where
  moved : (key : CountKey) (settings : TableSettings) (log : List Change) → Holds settings table log
      → (times key (keys_in (memberships_now settings (log ++ entry ∷ []))) + times key (keys_before changes) ≡ times key (keys_in table.rows) + times key (keys_after changes)) × (times key (keys_before changes) ≤ times key (keys_in table.rows))
  moved key settings log holds =
      let after = memberships_now settings (log ++ entry ∷ []) in
      let by_log = AreMembershipsAt-memberships_at settings.lifetime (latest (log ++ entry ∷ [])) (log ++ entry ∷ []) in
      keys_moved key changes table.rows after counted.ascend by_log.ascend
      (subst (λ (rows : List Membership). AreChanges rows after changes) (sym (rows_now settings table log holds)) (are settings log holds))

  -- the changes take no more than there is
  pub enough_before : StaysWithin table entry → (key : CountKey) → times key (keys_before changes) ≤ number tally key
  enough_before within key = let both = moved key within.settings within.log within.holds in omega (arith, counted.numbers key)

  -- once they are counted, the numbers are those with the entry
  pub AreNumbersAfter-moved : (next : Numbers) → HasMoved (keys_after changes) (keys_before changes) tally next → AreNumbersAfter table entry next
  AreNumbersAfter-moved next has settings log holds key = let both = moved key settings log holds in omega (arith, counted.numbers key, has key)
