-- Tables that stand for a log, and what each call leaves.
use Rattle.std.{proofs.{Common.{◌≤◌, ◌≡◌, ℕ, ◌<◌, max, List, [], ◌∷◌, ◌++◌, reverse, filter, Some, refl, sym, ap, subst, ◌∙◌, arith, Option, None, ◌↔◌}, lemmas.List.{reverse-append}}, specs.List.Sorted.{IsStrictlySortedBy}}
use Rattle.amt_values.specs.{EndpointValue.{EndpointValue}, Ascending.{IsAscending}}
use Rattle.source_filter.specs.declared.record.Record.{Record}
use Rattle.endpoint_membership.specs.{declared.{change.Change.{Change, TheVariants.{Reported, Clear, Mark}}, limits.{LimitFault.{LimitFault}, Limits.{Limits}}}, Membership.{Membership, is_fresh, membership_order}, Stored.{is_of_another}, Limits.{IsWithin, first_limit, group_count}, Log.{brought, latest}, EndpointMemberships.{limit_by_own, AreOwn}, Memberships.{memberships_at}, Table.{AreMembershipsAt, Holds, IsWithinLimits, TableValue, TableSettings, limit_passed, memberships_now, memberships_without, memberships_with, ReportFits}}
use Rattle.endpoint_membership.proofs.{MembershipsByLog.{AreMembershipsAt-memberships_at, rows_are}, AfterReport.{AreAfterReport, AreAfterReport-log, AreMembershipsAt-reported}, LimitByOwn.{first_limit_is}, AfterEntries.{AreMembershipsAt-clear, AreMembershipsAt-later, AreMembershipsAt-other}, WithinLimits.{none_passed, fits_passed}}

latest-append : (xs ys : List Change) → latest (xs ++ ys) ≡ max (latest xs) (latest ys)
latest-append [] ys = omega arith
latest-append (entry ∷ xs) ys = omega (arith, latest-append xs ys)

-- the latest moment with one entry more
pub latest-push : (log : List Change) (entry : Change) → latest (log ++ entry ∷ []) ≡ max (brought entry) (latest log)
latest-push log entry = omega (arith, latest-append log (entry ∷ []))

-- a log turned round has the same latest moment
pub latest-reverse : (log : List Change) → latest (reverse log) ≡ latest log
latest-reverse [] = refl
latest-reverse (entry ∷ rest) =
    ap latest (reverse-append (entry ∷ []) rest) ∙ omega (arith, latest-append (reverse rest) (entry ∷ []), latest-reverse rest)

pub reverse-push : (log : List Change) (entry : Change) → reverse (log ++ entry ∷ []) ≡ entry ∷ reverse log
reverse-push log entry = reverse-append log (entry ∷ [])

-- the table at a moment with these memberships
abbrev pub table_of : ℕ → TableValue → List Membership → TableValue
table_of moment table rows = record table { moment = moment; rows = rows }

-- no entry, no membership
pub Holds-new : (limits : Limits) (lifetime : ℕ) → Holds (record { limits = limits; lifetime = lifetime }) (record { moment = 0; limits = limits; in_force = limits; lifetime = lifetime; rows = [] }) []
unfolding IsStrictlySortedBy
Holds-new limits lifetime = record { limits = refl; lifetime = refl; moment = refl; rows = record { ascend = tt; each = λ endpoint_group. refl } }

-- memberships by the log with an entry, from memberships by the log turned round
held : (settings : TableSettings) (table : TableValue) (log : List Change) (entry : Change) (moment : ℕ) (rows : List Membership) → Holds settings table log → moment ≡ max table.moment (brought entry)
    → AreMembershipsAt settings.lifetime (latest (entry ∷ reverse log)) (entry ∷ reverse log) rows → Holds settings (table_of moment table rows) (log ++ entry ∷ [])
held settings table log entry moment rows holds is are =
    let later = latest-push log entry in
    let turned = latest-reverse log in
    let same = holds.moment in
    let now : latest (entry ∷ reverse log) ≡ latest (log ++ entry ∷ []) = omega arith in record {
      limits = holds.limits;
      lifetime = holds.lifetime;
      moment = omega arith;
      rows = subst (λ (at : ℕ). AreMembershipsAt settings.lifetime at (reverse (log ++ entry ∷ [])) rows) now
          (subst (λ (past : List Change). AreMembershipsAt settings.lifetime (latest (entry ∷ reverse log)) past rows) (sym (reverse-push log entry)) are);
    }

-- the memberships that are fresh at a later moment
fresh_rows : (settings : TableSettings) (table : TableValue) (log : List Change) (entry : Change) (moment : ℕ) → Holds settings table log → moment ≡ max table.moment (brought entry)
    → AreMembershipsAt settings.lifetime (latest (entry ∷ reverse log)) (reverse log) (filter (is_fresh table.lifetime moment) table.rows)
fresh_rows settings table log entry moment holds is =
    let turned = latest-reverse log in
    let same = holds.moment in
    let now : latest (entry ∷ reverse log) ≡ moment = omega arith in
    subst (λ (lifetime : ℕ). AreMembershipsAt settings.lifetime (latest (entry ∷ reverse log)) (reverse log) (filter (is_fresh lifetime moment) table.rows)) (sym holds.lifetime)
    (subst (λ (at : ℕ). AreMembershipsAt settings.lifetime (latest (entry ∷ reverse log)) (reverse log) (filter (is_fresh settings.lifetime at) table.rows)) now
    (AreMembershipsAt-later settings.lifetime (latest log) (latest (entry ∷ reverse log)) (reverse log) table.rows (omega arith) holds.rows))

-- time passes
pub Holds-mark : (settings : TableSettings) (table : TableValue) (log : List Change) (at moment : ℕ) (rows : List Membership) → moment ≡ max table.moment at → rows ≡ filter (is_fresh table.lifetime moment) table.rows
    → Holds settings table log → Holds settings (table_of moment table rows) (log ++ Mark at ∷ [])
Holds-mark settings table log at moment rows is fresh holds =
    held settings table log (Mark at) moment rows holds is
    (AreMembershipsAt-other settings.lifetime (latest (Mark at ∷ reverse log)) (Mark at) (reverse log) rows (λ endpoint_group. refl)
    (subst (AreMembershipsAt settings.lifetime (latest (Mark at ∷ reverse log)) (reverse log)) (sym fresh) (fresh_rows settings table log (Mark at) moment holds is)))

-- an endpoint leaves every group
pub Holds-clear : (settings : TableSettings) (table : TableValue) (log : List Change) (endpoint : EndpointValue) (at moment : ℕ) (fresh rows : List Membership) → moment ≡ max table.moment at
    → fresh ≡ filter (is_fresh table.lifetime moment) table.rows → rows ≡ filter (is_of_another endpoint) fresh
    → Holds settings table log → Holds settings (table_of moment table rows) (log ++ Clear endpoint at ∷ [])
Holds-clear settings table log endpoint at moment fresh rows is left gone holds =
    let entry = Clear endpoint at in
    let now = latest (entry ∷ reverse log) in
    let here = subst (AreMembershipsAt settings.lifetime now (reverse log)) (sym left) (fresh_rows settings table log entry moment holds is) in
    held settings table log entry moment rows holds is
    (subst (AreMembershipsAt settings.lifetime now (entry ∷ reverse log)) (sym gone) (AreMembershipsAt-clear settings.lifetime at endpoint (reverse log) fresh here))

-- the memberships that are left at a later moment are the memberships by the log then
pub fresh_are : (settings : TableSettings) (table : TableValue) (log : List Change) (at moment : ℕ) → moment ≡ max table.moment at → Holds settings table log
    → filter (is_fresh table.lifetime moment) table.rows ≡ memberships_at settings.lifetime (max at (latest log)) log
fresh_are settings table log at moment is holds =
    let rows = filter (is_fresh table.lifetime moment) table.rows in
    let turned = latest-reverse log in
    let now : latest (Mark at ∷ reverse log) ≡ max at (latest log) = omega arith in
    rows_are settings.lifetime (max at (latest log)) log rows
    (subst (λ (later : ℕ). AreMembershipsAt settings.lifetime later (reverse log) rows) now (fresh_rows settings table log (Mark at) moment holds is))

-- the memberships are those by the log
pub rows_now : (settings : TableSettings) (table : TableValue) (log : List Change) → Holds settings table log → table.rows ≡ memberships_now settings log
rows_now settings table log holds = rows_are settings.lifetime (latest log) log table.rows holds.rows

module _ (settings : TableSettings) (table : TableValue) (log : List Change) (endpoint : EndpointValue) (records : List Record) (at moment : ℕ) (own : List Membership) (some : 0 < table.lifetime)
    (is : moment ≡ max table.moment at) (owned : AreOwn table.lifetime moment endpoint records table.rows own) (holds : Holds settings table log) where
  abbrev last : ℕ
  last = latest (Reported endpoint records at ∷ reverse log)

  last_is : moment ≡ last
  last_is = let turned = latest-reverse log in let same = holds.moment in omega arith

  -- what is said by the table's lifetime and its moment, by those of the log
  by_log : (P : ℕ → ℕ → Type 0) → P table.lifetime moment → P settings.lifetime last
  by_log P given = subst (λ (lifetime : ℕ). P lifetime last) holds.lifetime (subst (P table.lifetime) last_is given)

  -- a report, with the memberships that its records leave in the place of the endpoint's
  pub Holds-report : (rows : List Membership) → AreAfterReport table.lifetime moment endpoint table.rows own rows → Holds settings (table_of moment table rows) (log ++ Reported endpoint records at ∷ [])
  Holds-report rows put =
      held settings table log (Reported endpoint records at) moment rows holds is
      (AreMembershipsAt-reported settings.lifetime (latest log) at endpoint records (reverse log) table.rows own (subst (λ (lifetime : ℕ). 0 < lifetime) holds.lifetime some)
      (let turned = latest-reverse log in omega arith) holds.rows (by_log (λ (lifetime later : ℕ). AreOwn lifetime later endpoint records table.rows own) owned) rows
      (by_log (λ (lifetime later : ℕ). AreAfterReport lifetime later endpoint table.rows own rows) put))

  -- the memberships by the log with the report are those that it leaves
  AreAfterReport-now : AreAfterReport settings.lifetime last endpoint table.rows own (memberships_with settings log endpoint records at)
  AreAfterReport-now =
      let entry = Reported endpoint records at in
      let rows = memberships_with settings log endpoint records at in
      let later = latest-push log entry in
      let turned = latest-reverse log in
      let whole : latest (log ++ entry ∷ []) ≡ last = omega arith in
      let stand = subst (λ (past : List Change). AreMembershipsAt settings.lifetime last past rows) (reverse-push log entry)
      (subst (λ (moment : ℕ). AreMembershipsAt settings.lifetime moment (reverse (log ++ entry ∷ [])) rows) whole (AreMembershipsAt-memberships_at settings.lifetime (latest (log ++ entry ∷ [])) (log ++ entry ∷ []))) in
      AreAfterReport-log settings.lifetime (latest log) at endpoint records (reverse log) table.rows own (subst (λ (lifetime : ℕ). 0 < lifetime) holds.lifetime some) (omega arith) holds.rows
      (by_log (λ (lifetime later : ℕ). AreOwn lifetime later endpoint records table.rows own) owned) rows stand

  -- the same by the table's lifetime and its moment
  pub AreAfterReport-table : AreAfterReport table.lifetime moment endpoint table.rows own (memberships_with settings log endpoint records at)
  AreAfterReport-table =
      let after = memberships_with settings log endpoint records at in
      subst (λ (lifetime : ℕ). AreAfterReport lifetime moment endpoint table.rows own after) (sym holds.lifetime)
      (subst (λ (later : ℕ). AreAfterReport settings.lifetime later endpoint table.rows own after) (sym last_is) AreAfterReport-now)

  -- the limit that a report passes is found by the memberships of its endpoint
  pub passed_is : (limits : Limits) → IsAscending membership_order table.rows → limit_passed (record settings { limits = limits }) log endpoint records at
      ≡ limit_by_own table.lifetime moment limits endpoint records table.rows (group_count endpoint (filter (is_fresh table.lifetime moment) table.rows)) own
  passed_is limits ascends =
      let rows = memberships_with settings log endpoint records at in
      let by : ℕ → ℕ → Option LimitFault = λ lifetime later. limit_by_own lifetime later limits endpoint records table.rows (group_count endpoint (filter (is_fresh lifetime later) table.rows)) own in
      ap (λ (without : List Membership). first_limit limits endpoint records without rows)
      (sym (by_log (λ (lifetime later : ℕ). filter (is_fresh lifetime later) table.rows ≡ memberships_without settings log at) (fresh_are settings table log at moment is holds)))
      ∙ first_limit_is settings.lifetime last limits endpoint records table.rows own rows ascends owned.ascends owned.of AreAfterReport-now
      ∙ sym (by_log (λ (lifetime later : ℕ). by table.lifetime moment ≡ by lifetime later) refl)

-- what a table keeps within its limits is within them by the log
pub IsWithin-log : (settings : TableSettings) (table : TableValue) (log : List Change) → Holds settings table log → IsWithinLimits table → IsWithin settings.limits (memberships_now settings log)
IsWithin-log settings table log holds within =
    subst (IsWithin settings.limits) (rows_are settings.lifetime (latest log) log table.rows holds.rows)
    (subst (λ (limits : Limits). IsWithin limits table.rows) holds.limits within)

-- by every log, a report passes no limit exactly where it fits
pub none_where_it_fits : (settings : TableSettings) (log : List Change) (endpoint : EndpointValue) (records : List Record) (at : ℕ) → (limit_passed settings log endpoint records at ≡ None) ↔ ReportFits settings log endpoint records at
none_where_it_fits settings log endpoint records at =
    let without = memberships_without settings log at in
    let entered = log ++ Reported endpoint records at ∷ [] in
    let rows = memberships_now settings entered in (
      fits_passed settings.limits endpoint records without rows,
      none_passed settings.limits endpoint records without rows (AreMembershipsAt-memberships_at settings.lifetime (latest entered) entered).ascend,
    )

-- where a limit is passed, the report doesn't fit
pub unfit : (settings : TableSettings) (log : List Change) (endpoint : EndpointValue) (records : List Record) (at : ℕ) (fault : LimitFault) → limit_passed settings log endpoint records at ≡ Some fault
    → ReportFits settings log endpoint records at → ⊥
unfit settings log endpoint records at fault passed fits = let none = (none_where_it_fits settings log endpoint records at).1 fits in cc

-- a table that stands for a log has only fresh memberships, so where no time passes nothing changes
pub no_later : (settings : TableSettings) (table : TableValue) (log : List Change) (at moment : ℕ) (rows : List Membership) → moment ≡ max table.moment at → rows ≡ filter (is_fresh table.lifetime moment) table.rows
    → Holds settings table log → at ≤ latest log → table_of moment table rows ≡ table
no_later settings table log at moment rows is fresh holds before =
    let same = holds.moment in
    let still : moment ≡ table.moment = omega arith in
    let all = fresh ∙ fresh_are settings table log at moment is holds
    ∙ ap (λ (later : ℕ). memberships_at settings.lifetime later log) (omega arith) ∙ sym (rows_are settings.lifetime (latest log) log table.rows holds.rows) in
    ap (λ (at_last : ℕ). table_of at_last table rows) still ∙ ap (table_of table.moment table) all
