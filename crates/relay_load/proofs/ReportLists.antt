-- The datagrams that Updates carry, and a copy of one of them.
use Rattle.std.proofs.{Common.{◌≡◌, ◌∙◌, ℕ, ◌<◌, ◌≤◌, Bool, List, Result, Ok, Err, IfOk, length, get_or, ap, arith}, lemmas.List.{Elements.{All-get_or}, FromFn.{get_or-map-range_with_len, length-map-range_with_len}}}
use Rattle.relay_load.specs.Reports.{AreReportsOf, report_at, reports_of}

pub length-reports : (excludes : Bool) (all : List (List ℕ)) → AreReportsOf excludes all → length all ≡ 16
unfolding reports_of
length-reports excludes all are = ap length are.written ∙ length-map-range_with_len (report_at excludes) 0 16

-- the report of a group has the group's place
get_or-reports : (excludes : Bool) (index : ℕ) (all : List (List ℕ)) (other : List ℕ)
    → AreReportsOf excludes all → index < 16 → get_or all index other ≡ report_at excludes index
unfolding reports_of
get_or-reports excludes index all other are inside =
    ap (λ (reports : List (List ℕ)). get_or reports index other) are.written
    ∙ get_or-map-range_with_len (report_at excludes) 0 16 index index other inside (omega arith)

pub copied_report : {E : Type 0} (excludes : Bool) (index : ℕ) (all : List (List ℕ)) (one octets : List ℕ) (result : Result (List ℕ) E)
    → AreReportsOf excludes all → index < 16 → one ≡ get_or all index one → octets ≡ one → IfOk result (λ bytes. bytes ≡ octets)
    → IfOk result (λ bytes. bytes ≡ report_at excludes index)
copied_report excludes index all one octets (Ok bytes) are inside is same copy = copy ∙ (same ∙ (is ∙ get_or-reports excludes index all one are inside))
copied_report excludes index all one octets (Err e) are inside is same copy = tt

pub copied_short : {E : Type 0} (excludes : Bool) (index : ℕ) (all : List (List ℕ)) (one octets : List ℕ) (result : Result (List ℕ) E)
    → AreReportsOf excludes all → index < 16 → one ≡ get_or all index one → octets ≡ one → IfOk result (λ bytes. bytes ≡ octets)
    → IfOk result (λ bytes. length bytes ≤ 100)
copied_short excludes index all one octets (Ok bytes) are inside is same copy =
    let within : index < length all = rw (length-reports excludes all are) inside in
    rw (copy ∙ (same ∙ is)) (All-get_or (λ report. length report ≤ 100) all index one within are.short)
copied_short excludes index all one octets (Err e) are inside is same copy = tt
