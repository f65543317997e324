-- How long the report of one record is, and the datagram that carries it.
use Rattle.std.{proofs.Common.{◌≡◌, ℕ, ◌≤◌, Bool, true, false, List, [], ◌∷◌, ◌++◌, length, Result, Ok, Err, arith}, specs.Result.{IfOk}}
use Rattle.source_filter.specs.declared.record.Record.{Record}
use Rattle.inner_datagrams.specs.Written.{written_inner4}
use Rattle.igmp_records.specs.Report.{report_length4}
use Rattle.relay_load.specs.Updates.{record_with}

few : (excludes : Bool) (group : ℕ) → report_length4 (record_with excludes group ∷ []) ≤ 20
few true group = omega arith
few false group = omega arith

-- a report of such a record has at most 20 octets
pub short-report : (excludes : Bool) (group : ℕ) (one : Record) (none records : List Record) (report : List ℕ)
    → none ≡ [] → one ≡ record_with excludes group → records ≡ none ++ one ∷ [] → length report ≡ report_length4 records → length report ≤ 20
short-report excludes group one none records report empty made is same =
    let whole : records ≡ record_with excludes group ∷ [] = rw (empty, made) at is in
    let long : length report ≡ report_length4 (record_with excludes group ∷ []) = rw whole at same in
    omega (arith, long, few excludes group)

-- and its datagram has 24 more
pub short-datagram : {E : Type 0} (source destination : ℕ) (payload : List ℕ) (result : Result (List ℕ) E) → length payload ≤ 20
    → IfOk result (λ bytes. bytes ≡ written_inner4 source destination payload) → IfOk result (λ bytes. length bytes ≤ 100)
unfolding written_inner4
short-datagram source destination payload (Ok bytes) short is = rw is (omega (arith, short))
short-datagram source destination payload (Err fault) short is = tt
