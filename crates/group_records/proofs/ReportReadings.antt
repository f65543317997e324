-- From what was answered by the reading of a payload to what it says of the report.
use Rattle.std.{proofs.{Common.{◌≡◌, ◌↔◌, ℕ, ◌≤◌, inl, inr, List, length, drop, slice_index, false, ◌||◌, ◌&&◌, not, eqb, ltb, is_some, Option, Some, None, Result, Ok, Err, refl, sym, subst, ap, ◌∙◌, arith}, lemmas.Bool.{ltb-false, le-ltb}}, specs.Result.{IfOk, MatchResult}}
use Rattle.amt_values.{specs.{Octets.{AreOctets}, Answer.{Tells}, Conditions.{Conditions, first_holding, unless}}, proofs.{NetworkOrder.{AreOctets-drop}, AnswerLaws.{answer_refused as refused_by}, ConditionLaws.{NoneHolds-of, first_holding-both_none, first_holding-later, first_holding-none, holds_not, skips_same, unless-ok}}}
use Rattle.source_filter.specs.{declared.record.{Record.{Record}, RecordKind.{RecordKind}}, declared.fault.{ReportFault.{ReportFault}, ReadFault.{ReadFault}}}
use Rattle.group_records.{specs.{declared.family.Family.{Family, TheVariants.{V4, V6}}, Family.{group_end, older_kind, report_type}, Report.{IsCurrentReport, IsOlderReport, IsReport, IsSomeReport}, Reading.{GivesRecords, later_record_faults, older_kind_in, report_fault_in, first_report_fault, record_count, records_by, records_in, report_head_faults, report_of}}, proofs.RecordLists.{AreRecords-once, AreRecords-read}}

-- what is wrong with the records of a payload
abbrev walk_faults : Family → List ℕ → Conditions ReportFault
walk_faults family payload = later_record_faults (older_kind_in family payload) family payload

-- the type of a current report is none of an older one
not_older : (family : Family) (kind : ℕ) → kind ≡ report_type family → older_kind family kind ≡ None
not_older V4 kind same = rw same refl
not_older V6 kind same = rw same refl

-- an older message is as long as the head of a current one
past_eight : (family : Family) (count : ℕ) → group_end family ≤ count → 8 ≤ count
past_eight V4 count whole = whole
past_eight V6 count whole = omega (arith, whole)

module _ (family : Family) (pseudo_header payload : List ℕ) where
  abbrev IsFaultless : Conditions ReportFault → Type 0
  IsFaultless conditions = first_holding conditions ≡ None

  -- a payload without fault is a report of the records that stand in it, by what its type says
  faultless_by : (older : Option RecordKind) → older_kind_in family payload ≡ older → AreOctets payload
      → IsFaultless (report_head_faults family pseudo_header payload) → IsFaultless (later_record_faults older family payload)
      → IsReport family pseudo_header (records_by older family payload) payload
  faultless_by None same small head walk =
      let all = NoneHolds-of (report_head_faults family pseudo_header payload) head in
      let known = rw same at all.1.0 in
      inl (record {
        whole = ltb-false (length payload) 8 all.0;
        kind = holds_not _ _ known;
        right_sum = holds_not _ _ all.1.1.1.0;
        carries = AreRecords-read family 0 (record_count payload) (drop 8 payload) (AreOctets-drop 8 payload small) walk;
      })
  faultless_by (Some kind) same small head walk =
      let all = NoneHolds-of (report_head_faults family pseudo_header payload) head in
      let long = rw same at all.1.1.0 in
      inr (record {
        kind = kind;
        whole = ltb-false (length payload) (group_end family) long;
        older = same;
        right_sum = holds_not _ _ all.1.1.1.0;
        one = refl;
      })

  faultless_is_report : AreOctets payload → first_report_fault family pseudo_header payload ≡ None
      → IsReport family pseudo_header (records_in family payload) payload
  unfolding first_report_fault
  faultless_is_report small none =
      let both = first_holding-both_none (report_head_faults family pseudo_header payload) (walk_faults family payload) none in
      faultless_by (older_kind_in family payload) refl small both.0 both.1

  -- what is read of a payload whose type says this, and of which no part has a fault
  read_by : (older : Option RecordKind) (records : List Record) → older_kind_in family payload ≡ older
      → IsFaultless (report_head_faults family pseudo_header payload) → IsFaultless (later_record_faults older family payload)
      → records_by older family payload ≡ records → report_of family pseudo_header payload ≡ Ok records
  unfolding first_report_fault report_of
  read_by older records same head walk known =
      let none = first_holding-later (report_head_faults family pseudo_header payload) (walk_faults family payload) head
      ∙ ap (λ (kind : Option RecordKind). first_holding (later_record_faults kind family payload)) same ∙ walk in
      ap (λ (fault : Option ReportFault). unless fault (records_in family payload)) none
      ∙ ap (λ (kind : Option RecordKind). Ok (records_by kind family payload)) same
      ∙ ap (λ (rs : List Record). Ok rs) known

  current_is_read : (records : List Record) → IsCurrentReport family pseudo_header records payload
      → report_of family pseudo_header payload ≡ Ok records
  current_is_read records report =
      let same = not_older family (slice_index payload 0) report.kind in
      let walk = AreRecords-once family 0 (record_count payload) records (drop 8 payload) report.carries in
      let known : not (is_some (older_kind_in family payload) || eqb (slice_index payload 0) (report_type family)) ≡ false =
      rw same (skips_same _ _ report.kind) in
      let whole : (is_some (older_kind_in family payload) && ltb (length payload) (group_end family)) ≡ false = rw same refl in
      let head = first_holding-none (report_head_faults family pseudo_header payload)
      (le-ltb (length payload) 8 report.whole, (known, (whole, (skips_same _ _ report.right_sum, tt)))) in
      read_by None records same head walk.0 walk.1

  older_is_read : (records : List Record) → IsOlderReport family pseudo_header records payload
      → report_of family pseudo_header payload ≡ Ok records
  older_is_read records report =
      let known : not (is_some (older_kind_in family payload) || eqb (slice_index payload 0) (report_type family)) ≡ false =
      rw report.older refl in
      let whole : (is_some (older_kind_in family payload) && ltb (length payload) (group_end family)) ≡ false =
      rw report.older (le-ltb (length payload) (group_end family) report.whole) in
      let long = le-ltb (length payload) 8 (past_eight family (length payload) report.whole) in
      let head = first_holding-none (report_head_faults family pseudo_header payload)
      (long, (known, (whole, (skips_same _ _ report.right_sum, tt)))) in
      read_by (Some report.kind) records report.older head refl (sym report.one)

report_is_read : (family : Family) (pseudo_header payload : List ℕ) (records : List Record) → IsReport family pseudo_header records payload
    → report_of family pseudo_header payload ≡ Ok records
report_is_read family pseudo_header payload records (inl report) = current_is_read family pseudo_header payload records report
report_is_read family pseudo_header payload records (inr report) = older_is_read family pseudo_header payload records report

read_is_report : (family : Family) (pseudo_header payload : List ℕ) (records : List Record) → AreOctets payload
    → report_of family pseudo_header payload ≡ Ok records → IsReport family pseudo_header records payload
unfolding report_of
read_is_report family pseudo_header payload records small same =
    let read = unless-ok (first_report_fault family pseudo_header payload) (records_in family payload) records (sym same) in
    subst (λ (rs : List Record). IsReport family pseudo_header rs payload) (sym read.1) (faultless_is_report family pseudo_header payload small read.0)

-- what is read of a payload is what it is a report of, and it needs no call that reads it
pub report_of-report : (family : Family) (pseudo_header payload : List ℕ) → AreOctets payload → (records : List Record)
    → (report_of family pseudo_header payload ≡ Ok records) ↔ IsReport family pseudo_header records payload
report_of-report family pseudo_header payload small records =
    (read_is_report family pseudo_header payload records small, report_is_read family pseudo_header payload records)

faultless_report : (family : Family) (pseudo_header payload : List ℕ) → IsSomeReport family pseudo_header payload
    → first_report_fault family pseudo_header payload ≡ None
unfolding report_of
faultless_report family pseudo_header payload some =
    (unless-ok (first_report_fault family pseudo_header payload) (records_in family payload) some.records
    (sym (report_is_read family pseudo_header payload some.records some.report))).0

-- a payload has no fault exactly where it is a report
pub first_report_fault-none : (family : Family) (pseudo_header payload : List ℕ) → AreOctets payload
    → (first_report_fault family pseudo_header payload ≡ None) ↔ IsSomeReport family pseudo_header payload
first_report_fault-none family pseudo_header payload small = (
  λ none. record {
    records = records_in family payload;
    report = faultless_is_report family pseudo_header payload small none;
  },
  faultless_report family pseudo_header payload,
)

pub answer_found : (family : Family) (pseudo_header payload : List ℕ) (answer : Result (List Record) ReadFault) → AreOctets payload
    → GivesRecords answer (report_of family pseudo_header payload) → IfOk answer (λ records. IsReport family pseudo_header records payload)
answer_found family pseudo_header payload (Ok records) small gives = read_is_report family pseudo_header payload records small gives
answer_found family pseudo_header payload (Err fault) small gives = tt

pub answer_only : (family : Family) (pseudo_header payload : List ℕ) (answer : Result (List Record) ReadFault)
    → GivesRecords answer (report_of family pseudo_header payload) → (records : List Record) → IsReport family pseudo_header records payload
    → GivesRecords answer (Ok records)
answer_only family pseudo_header payload answer gives records report =
    subst (GivesRecords answer) (report_is_read family pseudo_header payload records report) gives

pub answer_refused : (family : Family) (pseudo_header payload : List ℕ) (answer : Result (List Record) ReadFault)
    → GivesRecords answer (report_of family pseudo_header payload)
    → MatchResult answer (λ _. first_report_fault family pseudo_header payload ≡ None)
    (λ fault. Tells (first_report_fault family pseudo_header payload) (report_fault_in fault))
unfolding report_of
answer_refused family pseudo_header payload answer gives =
    refused_by report_fault_in (λ _. Unit {0}) (first_report_fault family pseudo_header payload) (records_in family payload) answer gives

pub answer_fault : (family : Family) (pseudo_header payload : List ℕ) (answer : Result (List Record) ReadFault)
    → GivesRecords answer (report_of family pseudo_header payload) → (fault : ReportFault)
    → first_report_fault family pseudo_header payload ≡ Some fault → GivesRecords answer (Err fault)
unfolding report_of
answer_fault family pseudo_header payload answer gives fault first =
    let reading : report_of family pseudo_header payload ≡ Err fault = ap (λ (f : Option ReportFault). unless f (records_in family payload)) first in
    subst (GivesRecords answer) reading gives

-- a payload is a report of one list of records
pub IsReport_once : (family : Family) (pseudo_header payload : List ℕ) (records others : List Record)
    → IsReport family pseudo_header records payload → IsReport family pseudo_header others payload → records ≡ others
IsReport_once family pseudo_header payload records others report other =
    let both : Path (Result (List Record) ReportFault) (Ok records) (Ok others) = sym (report_is_read family pseudo_header payload records report)
    ∙ report_is_read family pseudo_header payload others other in
    cc
