-- What the inner octets of an Update are read as.
use Rattle.std.proofs.{Common.{◌≡◌, ◌≤◌, ℕ, List, [], ◌∷◌, length, drop, Bool, true, false, cond, Some, None, Result, Ok, Err, refl, sym, ap, ◌∙◌, arith}, lemmas.List.Sums.{sum_by-cons}}
use Rattle.source_filter.specs.{declared.record.Record.{Record}, declared.fault.ReportFault.{ReportFault}, Record.{item_count}}
use Rattle.amt_values.specs.{Group.{is_forwardable}, Conditions.{unless}}
use Rattle.inner_datagrams.specs.{Fault.{first_inner_fault}, Reading.{inner_at, payload_in, payload_start}, declared.inner.{Inner.{Inner as InnerPlace}, InnerFault.{InnerFault}}}
use Rattle.relay_machine.specs.{declared.outcome.Unlawful.TheVariants.{Inner, Report}, Updates.{carried_report, forwardable_records, report_by, report_in}}

pub report_in-inner : (inner : List ℕ) (fault : InnerFault) → first_inner_fault inner ≡ Some fault → report_in inner ≡ Err (Inner fault)
unfolding report_in
report_in-inner inner fault first = rw first refl

-- of a datagram without fault, what it carries is judged
pub report_in-carried : (inner payload : List ℕ) (place : InnerPlace) → first_inner_fault inner ≡ None
    → Ok place ≡ unless (first_inner_fault inner) (inner_at inner) → place.start ≡ payload_start inner → payload ≡ drop place.start inner
    → report_in inner ≡ report_by None (carried_report place.source place.destination payload)
unfolding report_in
report_in-carried inner payload place none whole starts same =
    let at : place ≡ inner_at inner = let read = rw none at whole in cc read in
    let carried : payload_in inner ≡ payload = sym (same ∙ ap (λ (start : ℕ). drop start inner) starts) in
    rw (none, carried) (ap (λ (found : InnerPlace). report_by None (carried_report found.source found.destination payload)) (sym at))

-- what a reader answers of what is carried, as the Update's
pub records-carried : (reading : Result (List Record) ReportFault) (records : List Record) → reading ≡ Ok records → report_by None reading ≡ Ok records
records-carried reading records read = rw read refl

pub fault-carried : (reading : Result (List Record) ReportFault) (fault : ReportFault) → reading ≡ Err fault → report_by None reading ≡ Err (Report fault)
fault-carried reading fault read = rw read refl

forwardable-fewer : (test : Bool) (first : Record) (kept later : List Record) → item_count kept ≤ item_count later
    → item_count (cond test (first ∷ kept) kept) ≤ item_count (first ∷ later)
forwardable-fewer true first kept later few =
    let size : Record → ℕ = λ (group_record : Record). length group_record.sources in
    let here = sum_by-cons size first kept in
    let there = sum_by-cons size first later in omega arith
forwardable-fewer false first kept later few =
    let size : Record → ℕ = λ (group_record : Record). length group_record.sources in
    let there = sum_by-cons size first later in omega arith

-- skipping records leaves no more of them
pub item_count-forwardable : (records : List Record) → item_count (forwardable_records records) ≤ item_count records
item_count-forwardable [] = omega arith
item_count-forwardable (first ∷ later) = forwardable-fewer (is_forwardable first.group) first (forwardable_records later) later (item_count-forwardable later)
