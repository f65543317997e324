-- What a reading by the first fault says.
use Rattle.std.{proofs.Common.{◌≡◌, ℕ, ◌≤◌, List, length, Bool, true, false, eqb, cond, Option, Some, None, Result, Ok, Err, refl, sym, subst, ap, ◌∙◌}, specs.Result.{IfOk, IsOkAnd, MatchResult}}
use Rattle.amt_values.{specs.{declared.address.Ip.{Ip}, Conditions.{unless}, IpHeader.{ip_version}}, proofs.ConditionLaws.{unless-ok, unless-err}}
use Rattle.inner_datagrams.specs.{Inner.{IsInner}, Fault.{first_inner_fault}, Reading.{HasParts, inner_at, inner4_at, inner6_at, payload_in, payload_of, payload_start}, Written.{IsWrittenInner, written_headers}}
use Rattle.inner_datagrams.{specs.declared.inner.{Inner.{Inner}, InnerFault.{InnerFault}}, proofs.{Faults.{IsInnerAt, inner_of_no_fault, IsLawful-inner}, Payloads.{payload_whole}, ReadBack.{IsInner-written, payload_start-written}}}

-- what is answered is by the first fault
abbrev pub IsReading : Result Inner InnerFault → List ℕ → Type 0
IsReading answer bytes = answer ≡ unless (first_inner_fault bytes) (inner_at bytes)

-- what was read is at its places, and there was no fault
read-ok : (bytes : List ℕ) (inner : Inner) → IsReading (Ok inner) bytes → (first_inner_fault bytes ≡ None) × (inner ≡ inner_at bytes)
read-ok bytes inner same = unless-ok (first_inner_fault bytes) (inner_at bytes) inner same

start_by : (six : Bool) (one other : Inner) → (cond six one other).start ≡ cond six one.start other.start
start_by true one other = refl
start_by false one other = refl

end_by : (six : Bool) (one other : Inner) (end : ℕ) → one.end ≡ end → other.end ≡ end → (cond six one other).end ≡ end
end_by true one other end first second = first
end_by false one other end first second = second

starts_at : (bytes : List ℕ) (inner : Inner) → IsReading (Ok inner) bytes → inner.start ≡ payload_start bytes
starts_at bytes inner same =
    ap (λ (i : Inner). i.start) (read-ok bytes inner same).1
    ∙ start_by (eqb (ip_version bytes) 6) (inner6_at bytes) (inner4_at bytes)

ends_at : (bytes : List ℕ) (inner : Inner) → IsReading (Ok inner) bytes → inner.end ≡ length bytes
ends_at bytes inner same =
    ap (λ (i : Inner). i.end) (read-ok bytes inner same).1
    ∙ end_by (eqb (ip_version bytes) 6) (inner6_at bytes) (inner4_at bytes) (length bytes) refl refl

found_in : (bytes : List ℕ) (inner : Inner) → IsReading (Ok inner) bytes → IsInnerAt inner bytes
found_in bytes inner same =
    let parts = read-ok bytes inner same in
    subst (λ (i : Inner). IsInnerAt i bytes) (sym parts.1) (inner_of_no_fault bytes parts.0)

pub answer_found : (answer : Result Inner InnerFault) (bytes : List ℕ) → IsReading answer bytes
    → IfOk answer (λ inner. IsInner inner.source inner.destination (payload_of inner.start inner.end bytes) bytes)
answer_found (Ok inner) bytes same = found_in bytes inner same
answer_found (Err fault) bytes same = tt

pub answer_start : (answer : Result Inner InnerFault) (bytes : List ℕ) → IsReading answer bytes
    → IfOk answer (λ inner. inner.start ≡ payload_start bytes)
answer_start (Ok inner) bytes same = starts_at bytes inner same
answer_start (Err fault) bytes same = tt

pub answer_end : (answer : Result Inner InnerFault) (bytes : List ℕ) → IsReading answer bytes
    → IfOk answer (λ inner. inner.end ≡ length bytes)
answer_end (Ok inner) bytes same = ends_at bytes inner same
answer_end (Err fault) bytes same = tt

pub answer_bounds : (answer : Result Inner InnerFault) (bytes : List ℕ) → IsReading answer bytes
    → IfOk answer (λ inner. inner.start ≤ inner.end)
answer_bounds (Ok inner) bytes same =
    rw (starts_at bytes inner same, ends_at bytes inner same) (IsLawful-inner _ _ _ bytes (found_in bytes inner same)).within
answer_bounds (Err fault) bytes same = tt

pub answer_payload : (answer : Result Inner InnerFault) (bytes : List ℕ) → IsReading answer bytes
    → IfOk answer (λ inner. payload_of inner.start inner.end bytes ≡ payload_in bytes)
answer_payload (Ok inner) bytes same =
    rw (starts_at bytes inner same, ends_at bytes inner same) (payload_whole (payload_start bytes) bytes)
answer_payload (Err fault) bytes same = tt

pub answer_refused : (answer : Result Inner InnerFault) (bytes : List ℕ) → IsReading answer bytes
    → MatchResult answer (λ _. first_inner_fault bytes ≡ None) (λ fault. first_inner_fault bytes ≡ Some fault)
answer_refused (Ok inner) bytes same = (read-ok bytes inner same).0
answer_refused (Err fault) bytes same = unless-err (first_inner_fault bytes) (inner_at bytes) fault same

pub answer_only : (answer : Result Inner InnerFault) (bytes : List ℕ) → IsReading answer bytes
    → (source destination : Ip) (payload : List ℕ) → IsInner source destination payload bytes
    → IsOkAnd answer (HasParts source destination payload bytes)
answer_only answer bytes same source destination payload h =
    let lawful = IsLawful-inner source destination payload bytes h in
    let read : answer ≡ Ok (inner_at bytes) = same ∙ ap (λ (fault : Option InnerFault). unless fault (inner_at bytes)) lawful.none in
    subst (λ (r : Result Inner InnerFault). IsOkAnd r (HasParts source destination payload bytes)) (sym read) lawful.parts

both_ok : (answer : Result Inner InnerFault) (P Q : Inner → Type 0) → IsOkAnd answer P → IfOk answer Q → IsOkAnd answer (λ inner. P inner × Q inner)
both_ok (Ok inner) P Q one other = (one, other)
both_ok (Err fault) P Q one other = one

pub answer_read_back : (answer : Result Inner InnerFault) (bytes : List ℕ) → IsReading answer bytes
    → (source destination : Ip) (payload : List ℕ) → length payload ≤ 60000
    → IsWrittenInner source destination payload bytes
    → IsOkAnd answer (λ inner. HasParts source destination payload bytes inner × (inner.start ≡ written_headers source))
answer_read_back answer bytes same source destination payload short written =
    let lawful = IsInner-written source destination payload bytes short written in
    let start = payload_start-written source destination payload bytes written in
    both_ok answer (HasParts source destination payload bytes) (λ (inner : Inner). inner.start ≡ written_headers source)
    (answer_only answer bytes same source destination payload lawful)
    (subst (λ (place : ℕ). IfOk answer (λ inner. inner.start ≡ place)) start (answer_start answer bytes same))

-- what `read_inner` ensures of its reading
pub ruleset answers = (answer_found, answer_only, answer_start, answer_end, answer_bounds, answer_payload, answer_refused, answer_read_back)
