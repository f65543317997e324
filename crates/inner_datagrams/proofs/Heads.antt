-- Bytes have no fault of their head exactly where they have a head.
use Rattle.std.{proofs.{Common.{◌≡◌, inl, inr, ℕ, List, length, Bool, true, false, not, eqb, ltb, cond, ◌||◌, Option, None, Result, Ok, Err, refl, sym, subst, ap, ◌∙◌, arith}, lemmas.Bool.{le-ltb, ltb-false, eqb-true, ne_eqb}}, specs.Result.{IfOk}}
use Rattle.amt_values.{specs.{declared.address.Ip.{Ip}, Conditions.{unless}, IpHeader.{ip_version}}, proofs.ConditionLaws.{NoneHolds-of, unless-ok}}
use Rattle.inner_datagrams.{specs.{Head.{IsHead, IsHead4, IsHead6, first_head_fault, head_at, head4_at, head6_at, head_faults, head_of}, declared.head.{Head.{Head}, HeadFault.{HeadFault}}}, proofs.Faults.{version4}}

head_by_version : (six : Bool) (bytes : List ℕ) → eqb (ip_version bytes) 6 ≡ six
    → not (eqb (ip_version bytes) 4 || eqb (ip_version bytes) 6) ≡ false
    → ltb (length bytes) (cond six 40 20) ≡ false
    → IsHead (cond six (head6_at bytes) (head4_at bytes)) bytes
head_by_version true bytes test known long = inr (
    record {
      version = eqb-true _ _ test;
      whole_header = ltb-false _ _ long;
      comes_from = refl;
      goes_to = refl;
    })
head_by_version false bytes test known long = inl (
    record {
      version = version4 _ known test;
      least_header = ltb-false _ _ long;
      comes_from = refl;
      goes_to = refl;
    })

-- bytes with no fault have the head that stands in them
pub head_of_no_fault : (bytes : List ℕ) → first_head_fault bytes ≡ None → IsHead (head_at bytes) bytes
unfolding first_head_fault
head_of_no_fault bytes none =
    let all = NoneHolds-of (head_faults bytes) none in
    head_by_version (eqb (ip_version bytes) 6) bytes refl all.1.0 all.1.1.0

no_fault4 : (head : Head) (bytes : List ℕ) → IsHead4 head bytes → first_head_fault bytes ≡ None
unfolding first_head_fault
no_fault4 head bytes h =
    let long = h.least_header in
    let some : eqb (length bytes) 0 ≡ false = ne_eqb (length bytes) 0 (λ e. omega arith) in
    rw (some, h.version, le-ltb (length bytes) 20 long) refl

no_fault6 : (head : Head) (bytes : List ℕ) → IsHead6 head bytes → first_head_fault bytes ≡ None
unfolding first_head_fault
no_fault6 head bytes h =
    let long = h.whole_header in
    let some : eqb (length bytes) 0 ≡ false = ne_eqb (length bytes) 0 (λ e. omega arith) in
    rw (some, h.version, le-ltb (length bytes) 40 long) refl

-- a head is its two addresses
same_head : (head other : Head) → head.source ≡ other.source → head.group ≡ other.group → head ≡ other
same_head head other source group =
    ap (λ (ip : Ip). record { source = ip; group = head.group }) source
    ∙ ap (λ (ip : Ip). record { source = other.source; group = ip }) group

-- a head has no fault, and its addresses are at their places
pub record IsLawfulHead (head : Head) (bytes : List ℕ) : Type 0 where
  pub none : first_head_fault bytes ≡ None
  pub places : head ≡ head_at bytes

pub IsLawfulHead-head : (head : Head) (bytes : List ℕ) → IsHead head bytes → IsLawfulHead head bytes
IsLawfulHead-head head bytes (inl h) =
    record {
      none = no_fault4 head bytes h;
      places = rw h.version (same_head head (head4_at bytes) h.comes_from h.goes_to);
    }
IsLawfulHead-head head bytes (inr h) =
    record {
      none = no_fault6 head bytes h;
      places = rw h.version (same_head head (head6_at bytes) h.comes_from h.goes_to);
    }

pub answer_found : (answer : Result Head HeadFault) (bytes : List ℕ) → answer ≡ head_of bytes
    → IfOk answer (λ head. IsHead head bytes)
answer_found (Ok head) bytes same =
    let parts = unless-ok (first_head_fault bytes) (head_at bytes) head same in
    subst (λ (h : Head). IsHead h bytes) (sym parts.1) (head_of_no_fault bytes parts.0)
answer_found (Err fault) bytes same = tt

pub answer_only : (answer : Result Head HeadFault) (bytes : List ℕ) → answer ≡ head_of bytes
    → (head : Head) → IsHead head bytes → answer ≡ Ok head
answer_only answer bytes same head h =
    let lawful = IsLawfulHead-head head bytes h in
    same
    ∙ ap (λ (fault : Option HeadFault). unless fault (head_at bytes)) lawful.none
    ∙ ap (λ (h : Head). Ok h) (sym lawful.places)
