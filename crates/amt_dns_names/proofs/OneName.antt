-- A place has one name: each form that stands there excludes the others.
use Rattle.std.proofs.{Common.{◌≡◌, ℕ, ◌+◌, ◌≤◌, List, [], ◌∷◌, length, take, drop, refl, sym, ap, subst, ◌∙◌, arith}}
use Rattle.amt_dns_names.specs.{NameAt.{IsOctetAt, IsLabelAt, IsPointerAt, PartAt, NameAt}}

-- what follows a label
pub record AfterLabel (bytes : List ℕ) (start at : ℕ) (label : List ℕ) (labels : List (List ℕ)) (end : ℕ) : Type 0 where
  pub rest : List (List ℕ)
  pub is : labels ≡ label ∷ rest
  pub part : PartAt bytes start (at + 1 + length label) rest end

-- what a pointer leads to
pub record AfterPointer (bytes : List ℕ) (at to : ℕ) (labels : List (List ℕ)) (end : ℕ) : Type 0 where
  pub last : ℕ
  pub is : end ≡ at + 2
  pub part : PartAt bytes to to labels last

label_once : (bytes : List ℕ) (at : ℕ) (one other : List ℕ) → IsLabelAt bytes at one → IsLabelAt bytes at other → one ≡ other
label_once bytes at one other first second =
    let same : length one ≡ length other = sym first.counted.is ∙ second.counted.is in
    sym first.spelled ∙ (ap (λ (n : ℕ). take n (drop (at + 1) bytes)) same ∙ second.spelled)

pub no_label_at_zero : (bytes : List ℕ) (at : ℕ) (label : List ℕ) → IsLabelAt bytes at label → IsOctetAt bytes at 0 → ⊥
no_label_at_zero bytes at label one zero_octet = omega (arith, one.lawful.some, one.counted.is, zero_octet.is)

pub no_label_at_pointer : (bytes : List ℕ) (at to : ℕ) (label : List ℕ) → IsLabelAt bytes at label → IsPointerAt bytes at to → ⊥
no_label_at_pointer bytes at to label one leads = omega (arith, one.lawful.most, one.counted.is, leads.high)

pub no_pointer_at_zero : (bytes : List ℕ) (at to : ℕ) → IsPointerAt bytes at to → IsOctetAt bytes at 0 → ⊥
no_pointer_at_zero bytes at to leads zero_octet = omega (arith, leads.high, zero_octet.is)

pub at_label : (bytes : List ℕ) (start at : ℕ) (label : List ℕ) (labels : List (List ℕ)) (end : ℕ)
    → IsLabelAt bytes at label → PartAt bytes start at labels end → AfterLabel bytes start at label labels end
at_label bytes start at label labels end one (PartAt.zero_octet _ _ octet) = absurd (no_label_at_zero bytes at label one octet)
at_label bytes start at label labels end one (PartAt.label _ _ other rest _ counted part) =
    let same : other ≡ label = label_once bytes at other label counted one in
    record {
      rest = rest;
      is = ap (λ (first : List ℕ). first ∷ rest) same;
      part = subst (λ (first : List ℕ). PartAt bytes start (at + 1 + length first) rest end) same part;
    }
at_label bytes start at label labels end one (PartAt.pointer _ _ to _ _ leads back part) = absurd (no_label_at_pointer bytes at to label one leads)

pub at_pointer : (bytes : List ℕ) (start at to : ℕ) (labels : List (List ℕ)) (end : ℕ)
    → IsPointerAt bytes at to → PartAt bytes start at labels end → AfterPointer bytes at to labels end
at_pointer bytes start at to labels end leads (PartAt.zero_octet _ _ octet) = absurd (no_pointer_at_zero bytes at to leads octet)
at_pointer bytes start at to labels end leads (PartAt.label _ _ label rest _ counted part) = absurd (no_label_at_pointer bytes at to label counted leads)
at_pointer bytes start at to labels end leads (PartAt.pointer _ _ other _ last found back part) =
    let same : other ≡ to = found.low ∙ sym leads.low in
    record {
      last = last;
      is = refl;
      part = subst (λ (place : ℕ). PartAt bytes place place labels last) same part;
    }

pub at_zero : (bytes : List ℕ) (start at : ℕ) (labels : List (List ℕ)) (end : ℕ)
    → IsOctetAt bytes at 0 → PartAt bytes start at labels end → (labels ≡ []) × (end ≡ at + 1)
at_zero bytes start at labels end octet (PartAt.zero_octet _ _ _) = (refl, refl)
at_zero bytes start at labels end octet (PartAt.label _ _ label rest _ counted part) = absurd (no_label_at_zero bytes at label counted octet)
at_zero bytes start at labels end octet (PartAt.pointer _ _ to _ _ leads back part) = absurd (no_pointer_at_zero bytes at to leads octet)

PartAt-unique : (bytes : List ℕ) (start at : ℕ) (one other : List (List ℕ)) (end last : ℕ)
    → PartAt bytes start at one end → PartAt bytes start at other last → (one ≡ other) × (end ≡ last)
PartAt-unique bytes start at one other end last (PartAt.zero_octet _ _ octet) second =
    let is = at_zero bytes start at other last octet second in
    (sym is.0, sym is.1)
PartAt-unique bytes start at one other end last (PartAt.label _ _ label rest _ counted part) second =
    let after = at_label bytes start at label other last counted second in
    let same = PartAt-unique bytes start (at + 1 + length label) rest after.rest end last part after.part in
    (ap (λ (more : List (List ℕ)). label ∷ more) same.0 ∙ sym after.is, same.1)
PartAt-unique bytes start at one other end last (PartAt.pointer _ _ to _ place leads back part) second =
    let after = at_pointer bytes start at to other last leads second in
    let same = PartAt-unique bytes to to one other place after.last part after.part in
    (same.0, sym after.is)

pub NameAt-unique : (bytes : List ℕ) (at : ℕ) (one other : List (List ℕ)) (end last : ℕ)
    → NameAt bytes at one end → NameAt bytes at other last → (one ≡ other) × (end ≡ last)
NameAt-unique bytes at one other end last first second = PartAt-unique bytes at at one other end last first.part second.part

-- a name ends within the octets
pub PartAt-within : (bytes : List ℕ) (start at : ℕ) (labels : List (List ℕ)) (end : ℕ) → PartAt bytes start at labels end → end ≤ length bytes
PartAt-within bytes start at labels end (PartAt.zero_octet _ _ octet) = let less = octet.within in omega arith
PartAt-within bytes start at labels end (PartAt.label _ _ label rest _ counted part) = PartAt-within bytes start (at + 1 + length label) rest end part
PartAt-within bytes start at labels end (PartAt.pointer _ _ to _ _ leads back part) = leads.within
