-- The steps of a reader of names.
use Rattle.std.proofs.{Common.{◌≡◌, ℕ, ◌+◌, ◌<◌, ◌≤◌, List, [], ◌∷◌, ◌++◌, length, Option, Some, None, refl, sym, ap, subst, ◌∙◌, append_assoc, append-nil, arith, length-append}, lemmas.Grind.{flat_map-append}}
use Rattle.std.specs.Prelude.{IfNone, IfSome, unwrap_or}
use Rattle.amt_dns_names.{specs.{Name.{name_wire}, NameAt.{HasNoNameAt, IsOctetAt, IsLabelAt, IsPointerAt, PartAt, NameAt}, Reading.{Leads}}, proofs.OneName.{at_label, at_pointer}}

-- nothing is read, and the place is the name's
pub Leads-start : (bytes : List ℕ) (at : ℕ) → Leads bytes at [] None at at
Leads-start bytes at = record {
  holds = λ rest last part. part;
  only = λ labels end part. record { rest = labels; last = end; part = part; whole = refl; ended = refl };
}

one_more : (read rest : List (List ℕ)) (label : List ℕ) → read ++ label ∷ rest ≡ (read ++ label ∷ []) ++ rest
one_more read rest label = sym (append_assoc read (label ∷ []) rest)

-- a label more is read
pub Leads-label : (bytes : List ℕ) (name_at : ℕ) (read : List (List ℕ)) (known : Option ℕ) (start at : ℕ) (label : List ℕ)
    → Leads bytes name_at read known start at → IsLabelAt bytes at label
    → Leads bytes name_at (read ++ label ∷ []) known start (at + 1 + length label)
Leads-label bytes name_at read known start at label leads one = record {
  holds = λ rest last part.
      subst (λ (labels : List (List ℕ)). PartAt bytes name_at name_at labels (unwrap_or known last)) (one_more read rest label)
      (leads.holds (label ∷ rest) last (PartAt.label start at label rest last one part));
  only = λ labels end part.
      let left = leads.only labels end part in
      let after = at_label bytes start at label left.rest left.last one left.part in
      record {
        rest = after.rest;
        last = left.last;
        part = after.part;
        whole = left.whole ∙ (ap (λ (more : List (List ℕ)). read ++ more) after.is ∙ one_more read after.rest label);
        ended = left.ended;
      };
}

-- the same, as a reader counts
pub Leads-read : (bytes : List ℕ) (name_at : ℕ) (read new : List (List ℕ)) (known : Option ℕ) (start at : ℕ) (label : List ℕ)
    → Leads bytes name_at read known start at → IsLabelAt bytes at label → new ≡ read ++ label ∷ []
    → Leads bytes name_at new known start (at + (1 + length label))
Leads-read bytes name_at read new known start at label leads one is =
    let place : at + 1 + length label ≡ at + (1 + length label) = omega arith in
    rw (is, ← place) (Leads-label bytes name_at read known start at label leads one)

-- a pointer is followed, and the name's end is known
pub Leads-pointer : (bytes : List ℕ) (name_at : ℕ) (read : List (List ℕ)) (known : Option ℕ) (start at to : ℕ)
    → Leads bytes name_at read known start at → IsPointerAt bytes at to → to < start
    → Leads bytes name_at read (Some (unwrap_or known (at + 2))) to to
Leads-pointer bytes name_at read known start at to leads found back = record {
  holds = λ rest last part. leads.holds rest (at + 2) (PartAt.pointer start at to rest last found back part);
  only = λ labels end part.
      let left = leads.only labels end part in
      let after = at_pointer bytes start at to left.rest left.last found left.part in
      record {
        rest = left.rest;
        last = after.last;
        part = after.part;
        whole = left.whole;
        ended = left.ended ∙ ap (λ (place : ℕ). unwrap_or known place) after.is;
      };
}

-- the zero octet ends the name
pub NameAt-ended : (bytes : List ℕ) (name_at : ℕ) (read : List (List ℕ)) (known : Option ℕ) (start at : ℕ)
    → Leads bytes name_at read known start at → IsOctetAt bytes at 0 → length (name_wire read) ≤ 255
    → NameAt bytes name_at read (unwrap_or known (at + 1))
NameAt-ended bytes name_at read known start at leads octet short = record {
  part = subst (λ (labels : List (List ℕ)). PartAt bytes name_at name_at labels (unwrap_or known (at + 1))) (append-nil read)
      (leads.holds [] (at + 1) (PartAt.zero_octet start at octet));
  limit = short;
}

-- the labels that are there are too many
pub none_too_long : (bytes : List ℕ) (name_at : ℕ) (read : List (List ℕ)) (known : Option ℕ) (start at : ℕ) (label : List ℕ)
    → Leads bytes name_at read known start at → IsLabelAt bytes at label → 255 < length (name_wire read) + 1 + length label
    → HasNoNameAt bytes name_at
none_too_long bytes name_at read known start at label leads one long = λ labels end name.
    let left = (Leads-label bytes name_at read known start at label leads one).only labels end name.part in
    let whole = ap (λ (all : List (List ℕ)). length (name_wire all)) left.whole in
    let parts : length (name_wire read) + 1 + length label ≤ length (name_wire ((read ++ label ∷ []) ++ left.rest)) =
    simp (flat_map-append, length-append) (omega arith) in
    omega (arith, name.limit, long, whole, parts)

no_form : (bytes : List ℕ) (start at : ℕ) (labels : List (List ℕ)) (end : ℕ) → PartAt bytes start at labels end
    → ((label : List ℕ) → IsLabelAt bytes at label → ⊥) → ((to : ℕ) → IsPointerAt bytes at to → to < start → ⊥)
    → (IsOctetAt bytes at 0 → ⊥) → ⊥
no_form bytes start at labels end (PartAt.zero_octet _ _ octet) label pointer zero_octet = zero_octet octet
no_form bytes start at labels end (PartAt.label _ _ one rest _ counted part) label pointer zero_octet = label one counted
no_form bytes start at labels end (PartAt.pointer _ _ to _ _ leads back part) label pointer zero_octet = pointer to leads back

-- none of the three forms stands there
pub none_broken : (bytes : List ℕ) (name_at : ℕ) (read : List (List ℕ)) (known : Option ℕ) (start at : ℕ)
    → Leads bytes name_at read known start at
    → ((label : List ℕ) → IsLabelAt bytes at label → ⊥) → ((to : ℕ) → IsPointerAt bytes at to → to < start → ⊥)
    → (IsOctetAt bytes at 0 → ⊥) → HasNoNameAt bytes name_at
none_broken bytes name_at read known start at leads label pointer zero_octet = λ labels end name.
    let left = leads.only labels end name.part in
    no_form bytes start at left.rest left.last left.part label pointer zero_octet

-- the name that ends there, where one does
pub if_ended : (bytes : List ℕ) (name_at : ℕ) (read : List (List ℕ)) (known : Option ℕ) (start at : ℕ) (found : Option ℕ)
    → Leads bytes name_at read known start at → length (name_wire read) ≤ 255
    → IfSome found (λ end. IsOctetAt bytes at 0) → IfSome found (λ end. end ≡ unwrap_or known (at + 1))
    → IfSome found (λ end. NameAt bytes name_at read end)
if_ended bytes name_at read known start at None leads short octet is = tt
if_ended bytes name_at read known start at (Some end) leads short octet is =
    subst (λ (place : ℕ). NameAt bytes name_at read place) (sym is) (NameAt-ended bytes name_at read known start at leads octet short)

-- no name, where none does
pub if_broken : (bytes : List ℕ) (name_at : ℕ) (read : List (List ℕ)) (known : Option ℕ) (start at : ℕ) (found : Option ℕ)
    → Leads bytes name_at read known start at
    → ((label : List ℕ) → IsLabelAt bytes at label → ⊥) → ((to : ℕ) → IsPointerAt bytes at to → to < start → ⊥)
    → IfNone found (IsOctetAt bytes at 0 → ⊥) → IfNone found (HasNoNameAt bytes name_at)
if_broken bytes name_at read known start at None leads label pointer octet = none_broken bytes name_at read known start at leads label pointer octet
if_broken bytes name_at read known start at (Some end) leads label pointer octet = tt
