-- Names and the places where they stand.
use Rattle.std.proofs.{Common.{◌≡◌, ℕ, ◌+◌, suc, List, [], ◌∷◌, ◌++◌, length, All, get_or, take, drop, sym, ap, subst, ◌∙◌, append_assoc, arith, length-append, length-drop}, Math.Seq.{take-append_seam, drop-append_seam}, lemmas.{List.{drop-drop, get_or-drop}}}
use Rattle.amt_dns_names.specs.{Name.{IsLabel, IsName, label_wire, name_wire}, NameAt.{IsOctetAt, PartAt, NameAt}}

-- the first octet behind a place
octet_behind : (bytes : List ℕ) (at x : ℕ) (xs : List ℕ) → drop at bytes ≡ x ∷ xs → IsOctetAt bytes at x
octet_behind bytes at x xs behind =
    let long : length (drop at bytes) ≡ suc (length xs) = ap length behind in
    let here : get_or (drop at bytes) 0 0 ≡ x = ap (λ (ys : List ℕ). get_or ys 0 0) behind in
    let place : at ≡ at + 0 = omega arith in
    record {
      within = omega (arith, long, length-drop at bytes);
      is = ap (λ (i : ℕ). get_or bytes i 0) place ∙ (sym (get_or-drop at bytes 0 0) ∙ here);
    }

-- what stands behind a front of what stands behind a place
further : (bytes : List ℕ) (at : ℕ) (front back : List ℕ) → drop at bytes ≡ front ++ back → drop (at + length front) bytes ≡ back
further bytes at front back behind = sym (drop-drop (length front) at bytes) ∙ (ap (drop (length front)) behind ∙ drop-append_seam front back)

-- what is written of labels is a part of a name, whatever stands around it
PartAt-written : (bytes after : List ℕ) (labels : List (List ℕ)) (start at : ℕ) → All IsLabel labels
    → drop at bytes ≡ name_wire labels ++ after → PartAt bytes start at labels (at + length (name_wire labels))
PartAt-written bytes after [] start at all behind = PartAt.zero_octet start at (octet_behind bytes at 0 after behind)
PartAt-written bytes after (label ∷ labels) start at all behind =
    let whole : name_wire (label ∷ labels) ++ after ≡ label_wire label ++ (name_wire labels ++ after) = simp append_assoc in
    let split : drop at bytes ≡ label_wire label ++ (name_wire labels ++ after) = behind ∙ whole in
    let next = further bytes at (length label ∷ []) (label ++ (name_wire labels ++ after)) split in
    let front : take (length label) (drop (at + 1) bytes) ≡ label = ap (take (length label)) next ∙ take-append_seam label (name_wire labels ++ after) in
    let then = further bytes (at + 1) label (name_wire labels ++ after) next in
    let long : at + 1 + length label + length (name_wire labels) ≡ at + length (name_wire (label ∷ labels)) = simp length-append (omega arith) in
    let rest = PartAt-written bytes after labels start (at + 1 + length label) (λ k d less. all (suc k) d (omega arith)) then in
    PartAt.label start at label labels (at + length (name_wire (label ∷ labels)))
    (record { lawful = all 0 [] (omega arith); counted = octet_behind bytes at (length label) (label ++ (name_wire labels ++ after)) split; spelled = front })
    (subst (λ (end : ℕ). PartAt bytes start (at + 1 + length label) labels end) long rest)

-- a written name is a name at its place
pub NameAt-written : (before after : List ℕ) (labels : List (List ℕ)) → IsName labels
    → NameAt (before ++ name_wire labels ++ after) (length before) labels (length before + length (name_wire labels))
NameAt-written before after labels is = record {
  part = PartAt-written (before ++ name_wire labels ++ after) after labels (length before) (length before) is.labels
      (ap (drop (length before)) (append_assoc before (name_wire labels) after) ∙ drop-append_seam before (name_wire labels ++ after));
  limit = is.limit;
}
