-- The lines of memberships, one after another.
use Rattle.std.proofs.{Common.{◌≡◌, ◌<◌, ◌+◌, ℕ, List, [], ◌∷◌, ◌++◌, length, get_or, take, drop, flat_map, Option, sym, ap, subst, ◌∙◌, append_assoc, append-nil}, lemmas.List.{take_more, take-append-drop, Concat.{flat_map-append}}}
use Rattle.endpoint_membership.specs.declared.row.Row.{Row}
use Rattle.script_lines.{specs.Writing.{WritesPrefix}, proofs.Writes.{prefix_of_more}}
use Rattle.amt_script.specs.Texts.{row_text}

-- one line more
pub row_more : (start : List ℕ) (rows : List Row) (i : ℕ) (d : Row) → i < length rows
    → start ++ flat_map row_text (take (i + 1) rows) ≡ (start ++ flat_map row_text (take i rows)) ++ row_text (get_or rows i d)
row_more start rows i d inside =
    let row = get_or rows i d in
    ap (λ (text : List ℕ). start ++ text)
    (ap (flat_map row_text) (take_more rows i d inside)
    ∙ (flat_map-append row_text (take i rows) (row ∷ []) ∙ ap (λ (text : List ℕ). flat_map row_text (take i rows) ++ text) (append-nil (row_text row))))
    ∙ sym (append_assoc start (flat_map row_text (take i rows)) (row_text row))

-- the lines of the first memberships, and then those of the others
rows_parted : (start : List ℕ) (rows : List Row) (n : ℕ)
    → (start ++ flat_map row_text (take n rows)) ++ flat_map row_text (drop n rows) ≡ start ++ flat_map row_text rows
rows_parted start rows n =
    append_assoc start (flat_map row_text (take n rows)) (flat_map row_text (drop n rows))
    ∙ ap (λ (text : List ℕ). start ++ text) (sym (flat_map-append row_text (take n rows) (drop n rows)) ∙ ap (flat_map row_text) (take-append-drop n rows))

-- a prefix of the lines of the first memberships is one of all lines
pub prefix_of_rows : (a b : Option (List ℕ)) (start : List ℕ) (rows : List Row) (n : ℕ)
    → WritesPrefix a b (start ++ flat_map row_text (take n rows)) → WritesPrefix a b (start ++ flat_map row_text rows)
prefix_of_rows a b start rows n prefix =
    subst (WritesPrefix a b) (rows_parted start rows n) (prefix_of_more a b (start ++ flat_map row_text (take n rows)) (flat_map row_text (drop n rows)) prefix)
