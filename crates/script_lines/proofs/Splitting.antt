-- The first line of a text, and the first field of a line.
use Rattle.std.proofs.Common.{◌≡◌, ◌≢◌, ℕ, zero, suc, ◌<◌, ◌==◌, false, List, [], ◌∷◌, ◌++◌, length, take, drop, slice_index, All, filter, refl, sym, ap, ◌∙◌, ne_eqb, arith, subst}
use Rattle.std.{proofs.lemmas.List.{Elements.{All-weaker, recursion_from_All}, Splits.{slice_split_at, slice_split_none, length-slice_split}}, specs.{List.{slice_split, AllByRecursion}, Str.Lines.{lines, lines_of_parts, strip_carriage_return}}}
use Rattle.script_lines.specs.Lines.{fields, is_filled}

differs : (at : ℕ) (text : List ℕ) → All (λ octet. octet ≢ at) text → All (λ octet. (octet == at) ≡ false) text
differs at text lacks = All-weaker (λ octet. octet ≢ at) (λ octet. (octet == at) ≡ false) (λ octet other. ne_eqb octet at other) text lacks

first_of_parts : (line : List ℕ) (parts : List (List ℕ)) → 0 < length parts → lines_of_parts (line ∷ parts) ≡ strip_carriage_return line ∷ lines_of_parts parts
first_of_parts line [] some = absurd (omega arith)
first_of_parts line (next ∷ more) some = refl

-- a line that ends in a line feed
pub lines-ended : (line rest : List ℕ) → All (λ octet. octet ≢ 10) line → lines (line ++ 10 ∷ rest) ≡ strip_carriage_return line ∷ lines rest
lines-ended line rest lacks =
    let parts = slice_split (λ octet. octet == 10) rest in
    let some : 0 < length parts = omega (arith, length-slice_split (λ octet. octet == 10) rest) in
    ap lines_of_parts (slice_split_at (λ octet. octet == 10) line 10 rest (differs 10 line lacks) refl) ∙ first_of_parts line parts some

only_part : (line : List ℕ) → 0 < length line → lines_of_parts (line ∷ []) ≡ line ∷ []
only_part [] some = absurd (omega arith)
only_part (x ∷ xs) some =
    let filled : (length (x ∷ xs) == 0) ≡ false = ne_eqb (length (x ∷ xs)) 0 (λ none. omega arith) in
    rw filled refl

-- a last line without a line feed
pub lines-last : (line : List ℕ) → 0 < length line → All (λ octet. octet ≢ 10) line → lines line ≡ line ∷ []
lines-last line some lacks =
    ap lines_of_parts (slice_split_none (λ octet. octet == 10) line (differs 10 line lacks)) ∙ only_part line some

-- spaces at the beginning of a line are in no field
pub fields-spaces : (n : ℕ) (line : List ℕ) → AllByRecursion (λ octet. octet ≡ 32) (take n line) → fields line ≡ fields (drop n line)
fields-spaces zero line spaces = refl
fields-spaces (suc n) [] spaces = refl
fields-spaces (suc n) (x ∷ xs) spaces = rw spaces.0 (fields-spaces n xs spaces.1)

pub fields-blank : (line : List ℕ) → AllByRecursion (λ octet. octet ≡ 32) line → fields line ≡ []
fields-blank [] spaces = refl
fields-blank (x ∷ xs) spaces = rw spaces.0 (fields-blank xs spaces.1)

kept : (field : List ℕ) (rest : List (List ℕ)) → 0 < length field → filter is_filled (field ∷ rest) ≡ field ∷ filter is_filled rest
kept [] rest some = absurd (omega arith)
kept (x ∷ xs) rest some = refl

starts_field : (prefix back : List ℕ) → slice_index (prefix ++ 32 ∷ back) 0 ≢ 32 → 0 < length prefix
starts_field [] back other = absurd (other refl)
starts_field (x ∷ xs) back other = omega arith

-- a field that a space ends
pub fields-ended : (field rest : List ℕ) → slice_index (field ++ 32 ∷ rest) 0 ≢ 32 → All (λ octet. octet ≢ 32) field → fields (field ++ 32 ∷ rest) ≡ field ∷ fields rest
fields-ended field rest other lacks =
    ap (filter is_filled) (slice_split_at (λ octet. octet == 32) field 32 rest (differs 32 field lacks) refl)
    ∙ kept field (slice_split (λ octet. octet == 32) rest) (starts_field field rest other)

-- a field at the end of its line
pub fields-last : (field : List ℕ) → 0 < length field → All (λ octet. octet ≢ 32) field → fields field ≡ field ∷ []
fields-last field some lacks =
    ap (filter is_filled) (slice_split_none (λ octet. octet == 32) field (differs 32 field lacks)) ∙ kept field [] some

pub lines-cut : (text line rest : List ℕ) → text ≡ line ++ 10 ∷ rest → All (λ octet. octet ≢ 10) line → lines text ≡ strip_carriage_return line ∷ lines rest
lines-cut text line rest cut lacks = ap lines cut ∙ lines-ended line rest lacks

pub fields-cut : (line text field rest : List ℕ) (n : ℕ) → All (λ octet. octet ≡ 32) (take n line) → text ≡ drop n line → text ≡ field ++ 32 ∷ rest
    → slice_index text 0 ≢ 32 → All (λ octet. octet ≢ 32) field → fields line ≡ field ∷ fields rest
fields-cut line text field rest n spaces dropped cut other lacks =
    let first : slice_index (field ++ 32 ∷ rest) 0 ≢ 32 = subst (λ (t : List ℕ). slice_index t 0 ≢ 32) cut other in
    fields-spaces n line (recursion_from_All (λ octet. octet ≡ 32) (take n line) spaces)
    ∙ (ap fields (sym dropped ∙ cut) ∙ fields-ended field rest first lacks)

pub fields-whole : (line text : List ℕ) (n : ℕ) → All (λ octet. octet ≡ 32) (take n line) → text ≡ drop n line
    → 0 < length text → All (λ octet. octet ≢ 32) text → fields line ≡ text ∷ []
fields-whole line text n spaces dropped some lacks =
    fields-spaces n line (recursion_from_All (λ octet. octet ≡ 32) (take n line) spaces)
    ∙ (ap fields (sym dropped) ∙ fields-last text some lacks)

pub fields-none : (line : List ℕ) → All (λ octet. octet ≡ 32) line → fields line ≡ []
fields-none line spaces = fields-blank line (recursion_from_All (λ octet. octet ≡ 32) line spaces)
