-- Rows that some octets spell can be asked, and there are no more of them than octets and one.
use Rattle.std.{proofs.{Common.{◌≡◌, ℕ, ◌+◌, ◌≤◌, ◌==◌, Bool, false, not, List, [], ◌∷◌, ◌++◌, length, All, refl, sym, subst, ap, ne_eqb, arith}, lemmas.List.{Elements.{All-from_recursion}, Splits.{length-slice_split}, Sums.{count_by-le-length, length-filter}}}, specs.{List.{AllByRecursion, slice_split}, Str.Lines.{lines, lines_of_parts}}}
use Rattle.script_lines.{specs.{Lines.{fields, lines_that_say, says_nothing}, Script.{Say, Spells}}, proofs.Forms.{hex_sized}}
use Rattle.amt_vectors.specs.{declared.row.{Question.{Question, TheVariants.{Hmac, Sum, Decode, Code4, Code6, Ip}}, Row.{Row}}, Kind.{vector_kind}, Reading.{CanAsk, CanBeAsked}, Says.{SaysOf}}

question_asks : (question : Question) (want : List ℕ) (line : List (List ℕ)) → SaysOf question want line → CanBeAsked question
question_asks (Hmac key message) want line says = tt
question_asks (Sum bytes) want line says = hex_sized bytes says.text says.names
question_asks (Decode bytes) want line says = hex_sized bytes says.text says.names
question_asks (Code4 code) want line says = tt
question_asks (Code6 code) want line says = tt
question_asks (Ip address) want line says = tt

said_ask : (past said : List Row) (ls : List (List ℕ)) → Say vector_kind past said ls → AllByRecursion CanAsk said
said_ask past [] ls says = tt
said_ask past (row ∷ more) [] says = absurd says
said_ask past (row ∷ more) (line ∷ ls) says =
    (question_asks row.question row.want (fields line) says.1, said_ask (past ++ row ∷ []) more ls says.2)

pub rows_ask : (rows : List Row) (bytes : List ℕ) → Spells vector_kind rows bytes → All CanAsk rows
rows_ask rows bytes spelled =
    All-from_recursion CanAsk rows
    (subst (AllByRecursion CanAsk) (sym spelled.made) (said_ask [] spelled.said (lines_that_say (lines bytes)) spelled.all_lines.says))

said_count : (past said : List Row) (ls : List (List ℕ)) → Say vector_kind past said ls → length said ≡ length ls
said_count past [] [] says = refl
said_count past [] (line ∷ ls) says = absurd says
said_count past (row ∷ more) [] says = absurd says
said_count past (row ∷ more) (line ∷ ls) says = omega (arith, said_count (past ++ row ∷ []) more ls says.2)

parts_count : (parts : List (List ℕ)) → length (lines_of_parts parts) ≤ length parts
parts_count [] = omega arith
parts_count ([] ∷ []) = omega arith
parts_count ((x ∷ xs) ∷ []) =
    let filled : (length (x ∷ xs) == 0) ≡ false = ne_eqb (length (x ∷ xs)) 0 (λ none. omega arith) in rw filled (omega arith)
parts_count (one ∷ other ∷ more) = omega (arith, parts_count (other ∷ more))

pub rows_count : (rows : List Row) (bytes : List ℕ) → Spells vector_kind rows bytes → length rows ≤ length bytes + 1
rows_count rows bytes spelled =
    let parts = slice_split (λ octet. octet == 10) bytes in
    let says : List ℕ → Bool = λ line. not (says_nothing (fields line)) in
    omega (
      arith,
      ap (λ (all : List Row). length all) spelled.made,
      said_count [] spelled.said (lines_that_say (lines bytes)) spelled.all_lines.says,
      length-filter says (lines bytes),
      count_by-le-length says (lines bytes),
      parts_count parts,
      length-slice_split (λ octet. octet == 10) bytes,
      count_by-le-length (λ octet. octet == 10) bytes,
    )
