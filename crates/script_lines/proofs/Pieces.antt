-- The lines of a text whose pieces each end with a line feed are the lines of the pieces, and it says what they say.
use Rattle.std.{proofs.{Common.{◌≡◌, ℕ, ◌+◌, ◌<◌, ◌==◌, Bool, true, false, cond, List, [], ◌∷◌, ◌++◌, length, refl, sym, ap, subst, ◌∙◌, append_assoc, arith}, lemmas.List.Splits.{length-slice_split, slice_split-cons_yes}}, specs.{List.{slice_split, onto_first, AllByRecursion}, Str.Lines.{lines, lines_of_parts, strip_carriage_return}}}
use Rattle.script_lines.{specs.{Kind.{Kind}, Lines.{fields, says_nothing, lines_that_say, IsShort, IsPlain}, Script.{Begins, Say}}, proofs.{Begun.{stated}, Words.{lines-plain}}}

one_more : {X : Type 0} (ends : Bool) (x : X) (parts others : List (List X)) → 0 < length parts
    → cond ends ([] ∷ (parts ++ others)) (onto_first x (parts ++ others)) ≡ cond ends ([] ∷ parts) (onto_first x parts) ++ others
one_more ends x [] others some = absurd (omega (arith, some))
one_more true x (part ∷ parts) others some = refl
one_more false x (part ∷ parts) others some = refl

split-append : {X : Type 0} (p : X → Bool) (xs : List X) (y : X) (ys : List X) → p y ≡ true
    → slice_split p (xs ++ y ∷ ys) ≡ slice_split p xs ++ slice_split p ys
split-append p [] y ys ends = slice_split-cons_yes p y ys ends
split-append {X = X} p (x ∷ xs) y ys ends =
    ap (λ (parts : List (List X)). cond (p x) ([] ∷ parts) (onto_first x parts)) (split-append p xs y ys ends)
    ∙ one_more (p x) x (slice_split p xs) (slice_split p ys) (omega (arith, length-slice_split p xs))

parts-append : (parts others : List (List ℕ)) → 0 < length others
    → lines_of_parts (parts ++ others) ≡ lines_of_parts (parts ++ [] ∷ []) ++ lines_of_parts others
parts-append parts [] some = absurd (omega (arith, some))
parts-append [] (other ∷ others) some = refl
parts-append (part ∷ []) (other ∷ others) some = refl
parts-append (part ∷ next ∷ parts) (other ∷ others) some =
    ap (λ (ls : List (List ℕ)). strip_carriage_return part ∷ ls) (parts-append (next ∷ parts) (other ∷ others) some)

lines-append : (text rest : List ℕ) → lines (text ++ 10 ∷ rest) ≡ lines (text ++ 10 ∷ []) ++ lines rest
lines-append text rest =
    let ends : ℕ → Bool = λ octet. octet == 10 in
    ap lines_of_parts (split-append ends text 10 rest refl)
    ∙ (parts-append (slice_split ends text) (slice_split ends rest) (omega (arith, length-slice_split ends rest))
    ∙ ap (λ (parts : List (List ℕ)). lines_of_parts parts ++ lines rest) (sym (split-append ends text 10 [] refl)))

-- the text is this short line and its line feed
pub record IsPiece (text line : List ℕ) : Type 0 where
  pub before : List ℕ
  pub ended : text ≡ before ++ 10 ∷ []
  pub only : lines text ≡ line ∷ []
  pub short : IsShort line

pub piece_of_line : (line : List ℕ) → IsPlain line → IsShort line → IsPiece (line ++ 10 ∷ []) line
piece_of_line line plain short = record { before = line; ended = refl; only = lines-plain line plain; short = short }

lines-first : (text line rest : List ℕ) → IsPiece text line → lines (text ++ rest) ≡ line ∷ lines rest
lines-first text line rest piece =
    ap (λ (t : List ℕ). lines (t ++ rest)) piece.ended
    ∙ (ap lines (append_assoc piece.before (10 ∷ []) rest)
    ∙ (lines-append piece.before rest
    ∙ ap (λ (ls : List (List ℕ)). ls ++ lines rest) (ap lines (sym piece.ended) ∙ piece.only)))

unsaid : (line : List ℕ) (ls : List (List ℕ)) → says_nothing (fields line) ≡ true → lines_that_say (line ∷ ls) ≡ lines_that_say ls
unsaid line ls nothing = rw nothing refl

-- the lines of a text say these statements, after those of the past
pub record GoesOn {S W : Type 0} (kind : Kind S W) (past said : List S) (text : List ℕ) : Type 0 where
  pub short : AllByRecursion IsShort (lines text)
  pub says : Say kind past said (lines_that_say (lines text))

module _ {S W : Type 0} (kind : Kind S W) where
  pub end_goes_on : (past : List S) → GoesOn kind past [] []
  end_goes_on past = record { short = tt; says = tt }

  -- a line that says something
  pub line_goes_on : (past : List S) (one : S) (said : List S) (text line rest : List ℕ) → IsPiece text line → says_nothing (fields line) ≡ false
      → IsPlain line → kind.Says past one (fields line) → GoesOn kind (past ++ one ∷ []) said rest → GoesOn kind past (one ∷ said) (text ++ rest)
  line_goes_on past one said text line rest piece something plain says more =
      let whole = lines-first text line rest piece in record {
        short = subst (AllByRecursion IsShort) (sym whole) (piece.short, more.short);
        says = subst (Say kind past (one ∷ said)) (sym (ap lines_that_say whole ∙ stated line (lines rest) something)) (plain, says, more.says);
      }

  -- a line that says nothing
  pub silent_goes_on : (past said : List S) (text line rest : List ℕ) → IsPiece text line → says_nothing (fields line) ≡ true → GoesOn kind past said rest
      → GoesOn kind past said (text ++ rest)
  silent_goes_on past said text line rest piece nothing more =
      let whole = lines-first text line rest piece in record {
        short = subst (AllByRecursion IsShort) (sym whole) (piece.short, more.short);
        says = subst (Say kind past said) (sym (ap lines_that_say whole ∙ unsaid line (lines rest) nothing)) more.says;
      }

  -- what a text says after nothing, all its lines say
  pub goes_on_whole : (said : List S) (text : List ℕ) → GoesOn kind [] said text → Begins kind said (lines text)
  goes_on_whole said text all = record { short = all.short; says = all.says }
