-- Lines that begin a script, line by line.
use Rattle.std.{proofs.{Common.{◌≡◌, ℕ, false, not, List, [], ◌∷◌, ◌++◌, refl, sym, ap, subst, ◌∙◌, append_assoc, append-nil}, lemmas.List.Elements.{filter-append}}, specs.List.{AllByRecursion}}
use Rattle.script_lines.specs.{Kind.{Kind}, Lines.{fields, says_nothing, lines_that_say, IsShort, IsPlain}, Reading.{HasBegun}, Script.{Say, Begins}}

pub lines_that_say-append : (ls others : List (List ℕ)) → lines_that_say (ls ++ others) ≡ lines_that_say ls ++ lines_that_say others
lines_that_say-append ls others = filter-append (λ line. not (says_nothing (fields line))) ls others

pub stated : (line : List ℕ) (ls : List (List ℕ)) → says_nothing (fields line) ≡ false → lines_that_say (line ∷ ls) ≡ line ∷ lines_that_say ls
stated line ls something = rw something refl

short_more : (ls : List (List ℕ)) (line : List ℕ) → AllByRecursion IsShort ls → IsShort line → AllByRecursion IsShort (ls ++ line ∷ [])
short_more [] line all short = (short, tt)
short_more (l ∷ ls) line all short = (all.0, short_more ls line all.1 short)

module _ {S W : Type 0} (kind : Kind S W) where
  say_more : (past said : List S) (ls : List (List ℕ)) (one : S) (line : List ℕ) → Say kind past said ls → IsPlain line → kind.Says (past ++ said) one (fields line)
      → Say kind past (said ++ one ∷ []) (ls ++ line ∷ [])
  say_more past [] [] one line before plain says = (plain, subst (λ (p : List S). kind.Says p one (fields line)) (append-nil past) says, tt)
  say_more past [] (l ∷ ls) one line before plain says = absurd before
  say_more past (x ∷ xs) [] one line before plain says = absurd before
  say_more past (x ∷ xs) (l ∷ ls) one line before plain says = (
    before.0,
    before.1,
    say_more (past ++ x ∷ []) xs ls one line before.2 plain
        (subst (λ (p : List S). kind.Says p one (fields line)) (sym (append_assoc past (x ∷ []) xs)) says),
  )

  begins_start : Begins kind [] []
  begins_start = record { short = tt; says = tt }

  begins_said : (said : List S) (ls : List (List ℕ)) (line : List ℕ) (one : S) → Begins kind said ls → IsShort line → says_nothing (fields line) ≡ false → IsPlain line
      → kind.Says said one (fields line) → Begins kind (said ++ one ∷ []) (ls ++ line ∷ [])
  begins_said said ls line one before short something plain says = record {
    short = short_more ls line before.short short;
    says = subst (Say kind [] (said ++ one ∷ []))
        (sym (lines_that_say-append ls (line ∷ []) ∙ ap (λ (more : List (List ℕ)). lines_that_say ls ++ more) (stated line [] something)))
        (say_more [] said (lines_that_say ls) one line before.says plain says);
  }

  module _ {X : Type 0} (HasHeard : X → List S → Type 0) where
    pub has_begun_start : (value : X) → HasHeard value [] → HasBegun kind HasHeard value []
    has_begun_start value heard = record { said = []; begun = begins_start; heard = heard }

    pub has_begun_said : (value after : X) (ls : List (List ℕ)) (line : List ℕ) (before : HasBegun kind HasHeard value ls) (one : S) → IsShort line
        → says_nothing (fields line) ≡ false → IsPlain line → kind.Says before.said one (fields line) → HasHeard after (before.said ++ one ∷ [])
        → HasBegun kind HasHeard after (ls ++ line ∷ [])
    has_begun_said value after ls line before one short something plain says heard = record {
      said = before.said ++ one ∷ [];
      begun = begins_said before.said ls line one before.begun short something plain says;
      heard = heard;
    }
