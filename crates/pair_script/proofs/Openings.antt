-- Words that begin lines are apart.
use Rattle.std.proofs.Common.{◌≡◌, ℕ, List, [], ◌∷◌, ◌++◌, Some, refl, ap}
use Rattle.script_lines.proofs.WordTables.{first_kind, one_kind}
use Rattle.pair_script.specs.{declared.opening.Opening.{Opening, TheVariants.{Set, Gateway, Moment, Secret, Packet, Show, Up, Down}}, Opening.{opening_word}}

abbrev words_of : Opening → List (List ℕ)
words_of opening = opening_word opening ∷ []

abbrev all_openings : List Opening
all_openings = Set ∷ Gateway ∷ Moment ∷ Secret ∷ Packet ∷ Show ∷ Up ∷ Down ∷ []

first : (opening : Opening) (values : List (List ℕ)) → first_kind words_of all_openings (words_of opening ++ values) ≡ Some opening
first Set values = refl
first opening values = refl

pub one_opening : (one other : Opening) → opening_word one ≡ opening_word other → one ≡ other
one_opening one other same = one_kind words_of all_openings first one other [] [] (ap (λ (word : List ℕ). word ∷ []) same)

-- lines with one line's fields have its first word, and the fields after it
pub same_word : (word other : List ℕ) (values others : List (List ℕ)) → word ∷ values ≡ other ∷ others → word ≡ other
same_word word other values others same = cc

pub same_values : (word other : List ℕ) (values others : List (List ℕ)) → word ∷ values ≡ other ∷ others → values ≡ others
same_values word other values others same = cc
