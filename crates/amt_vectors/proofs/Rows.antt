-- A line is of one kind.
use Rattle.std.proofs.Common.{◌≡◌, ℕ, List, [], ◌∷◌, ◌++◌, Some, refl}
use Rattle.script_lines.proofs.WordTables.{first_kind, one_kind}
use Rattle.amt_vectors.specs.{declared.kind.RowKind.{RowKind, TheVariants.{Hmac, Sum, Decode, Code4, Code6, Ip}}, Row.{word_of}}

abbrev words_of : RowKind → List (List ℕ)
words_of kind = word_of kind ∷ []

abbrev all_kinds : List RowKind
all_kinds = Hmac ∷ Sum ∷ Decode ∷ Code4 ∷ Code6 ∷ Ip ∷ []

first : (kind : RowKind) (values : List (List ℕ)) → first_kind words_of all_kinds (words_of kind ++ values) ≡ Some kind
first Hmac values = refl
first kind values = refl

pub same_kind : (one other : RowKind) (values others : List (List ℕ)) → word_of one ∷ values ≡ word_of other ∷ others → one ≡ other
same_kind = one_kind words_of all_kinds first

pub same_values : (one other : List ℕ) (values others : List (List ℕ)) → one ∷ values ≡ other ∷ others → values ≡ others
same_values one other values others same = cc
