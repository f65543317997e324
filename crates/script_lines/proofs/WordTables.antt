-- Lines that begin with the words of a kind are of that kind alone.
use Rattle.std.{proofs.{Common.{◌≡◌, ℕ, Bool, true, false, ◌&&◌, List, [], ◌∷◌, ◌++◌, Option, Some, find, sym, ap, ◌∙◌}, lemmas.List.{append_cancel_left}}, specs.Str.{bytes_eq}}

-- whether the line begins with these words
abbrev pub begins_with : List (List ℕ) → List (List ℕ) → Bool
begins_with [] line = true
begins_with (word ∷ words) [] = false
begins_with (word ∷ words) (field ∷ line) = bytes_eq word field && begins_with words line

-- the first of these kinds with whose words the line begins
abbrev pub first_kind : {K : Type 0} → (K → List (List ℕ)) → List K → List (List ℕ) → Option K
first_kind words_of kinds line = find (λ kind. begins_with (words_of kind) line) kinds

-- where that is the kind of each line, two lines that are one are of one kind, and have the same fields after its words
module _ {K : Type 0} (words_of : K → List (List ℕ)) (kinds : List K)
    (first : (kind : K) (values : List (List ℕ)) → first_kind words_of kinds (words_of kind ++ values) ≡ Some kind) where
  pub one_kind : (one other : K) (values others : List (List ℕ)) → words_of one ++ values ≡ words_of other ++ others → one ≡ other
  one_kind one other values others same =
      let both : Some one ≡ Some other = sym (first one values) ∙ (ap (first_kind words_of kinds) same ∙ first other others) in cc

  pub one_rest : (one other : K) (values others : List (List ℕ)) → words_of one ++ values ≡ words_of other ++ others → values ≡ others
  one_rest one other values others same =
      append_cancel_left (words_of one) values others
      (same ∙ ap (λ (kind : K). words_of kind ++ others) (sym (one_kind one other values others same)))
