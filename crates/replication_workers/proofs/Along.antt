-- A walk along a list: of all items these are left, and something is so after those before them.
use Rattle.std.proofs.Common.{◌≡◌, List, [], ◌∷◌, ◌++◌, refl, sym, ap, subst, ◌∙◌, append_assoc, append-nil}

module _ {A S : Type 0} where
  pub record Along (P : List A → S → Type 0) (all left : List A) (now : S) : Type 0 where
    pub done : List A
    pub all_are : all ≡ done ++ left
    pub so : P done now

  pub along_first : (P : List A → S → Type 0) (all : List A) (now : S) → P [] now → Along P all all now
  along_first P all now so = record { done = []; all_are = refl; so = so }

  -- all of them, with the next one
  pub with_next : (P : List A → S → Type 0) (all left later : List A) (now : S) (one : A) (along : Along P all left now) → left ≡ one ∷ later → all ≡ along.done ++ one ∷ later
  with_next P all left later now one along is = along.all_are ∙ ap (λ (list : List A). along.done ++ list) is

  pub along_more : (P : List A → S → Type 0) (all left later : List A) (now next : S) (one : A) (along : Along P all left now) → left ≡ one ∷ later → P (along.done ++ one ∷ []) next → Along P all later next
  along_more P all left later now next one along is so = record { done = along.done ++ one ∷ []; all_are = with_next P all left later now one along is ∙ sym (append_assoc along.done (one ∷ []) later); so = so }

  pub along_all : (P : List A → S → Type 0) (all left : List A) (now : S) → Along P all left now → left ≡ [] → P all now
  along_all P all left now along none = subst (λ (list : List A). P list now) (sym (along.all_are ∙ ap (λ (list : List A). along.done ++ list) none ∙ append-nil along.done)) along.so
