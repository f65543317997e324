-- The first condition that holds.
use Rattle.std.{proofs.Common.{◌≡◌, ◌↔◌, List, [], ◌∷◌, inl, inr, sym, subst, ◌∙◌}, specs.List.{AllByRecursion}}
use Rattle.amt_values.specs.Conditions.{First}

pub First-same : {R : Type 0} (P Q : R → Type 0) (order : List R) (reason : R) → AllByRecursion (λ r. P r ↔ Q r) order
    → First P order reason → First Q order reason
First-same P Q [] reason same first = absurd first
First-same P Q (next ∷ more) reason same (inl here) = inl (same.0.0 here.0, here.1)
First-same P Q (next ∷ more) reason same (inr later) =
    inr (λ holds. later.0 (same.0.1 holds), First-same P Q more reason same.1 later.1)

pub First-holds : {R : Type 0} (P : R → Type 0) (order : List R) (reason : R) → First P order reason → P reason
First-holds P [] reason first = absurd first
First-holds P (next ∷ more) reason (inl here) = subst P (sym here.1) here.0
First-holds P (next ∷ more) reason (inr later) = First-holds P more reason later.1

pub First-unique : {R : Type 0} (P : R → Type 0) (order : List R) (one other : R) → First P order one → First P order other → one ≡ other
First-unique P [] one other h k = absurd h
First-unique P (next ∷ more) one other (inl h) (inl k) = h.1 ∙ sym k.1
First-unique P (next ∷ more) one other (inl h) (inr k) = absurd (k.0 h.0)
First-unique P (next ∷ more) one other (inr h) (inl k) = absurd (h.0 k.0)
First-unique P (next ∷ more) one other (inr h) (inr k) = First-unique P more one other h.1 k.1
