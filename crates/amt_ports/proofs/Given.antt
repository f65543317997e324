-- What is given next stands at the end of what was given.
use Rattle.std.proofs.{Common.{arith, ◌≡◌, ◌≢◌, ℕ, zero, suc, ◌+◌, ◌-◌, ◌^◌, ◌<◌, ◌≤◌, min, length, ⊎_elim, drop_of_length-le, Bool, true, false, true≢false, nat_eq, List, [], ◌∷◌, ◌++◌, drop, Some, None, if◌then◌else◌, refl, sym, ap, ◌∙◌}, lemmas.{Bool.Decides.{eqb_tells}, List.{drop-drop}}}
use Rattle.amt_ports.specs.{Scripted.{first_of, given_of, head_or}, Told.{Appends}}

more_of_last : {X : Type 0} (n : ℕ) (last : X) → first_of (suc n) [] last ≡ first_of n [] last ++ last ∷ []
more_of_last zero last = refl
more_of_last (suc n) last = ap (λ l. last ∷ l) (more_of_last n last)

head_of_none : {X : Type 0} (n : ℕ) (last : X) → last ≡ head_or last (drop n [])
head_of_none zero last = refl
head_of_none (suc n) last = refl

first_more : {X : Type 0} (n : ℕ) (values : List X) (last : X) → first_of (suc n) values last ≡ first_of n values last ++ head_or last (drop n values) ∷ []
first_more n [] last = more_of_last n last ∙ ap (λ x. first_of n [] last ++ x ∷ []) (head_of_none n last)
first_more zero (value ∷ values) last = refl
first_more (suc n) (value ∷ values) last = ap (λ l. value ∷ l) (first_more n values last)

told : {X : Type 0} (was is : Bool) (before after : List X) (next : X) → (is ≡ false → was ≡ false) → (is ≡ false → after ≡ before ++ next ∷ [])
    → Appends (if was then None else Some before) (if is then None else Some after) next
told was true before after next _ _ = tt
told true false before after next stays _ = absurd (true≢false (stays refl))
told false false before after next _ more = (before, refl, more refl)

pub given_more : {X : Type 0} (n m : ℕ) (values : List X) (last next : X) → m ≡ min (n + 1) (2 ^ 64 - 1) → next ≡ head_or last (drop n values)
    → Appends (given_of n values last) (given_of m values last) next
given_more n m values last next count is =
    told (nat_eq n (2 ^ 64 - 1)) (nat_eq m (2 ^ 64 - 1)) (first_of n values last) (first_of m values last) next (λ e. grind arith) (λ e. let same : m ≡ suc n = grind arith in ap (λ k. first_of k values last) same ∙ first_more n values last ∙ ap (λ x. first_of n values last ++ x ∷ []) (sym is))

pub coming_less : {X : Type 0} (n m : ℕ) (values : List X) → m ≡ min (n + 1) (2 ^ 64 - 1) → length values < 2 ^ 64 → drop m values ≡ drop 1 (drop n values)
coming_less n m values count short =
    ⊎_elim (λ (x : (nat_eq m (n + 1) ≡ true) × (m ≡ n + 1)). ap (λ k. drop k values) x.1)
    (λ (x : (nat_eq m (n + 1) ≡ false) × (m ≢ n + 1)). let last : length values ≤ m = grind (arith, x.1, count, short) in let past : length values ≤ n + 1 = grind (arith, x.1, count, short) in drop_of_length-le values last ∙ sym (drop_of_length-le values past))
    (eqb_tells m (n + 1))
    ∙ sym (drop-drop 1 n values)
