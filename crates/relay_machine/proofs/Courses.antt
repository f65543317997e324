-- What one event more at the end adds.
use Rattle.std.proofs.{Common.{◌≡◌, ℕ, ◌+◌, List, [], ◌∷◌, ◌++◌, sum_by, sym, ap, ◌∙◌, append_assoc, arith}, lemmas.List.{append-nil, Sums.{sum_by-append}}}
use Rattle.relay_machine.specs.Courses.{each_after}

-- the last event is answered after all the others
pub each_more : {E A : Type 0} (answer : List E → E → A) (before events : List E) (event : E)
    → each_after answer before (events ++ event ∷ []) ≡ each_after answer before events ++ answer (before ++ events) event ∷ []
each_more {E} {A} answer before [] event = ap (λ (past : List E). answer past event ∷ []) (sym (append-nil before))
each_more {E} {A} answer before (one ∷ events) event =
    ap (λ (rest : List A). answer before one ∷ rest)
    (each_more answer (before ++ one ∷ []) events event
    ∙ ap (λ (past : List E). each_after answer (before ++ one ∷ []) events ++ answer past event ∷ []) (append_assoc before (one ∷ []) events))

-- one item more adds its number to a sum
pub sum_more : {X : Type 0} (number : X → ℕ) (xs : List X) (x : X) → sum_by number (xs ++ x ∷ []) ≡ sum_by number xs + number x
sum_more number xs x =
    let alone : sum_by number (x ∷ []) ≡ number x = omega arith in
    sum_by-append number xs (x ∷ []) ∙ ap (λ (n : ℕ). sum_by number xs + n) alone
