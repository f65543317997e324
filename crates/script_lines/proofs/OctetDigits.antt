-- The decimal digits of an octet.
use Rattle.std.proofs.{Common.{◌≡◌, ℕ, ◌<◌, ◌≤◌, ◌+◌, ◌/◌, ◌%◌, List, [], ◌∷◌, ◌++◌, decimal, sym, ap, ◌∙◌, arith, append_assoc}, lemmas.Fmt.{decimal_digit, decimal_step}}

pub one_digit : (n : ℕ) → n < 10 → decimal n ≡ (48 + n) ∷ []
one_digit = decimal_digit

pub two_digits : (n : ℕ) → 10 ≤ n → n < 100 → decimal n ≡ (48 + n / 10) ∷ (48 + n % 10) ∷ []
two_digits n more less =
    decimal_step n more (omega arith)
    ∙ ap (λ (text : List ℕ). text ++ ((48 + n % 10) ∷ [])) (decimal_digit (n / 10) (omega arith))

pub three_digits : (n : ℕ) → 100 ≤ n → n < 256 → decimal n ≡ (48 + n / 100) ∷ (48 + n / 10 % 10) ∷ (48 + n % 10) ∷ []
three_digits n more less =
    let hundreds : n / 10 / 10 ≡ n / 100 = omega arith in
    decimal_step n (omega arith) (omega arith)
    ∙ (ap (λ (text : List ℕ). text ++ ((48 + n % 10) ∷ [])) (two_digits (n / 10) (omega arith) (omega arith))
    ∙ ap (λ (first : ℕ). (48 + first) ∷ (48 + n / 10 % 10) ∷ (48 + n % 10) ∷ []) hundreds)

-- its digits were put at the end one after another
pub two_put : (start high all : List ℕ) (n : ℕ) → 10 ≤ n → n < 100 → high ≡ start ++ ((48 + n / 10) ∷ []) → all ≡ high ++ ((48 + n % 10) ∷ [])
    → all ≡ start ++ decimal n
two_put start high all n more less first last =
    last
    ∙ (ap (λ (text : List ℕ). text ++ ((48 + n % 10) ∷ [])) first
    ∙ (append_assoc start ((48 + n / 10) ∷ []) ((48 + n % 10) ∷ []) ∙ ap (λ (text : List ℕ). start ++ text) (sym (two_digits n more less))))

pub three_put : (start high middle all : List ℕ) (n : ℕ) → 100 ≤ n → n < 256 → high ≡ start ++ ((48 + n / 100) ∷ [])
    → middle ≡ high ++ ((48 + n / 10 % 10) ∷ []) → all ≡ middle ++ ((48 + n % 10) ∷ []) → all ≡ start ++ decimal n
three_put start high middle all n more less first next last =
    last
    ∙ (ap (λ (text : List ℕ). text ++ ((48 + n % 10) ∷ [])) next
    ∙ (append_assoc high ((48 + n / 10 % 10) ∷ []) ((48 + n % 10) ∷ [])
    ∙ (ap (λ (text : List ℕ). text ++ ((48 + n / 10 % 10) ∷ (48 + n % 10) ∷ [])) first
    ∙ (append_assoc start ((48 + n / 100) ∷ []) ((48 + n / 10 % 10) ∷ (48 + n % 10) ∷ []) ∙ ap (λ (text : List ℕ). start ++ text) (sym (three_digits n more less))))))
