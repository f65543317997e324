-- A text that grows.
use Rattle.std.proofs.Common.{◌≡◌, ℕ, List, ◌++◌, ap, ◌∙◌, append_assoc}

pub joined : (start middle end first second : List ℕ) → middle ≡ start ++ first → end ≡ middle ++ second → end ≡ start ++ (first ++ second)
joined start middle end first second one other = other ∙ (ap (λ (t : List ℕ). t ++ second) one ∙ append_assoc start first second)

pub joined_three : (start m n end first second third : List ℕ) → m ≡ start ++ first → n ≡ m ++ second → end ≡ n ++ third → end ≡ start ++ (first ++ (second ++ third))
joined_three start m n end first second third one two three =
    joined start m end first (second ++ third) one (joined m n end second third two three)

pub joined_four : (start m n o end first second third fourth : List ℕ) → m ≡ start ++ first → n ≡ m ++ second → o ≡ n ++ third → end ≡ o ++ fourth
    → end ≡ start ++ (first ++ (second ++ (third ++ fourth)))
joined_four start m n o end first second third fourth one two three four =
    joined start m end first (second ++ (third ++ fourth)) one (joined_three m n o end second third fourth two three four)

pub joined_six : (start m n o p q end first second third fourth fifth sixth : List ℕ) → m ≡ start ++ first → n ≡ m ++ second → o ≡ n ++ third → p ≡ o ++ fourth
    → q ≡ p ++ fifth → end ≡ q ++ sixth → end ≡ start ++ (first ++ (second ++ (third ++ (fourth ++ (fifth ++ sixth)))))
joined_six start m n o p q end first second third fourth fifth sixth one two three four five six =
    joined start m end first (second ++ (third ++ (fourth ++ (fifth ++ sixth)))) one
    (joined m n end second (third ++ (fourth ++ (fifth ++ sixth))) two (joined_four n o p q end third fourth fifth sixth three four five six))
