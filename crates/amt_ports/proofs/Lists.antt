-- Lists that devices tell: nothing more, and two lots in a row.
use Rattle.std.proofs.Common.{◌≡◌, List, [], ◌∷◌, ◌++◌, Option, subst}
use Rattle.amt_ports.specs.{Told.{Answers}, Devices.{AnswersAll}}

-- one answer
pub one_answer : {X : Type 0} (closed : X) (before now after : Option (List X)) (answer : X) → Answers closed before now answer → after ≡ now → AnswersAll closed before after (answer ∷ [])
one_answer closed before now after answer is same = (now, is, same)

-- answers, and then others
pub AnswersAll-then : {X : Type 0} (closed : X) (before now after : Option (List X)) (answers more : List X)
    → AnswersAll closed before now answers → AnswersAll closed now after more → AnswersAll closed before after (answers ++ more)
AnswersAll-then {X} closed before now after [] more first second = subst (λ (from : Option (List X)). AnswersAll closed from after more) first second
AnswersAll-then {X} closed before now after (answer ∷ answers) more first second =
    (first.0, first.1, AnswersAll-then closed first.0 now after answers more first.2 second)
