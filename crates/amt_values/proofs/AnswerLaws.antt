-- What a reader's answer says of the first cause, where it reads a value unless there is one.
use Rattle.std.{proofs.Common.{◌≡◌, Option, None, Some, Result, Ok, Err, sym}, specs.Result.{MatchResult}}
use Rattle.amt_values.{specs.{Answer.{Gives, Tells, TellsCause}, Conditions.{unless}}, proofs.ConditionLaws.{unless-ok, unless-err}}

Tells-told : {A Cause : Type 0} (first : Option Cause) (at : A) (cause : Option Cause) (memory : Type 0)
    → TellsCause cause (unless first at) memory → Tells first cause
Tells-told first at (Some cause) memory told = unless-err first at cause (sym told)
Tells-told first at None memory told = tt

-- a value was answered only where there is no cause, and a fault tells the first one
pub answer_refused : {A Cause Fault : Type 0} (cause_in : Fault → Option Cause) (OutOfMemory : Result A Cause → Type 0)
    (first : Option Cause) (at : A) (answer : Result A Fault) → Gives cause_in OutOfMemory answer (unless first at)
    → MatchResult answer (λ _. first ≡ None) (λ fault. Tells first (cause_in fault))
answer_refused cause_in OutOfMemory first at (Ok value) gives = (unless-ok first at value (sym gives)).0
answer_refused cause_in OutOfMemory first at (Err fault) gives = Tells-told first at (cause_in fault) (OutOfMemory (unless first at)) gives
