-- What the status of a run says, by how the run of a work ends.
use Rattle.std.proofs.Common.{◌≡◌, ℕ, Option, List, Result, Ok, Err, IfErr, IsErrOf, refl, subst, arith}
use Rattle.amt_command.specs.{declared.ending.Ending.{Ending, TheVariants.{Difference, Fault, LinkFault, RandomFault, Usage}}, Ending.{EndsFor, EndsReading, LeavesDevices, TellsWhy, line_of, status_of}, Command.{IsReadingStatus}}
use Rattle.amt_command.{specs.{Status.{AnswersFor, IsDifferenceOf, IsFaultOf, IsLineOfStatus}, Task.{HasOneValue, Task, Work, making, reading, serving}}, proofs.{Endings.{on_done, on_error, other_line, with_status}, Undisturbed.{decided}}}

-- the status of a run that reads its input
reading_status : {X : Type 0} (task : Task X) (left left' : Option (List ℕ)) (r : Result (Unit {0}) Ending) → (IsErrOf r Usage → ⊥) → IfErr r (TellsWhy task left left')
    → IsReadingStatus (status_of r)
reading_status task left left' (Err Usage) usage why = absurd (usage refl)
reading_status task left left' (Err LinkFault) usage why = absurd why
reading_status task left left' (Err RandomFault) usage why = absurd why
reading_status task left left' (Err ending) usage why = refl
reading_status task left left' (Ok done) usage why = refl

module _ {S O : Type 0} (left : S → Option (List ℕ)) (reads : S → ℕ) (written : O → Option (List ℕ)) (writes : O → ℕ) (input input' : S) (out out' : O) (r : Result (Unit {0}) Ending) where
  fault_told : (work : Work) → EndsFor work left reads written writes input input' out out' r → status_of r ≡ 3 → IsFaultOf work (left input) (left input') (line_of r)
  fault_told (reading X task) ends status = on_error (TellsWhy task (left input) (left input')) r (Fault (line_of r)) ends.why (with_status r 3 status)
  fault_told (making text) ends status = absurd (omega (arith, ends.only, status))
  fault_told serving ends status = ends.fault (line_of r) (with_status r 3 status)

  difference_told : (work : Work) → EndsFor work left reads written writes input input' out out' r → status_of r ≡ 9
      → IsDifferenceOf work (left input) (left input') (line_of r)
  difference_told (reading X task) ends status =
      on_error (TellsWhy task (left input) (left input')) r (Difference (line_of r)) ends.why (with_status r 9 status)
  difference_told (making text) ends status = absurd (omega (arith, ends.only, status))
  difference_told serving ends status = ends.no_difference (line_of r) (with_status r 9 status)

  pub line_told : (work : Work) → EndsFor work left reads written writes input input' out out' r → IsLineOfStatus work (left input) (left input') (status_of r) (line_of r)
  line_told work ends = record { fault = fault_told work ends; difference = difference_told work ends; other = other_line r }

  pub answered : LeavesDevices left reads writes input input' out out' r → (IsErrOf r Usage → ⊥) → (work : Work) → HasOneValue work
      → EndsFor work left reads written writes input input' out out' r → AnswersFor work left reads written writes input input' out out' (status_of r)
  answered devices usage (reading X task) one ends = record {
    done = λ status. on_done r ends.done status;
    fault = λ status. (line_of r, fault_told (reading X task) ends status);
    read = λ status. ends.read (with_status r 4 status);
    too_long = λ status. ends.too_long (with_status r 8 status);
    difference = λ status. (line_of r, difference_told (reading X task) ends status);
    begun = λ status. ends.begun (with_status r 5 status);
    memory = λ status. ends.memory (with_status r 7 status);
    decides = λ bytes told calm.
        decided task bytes (left input') one (reads input) (reads input') (written out) (written out') (out' ≡ out) r
        (subst (λ (octets : Option (List ℕ)). EndsReading task octets (left input') (reads input) (reads input') (written out) (written out') (out' ≡ out) r) told ends)
        usage (λ is. calm.reading (ends.read is)) (λ is. calm.writing (devices.write is));
    only = reading_status task (left input) (left input') r usage ends.why;
  }
  answered devices usage (making text) one ends = ends
  answered devices usage serving one ends = ends.untouched
