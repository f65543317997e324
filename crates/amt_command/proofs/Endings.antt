-- Endings by their statuses and lines.
use Rattle.std.proofs.Common.{◌≡◌, ◌⊎◌, ℕ, ◌==◌, List, Result, Ok, Err, IsOk, OnOk, IfErr, IsErrOf, inl, inr, refl, subst, ap, ◌∙◌, if◌then◌else◌}
use Rattle.amt_command.specs.{declared.ending.Ending.{Ending, TheVariants.{Difference, Fault, LinkFault, Memory, RandomFault, ReadFault, TooLong, Usage, WriteFault}}, Command.{status_line}, Ending.{line_of, status_of}}

-- how a run with this status and this line ends
abbrev pub ending_by : ℕ → List ℕ → Result (Unit {0}) Ending
ending_by status line =
    if status == 0 then Ok tt
    else (if status == 2 then Err Usage
    else (if status == 3 then Err (Fault line)
    else (if status == 4 then Err ReadFault
    else (if status == 5 then Err WriteFault
    else (if status == 6 then Err LinkFault
    else (if status == 7 then Err Memory
    else (if status == 8 then Err TooLong
    else (if status == 9 then Err (Difference line) else Err RandomFault))))))))

ending_is : (r : Result (Unit {0}) Ending) → r ≡ ending_by (status_of r) (line_of r)
ending_is (Ok done) = refl
ending_is (Err Usage) = refl
ending_is (Err (Fault line)) = refl
ending_is (Err ReadFault) = refl
ending_is (Err WriteFault) = refl
ending_is (Err LinkFault) = refl
ending_is (Err Memory) = refl
ending_is (Err TooLong) = refl
ending_is (Err (Difference line)) = refl
ending_is (Err RandomFault) = refl

pub with_status : (r : Result (Unit {0}) Ending) (status : ℕ) → status_of r ≡ status → r ≡ ending_by status (line_of r)
with_status r status is = ending_is r ∙ ap (λ (s : ℕ). ending_by s (line_of r)) is

pub done_of : (r : Result (Unit {0}) Ending) → status_of r ≡ 0 → IsOk r
done_of r is = rw (with_status r 0 is) refl

pub on_done : {P : Type 0} (r : Result (Unit {0}) Ending) → OnOk r P → status_of r ≡ 0 → P
on_done {P} r h is = subst (λ (same : Result (Unit {0}) Ending). OnOk same P) (with_status r 0 is) h

pub on_error : (P : Ending → Type 0) (r : Result (Unit {0}) Ending) (ending : Ending) → IfErr r P → IsErrOf r ending → P ending
on_error P r ending h is = subst (λ (same : Result (Unit {0}) Ending). IfErr same P) is h

pub other_line : (r : Result (Unit {0}) Ending) → (status_of r ≡ 3 → ⊥) → (status_of r ≡ 9 → ⊥) → line_of r ≡ status_line (status_of r)
other_line (Err (Fault line)) no_fault no_difference = absurd (no_fault refl)
other_line (Err (Difference line)) no_fault no_difference = absurd (no_difference refl)
other_line (Ok done) no_fault no_difference = refl
other_line (Err ending) no_fault no_difference = refl

-- where the arguments were no command's
pub usage_line : (r : Result (Unit {0}) Ending) → IsErrOf r Usage ⊎ IsErrOf r Memory → line_of r ≡ status_line (status_of r)
usage_line r (inl usage) = rw usage refl
usage_line r (inr memory) = rw memory refl

pub usage_status : (r : Result (Unit {0}) Ending) → IsErrOf r Usage ⊎ IsErrOf r Memory → (status_of r ≡ 2) ⊎ (status_of r ≡ 7)
usage_status r (inl usage) = inl (rw usage refl)
usage_status r (inr memory) = inr (rw memory refl)
