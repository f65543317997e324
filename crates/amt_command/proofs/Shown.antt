-- What a status and a line show of the answer of a run by a settings file.
use Rattle.std.proofs.Common.{◌≡◌, ◌⊎◌, ℕ, List, Option, Result, Err, inl, inr, refl, sym, subst, ◌∙◌, arith}
use Rattle.amt_config.specs.declared.fault.ConfigFault.{ConfigFault}
use Rattle.serving_commands.specs.{Texts.{settings_line}, declared.fault.ServingFault.{ServingFault}}
use Rattle.serving_commands.specs.declared.fault.ServingFault.TheVariants as faults
use Rattle.amt_command.specs.{declared.ending.Ending.{Ending, TheVariants.{Fault, Memory}}, Ending.{line_of, line_of_ending, status_of, status_of_ending}, Serving.{Reporting, Shows, TakesMemory, ending_of_answer, ending_of_fault}}

-- the fault is told as it is, or memory ran out for the line of one of the settings
abbrev pub IsToldAs : ServingFault → Ending → Type 0
IsToldAs fault ending = (ending ≡ ending_of_fault fault) ⊎ ((ending ≡ Memory) × (status_of_ending (ending_of_fault fault) ≡ 3))

module _ {R T : Type 0} (reporting : Reporting R) (written : T → Option (List ℕ)) (out : T) where
  -- an answer with another status than 0 and 5, after which nothing was written
  told : (answer : Result R ServingFault) → (status_of (ending_of_answer reporting answer) ≡ 0 → ⊥) → (status_of (ending_of_answer reporting answer) ≡ 5 → ⊥)
      → Shows reporting answer written out out (status_of (ending_of_answer reporting answer)) (line_of (ending_of_answer reporting answer))
  told answer bad begun = record {
    same = λ no_write no_memory. refl;
    write = λ five. absurd (begun five);
    memory = λ seven. subst TakesMemory (sym seven) refl;
    done = λ zero. absurd (bad zero);
    begun = λ five. absurd (begun five);
    quiet = λ not_done not_begun. refl;
    fault = λ three. refl;
  }

  fault_told : (fault : ServingFault) → Shows reporting (Err fault) written out out (status_of_ending (ending_of_fault fault)) (line_of_ending (ending_of_fault fault))
  fault_told (faults.Settings fault) = told (Err (faults.Settings fault)) (λ is. absurd (omega (arith, is))) (λ is. absurd (omega (arith, is)))
  fault_told fault = told (Err fault) (λ is. absurd (omega (arith, is))) (λ is. absurd (omega (arith, is)))

  memory_told : (fault : ServingFault) → status_of_ending (ending_of_fault fault) ≡ 3 → Shows reporting (Err fault) written out out 7 (line_of_ending Memory)
  memory_told fault three = record {
    same = λ no_write no_memory. absurd (no_memory refl);
    write = λ five. absurd (omega (arith, five));
    memory = λ seven. subst TakesMemory (sym three) refl;
    done = λ zero. absurd (omega (arith, zero));
    begun = λ five. absurd (omega (arith, five));
    quiet = λ not_done not_begun. refl;
    fault = λ three. absurd (omega (arith, three));
  }

  pub shown : (fault : ServingFault) (ending : Ending) → IsToldAs fault ending
      → Shows reporting (Err fault) written out out (status_of_ending ending) (line_of_ending ending)
  shown fault ending (inl is) =
      subst (λ (ending : Ending). Shows reporting (Err fault) written out out (status_of_ending ending) (line_of_ending ending)) (sym is) (fault_told fault)
  shown fault ending (inr memory) =
      subst (λ (ending : Ending). Shows reporting (Err fault) written out out (status_of_ending ending) (line_of_ending ending)) (sym memory.0)
      (memory_told fault memory.1)

line_of_told : (fault : ServingFault) (line : List ℕ) → ending_of_fault fault ≡ Fault line → (fault : ConfigFault) × (line ≡ settings_line fault)
line_of_told (faults.Settings fault) line is = (fault, cc is)
line_of_told fault line is = cc is

-- a line of a fault is one of the settings
pub settings_told : (fault : ServingFault) (ending : Ending) → IsToldAs fault ending → (line : List ℕ) → ending ≡ Fault line → (fault : ConfigFault) × (line ≡ settings_line fault)
settings_told fault ending (inl is) line same = line_of_told fault line (sym is ∙ same)
settings_told fault ending (inr memory) line same = let clash : Memory ≡ Fault line = sym memory.0 ∙ same in cc clash
