-- A fault with a text is a task's, and so is that memory ran out.
use Rattle.std.proofs.Common.{◌≡◌, ◌⊎◌, ℕ, List, inl, inr, sym, subst}
use Rattle.amt_command.specs.{declared.task.TaskFault.{TaskFault, TheVariants.{Fault, Memory}}, Task.{IsErrorBy, Task}}

pub told_by : {X : Type 0} (task : Task X) (bytes text : List ℕ) (fault : TaskFault) → (fault ≡ Fault text) ⊎ (fault ≡ Memory)
    → ((value : X) → task.Reads value bytes → ⊥) → task.HasFault text bytes → IsErrorBy task bytes fault
told_by task bytes text fault (inl is) none has = subst (IsErrorBy task bytes) (sym is) (none, has)
told_by task bytes text fault (inr is) none has = subst (IsErrorBy task bytes) (sym is) tt
