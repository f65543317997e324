-- Where nothing disturbs a run that reads its input, the octets alone decide how it ends, unless memory runs out.
use Rattle.std.proofs.Common.{◌≡◌, ℕ, ◌<◌, ◌≤◌, Option, Some, None, List, length, Result, Ok, Err, IsErrOf, inl, inr, refl, sym, subst, ap, ◌∙◌, arith}
use Rattle.amt_ports.proofs.Taken.{TakesAll-told, TakesMore-told}
use Rattle.amt_values.specs.declared.bytes.TheConstants.{INPUT_LIMIT}
use Rattle.amt_command.specs.{declared.ending.Ending.{Ending, TheVariants.{Difference, Fault, LinkFault, Memory, RandomFault, ReadFault, TooLong, Usage, WriteFault}}, Ending.{EndsReading, status_of}, Status.{Decides}, Task.{HasOneValue, IsInput, Task, reading}}

module _ {X : Type 0} (task : Task X) (bytes : List ℕ) (left' : Option (List ℕ)) where
  -- what was read is what the octets are read as, within the limit
  meant : (value : X) → IsInput task (Some bytes) left' value → task.Reads value bytes
  meant value input = subst (task.Reads value) (TakesAll-told bytes input.bytes left' input.read) input.meant

  short : (value : X) → IsInput task (Some bytes) left' value → length bytes ≤ INPUT_LIMIT
  short value input = subst (λ (octets : List ℕ). length octets ≤ INPUT_LIMIT) (TakesAll-told bytes input.bytes left' input.read) input.short

  -- what follows of the octets under each status follows
  by_octets : {P : Type 0} (reads reads' : ℕ) (written written' : Option (List ℕ)) (Same : Type 0) (r : Result (Unit {0}) Ending)
      → EndsReading task (Some bytes) left' reads reads' written written' Same r
      → (IsErrOf r Usage → ⊥) → (IsErrOf r ReadFault → ⊥) → (IsErrOf r WriteFault → ⊥)
      → ((value : X) → length bytes ≤ INPUT_LIMIT → task.Reads value bytes → task.difference value ≡ None → status_of r ≡ 0 → P)
      → (length bytes ≤ INPUT_LIMIT → ((value : X) → task.Reads value bytes → ⊥) → status_of r ≡ 3 → P)
      → (status_of r ≡ 7 → P)
      → (INPUT_LIMIT < length bytes → status_of r ≡ 8 → P)
      → ((value : X) (difference : List ℕ) → length bytes ≤ INPUT_LIMIT → task.Reads value bytes → task.difference value ≡ Some difference → status_of r ≡ 9 → P)
      → P
  by_octets n n' w w' Same (Ok done) ends usage read write agrees unread memory long differs =
      let input = ends.done.input in agrees ends.done.value (short ends.done.value input) (meant ends.done.value input) ends.done.agrees refl
  by_octets n n' w w' Same (Err Usage) ends usage read write agrees unread memory long differs = absurd (usage refl)
  by_octets n n' w w' Same (Err (Fault line)) ends usage read write agrees unread memory long differs =
      let same = TakesAll-told bytes ends.why.bytes left' ends.why.read in
      unread (subst (λ (octets : List ℕ). length octets ≤ INPUT_LIMIT) same ends.why.short)
      (λ value reads. ends.why.nothing value (subst (task.Reads value) (sym same) reads)) refl
  by_octets n n' w w' Same (Err ReadFault) ends usage read write agrees unread memory long differs = absurd (read refl)
  by_octets n n' w w' Same (Err WriteFault) ends usage read write agrees unread memory long differs = absurd (write refl)
  by_octets n n' w w' Same (Err LinkFault) ends usage read write agrees unread memory long differs = absurd ends.why
  by_octets n n' w w' Same (Err Memory) ends usage read write agrees unread memory long differs = memory refl
  by_octets n n' w w' Same (Err TooLong) ends usage read write agrees unread memory long differs =
      long (TakesMore-told INPUT_LIMIT bytes left' (ends.too_long refl)) refl
  by_octets n n' w w' Same (Err (Difference line)) ends usage read write agrees unread memory long differs =
      let why = ends.why in differs why.value why.difference (short why.value why.input) (meant why.value why.input) why.differs refl
  by_octets n n' w w' Same (Err RandomFault) ends usage read write agrees unread memory long differs = absurd ends.why

  module _ (one : HasOneValue (reading X task)) where
    -- no value has a difference and agrees
    agrees_or_differs : (value other : X) (difference : List ℕ) → task.Reads value bytes → task.Reads other bytes → task.difference value ≡ None
        → task.difference other ≡ Some difference → ⊥
    agrees_or_differs value other difference reads others agrees differs =
        let none : None ≡ Some difference = sym agrees ∙ (ap task.difference (one bytes value other reads others) ∙ differs) in
        cc none

    pub decided : (reads reads' : ℕ) (written written' : Option (List ℕ)) (Same : Type 0) (r : Result (Unit {0}) Ending)
        → EndsReading task (Some bytes) left' reads reads' written written' Same r
        → (IsErrOf r Usage → ⊥) → (IsErrOf r ReadFault → ⊥) → (IsErrOf r WriteFault → ⊥) → Decides task bytes (status_of r)
    decided n n' w w' Same r ends usage read write = record {
      complete = λ value few reads agrees.
          by_octets n n' w w' Same r ends usage read write
          (λ found small read_as agreed is. inl is)
          (λ small nothing is. absurd (nothing value reads))
          (λ is. inr is)
          (λ many is. absurd (omega (arith, few, many)))
          (λ other difference small others differ is. absurd (agrees_or_differs value other difference reads others agrees differ));
      differing = λ value difference few reads differ.
          by_octets n n' w w' Same r ends usage read write
          (λ other small others agrees is. absurd (agrees_or_differs other value difference others reads agrees differ))
          (λ small nothing is. absurd (nothing value reads))
          (λ is. inr is)
          (λ many is. absurd (omega (arith, few, many)))
          (λ found other small read_as differs is. inl is);
      unreadable = λ few none.
          by_octets n n' w w' Same r ends usage read write
          (λ value small reads agrees is. absurd (none value reads))
          (λ small nothing is. inl is)
          (λ is. inr is)
          (λ many is. absurd (omega (arith, few, many)))
          (λ value difference small reads differs is. absurd (none value reads));
      overlong = λ many.
          by_octets n n' w w' Same r ends usage read write
          (λ value few reads agrees is. absurd (omega (arith, few, many)))
          (λ few none is. absurd (omega (arith, few, many)))
          (λ is. inr is)
          (λ long is. inl is)
          (λ value difference few reads differs is. absurd (omega (arith, few, many)));
    }
