-- What one asking of a device comes to, and what all askings of a turn come to. An answer is seen as a loop sees
-- it: with what became of it.
use Rattle.std.specs.{Prelude.{◌≡◌, ◌⊎◌, ◌<◌, ℕ, List, [], ◌∷◌, ◌++◌, length, Result, Ok, Err}, List.{AllByRecursion}}
use Rattle.amt_ports.specs.{EndCauses.{IsCausedBy}, declared.{asked.Asked.{Asked, TheVariants.{Something, Nothing}}, end.End.{End, TheVariants.{Closed}}}}

-- The answers of a device: those of which something came, after which the loop goes on, also where memory refused the
-- event; that there is nothing; and that the device is closed.
pub record AnswerKinds (A : Type 0) : Type 1 where
  pub Came : A → Type 0
  pub nothing : A
  pub closed : A

module _ {A : Type 0} (kinds : AnswerKinds A) where
  abbrev pub CameAll : List A → Type 0
  CameAll answers = AllByRecursion kinds.Came answers

  -- a device is asked until it answers that there is nothing, and at most 64 times
  abbrev pub IsBurst : List A → Type 0
  IsBurst answers =
      (came : List A) × CameAll came
      × (((answers ≡ came) × (length came ≡ 64)) ⊎ ((answers ≡ came ++ kinds.nothing ∷ []) × (length came < 64)))

  -- it was asked fewer times, and each time something came
  abbrev pub IsBegun : List A → Type 0
  IsBegun answers = CameAll answers × (length answers < 64)

  -- after such answers, the last is that it is closed
  abbrev pub IsClosed : List A → Type 0
  IsClosed answers = (came : List A) × IsBegun came × (answers ≡ came ++ kinds.closed ∷ [])

-- How a device is asked: by its answers what was seen becomes what is seen then; which of them go on; its fault, and
-- how often it had that.
pub record Asking (S A : Type 0) : Type 1 where
  pub Goes : S → S → List A → Type 0
  pub kinds : AnswerKinds A
  pub fault : End
  pub faults : S → ℕ

module _ {A : Type 0} (kinds : AnswerKinds A) (fault : End) where
  -- of one asking: a device ends a run where it is closed, or by its own fault
  abbrev pub IsNext : Result Asked End → List A → Type 0
  IsNext (Ok Something) answers = (one : A) × kinds.Came one × (answers ≡ one ∷ [])
  IsNext (Ok Nothing) answers = answers ≡ kinds.nothing ∷ []
  IsNext (Err end) answers = ((end ≡ Closed) × (answers ≡ kinds.closed ∷ [])) ⊎ ((end ≡ fault) × (answers ≡ []))

  -- of all of a turn
  abbrev pub AreAsked : Result (Unit {0}) End → List A → Type 0
  AreAsked (Ok unit) answers = IsBurst kinds answers
  AreAsked (Err end) answers = ((end ≡ Closed) × IsClosed kinds answers) ⊎ ((end ≡ fault) × IsBegun kinds answers)

-- What was seen before became what is seen after by some answers, which ended so.
pub record AskedSo {S A R : Type 0} (asking : Asking S A) (Ends : AnswerKinds A → End → Result R End → List A → Type 0) (before after : S) (result : Result R End) : Type 0 where
  pub answers : List A
  pub goes : asking.Goes before after answers
  pub ends : Ends asking.kinds asking.fault result answers
  pub cause : IsCausedBy result asking.fault (asking.faults before) (asking.faults after)
