-- What the reader's own answers say.
use Rattle.std.specs.Prelude.{ℕ, List, [], ◌∷◌, ◌++◌}
use Rattle.script_lines.specs.{declared.{reason.Reason.{Reason}, fault.{LineError.{LineError, TheVariants.{Bad, Memory}}, ScriptError.{ScriptError}}}, Kind.{Kind}, Script.{Begins, IsBadLine, IsFaultInLine}}
use Rattle.script_lines.specs.declared.fault.ScriptError.TheVariants as errors
use Rattle.amt_values.specs.Conditions.{First}

-- the reason is the first that holds; out of memory says nothing
abbrev pub FailsFirst : (Reason → Type 0) → List Reason → LineError → Type 0
FailsFirst Holds order (Bad reason) = First Holds order reason
FailsFirst Holds order Memory = Unit {0}

-- after the past, a line of these fields says a statement, and the value has heard it too
abbrev pub Hears : {S W X : Type 0} → Kind S W → (X → List S → Type 0) → List S → List (List ℕ) → X → Type 0
Hears {S = S} kind HasHeard past line after = (one : S) × kind.Says past one line × HasHeard after (past ++ one ∷ [])

-- what is wrong with a line of these fields after the past, first of all
abbrev pub FailsAfter : {S W : Type 0} → Kind S W → List S → List (List ℕ) → LineError → Type 0
FailsAfter kind past line = FailsFirst (kind.Fails past line) kind.order

-- the lines begin a script, and the value has heard what they say
pub record HasBegun {S W X : Type 0} (kind : Kind S W) (HasHeard : X → List S → Type 0) (value : X) (ls : List (List ℕ)) : Type 0 where
  pub said : List S
  pub begun : Begins kind said ls
  pub heard : HasHeard value said

-- after these lines the line is bad for this reason; out of memory says nothing
abbrev pub FailsOnLine : {S W : Type 0} → Kind S W → List S → List ℕ → LineError → Type 0
FailsOnLine kind past line (Bad reason) = IsBadLine kind past line reason
FailsOnLine kind past line Memory = Unit {0}

-- some line is the first bad one; out of memory says nothing
abbrev pub FailsInLines : {S W : Type 0} → Kind S W → List (List ℕ) → ScriptError → Type 0
FailsInLines kind ls (errors.Fault line reason) = IsFaultInLine kind line reason ls
FailsInLines kind ls errors.Memory = Unit {0}
