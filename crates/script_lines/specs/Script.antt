-- Which octets spell which script of a kind, and which line of others is the first bad one.
use Rattle.std.specs.{Prelude.{◌≡◌, ℕ, ◌+◌, ◌⊎◌, false, List, [], ◌∷◌, ◌++◌, length}, List.{AllByRecursion}, Str.Lines.{lines}}
use Rattle.script_lines.specs.{declared.{reason.Reason.{Reason, TheVariants.{Long, Word}}, fault.ScriptError.{ScriptError}}, Kind.{Kind}, Lines.{fields, says_nothing, lines_that_say, IsShort, IsPlain}}
use Rattle.script_lines.specs.declared.fault.ScriptError.TheVariants as errors
use Rattle.amt_values.specs.Conditions.{First}

-- each line says the next of these statements, after those before it
abbrev pub Say : {S W : Type 0} → Kind S W → List S → List S → List (List ℕ) → Type 0
Say kind past [] [] = Unit {0}
Say kind past [] (line ∷ ls) = ⊥
Say kind past (one ∷ more) [] = ⊥
Say kind past (one ∷ more) (line ∷ ls) = IsPlain line × kind.Says past one (fields line) × Say kind (past ++ one ∷ []) more ls

-- the lines that say something say these statements in order
pub record Begins {S W : Type 0} (kind : Kind S W) (said : List S) (ls : List (List ℕ)) : Type 0 where
  pub short : AllByRecursion IsShort ls
  pub says : Say kind [] said (lines_that_say ls)

-- all lines say statements that are this script
pub record Spells {S W : Type 0} (kind : Kind S W) (script : W) (bytes : List ℕ) : Type 0 where
  pub said : List S
  pub all_lines : Begins kind said (lines bytes)
  pub made : kind.Makes said script

-- this is the first thing wrong with a line that says something: an octet that isn't printable ASCII, or
-- the first of its kind's reasons after these statements
abbrev pub IsWrong : {S W : Type 0} → Kind S W → List S → List ℕ → Reason → Type 0
IsWrong kind past line reason =
    ((IsPlain line → ⊥) × (reason ≡ Word)) ⊎ (IsPlain line × First (kind.Fails past (fields line)) kind.order reason)

-- the line is too long, or it says something, and this is the first thing wrong with it
abbrev pub IsBadLine : {S W : Type 0} → Kind S W → List S → List ℕ → Reason → Type 0
IsBadLine kind past line reason =
    ((IsShort line → ⊥) × (reason ≡ Long))
    ⊎ (IsShort line × (says_nothing (fields line) ≡ false) × IsWrong kind past line reason)

-- the lines before begin a script, and this one is bad
pub record IsFaultInLine {S W : Type 0} (kind : Kind S W) (number : ℕ) (reason : Reason) (ls : List (List ℕ)) : Type 0 where
  pub before : List (List ℕ)
  pub line : List ℕ
  pub after : List (List ℕ)
  pub parts : ls ≡ before ++ line ∷ after
  pub counted : number ≡ length before + 1
  pub said : List S
  pub begun : Begins kind said before
  pub bad : IsBadLine kind said line reason

-- no line is bad, but together they are no script; the fault is reported after them all
pub record IsFaultAtEnd {S W : Type 0} (kind : Kind S W) (number : ℕ) (reason : Reason) (ls : List (List ℕ)) : Type 0 where
  pub counted : number ≡ length ls + 1
  pub said : List S
  pub begun : Begins kind said ls
  pub first : First (kind.FailsAtEnd said) kind.order_at_end reason

-- the fault of octets that are no script: in a line, or after the last
abbrev pub IsFaultAt : {S W : Type 0} → Kind S W → ℕ → Reason → List ℕ → Type 0
IsFaultAt kind number reason bytes =
    IsFaultInLine kind number reason (lines bytes) ⊎ IsFaultAtEnd kind number reason (lines bytes)

-- the error is the fault of the octets; out of memory says nothing
abbrev pub IsErrorOf : {S W : Type 0} → Kind S W → List ℕ → ScriptError → Type 0
IsErrorOf kind bytes (errors.Fault line reason) = IsFaultAt kind line reason bytes
IsErrorOf kind bytes errors.Memory = Unit {0}

-- where the error is a fault, the octets spell no script
abbrev pub RulesOutScripts : {S W : Type 0} → Kind S W → List ℕ → ScriptError → Type 0
RulesOutScripts {W = W} kind bytes (errors.Fault line reason) = (script : W) → Spells kind script bytes → ⊥
RulesOutScripts kind bytes errors.Memory = Unit {0}

-- no octets spell two scripts of the kind
abbrev pub HasOneScript : {S W : Type 0} → Kind S W → Type 0
HasOneScript {W = W} kind = (bytes : List ℕ) (one other : W) → Spells kind one bytes → Spells kind other bytes → one ≡ other

-- no octets have two faults
abbrev pub HasOneFault : {S W : Type 0} → Kind S W → Type 0
HasOneFault kind =
    (bytes : List ℕ) (line line' : ℕ) (reason reason' : Reason) → IsFaultAt kind line reason bytes → IsFaultAt kind line' reason' bytes
    → (line ≡ line') × (reason ≡ reason')
