-- What is said over a kind of script.
use Rattle.std.specs.Prelude.{◌≡◌, ℕ, List}
use Rattle.script_lines.specs.declared.reason.Reason.{Reason}

-- A kind of script, of these statements, each of which a line says, and of these whole scripts.
-- `Says past one line`: after the statements of the past, a line of these fields says this one.
-- `Fails past line reason`: this is wrong with such a line; the reasons are tried in `order`, after what may
-- be wrong with a line of any kind: that it is too long, or an octet of it isn't printable ASCII.
-- `Makes said script`: these statements, all in all, are this script.
-- `FailsAtEnd said reason`: this is wrong with all of them; the reasons are tried in `order_at_end`.
pub record Kind (S W : Type 0) : Type 1 where
  pub Says : List S → S → List (List ℕ) → Type 0
  pub Fails : List S → List (List ℕ) → Reason → Type 0
  pub order : List Reason
  pub Makes : List S → W → Type 0
  pub FailsAtEnd : List S → Reason → Type 0
  pub order_at_end : List Reason

-- A line says at most one thing, and nothing where something is wrong with it; the same of all of them.
pub record IsLawfulKind {S W : Type 0} (kind : Kind S W) : Type 0 where
  pub one_statement : (past : List S) (one other : S) (line : List (List ℕ)) → kind.Says past one line → kind.Says past other line → one ≡ other
  pub no_statement : (past : List S) (one : S) (line : List (List ℕ)) (reason : Reason) → kind.Says past one line → kind.Fails past line reason → ⊥
  pub one_script : (said : List S) (one other : W) → kind.Makes said one → kind.Makes said other → one ≡ other
  pub no_script : (said : List S) (script : W) (reason : Reason) → kind.Makes said script → kind.FailsAtEnd said reason → ⊥
