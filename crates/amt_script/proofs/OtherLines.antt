-- What lines say that give no new limits.
use Rattle.std.proofs.Common.{◌≡◌, ℕ, List, ◌++◌, Result, Ok, Err, IfOk, MatchResult, sym, subst}
use Rattle.endpoint_membership.specs.declared.limits.Limits.{Limits}
use Rattle.relay_machine.specs.declared.event.Event.TheVariants as events
use Rattle.script_lines.specs.declared.{fault.LineError.{LineError, TheVariants.{Bad}}, reason.Reason.{Reason}}
use Rattle.amt_script.{specs.{declared.{kind.Kind.{Kind}, line.RelayStatement.{RelayStatement}, script.RelayItem.{RelayItem}, setting.Setting.{Setting}}, Row.{words_of}, Says.{SaysItem}, Script.{MayCome, SaysAfter}, Settling.{limits_given}}, proofs.Rows.{same_kind}}
use Rattle.amt_script.specs.declared.kind.Kind.TheVariants as kinds
use Rattle.amt_script.specs.declared.line.RelayStatement.TheVariants as statements
use Rattle.amt_script.specs.declared.script.RelayItem.TheVariants as items

no_limits : (given : Limits) (item : RelayItem) (kind : Kind) (values : List (List ℕ)) → (kind ≡ kinds.Limits → ⊥) → SaysItem item (words_of kind ++ values) → MayCome given item
no_limits given (items.Event (events.Limits limits)) kind values other says = absurd (other (same_kind kind kinds.Limits values _ says.parts))
no_limits given (items.Event (events.Moment ms)) kind values other says = tt
no_limits given (items.Event (events.Datagram bytes from)) kind values other says = tt
no_limits given (items.Event (events.Packet bytes)) kind values other says = tt
no_limits given (items.Event (events.Rotate secret)) kind values other says = tt
no_limits given items.Show kind values other says = tt

pub item_found : (given : List Setting) (before : List RelayItem) (item : RelayItem) (kind : Kind) (values line : List (List ℕ)) → (kind ≡ kinds.Limits → ⊥)
    → line ≡ words_of kind ++ values → SaysItem item (words_of kind ++ values) → SaysAfter given before (statements.Item item) line
item_found given before item kind values line other parts says = (no_limits (limits_given given) item kind values other says, subst (SaysItem item) (sym parts) says)

-- the same of what was read
pub read_found : (given : List Setting) (before : List RelayItem) (read : Result RelayItem Reason) (result : Result RelayStatement LineError) (kind : Kind)
    (values line : List (List ℕ)) → (kind ≡ kinds.Limits → ⊥) → line ≡ words_of kind ++ values → IfOk read (λ item. SaysItem item (words_of kind ++ values))
    → MatchResult read (λ item. result ≡ Ok (statements.Item item)) (λ reason. result ≡ Err (Bad reason))
    → IfOk result (λ statement. SaysAfter given before statement line)
read_found given before (Ok item) result kind values line other parts says is =
    subst (λ (r : Result RelayStatement LineError). IfOk r (λ statement. SaysAfter given before statement line)) (sym is)
    (item_found given before item kind values line other parts says)
read_found given before (Err reason) result kind values line other parts says is =
    subst (λ (r : Result RelayStatement LineError). IfOk r (λ statement. SaysAfter given before statement line)) (sym is) tt
