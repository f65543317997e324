-- Scripts of dual gateways are a lawful kind of script.
use Rattle.std.proofs.Common.{◌≡◌, List, sym, ◌∙◌}
use Rattle.amt_script.proofs.Settlings.{settled_values, wrong_at_end}
use Rattle.script_lines.specs.Kind.{IsLawfulKind}
use Rattle.amt_dual_script.{specs.{Script.{MakesDualScript, dual_kind, gateways_in, items_in, settings_in}, declared.{script.DualScript.{DualScript}, statement.DualStatement.{DualStatement}}}, proofs.{Good.{no_statement}, Unique.{one_statement}}}

same_script : (one other : DualScript) → one.settings ≡ other.settings → one.secret ≡ other.secret → one.gateways ≡ other.gateways → one.items ≡ other.items → one ≡ other
same_script one other same_settings same_secret same_gateways same_items =
    λ i. record { settings = same_settings i; secret = same_secret i; gateways = same_gateways i; items = same_items i }

one_script : (said : List DualStatement) (one other : DualScript) → MakesDualScript said one → MakesDualScript said other → one ≡ other
one_script said one other h k =
    same_script one other (settled_values (settings_in said) one.settings other.settings one.secret other.secret h.settled k.settled)
    (h.settled.first_secret ∙ sym k.settled.first_secret) (h.gateways ∙ sym k.gateways) (h.items ∙ sym k.items)

pub dual_kind_lawful : IsLawfulKind dual_kind
dual_kind_lawful = record {
  one_statement = λ past one other line h k. one_statement (settings_in past) (gateways_in past) (items_in past) one other line h k;
  no_statement = λ past one line reason h k. no_statement (settings_in past) (gateways_in past) (items_in past) one line reason h k;
  one_script = one_script;
  no_script = λ said script reason h k. wrong_at_end (settings_in said) script.settings script.secret reason h.settled h.lawful k;
}
