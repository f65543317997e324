-- What a line says that begins with a gateway's name and a family.
use Rattle.std.proofs.Common.{◌≡◌, ℕ, Bool, true, is_some, List, ◌∷◌, Some, sym, subst, ap}
use Rattle.gateway_machine.specs.{Answers.{call_in}, declared.event.GatewayEvent.{GatewayEvent}}
use Rattle.gateway_script.specs.Says.{SaysEvent}
use Rattle.group_records.specs.declared.family.Family.{Family}
use Rattle.script_lines.specs.Form.{IsFamilyText}
use Rattle.socket_merge.specs.FullReport.{family_by}
use Rattle.pair_script.specs.Opening.{IsFree}
use Rattle.amt_dual_script.specs.{Gateways.{is_name_given}, Says.{SaysCall}, declared.script.DualGateway.{DualGateway}}

pub call_said : (gateways : List DualGateway) (name text : List ℕ) (values fields : List (List ℕ)) (family : Family) (v6 : Bool) (event : GatewayEvent)
    → IsFree name → is_name_given gateways name ≡ true → fields ≡ text ∷ values → family_by v6 ≡ family → IsFamilyText family text → SaysEvent (Some family) event values
    → is_some (call_in event) ≡ true → SaysCall gateways name v6 event (name ∷ fields)
call_said gateways name text values fields family v6 event free given parts is names says call = record {
  family = text;
  values = values;
  parts = ap (λ (ts : List (List ℕ)). name ∷ ts) parts;
  free = free;
  given = given;
  names_family = subst (λ (f : Family). IsFamilyText f text) (sym is) names;
  says = subst (λ (f : Family). SaysEvent (Some f) event values) (sym is) says;
  call = call;
}
