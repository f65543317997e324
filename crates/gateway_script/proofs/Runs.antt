-- What is written of a gateway's events.
use Rattle.std.proofs.Common.{◌≡◌, ℕ, Option, List, refl, sym, subst}
use Rattle.gateway_machine.specs.{declared.{event.GatewayEvent.{GatewayEvent}, outcome.GatewayOutcome.{GatewayOutcome}, settings.GatewaySettings.{GatewaySettings}, step.PeerSend.{PeerSend}}, Events.{IsEventOf}}
use Rattle.gateway_script.specs.Texts.{step_text}

pub same_step : (number : ℕ) (o p : GatewayOutcome) (s t : List PeerSend) (d e : Option (List ℕ)) → o ≡ p → s ≡ t → d ≡ e
    → step_text number o s d ≡ step_text number p t e
same_step number o p s t d e same_outcome same_sends same_packet = rw (same_outcome, same_sends, same_packet) refl

-- what may happen to a gateway of these settings
pub same_event : (settings other : GatewaySettings) (event : GatewayEvent) → other ≡ settings → IsEventOf settings event → IsEventOf other event
same_event settings other event same may = subst (λ (s : GatewaySettings). IsEventOf s event) (sym same) may
