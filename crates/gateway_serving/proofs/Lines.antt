-- What becomes of one line of the control.
use Rattle.std.{proofs.Common.{◌≡◌, Bool, true, false, List, ℕ, refl, sym, subst, append-nil, arith}, specs.Prelude.{Result}}
use Rattle.amt_ports.specs.{Bursts.{AnswerKinds, AskedSo}, declared.end.End.{End}}
use Rattle.amt_values.specs.declared.peer.Peer.{Peer}
use Rattle.gateway_machine.specs.{Settings.{family_of}, declared.event.GatewayEvent.{GatewayEvent}}
use Rattle.gateway_serving.specs.{Servers.{Setup, family_in}, Stages.{ReadsLine}, Traces.{AtWork, WorkDoes, World, by_control, nothing, offering}, Turns.{Called, ControlAnswer, MayBecome, Starved}, declared.askers.Asker.{Asker}}
use Rattle.gateway_serving.proofs.{Apart.{calls_dont_ask}, Traces.{Does-at, Does-then}}

-- it makes a socket call, which memory took, or refused
pub line_called : {before counted after : AtWork} (from : Peer) (bytes : List ℕ) (event : GatewayEvent) (askers : List Asker) (starved : Bool) → MayBecome (family_in before.server) bytes (Called event)
    → WorkDoes (record nothing { controls = 1; tally = 1 }) before counted → WorkDoes (offering starved event) counted after → ReadsLine from bytes before after askers askers
line_called from bytes event askers false is counts offers = record {
  line = Called event;
  may = is;
  does = λ around. Does-at (Does-then (counts around) (offers around)) refl refl refl refl refl (λ _. refl) refl refl refl refl (omega arith);
  asked = sym (append-nil askers);
}
line_called {before} from bytes event askers true is counts offers = record {
  line = Starved;
  may = calls_dont_ask (family_in before.server) event bytes is;
  does = λ around. Does-at (Does-then (counts around) (offers around)) refl refl refl refl refl (λ _. refl) refl refl refl refl (omega arith);
  asked = sym (append-nil askers);
}

-- the family is that of the settings, which stay
pub same_family : {R : Type 0} {Ends : AnswerKinds ControlAnswer → End → Result R End → List ControlAnswer → Type 0} {setup setup' : Setup} {before after : World} {result : Result R End} → setup' ≡ setup
    → AskedSo (by_control (family_of setup'.settings)) Ends before after result → AskedSo (by_control (family_of setup.settings)) Ends before after result
same_family {Ends = Ends} {before = before} {after = after} {result = result} same asked = subst (λ (setup : Setup). AskedSo (by_control (family_of setup.settings)) Ends before after result) same asked
