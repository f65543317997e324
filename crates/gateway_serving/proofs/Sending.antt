-- What is sent and handed on for events, and for more of them.
use Rattle.std.{proofs.{Common.{◌≡◌, ℕ, List, [], ◌∷◌, ◌++◌, sym, ap, ◌∙◌, append_assoc, append-nil}, lemmas.List.Concat.{flat_map-append}}, specs.List.{flat_map}}
use Rattle.amt_values.specs.declared.peer.Peer.{Peer}
use Rattle.gateway_machine.specs.declared.{event.GatewayEvent.{GatewayEvent}, settings.GatewaySettings.{GatewaySettings}}
use Rattle.relay_machine.specs.Courses.{each_after}
use Rattle.gateway_serving.specs.Sending.{delivered_after, delivered_to, sends_after, sends_to}

-- later events are answered after all the earlier ones
each_append : {E A : Type 0} (answer : List E → E → A) (before events more : List E)
    → each_after answer before (events ++ more) ≡ each_after answer before events ++ each_after answer (before ++ events) more
each_append {E} answer before [] more = ap (λ (past : List E). each_after answer past more) (sym (append-nil before))
each_append {E} {A} answer before (one ∷ events) more =
    ap (λ (rest : List A). answer before one ∷ rest)
    (each_append answer (before ++ one ∷ []) events more
    ∙ ap (λ (past : List E). each_after answer (before ++ one ∷ []) events ++ each_after answer past more) (append_assoc before (one ∷ []) events))

-- all that is tried for events, and then for more
all_append : (tried : List GatewayEvent → GatewayEvent → List (Peer × List ℕ)) (earlier events more : List GatewayEvent)
    → flat_map (λ all. all) (each_after tried earlier (events ++ more))
    ≡ flat_map (λ all. all) (each_after tried earlier events) ++ flat_map (λ all. all) (each_after tried (earlier ++ events) more)
all_append tried earlier events more =
    ap (flat_map (λ (all : List (Peer × List ℕ)). all)) (each_append tried earlier events more)
    ∙ flat_map-append (λ (all : List (Peer × List ℕ)). all) (each_after tried earlier events) (each_after tried (earlier ++ events) more)

pub sends_after-append : (settings : GatewaySettings) (first : ℕ) (earlier events more : List GatewayEvent)
    → sends_after settings first earlier (events ++ more) ≡ sends_after settings first earlier events ++ sends_after settings first (earlier ++ events) more
sends_after-append settings first earlier events more = all_append (sends_to settings first) earlier events more

pub delivered_after-append : (peer : Peer) (settings : GatewaySettings) (first : ℕ) (earlier events more : List GatewayEvent)
    → delivered_after peer settings first earlier (events ++ more) ≡ delivered_after peer settings first earlier events ++ delivered_after peer settings first (earlier ++ events) more
delivered_after-append peer settings first earlier events more = all_append (delivered_to peer settings first) earlier events more
