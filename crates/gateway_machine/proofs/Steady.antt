-- What an event leaves of an exchange and of a history: no answer turns time back, what is refused changes
-- nothing, and no call is later than the exchange's moment or opens a socket of the other family.
use Rattle.std.proofs.{Common.{◌≡◌, ◌≤◌, ℕ, max, not, true, List, [], ◌∷◌, All, Option, Some, None, refl, subst, arith}, lemmas.{Bool.{cond_both}, List.Elements.{All-append, All-cons, All-filter, All-map, All-nil, All-weaker}}}
use Rattle.group_records.specs.{Written.{is_of_family}, declared.family.Family.{Family}}
use Rattle.socket_merge.specs.{History.{AcceptedCall, Change, Close, LeaveAll, Open, SocketCall, latest, open_sockets, refiltered, same_name, with_call}, declared.stored.Socket.{Socket}}
use Rattle.gateway_machine.specs.declared.{event.GatewayEvent.{GatewayEvent, TheVariants.{Open as Opens}}, exchange.Exchange.{Exchange}, outcome.SocketRefusal.{SocketRefusal}, settings.GatewaySettings.{GatewaySettings}}
use Rattle.gateway_machine.{specs.{Answers.{call_in, event_answer, history_after, history_by, if_accepted, refusal_at}, Events.{IsEventOf}, Outcomes.{IsRefused}, Settings.{family_of}}, proofs.Lawful.{IsLawful, event-lawful}}

lawful : (settings : GatewaySettings) (exchange : Exchange) (history : List AcceptedCall) (event : GatewayEvent)
    → IsLawful (λ mac nonce. Unit {0}) (λ packet. Unit {0}) (λ left. left ≡ exchange) settings None exchange (event_answer settings exchange history event)
lawful settings exchange history event = event-lawful _ _ _ settings None event exchange history refl (λ from bytes came. record {
  good = λ limited mac nonce inner seen read sender asked accepted. tt;
  given = λ packet head read sender begins scope wanted. tt;
})

-- no event turns time back
pub moment-later : (settings : GatewaySettings) (exchange : Exchange) (history : List AcceptedCall) (event : GatewayEvent)
    → exchange.moment ≤ (event_answer settings exchange history event).next.moment
moment-later settings exchange history event = (lawful settings exchange history event).later

-- an event that is refused leaves the exchange
pub refused-same : (settings : GatewaySettings) (exchange : Exchange) (history : List AcceptedCall) (event : GatewayEvent)
    → IsRefused (event_answer settings exchange history event).outcome → (event_answer settings exchange history event).next ≡ exchange
refused-same settings exchange history event = (lawful settings exchange history event).refused

-- what both histories have
either_history : (P : List AcceptedCall → Type 0) (refusal : Option SocketRefusal) (before after : List AcceptedCall) → P before → P after → P (if_accepted refusal before after)
either_history P None before after first second = second
either_history P (Some refusal) before after first second = first

-- what the history has, and still with the call that there is
with_or_without : (P : List AcceptedCall → Type 0) (call : Option SocketCall) (exchange : Exchange) (history : List AcceptedCall) → P history
    → ((one : SocketCall) → call ≡ Some one → P (with_call exchange.moment one history)) → P (history_by call exchange history)
with_or_without P None exchange history is more = is
with_or_without P (Some call) exchange history is more = either_history P (refusal_at exchange history call) history _ is (more call refl)

-- no call is later than the exchange's moment
pub early-after : (exchange : Exchange) (history : List AcceptedCall) (event : GatewayEvent) → latest history ≤ exchange.moment
    → latest (history_after exchange history event) ≤ exchange.moment
early-after exchange history event early =
    let at : max (latest history) exchange.moment ≤ exchange.moment = omega arith in
    with_or_without (λ calls. latest calls ≤ exchange.moment) (call_in event) exchange history early (λ call there. at)

-- the socket is of a group of the family
abbrev IsOfFamily : Family → Socket → Type 0
IsOfFamily family socket = is_of_family family socket.group ≡ true

-- the open sockets are of groups of the family
abbrev AreOpenOf : Family → List AcceptedCall → Type 0
AreOpenOf family history = All (IsOfFamily family) (open_sockets history)

-- the call opens no socket of the other family
abbrev OpensOf : Family → Option SocketCall → Type 0
OpensOf family (Some (Open name group filter)) = is_of_family family group ≡ true
OpensOf family call = Unit {0}

opens-of : (settings : GatewaySettings) (event : GatewayEvent) → IsEventOf settings event → OpensOf (family_of settings) (call_in event)
opens-of settings (Opens name group filter) is = is.1
opens-of settings event is = tt

family-with : (family : Family) (at : ℕ) (call : SocketCall) (history : List AcceptedCall) → OpensOf family (Some call) → AreOpenOf family history
    → AreOpenOf family (with_call at call history)
family-with family at (Open name group filter) history of_family are =
    let opened : Socket = record { name = name; group = group; filter = filter } in
    All-append (IsOfFamily family) (open_sockets history) (opened ∷ []) are (All-cons (IsOfFamily family) opened [] of_family (All-nil (IsOfFamily family)))
family-with family at (Change name filter) history opens are =
    All-map (IsOfFamily family) (refiltered name filter) (open_sockets history)
    (All-weaker (IsOfFamily family) (λ socket. IsOfFamily family (refiltered name filter socket)) (λ socket is. cond_both (same_name name socket.name) _ _ (IsOfFamily family) (λ _. is) (λ _. is)) (open_sockets history) are)
family-with family at (Close name) history opens are = All-filter (λ socket. not (same_name name socket.name)) (IsOfFamily family) (open_sockets history) are
family-with family at LeaveAll history opens are = All-nil (IsOfFamily family)

-- a call that may happen opens sockets of groups of the gateway's family alone
pub family-after : (settings : GatewaySettings) (exchange : Exchange) (history : List AcceptedCall) (event : GatewayEvent) → IsEventOf settings event
    → AreOpenOf (family_of settings) history → AreOpenOf (family_of settings) (history_after exchange history event)
family-after settings exchange history event is are =
    let family = family_of settings in
    with_or_without (AreOpenOf family) (call_in event) exchange history are
    (λ call there. family-with family exchange.moment call history (subst (OpensOf family) there (opens-of settings event is)) are)
