use Rattle.std.proofs.{Common.{◌≡◌, ◌<◌, ◌^◌, ℕ, Bool, true, false, [], Option, Some, None, refl, subst, sym}, lemmas.List.Elements.{All-cons, All-nil}}
use Rattle.amt_values.specs.declared.peer.Peer.{Peer}
use Rattle.amt_messages.specs.declared.message.Message.TheVariants.{Request}
use Rattle.gateway_machine.specs.{Sends.{Sending, datagram_of, octets_of, request_to}, declared.settings.GatewaySettings.{GatewaySettings}}
use Rattle.relay_machine.specs.declared.settings.Settings.{Settings}
use Rattle.amt_pair.{specs.Queries.{AsksFor, IsAskedFor}, proofs.AskedFamilies.{asked-linux, asked-spelled}}
use Rattle.amt_pair.proofs.laws.requests_ask_for_their_family.Goals as goal

asked : (settings : Settings) (v6 for_linux : Bool) (nonce : ℕ) → nonce < 2 ^ 32 → (for_linux ≡ true → settings.linux_gateways ≡ true)
    → IsAskedFor settings v6 nonce (octets_of (Request v6 nonce) for_linux)
asked settings true true nonce small serves =
    subst (λ (v6 : Bool). IsAskedFor settings v6 nonce (octets_of (Request true nonce) true)) (serves refl) (asked-linux settings nonce small)
asked settings true false nonce small serves = asked-spelled settings true nonce small
asked settings false for_linux nonce small serves = asked-spelled settings false nonce small

unserved : (settings : Settings) (v6 : Bool) (nonce : ℕ) → nonce < 2 ^ 32 → settings.linux_gateways ≡ false → IsAskedFor settings false nonce (octets_of (Request v6 nonce) true)
unserved settings true nonce small serves =
    subst (λ (v6 : Bool). IsAskedFor settings v6 nonce (octets_of (Request true nonce) true)) serves (asked-linux settings nonce small)
unserved settings false nonce small serves = asked-spelled settings false nonce small

-- of the one Request that there is, if a relay is known
each : (settings : Settings) (v6 : Bool) (relay : Option Peer) (gateway : GatewaySettings) (nonce : ℕ) → IsAskedFor settings v6 nonce (octets_of (Request gateway.v6 nonce) gateway.linux_relay)
    → AsksFor settings v6 nonce (request_to relay gateway nonce)
each settings v6 None gateway nonce asked_for = All-nil (λ (sending : Sending). IsAskedFor settings v6 nonce (datagram_of sending).bytes)
each settings v6 (Some peer) gateway nonce asked_for =
    let Asked : Sending → Type 0 = λ sending. IsAskedFor settings v6 nonce (datagram_of sending).bytes in
    All-cons Asked (record { to = peer; message = Request gateway.v6 nonce; full_report = false; for_linux = gateway.linux_relay }) [] asked_for (All-nil Asked)

pub returns-clause-asked : goal.returns-clause-asked
returns-clause-asked c = λ settings gateway exchange small serves.
    each settings gateway.v6 exchange.relay gateway exchange.nonce (asked settings gateway.v6 gateway.linux_relay exchange.nonce small serves)

pub returns-clause-unserved : goal.returns-clause-unserved
returns-clause-unserved c = λ settings gateway exchange small linux serves.
    each settings false exchange.relay gateway exchange.nonce
    (subst (λ (for_linux : Bool). IsAskedFor settings false exchange.nonce (octets_of (Request gateway.v6 exchange.nonce) for_linux)) (sym linux)
    (unserved settings gateway.v6 exchange.nonce small serves))
