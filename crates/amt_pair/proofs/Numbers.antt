-- Datagrams by their numbers, and what their deliveries are.
use Rattle.std.{proofs.{Common.{◌≡◌, ◌<◌, ℕ, HoldsAt, List, map, length, get_or, true, All, Contains, Option, Some, sym, ap, ◌∙◌, subst, arith}, lemmas.List.{get_or-map, length-map, Elements.{All-contains}}}, specs.Cmp.Lexicographic.{same_text}}
use Rattle.amt_values.specs.declared.peer.Peer.{Peer}
use Rattle.gateway_machine.specs.{Events.{IsEventOf}, Runs.{settings_of}, declared.event.GatewayEvent.{GatewayEvent, TheVariants.{Datagram as Heard}}}
use Rattle.relay_machine.specs.declared.sends.OneSend.{OneSend}
use Rattle.socket_merge.specs.History.{same_name}
use Rattle.amt_pair.{specs.{Members.{host_of}, Parts.{down_parts, or_absent, parts_of}, Schedule.{Course, delivery_down, down_delivered, numbered, with_pair_event}, Setup.{AreApart, Host, PairSetup, relay_peer}, declared.{event.PairEvent.TheVariants.{Down}, gateways.NamedGateway.{NamedGateway}, step.Part.{Part}}}, proofs.{HostsApart.{one-name}, Listed.{numbered-among}}}

-- what holds of each holds of the one of a number
pub all_numbered : {X : Type 0} (Fact : X → Type 0) (xs : List X) (number : ℕ) (x : X) → All Fact xs → Some x ≡ numbered xs number → Fact x
all_numbered Fact xs number x all is = All-contains Fact xs x all (numbered-among xs number x (sym is))

module _ (setup : PairSetup) (course : Course) (number : ℕ) where
  pub down_parts_are : (send : OneSend) (parts : List Part) → numbered course.down number ≡ Some send
      → down_parts setup course (Some send) ≡ parts → or_absent number parts ≡ parts_of setup course (Down number)
  down_parts_are send parts found are =
      ap (or_absent number) (sym are) ∙ ap (λ (one : Option OneSend). or_absent number (down_parts setup course one)) (sym found)

  pub down_reaches : (send : OneSend) (after : Course) → numbered course.down number ≡ Some send → down_delivered setup (Some send) course ≡ after
      → after ≡ with_pair_event setup course (Down number)
  down_reaches send after found is = sym is ∙ ap (λ (one : Option OneSend). down_delivered setup one course) (sym found)

-- a delivery to a gateway is what was sent, from the relay
pub is_delivery_down : (setup : PairSetup) (send : OneSend) (from : Peer) (bytes : List ℕ) → from ≡ relay_peer setup.settings → bytes ≡ send.bytes
    → Heard from bytes ≡ delivery_down setup send
is_delivery_down setup send from bytes is bytes_are = λ i. Heard (is i) (bytes_are i)

-- a call that may come to a gateway of the name may come to the one that is found
pub call_may_come : (name : List ℕ) (event : GatewayEvent) (gateways : List NamedGateway) (place : ℕ) (host : Host) → AreApart (map host_of gateways) → place < length gateways
    → HoldsAt (λ one. same_name name one.name ≡ true) gateways place → Contains (map host_of gateways) host → host.name ≡ name → IsEventOf host.settings event
    → HoldsAt (λ one. IsEventOf (settings_of one.gateway) event) gateways place
call_may_come name event gateways place host apart within passes contains is_named may default =
    let named = get_or gateways place default in
    let listed : Contains (map host_of gateways) (host_of named) =
    (place, omega (arith, length-map gateways host_of), get_or-map host_of gateways place default (host_of named) within) in
    subst (λ (which : Host). IsEventOf which.settings event)
    (one-name (map host_of gateways) host (host_of named) apart contains listed (is_named ∙ same_text name named.name (sym (passes default)))) may
