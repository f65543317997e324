-- Where the gateways of a pair are, one by one and all together.
use Rattle.std.{proofs.{Common.{◌≡◌, ◌≤◌, ◌<◌, ℕ, zero, suc, ◌||◌, Bool, List, [], ◌∷◌, ◌++◌, map, length, get_or, set, All, refl, sym, ap, ◌∙◌, subst, subst₂, arith}, lemmas.List.Elements.{All-append, All-map}}, specs.List.{list_any}}
use Rattle.amt_values.specs.declared.peer.Peer.{Peer}
use Rattle.gateway_machine.specs.{Answers.{history_after, same_peer}, Sends.{Sending, datagram_of}, declared.{event.GatewayEvent.{GatewayEvent}, exchange.Exchange.{Exchange}, step.PeerSend.{PeerSend}}}
use Rattle.socket_merge.specs.History.{AcceptedCall, same_name}
use Rattle.amt_pair.{specs.{Members.{AreMembersAt, AreShort, IsMemberAt, host_of, kept_datagram, kept_upward}, Schedule.{Member, answer_at, run_of_member, upward_of, upwards_on}, Sent.{Sent}, Setup.{Host, has_taken}, declared.{datagrams.UpDatagram.{UpDatagram}, gateways.NamedGateway.{NamedGateway}}}, proofs.Alone.{NonePasses}}

abbrev sent_with : Exchange → List AcceptedCall → Sending → Sent
sent_with next history sending = record { sending = sending; exchange = next; history = history }

kept_by : (host : Host) (next : Exchange) (history : List AcceptedCall) (sends : List Sending)
    → map kept_upward (map (upward_of host) (map (sent_with next history) sends)) ≡ map (kept_datagram host.peer) (map datagram_of sends)
kept_by host next history [] = refl
kept_by host next history (sending ∷ sends) =
    ap (λ (rest : List UpDatagram). kept_datagram host.peer (datagram_of sending) ∷ rest) (kept_by host next history sends)

-- the datagrams that are kept of an event are those of the answer
pub kept_each : (from : Peer) (event : GatewayEvent) (member : Member) → from ≡ member.host.peer
    → map kept_upward (upwards_on event member) ≡ map (kept_datagram from) (map datagram_of (answer_at member event).sends)
kept_each from event member is =
    kept_by member.host (answer_at member event).next (history_after (run_of_member member).exchange (run_of_member member).history event)
    (answer_at member event).sends
    ∙ ap (λ (peer : Peer). map (kept_datagram peer) (map datagram_of (answer_at member event).sends)) (sym is)

abbrev IsShort : UpDatagram → Type 0
IsShort datagram = length datagram.bytes ≤ 65535

-- what is kept after a step
pub sent_by : (named : NamedGateway) (member : Member) (event : GatewayEvent) (sends slice : List PeerSend) (up sent after : List UpDatagram)
    → IsMemberAt named member → sends ≡ map datagram_of (answer_at member event).sends → slice ≡ sends
    → sent ≡ map (kept_datagram named.peer) slice → after ≡ up ++ sent → after ≡ up ++ map kept_upward (upwards_on event member)
sent_by named member event sends slice up sent after at sends_are same sent_are appended =
    appended
    ∙ ap (λ (more : List UpDatagram). up ++ more)
    (sent_are ∙ ap (map (kept_datagram named.peer)) (same ∙ sends_are) ∙ sym (kept_each named.peer event member at.peer))

-- with short datagrams after them they are short still
pub short_more : (from : Peer) (sends slice : List PeerSend) (up sent after : List UpDatagram) → AreShort up
    → All (λ send. length send.bytes ≤ 65535) sends → slice ≡ sends → sent ≡ map (kept_datagram from) slice → after ≡ up ++ sent → AreShort after
short_more from sends slice up sent after short sends_short same sent_are appended =
    let is : after ≡ up ++ map (kept_datagram from) sends =
    appended ∙ ap (λ (more : List UpDatagram). up ++ more) (sent_are ∙ ap (map (kept_datagram from)) same) in
    subst AreShort (sym is)
    (All-append IsShort up (map (kept_datagram from) sends) short (All-map IsShort (kept_datagram from) sends sends_short))

-- the gateway is what its member says of it
pub host_is : (named : NamedGateway) (member : Member) → IsMemberAt named member → host_of named ≡ member.host
host_is named member at = λ i. record { name = at.name i; peer = at.peer i; settings = at.gateway.settings_kept i }

abbrev pub host_at : Member → Host
host_at member = member.host

pub hosts_are : (gateways : List NamedGateway) (members : List Member) → AreMembersAt gateways members → map host_of gateways ≡ map host_at members
hosts_are [] [] at = refl
hosts_are (named ∷ gateways) (member ∷ members) at =
    let first = host_is named member at.0 in
    let rest = hosts_are gateways members at.1 in
    cc
hosts_are gateways members at = absurd at

-- there are as many
pub lengths_are : (gateways : List NamedGateway) (members : List Member) → AreMembersAt gateways members → length gateways ≡ length members
lengths_are [] [] at = refl
lengths_are (named ∷ gateways) (member ∷ members) at = ap suc (lengths_are gateways members at.1)
lengths_are gateways members at = absurd at

member_at : (gateways : List NamedGateway) (members : List Member) (place : ℕ) (named : NamedGateway) (member : Member) → AreMembersAt gateways members → place < length gateways
    → IsMemberAt (get_or gateways place named) (get_or members place member)
member_at [] members place named member at within = absurd (omega arith)
member_at (first ∷ gateways) [] place named member at within = absurd at
member_at (first ∷ gateways) (other ∷ members) zero named member at within = at.0
member_at (first ∷ gateways) (other ∷ members) (suc place) named member at within = member_at gateways members place named member at.1 (omega arith)

-- a gateway at a place is what the member there says of it
pub member_at_place : (items gateways : List NamedGateway) (members : List Member) (place : ℕ) (named : NamedGateway) (member : Member) → items ≡ gateways → AreMembersAt gateways members
    → place < length gateways → named ≡ get_or items place named → get_or members place member ≡ member → IsMemberAt named member
member_at_place items gateways members place named member view at within here there =
    subst₂ IsMemberAt (sym (here ∙ ap (λ (all : List NamedGateway). get_or all place named) view)) there (member_at gateways members place named member at within)

pub members_set : (gateways : List NamedGateway) (members : List Member) (place : ℕ) (named : NamedGateway) (member : Member)
    → AreMembersAt gateways members → IsMemberAt named member → AreMembersAt (set gateways place named) (set members place member)
members_set [] [] place named member at now = tt
members_set (first ∷ gateways) (other ∷ members) zero named member at now = (now, at.1)
members_set (first ∷ gateways) (other ∷ members) (suc place) named member at now = (at.0, members_set gateways members place named member at.1 now)
members_set gateways members place named member at now = absurd at

pub members_more : (gateways : List NamedGateway) (members : List Member) (named : NamedGateway) (member : Member)
    → AreMembersAt gateways members → IsMemberAt named member → AreMembersAt (gateways ++ named ∷ []) (members ++ member ∷ [])
members_more [] [] named member at now = (now, tt)
members_more (first ∷ gateways) (other ∷ members) named member at now = (at.0, members_more gateways members named member at.1 now)
members_more gateways members named member at now = absurd at

-- the gateway and the member at a place
pub record AreAt (gateways : List NamedGateway) (members : List Member) (place : ℕ) : Type 0 where
  pub named : NamedGateway
  pub member : Member
  pub here : get_or gateways place named ≡ named
  pub there : get_or members place member ≡ member
  pub at : IsMemberAt named member

pub are_at : (gateways : List NamedGateway) (members : List Member) (place : ℕ) → AreMembersAt gateways members → place < length gateways → AreAt gateways members place
are_at [] members place at within = absurd (omega arith)
are_at (named ∷ gateways) [] place at within = absurd at
are_at (named ∷ gateways) (member ∷ members) zero at within = record { named = named; member = member; here = refl; there = refl; at = at.0 }
are_at (named ∷ gateways) (member ∷ members) (suc place) at within =
    let rest = are_at gateways members place at.1 (omega arith) in record { named = rest.named; member = rest.member; here = rest.here; there = rest.there; at = rest.at }

-- a test of a gateway's host is one of its member's
pub none_at : (test : Host → Bool) (gateways : List NamedGateway) (members : List Member) → AreMembersAt gateways members
    → NonePasses (λ named. test (host_of named)) gateways → NonePasses (λ member. test member.host) members
none_at test gateways members at none k default below =
    let within : k < length gateways = omega (arith, lengths_are gateways members at) in
    let other = (are_at gateways members k at within).named in
    ap test (sym (host_is _ _ (member_at gateways members k other default at within))) ∙ none k other within

-- a name or a peer is taken where some gateway has it
pub taken_by : (name : List ℕ) (peer : Peer) (gateways : List NamedGateway)
    → has_taken name peer (map host_of gateways) ≡ list_any (λ one. same_name name one.name || same_peer one.peer peer) gateways
taken_by name peer [] = refl
taken_by name peer (one ∷ gateways) =
    ap (λ (rest : Bool). (same_name name one.name || same_peer one.peer peer) || rest) (taken_by name peer gateways)
