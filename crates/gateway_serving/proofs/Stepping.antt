-- One event that a running gateway takes.
use Rattle.std.{proofs.{Common.{◌≡◌, ◌≤◌, ℕ, List, [], ◌∷◌, ◌++◌, length, map, sym, ap, subst, ◌∙◌, append-nil, arith}, Math.Logic.{∥∥₁_elim, ∥∥₁_map}, Props.{props}, lemmas.List.{length-map}}, specs.Prelude.{Option}}
use mathlib.Core.Sum.{⊎_set}
use Rattle.gateway_machine.specs.{Outcomes.{NeedsNoMemory}, Runs.{After, GatewayAt, answer_after, settings_of}, Sends.{datagram_of}, declared.{event.GatewayEvent.{GatewayEvent}, gateway.Gateway.{Gateway}, settings.GatewaySettings.{GatewaySettings}, step.PeerSend.{PeerSend}}}
use Rattle.amt_ports.proofs.Told.{AppendsAll-none}
use Rattle.gateway_serving.specs.{Courses.{events_so_far}, Sending.{delivered_to, delivery_to, to_peer}, Servers.{counts_in, events_in, latest_in, settings_in, setup_in, wanted_packets, wanted_sends}, Taking.{HasSent}, Traces.{AtWork, WorkDoes, taking}}
use Rattle.gateway_serving.{specs.declared.{counts.Counts.{Counts}, course.Course.{Course}, server.Server.{Server}}, proofs.{FewSends.{answer_after-few}, Traces.{work_does}, Trying.{HasSent-then}}}

-- lists of sends are equal in one way, and so are packets
sends_prop : (one other : List PeerSend) → IsProp (one ≡ other)
sends_prop one other = hlevel (props, ⊎_set)

packet_prop : (one other : Option (List ℕ)) → IsProp (one ≡ other)
packet_prop one other = hlevel (props, ⊎_set)

module _ (server : Server) (event : GatewayEvent) where
  -- what the step sends, and hands on, by all the events before it
  pub sends_are : (sends : List PeerSend) → After server.gateway (λ settings first events. sends ≡ map datagram_of (answer_after settings first events event).sends)
      → sends ≡ map datagram_of (answer_after (settings_in server) (setup_in server).first (events_in server) event).sends
  sends_are sends known =
      ∥∥₁_elim server.at (sends_prop sends (map datagram_of (answer_after (settings_in server) (setup_in server).first (events_in server) event).sends))
      (λ at. known (settings_in server) (setup_in server).first (events_in server) at)

  pub packet_is : (packet : Option (List ℕ)) → After server.gateway (λ settings first events. packet ≡ (answer_after settings first events event).deliver)
      → packet ≡ (answer_after (settings_in server) (setup_in server).first (events_in server) event).deliver
  packet_is packet known =
      ∥∥₁_elim server.at (packet_prop packet (answer_after (settings_in server) (setup_in server).first (events_in server) event).deliver)
      (λ at. known (settings_in server) (setup_in server).first (events_in server) at)

  pub few_sent : (sends : List PeerSend) → After server.gateway (λ settings first events. sends ≡ map datagram_of (answer_after settings first events event).sends) → length sends ≤ 2
  few_sent sends known =
      let answer = answer_after (settings_in server) (setup_in server).first (events_in server) event in
      let same = ap length (sends_are sends known) in
      let all = length-map answer.sends datagram_of in
      let few = answer_after-few (settings_in server) (setup_in server).first (events_in server) event in omega (arith, same, all, few)

  -- what holds by any events that may have left the gateway where it is holds by all the events before it
  pub by_all : (Fact : Type 0) → IsProp Fact → After server.gateway (λ settings first events. NeedsNoMemory event (answer_after settings first events event).outcome → Fact)
      → NeedsNoMemory event (answer_after (settings_in server) (setup_in server).first (events_in server) event).outcome → Fact
  by_all Fact prop known needs = ∥∥₁_elim server.at prop (λ at. known (settings_in server) (setup_in server).first (events_in server) at needs)

-- exactly what the machine sends and hands on for it was tried
pub step_does : {before after : AtWork} (event : GatewayEvent) (middle : Counts) (tried sends : List PeerSend) (packet : Option (List ℕ)) → tried ≡ sends
    → After before.server.gateway (λ settings first events. sends ≡ map datagram_of (answer_after settings first events event).sends)
    → After before.server.gateway (λ settings first events. packet ≡ (answer_after settings first events event).deliver)
    → setup_in after.server ≡ setup_in before.server → events_in after.server ≡ events_in before.server ++ event ∷ [] → latest_in after.server ≡ latest_in before.server
    → HasSent before.link after.link before.out before.out (counts_in before.server) middle (map to_peer tried) []
    → HasSent after.link after.link before.out after.out middle (counts_in after.server) [] (delivery_to (setup_in before.server).deliver packet)
    → middle ≡ record (counts_in before.server) { unsent = middle.unsent }
    → counts_in after.server ≡ record middle { delivered = (counts_in after.server).delivered; unsent = (counts_in after.server).unsent }
    → after.link.coming ≡ before.link.coming → after.link.receive_faults ≡ before.link.receive_faults → after.wait ≡ before.wait
    → WorkDoes (taking (event ∷ [])) before after
step_does {before} {after} event middle tried sends packet all sends_by packet_by same events latest sent handed one two coming calm waits around =
    let setup = setup_in before.server in
    let earlier = events_in before.server in
    let wanted : map to_peer tried ++ [] ≡ wanted_sends setup earlier (event ∷ []) = ap (λ (list : List PeerSend). map to_peer list ++ []) (all ∙ sends_are before.server event sends sends_by) in
    let packets : delivery_to setup.deliver packet ≡ wanted_packets setup earlier (event ∷ []) =
    ap (delivery_to setup.deliver) (packet_is before.server event packet packet_by) ∙ sym (append-nil (delivered_to setup.deliver setup.settings setup.first earlier event)) in
    work_does {clock = around.clock} {clock' = around.clock} (event ∷ []) [] 0 0 0 0 1 same events latest
    (HasSent-then sent handed wanted packets)
    (record {
      datagrams_are = omega (arith, ap (λ (counts : Counts). counts.datagrams) one, ap (λ (counts : Counts). counts.datagrams) two);
      controls_are = omega (arith, ap (λ (counts : Counts). counts.controls) one, ap (λ (counts : Counts). counts.controls) two);
      bad_are = omega (arith, ap (λ (counts : Counts). counts.bad_controls) one, ap (λ (counts : Counts). counts.bad_controls) two);
      starved_are = omega (arith, ap (λ (counts : Counts). counts.starved) one, ap (λ (counts : Counts). counts.starved) two);
    }) (AppendsAll-none around.clock) coming calm waits (omega arith) around

-- the gateway stands where one event more left it
pub at_next : (server : Server) (gateway : Gateway) (event : GatewayEvent) (course : Course)
    → After server.gateway (λ settings first events. GatewayAt gateway settings first (events ++ event ∷ [])) → settings_of gateway ≡ settings_in server → events_so_far course ≡ events_in server ++ event ∷ []
    → ∥ GatewayAt gateway (settings_of gateway) (setup_in server).first (events_so_far course) ∥₁
at_next server gateway event course next same events =
    ∥∥₁_map server.at (λ at.
    subst (λ (settings : GatewaySettings). GatewayAt gateway settings (setup_in server).first (events_so_far course)) (sym same)
    (subst (GatewayAt gateway (settings_in server) (setup_in server).first) (sym events) (next (settings_in server) (setup_in server).first (events_in server) at)))
