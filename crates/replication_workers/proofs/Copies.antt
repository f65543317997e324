-- What is sent for a packet, by its head and the endpoints that want it.
use Rattle.std.proofs.{Common.{◌≡◌, ℕ, List, map, Result, Ok, sym, ap, ◌∙◌}, lemmas.Simd.{map-map}}
use Rattle.amt_values.specs.EndpointValue.{EndpointValue}
use Rattle.amt_messages.specs.{Layout.{spelling_of}, declared.message.Message.TheVariants.{Multicast}}
use Rattle.inner_datagrams.specs.declared.head.Head.{Head}
use Rattle.endpoint_membership.specs.{Table.{TableSettings}, Targets.{targets_of}, declared.change.Change.{Change}}
use Rattle.relay_machine.specs.{EventAnswer.{packet_answer}, Packets.{head_to_copy, targets_at}, declared.outcome.Outcome.{Outcome}}
use Rattle.replication_workers.specs.Replication.{copies_by, to_peer, with_message}

-- a packet with this head
pub copies_sent : (settings : TableSettings) (limit : ℕ) (log : List Change) (moment : ℕ) (packet : List ℕ) (head : Head) (targets : List EndpointValue) (message : List ℕ) → head_to_copy limit packet ≡ Ok head
    → targets ≡ targets_of settings.lifetime log head.group head.source moment → message ≡ spelling_of (Multicast packet)
    → map (with_message message) targets ≡ map to_peer (copies_by settings limit log moment packet)
copies_sent settings limit log moment packet head targets message found are written =
    (λ i. map (with_message (written i)) (are i))
    ∙ sym (map-map to_peer (λ (endpoint : EndpointValue). record { to = endpoint; bytes = spelling_of (Multicast packet) }) (targets_at settings log moment head))
    ∙ ap (λ (reading : Result Head Outcome). map to_peer (packet_answer (targets_at settings log moment) packet reading).sends) (sym found)
