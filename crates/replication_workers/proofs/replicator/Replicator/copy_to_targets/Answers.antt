use Rattle.std.proofs.Common.{ℕ, List, refl, sym, ap, subst, ◌∙◌}
use Rattle.amt_values.specs.declared.peer.Peer.{Peer}
use Rattle.amt_messages.specs.{Layout.{spelling_of}, declared.message.Message.TheVariants.{Multicast}}
use Rattle.endpoint_membership.specs.Targets.{targets_of}
use Rattle.published_table.specs.{Terms.{settings_by}, Views.{seen, terms_of}, declared.view.View.{View}}
use Rattle.amt_ports.specs.Tried.{HasTried}
use Rattle.replication_workers.proofs.Copies.{copies_sent}
use Rattle.replication_workers.proofs.replicator.Replicator.copy_to_targets.Goals as goal

pub returns-clause-sends : goal.returns-clause-sends
returns-clause-sends g c =
    let before = c.args.self.now in
    let after = c.send_to_targets-sent.new.self in
    let found = c.find_targets-prefix in
    let head = c.args.head.now in
    let sent = c.send_to_targets-sent.result in
    let terms = terms_of before.view in
    let are = found.ensures.targets
    ∙ ap (λ (view : View). targets_of terms.lifetime_ms (seen view) head.group head.source c.args.at.now) (sym c.send_to_targets-sent.ensures.view) in
    subst (λ (wanted : List (Peer × List ℕ)). HasTried (g.O.OutLink.tried before.out) (g.O.OutLink.tried after.out) (g.O.OutLink.faults before.out) (g.O.OutLink.faults after.out) wanted sent.sent sent.unsent)
    (copies_sent (settings_by terms) before.packet_limit (seen after.view) c.args.at.now c.args.packet.now head found.new.targets.endpoints (spelling_of (Multicast c.args.packet.now)) c.requires.copied are refl)
    c.send_to_targets-sent.ensures.sends
