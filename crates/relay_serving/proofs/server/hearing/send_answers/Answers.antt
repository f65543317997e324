use Rattle.std.proofs.Common.{map, take, refl, ap, subst, ◌∙◌, arith}
use Rattle.amt_ports.specs.Devices.{LinkSeen, link_seen}
use Rattle.replication_workers.specs.Replication.{to_peer}
use Rattle.relay_serving.{specs.{Counting.{HasAnswered}, declared.counts.Counts.{Counts}}, proofs.{AnswerSends.{answered-failed, answered-sent, answers_more}, Answering.{HasAnswered-none}, server.hearing.send_answers.Goals.{in-Ok, in-Err}}}
use Rattle.relay_serving.proofs.server.hearing.send_answers.Goals as goal

pub loop-send-init : goal.loop-send-init
loop-send-init g c =
    let link = c.args.link.now in
    let seen = link_seen (g.L.Link.coming link) (g.L.Link.tried link) (g.L.Link.receive_faults link) (g.L.Link.send_faults link) in
    (record { same_datagrams = refl; same_packets = refl; same_updated = refl; same_torn = refl; same_starved = refl; same_late = refl }, HasAnswered-none seen seen c.args.counts.now refl refl, omega arith, refl, refl, refl)

pub loop-send-preserved : goal.loop-send-preserved
loop-send-preserved g c =
    let link = c.args.link.now in
    let middle = c.loop-send.link in
    let after = c.send.new.self in
    let seen : LinkSeen = link_seen (g.L.Link.coming link) (g.L.Link.tried link) (g.L.Link.receive_faults link) (g.L.Link.send_faults link) in
    let seen_now : LinkSeen = link_seen (g.L.Link.coming middle) (g.L.Link.tried middle) (g.L.Link.receive_faults middle) (g.L.Link.send_faults middle) in
    let seen_after : LinkSeen = link_seen (g.L.Link.coming after) (g.L.Link.tried after) (g.L.Link.receive_faults after) (g.L.Link.send_faults after) in
    let sends = c.args.sends.now in
    let place = c.loop-send.send-index in
    let before = c.loop-send.counts in
    let alike = c.loop-send.invariant.0 in
    let answered = c.loop-send.invariant.1 in
    let all = c.loop-send.invariant.2 in
    let same_coming = c.send.ensures.coming ∙ c.loop-send.invariant.3 in
    let same_faults = c.send.ensures.apart ∙ c.loop-send.invariant.4 in
    let same_waits = c.send.ensures.waits ∙ c.loop-send.invariant.5 in
    let grown = answers_more sends place c.send-item.result c.peer.result c.as_slice.result.now c.loop-send-test.true c.send-item.is c.peer.ensures.value c.as_slice.ensures in
    let counts = c.match-send.counts in
    elim c.match-send.branch [
      | in-Ok w ↦
          let sent = ap (λ (one : Counts). one.sent) w.counts-is in
          let unsent = ap (λ (one : Counts). one.unsent) w.counts-is in (
            record {
              same_datagrams = ap (λ (one : Counts). one.datagrams) w.counts-is ∙ alike.same_datagrams;
              same_packets = ap (λ (one : Counts). one.packets) w.counts-is ∙ alike.same_packets;
              same_updated = ap (λ (one : Counts). one.updated) w.counts-is ∙ alike.same_updated;
              same_torn = ap (λ (one : Counts). one.torn) w.counts-is ∙ alike.same_torn;
              same_starved = ap (λ (one : Counts). one.starved) w.counts-is ∙ alike.same_starved;
              same_late = ap (λ (one : Counts). one.late) w.counts-is ∙ alike.same_late;
            },
            subst (HasAnswered seen seen_after c.args.counts.now counts) grown
                (answered-sent seen seen_now seen_after c.args.counts.now before counts (map to_peer (take place sends)) c.peer.result c.as_slice.result.now c.send.result _ w.in-Ok.is answered
                c.send.ensures.tried c.send.ensures.tells c.send.ensures.cause sent unsent),
            omega (arith, sent, unsent, all),
            same_coming,
            same_faults,
            same_waits,
          )
      | in-Err w ↦
          let sent = ap (λ (one : Counts). one.sent) w.counts-is in
          let unsent = ap (λ (one : Counts). one.unsent) w.counts-is in (
            record {
              same_datagrams = ap (λ (one : Counts). one.datagrams) w.counts-is ∙ alike.same_datagrams;
              same_packets = ap (λ (one : Counts). one.packets) w.counts-is ∙ alike.same_packets;
              same_updated = ap (λ (one : Counts). one.updated) w.counts-is ∙ alike.same_updated;
              same_torn = ap (λ (one : Counts). one.torn) w.counts-is ∙ alike.same_torn;
              same_starved = ap (λ (one : Counts). one.starved) w.counts-is ∙ alike.same_starved;
              same_late = ap (λ (one : Counts). one.late) w.counts-is ∙ alike.same_late;
            },
            subst (HasAnswered seen seen_after c.args.counts.now counts) grown
                (answered-failed seen seen_now seen_after c.args.counts.now before counts (map to_peer (take place sends)) c.peer.result c.as_slice.result.now c.send.result _ w.in-Err.is answered
                c.send.ensures.tried c.send.ensures.cause sent unsent),
            omega (arith, sent, unsent, all),
            same_coming,
            same_faults,
            same_waits,
          )
    ]
