use Rattle.std.proofs.{Common.{[], length, refl, sym, ap, ◌∙◌, append-nil, arith}, Props.{props}, lemmas.{Bool.{false≢true}, List.{length_push}, Result.{err_from_is_err_and}}}
use Rattle.gateway_machine.specs.declared.settings.GatewaySettings.{GatewaySettings}
use Rattle.gateway_serving.{specs.{Servers.{events_in, settings_in, setup_in}, declared.counts.Counts.{Counts}}, proofs.{OutcomeCounts.{IsTallied-few, IsTallied-step}, Stepping.{at_next, by_all, few_sent, step_does}, Traces.{Tallies-none, work_does}, Trying.{HasSent-none}}}
use Rattle.amt_ports.proofs.Told.{AppendsAll-none}
use Rattle.gateway_serving.proofs.server.Server.take.Goals as goal

pub returns-in_err-outcome-clause-none : goal.returns-in_err-outcome-clause-none
returns-in_err-outcome-clause-none g c =
    let p = err_from_is_err_and c.from_residual.result c.from_residual.ensures.1 in
    rw p.1 (λ around. work_does [] [] 0 0 0 0 0 (λ i. record { settings = c.step.ensures.settings i; first = c.args.self.now.first; deliver = c.args.self.now.deliver }) (sym (append-nil _)) refl (HasSent-none refl refl refl refl) (Tallies-none _) (AppendsAll-none _) refl refl refl (omega arith) around)

pub returns-in_err-outcome-clause-needs_none : goal.returns-in_err-outcome-clause-needs_none
returns-in_err-outcome-clause-needs_none g c needs =
    absurd (by_all c.args.self.now c.args.event.now ⊥ (hlevel props) (λ settings first events at nothing. false≢true (c.in_err-outcome.ensures.needs_none settings first events at nothing)) needs)

pub count-requires : goal.count-requires
count-requires g c =
    let server = c.args.self.now in
    record { few = IsTallied-few (settings_in server) (setup_in server).first (events_in server) server.outcomes server.tallied (omega (arith, c.requires.few)) }

pub send_all-requires : goal.send_all-requires
send_all-requires g c =
    let server = c.args.self.now in
    let sent = few_sent server c.args.event.now c.in_ok-outcome.field-0.sends c.in_ok-outcome.ensures.sends in
    let same = ap length c.as_slice.ensures in
    let few = c.requires.few in
    let unsent = server.few_unsent in
    record { room = omega (arith, sent, same, few, unsent) }

pub hand_on-requires : goal.hand_on-requires
hand_on-requires g c =
    let server = c.args.self.now in
    let sent = few_sent server c.args.event.now c.in_ok-outcome.field-0.sends c.in_ok-outcome.ensures.sends in
    let same = ap length c.as_slice.ensures in
    let few = c.requires.few in
    let unsent = server.few_unsent in
    let delivered = server.few_delivered in
    let more = c.send_all.ensures.few in
    let still = ap (λ (counts : Counts). counts.delivered) c.send_all.ensures.others in
    record { room = (omega (arith, sent, same, few, unsent, more), omega (arith, few, delivered, still)) }

pub invariant_of-self-2 : goal.invariant_of-self-2
invariant_of-self-2 g c =
    let server = c.args.self.now in
    let sent = few_sent server c.args.event.now c.in_ok-outcome.field-0.sends c.in_ok-outcome.ensures.sends in
    let same = ap length c.as_slice.ensures in
    let unsent = server.few_unsent in
    let delivered = server.few_delivered in
    let more = c.send_all.ensures.few in
    let still = ap (λ (counts : Counts). counts.delivered) c.send_all.ensures.others in
    let handed = c.hand_on.ensures.few in
    let grown = ap length c.then.ensures in
    let pushed = length_push (events_in server) c.args.event.now in
    record {
      at = at_next server c.step.new.self c.args.event.now c.then.result c.in_ok-outcome.ensures.next c.step.ensures.settings c.then.ensures;
      family = ap (λ (settings : GatewaySettings). settings.v6) c.step.ensures.settings ∙ server.family;
      tallied = IsTallied-step _ _ _ _ _ _ c.args.event.now c.in_ok-outcome.field-0.outcome _ _ server.at c.in_ok-outcome.ensures.outcome c.step.ensures.settings c.then.ensures c.count.ensures server.tallied;
      few_delivered = omega (arith, delivered, still, handed.1, grown, pushed);
      few_unsent = omega (arith, sent, same, unsent, more, handed.0, grown, pushed);
    }

pub returns-clause-takes : goal.returns-clause-takes
returns-clause-takes g c =
    step_does c.args.event.now c.send_all.new.counts c.as_slice.result.now c.in_ok-outcome.field-0.sends c.in_ok-outcome.field-0.deliver c.as_slice.ensures c.in_ok-outcome.ensures.sends c.in_ok-outcome.ensures.deliver
    (λ i. record { settings = c.step.ensures.settings i; first = c.args.self.now.first; deliver = c.args.self.now.deliver }) c.then.ensures refl (c.send_all.ensures.sent _) (c.hand_on.ensures.handed _) c.send_all.ensures.others c.hand_on.ensures.others
    c.send_all.ensures.coming c.send_all.ensures.faults c.send_all.ensures.waits
