use Rattle.std.{proofs.Common.{◌≡◌, List, ℕ, Ok, subst, sym, ap, ◌∙◌, rules}, specs.Prelude.{IfOk}}
use Rattle.control_lines.specs.declared.asking_gateway.GatewayAsking.TheVariants.{Counts}
use Rattle.gateway_serving.{specs.Replies.{reply_text}, proofs.ShownRuns.{counts_are}}
use Rattle.gateway_serving.proofs.replying.reply.Goals as goal

pub returns-in-Ok-Counts : goal.returns-in-Ok-Counts
returns-in-Ok-Counts c = λ standing are settings first events at same tallied.
    let read : c.args.reading.now ≡ Ok Counts = search rules in
    subst (λ (whole : List ℕ). IfOk c.counts_text.result (λ text. text ≡ whole))
    (counts_are settings first standing c.args.numbers.now c.args.outcomes.now events are same tallied ∙ sym (ap (reply_text settings first standing) read))
    c.counts_text.ensures
