use Rattle.std.proofs.Common.{rules, sym, ◌∙◌}
use Rattle.amt_values.specs.Octets.{AreOctets}
use Rattle.group_records.proofs.LoopSteps.{wrong_sum-none, wrong_sum-some}
use Rattle.group_records.proofs.report.sum_fault.Goals as goal

pub returns-then-internet_sum_around-eq0 : goal.returns-then-internet_sum_around-eq0
returns-then-internet_sum_around-eq0 c =
    let pseudo_small : AreOctets c.args.pseudo_header.now = search rules in
    let small : AreOctets c.args.payload.now = search rules in
    sym (wrong_sum-none c.args.pseudo_header.now c.args.payload.now c.requires.pseudo_header_even pseudo_small small (sym c.internet_sum_around.ensures ∙ c.if-internet_sum_around-eq0.true))

pub returns : goal.returns
returns c =
    let pseudo_small : AreOctets c.args.pseudo_header.now = search rules in
    let small : AreOctets c.args.payload.now = search rules in
    let wrong = wrong_sum-some c.args.pseudo_header.now c.args.payload.now c.requires.pseudo_header_even pseudo_small small (λ zero_sum. c.if-internet_sum_around-eq0.false (c.internet_sum_around.ensures ∙ zero_sum)) in
    rw wrong (search rules)
