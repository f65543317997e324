use Rattle.std.{proofs.{Common.{None, cond, sym, ap, ◌∙◌}, lemmas.Map.Steps.{set_value_same}}, specs.{BTreeMap.{is_at}, Map.{lookup}}}
use Rattle.amt_values.specs.Order.{endpoint_order}
use Rattle.endpoint_membership.{specs.EndpointGroup.{same_endpoint}, proofs.CountedParts.{HasNumber-last, HasNumber-none}}
use Rattle.endpoint_membership.proofs.parts.change.count_less.Goals as goal

pub returns-in_default : goal.returns-in_default
returns-in_default c = rw c.get_mut.follows.holds-at-none (HasNumber-none c.args.counts.now c.args.endpoint.now (sym c.in_default.ensures.value))

pub returns : goal.returns
returns c =
    let counts = c.args.counts.now in
    let endpoint = c.args.endpoint.now in
    let kept = (c.get_mut.follows.holds c.in-Some.count.now).0 ∙ set_value_same (is_at (endpoint_order endpoint)) counts.entries c.in-Some.count.now (sym c.in-Some.ensures.value) in
    HasNumber-last counts c.remove.new.self endpoint c.in-Some.count.now (sym c.in-Some.ensures.value) c.if-count-gt1.false
    (λ other. c.remove.ensures.updates.0 other ∙ ap (λ entries. cond (same_endpoint endpoint other) None (lookup (is_at (endpoint_order other)) entries)) kept)
