use Rattle.std.proofs.{Common.{rules, ap, ◌∙◌}, lemmas.Fn.{filter_same}}
use Rattle.relay_machine.specs.Updates.{forwardable_records}
use Rattle.relay_machine.proofs.report.forwardable_records.Goals as goal

pub returns : goal.returns
returns c = c.from.ensures ∙ filter_same _ _ _ (λ x b f' k. search rules) _ _ c.retain.ensures.filtered ∙ ap forwardable_records c.into_vec-kept.ensures
