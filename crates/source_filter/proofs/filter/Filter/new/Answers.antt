use Rattle.std.proofs.Common.{ap, ◌∙◌}
use Rattle.source_filter.{specs.{Filter.{ascending_sources}, Record.{lists}}, proofs.FilterAfter.{lists-ascending}}
use Rattle.source_filter.proofs.filter.Filter.new.Goals as goal

pub returns-clause-listed : goal.returns-clause-listed
returns-clause-listed c = λ source. ap (λ sources. lists sources source) (c.ascending_ips-sources.ensures.value ∙ ap ascending_sources c.in_ok-from_slice.ensures.items) ∙ lists-ascending c.args.sources.now source
