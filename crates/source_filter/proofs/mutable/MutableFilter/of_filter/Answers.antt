use Rattle.std.proofs.Common.{List, ap, ◌∙◌}
use Rattle.amt_values.specs.{declared.address.Ip.{Ip}, Order.{ip_order}, Ascending.{union}}
use Rattle.source_filter.{specs.declared.mode.Mode.{Mode}, proofs.SourceSets.{listing, ascending_listed}}
use Rattle.source_filter.proofs.mutable.MutableFilter.of_filter.Goals as goal

pub returns : goal.returns
returns c =
    let filter = c.args.filter.now in
    let held = c.in_ok-insert_all.ensures.listed ∙ ap (λ (old : List Ip). union ip_order old c.sources.result.now) c.new-sources.ensures.empty in
    ap (listing c.mode.result) held ∙ ascending_listed c.mode.result c.sources.result.now filter.sources c.sources.ensures.listed c.sources.ensures.ascending
    ∙ ap (λ (mode : Mode). listing mode filter.sources) c.mode.ensures
