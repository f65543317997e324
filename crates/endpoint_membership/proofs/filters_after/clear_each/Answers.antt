use Rattle.std.proofs.{Common.{◌++◌, ◌∷◌, [], None, Some, Option, List, if◌then◌else◌, take, sym, ap, ◌∙◌}, lemmas.List.{take_more}}
use Rattle.source_filter.specs.Filter.{FilterValue}
use Rattle.endpoint_membership.{specs.{EndpointGroup.{EndpointGroup, same_endpoint_group}, FiltersAfter.{cleared_at, left_at}}, proofs.SetAt.{one_more_set}}
use Rattle.endpoint_membership.proofs.filters_after.clear_each.Goals as goal

pub loop-at-preserved : goal.loop-at-preserved
loop-at-preserved c at =
    let k = c.loop-at.at-index in
    let pairs = c.args.pairs.now in
    let key = c.at-item.result in
    let before = left_at c.args.filters.now at in
    let more = take_more pairs k key c.loop-at-test.true ∙ ap (λ (next : EndpointGroup). take k pairs ++ next ∷ []) (sym c.at-item.is) in
    c.in_ok-set_left.ensures at ∙ ap (λ (left : Option (Option FilterValue)). if same_endpoint_group key at then Some None else left) (c.loop-at.invariant at)
    ∙ one_more_set (take k pairs) key at (Some None) before ∙ ap (λ (done : List EndpointGroup). cleared_at done at before) (sym more)
