use Rattle.std.{proofs.Common.{subst, ◌∙◌}, specs.List.Sorted.{IsBinarySearchResult}}
use Rattle.amt_values.proofs.{Orders.{ip_order-total}, Sorting.{has-searched}}
use Rattle.source_filter.proofs.Compared.{compared}
use Rattle.source_filter.proofs.ips.is_among.Goals as goal

pub returns : goal.returns
returns c =
    let found = subst (λ order. IsBinarySearchResult (λ y. order y c.args.address.now) c.args.ascending.now c.binary_search.result) compared c.binary_search.ensures.position in
    c.is_ok.ensures.value ∙ has-searched ip_order-total c.args.ascending.now c.args.address.now c.binary_search.result c.requires c.binary_search.ensures.bound found
