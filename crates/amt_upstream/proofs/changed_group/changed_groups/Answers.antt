use Rattle.std.proofs.{Common.{List, IsSorted, subst, sym, ap, ◌∙◌}, lemmas.List.Sorted.{IsPermutation-refl}}
use Rattle.amt_values.{specs.{declared.address.Ip.{Ip}, Order.{ip_order}, Ascending.{ascending}}, proofs.{Orders.{ip_order-exact, ip_order-total}, Sorting.{ascending-sorted}}}
use Rattle.source_filter.proofs.Compared.{tied}
use Rattle.amt_upstream.proofs.ChangesInOrder.{IsSorted-groups}
use Rattle.amt_upstream.proofs.changed_group.changed_groups.Goals as goal

pub returns : goal.returns
returns c =
    let listed = c.in_ok-groups.ensures in
    let sorted = subst (λ (items : List Ip). IsSorted ip_order items) (sym listed) (IsSorted-groups c.args.changes.now c.requires) in
    ascending-sorted ip_order-total tied ip_order-exact _ _ _ (IsPermutation-refl c.in_ok-groups.groups.items) sorted c.dedup.ensures.filtered ∙ ap (ascending ip_order) listed
