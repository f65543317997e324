use Rattle.std.proofs.Common.{◌≡◌, subst, sym, ◌∙◌, IsSorted}
use Rattle.amt_values.{specs.{Order.{ip_order}, Ascending.{IsAscending, ascending}}, proofs.{Orders.{ip_order-total, ip_order-exact}, AscendingLaws.{IsAscending-ascending}, Sorting.{ascending-sorted}}}
use Rattle.source_filter.proofs.Compared.{compared, tied}
use Rattle.source_filter.proofs.ips.ascending_ips.Goals as goal

pub returns : goal.returns
returns c =
    let items = c.sort_unstable.new.self.items in
    let sorted = subst (λ order. IsSorted order items) compared c.sort_unstable.ensures.sorted in
    let value : c.from.result ≡ ascending ip_order c.args.addresses.items =
    c.from.ensures
    ∙ ascending-sorted ip_order-total tied ip_order-exact _ _ _ c.sort_unstable.ensures.permutation sorted c.dedup.ensures.filtered in
    record {
      value = value;
      ascending = subst (IsAscending ip_order) (sym value) (IsAscending-ascending ip_order-total c.args.addresses.items);
    }
