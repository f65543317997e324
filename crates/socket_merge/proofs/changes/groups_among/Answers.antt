use Rattle.std.proofs.{Common.{rules, ◌≡◌, ◌++◌, List, filter, map, subst, sym, ap, ◌∙◌, IsSorted}, lemmas.{Fn.{filter_same}, List.{map-append}}}
use Rattle.amt_values.{specs.{declared.address.Ip.{Ip}, Order.{ip_order}, Ascending.{ascending}}, proofs.{Orders.{ip_order-exact, ip_order-total}, Sorting.{ascending-sorted}}}
use Rattle.source_filter.proofs.Compared.{compared, tied}
use Rattle.group_records.specs.Written.{is_of_family}
use Rattle.socket_merge.proofs.ByGroup.{group_of}
use Rattle.socket_merge.proofs.changes.groups_among.Goals as goal

pub returns : goal.returns
returns c =
    let before = c.args.before.now in
    let after = c.args.after.now in
    let sorted = subst (λ order. IsSorted order c.sort_unstable.new.self.items) compared c.sort_unstable.ensures.sorted in
    let listed : c.append_groups-2.new.groups.items ≡ map group_of (before ++ after) =
    c.in_ok-append_groups-2.ensures
    ∙ ap (λ (items : List Ip). items ++ map group_of after) (c.in_ok-append_groups.ensures ∙ ap (λ (items : List Ip). items ++ map group_of before) c.new-groups.ensures.items)
    ∙ sym (map-append group_of before after) in
    filter_same _ _ _ (λ x b f' k. search rules) _ _ c.retain.ensures.filtered
    ∙ ap (filter (is_of_family c.args.family))
    (ascending-sorted ip_order-total tied ip_order-exact _ _ _ c.sort_unstable.ensures.permutation sorted c.dedup.ensures.filtered ∙ ap (ascending ip_order) listed)
