use Rattle.std.proofs.{Common.{rules, List, not, subst, sym, ap, ◌∙◌}, lemmas.Fn.{filter_same}}
use Rattle.amt_values.{specs.{declared.address.Ip.{Ip}, Order.{ip_order}, Ascending.{IsAscending, difference, has}}, proofs.AscendingLaws.{IsAscending-filter}}
use Rattle.source_filter.proofs.ips.difference.Goals as goal

pub returns-clause-value : goal.returns-clause-value
returns-clause-value c =
    c.from.ensures ∙ filter_same _ _ _ (λ x b f' k. search rules) _ _ c.retain.ensures.filtered
    ∙ ap (λ (items : List Ip). difference ip_order items c.args.others.now) c.in_ok-left.ensures.items

pub returns-clause-ascending : goal.returns-clause-ascending
returns-clause-ascending c =
    let ascends = IsAscending-filter ip_order (λ address. not (has ip_order c.args.others.now address)) c.args.some.now c.requires.ascending in
    subst (IsAscending ip_order) (sym (returns-clause-value c)) ascends
