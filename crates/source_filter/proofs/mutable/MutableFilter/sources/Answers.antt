use Rattle.std.{proofs.{Common.{List, ◌++◌, sym, ap, subst, ◌∙◌, append-nil}, lemmas.Map.Iter.{rest_all}}, specs.Map.Iter.{deref}}
use Rattle.amt_values.specs.{declared.address.Ip.{Ip}, Order.{ip_order}, Ascending.{IsAscending}}
use Rattle.source_filter.specs.Filter.{FilterValue}
use Rattle.source_filter.proofs.mutable.MutableFilter.sources.Goals as goal

pub returns-clause-listed : goal.returns-clause-listed
returns-clause-listed c =
    let listed = c.loop-source.listed.items in
    let done = rest_all deref c.loop-source.source-iterator c.next.new.self c.next.result c.in-None.is c.next.ensures.steps in
    sym (append-nil listed) ∙ ap (λ (rest : List Ip). listed ++ rest) (sym done) ∙ c.loop-source.invariant

pub returns-clause-ascending : goal.returns-clause-ascending
returns-clause-ascending c =
    let listed = c.loop-source.listed.items in
    let done = rest_all deref c.loop-source.source-iterator c.next.new.self c.next.result c.in-None.is c.next.ensures.steps in
    let whole = sym (append-nil listed) ∙ ap (λ (rest : List Ip). listed ++ rest) (sym done) ∙ c.loop-source.invariant ∙ sym (ap (λ (filter : FilterValue). filter.sources) c.self.view_is) in
    subst (IsAscending ip_order) (sym whole) c.self.invariant
