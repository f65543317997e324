use Rattle.std.{proofs.{Common.{ℕ, List, ◌++◌, map, sym, ap, subst, ◌∙◌}, lemmas.Map.Iter.{rest_so_far}}, specs.{BTreeMap.{IsOrdered, Range.{entries_between}}, Map.Iter.{deref_pair}, declared.{cmp.Ordering.{Ordering}, ops.Bound.TheVariants.{Included, Unbounded}}}}
use Rattle.amt_values.specs.{declared.address.Ip.{Ip}, Order.{ip_order}, Ascending.{has}}
use Rattle.amt_upstream.{specs.declared.count_key.CountKey.{CountKey}, proofs.{GroupRange.{included_found, included_in, included_push, least_included, none_past}, KeyOrder.{keys_compared}}}
use Rattle.amt_upstream.proofs.tally.Tally.included_sources.Goals.{in-None, in-Some+then-not-is_of}
use Rattle.amt_upstream.proofs.tally.Tally.included_sources.Goals as goal

pub loop-key-preserved : goal.loop-key-preserved
loop-key-preserved c =
    c.in_ok-append_included.ensures ∙ included_push c.args.group.now c.loop-key.yielded (c.in-Some.key, c.in-Some.number) c.loop-key.sources.items (sym c.is_of.ensures ∙ c.if-not-is_of.false) c.loop-key.invariant

pub returns : goal.returns
returns c source =
    let group = c.args.group.now in
    let numbers = c.args.self.now.numbers in
    let seen = map deref_pair c.loop-key.yielded in
    let ordered = subst (λ (order : CountKey → CountKey → Ordering). IsOrdered order numbers) keys_compared c.range-key-items.ensures.ordered in
    let walk = sym (c.into_iter-key-iterator.ensures.into_iter_gives ∙ c.range-key-items.ensures.between tt ∙ ap (λ (order : CountKey → CountKey → Ordering). entries_between order (Included (least_included group)) Unbounded numbers.entries) keys_compared)
    ∙ rest_so_far deref_pair c.loop-key.yielded _ _ c.loop-key.yielded_by in
    ap (λ (items : List Ip). has ip_order items source) c.loop-key.invariant ∙ included_found group numbers ordered seen c.loop-key.key-iterator walk
    (elim c.match-next.branch [
      | in-None w ↦ ap (included_in group) w.in-None.ensures.steps.0
      | in-Some+then-not-is_of w ↦ ap (included_in group) w.in-Some.ensures.steps
          ∙ none_past group numbers ordered seen c.next.new.self (w.in-Some.key.now, w.in-Some.number.now) (walk ∙ ap (λ (rest : List (CountKey × ℕ)). seen ++ rest) w.in-Some.ensures.steps) (sym w.is_of.ensures ∙ w.if-not-is_of.true)
    ]) source
