use Rattle.std.{proofs.{Common.{◌≡◌, ◌≤◌, IfNone, IfSome, ◌∙◌, arith}, lemmas.{List.Elements.{All-map, All-push}, Map.Iter.{iter_end}}}, specs.Map.Iter.{deref_pair}}
use Rattle.amt_values.specs.EndpointValue.{EndpointValue}
use Rattle.amt_upstream.{specs.{Counting.{number}, declared.count_key.Counted.TheVariants.{Excluder}}, proofs.{ExcluderRange.{excluder_told, excluders_between, no_excluder}, KeyOrder.{keys_compared}}}
use Rattle.amt_upstream.proofs.tally.Tally.excluder.Goals.{After-endpoint_of}
use Rattle.amt_upstream.proofs.tally.Tally.excluder.Goals as goal

pub loop-key-preserved : goal.loop-key-preserved
loop-key-preserved c = All-push (λ item. item.1.now ≡ 0) c.loop-key.yielded (c.in-Some.key, c.in-Some.number) c.loop-key.invariant (omega arith)

told : (c : After-endpoint_of) → IfSome c.endpoint_of.result (λ endpoint. 1 ≤ number c.args.self.now.numbers (record { group = c.args.group.now; counted = Excluder endpoint }))
    × IfNone c.endpoint_of.result ((endpoint : EndpointValue) → number c.args.self.now.numbers (record { group = c.args.group.now; counted = Excluder endpoint }) ≡ 0)
told c =
    excluder_told _ c.args.group.now c.named.result c.args.self.now.numbers _ _ _ _ _ _ (c.in-Some.key, c.in-Some.number) c.endpoint_of.result keys_compared c.named.ensures
    (c.range-key-items.ensures.in_range tt) c.into_iter-key-iterator.ensures.into_iter_gives c.loop-key.yielded_by c.in-Some.is c.next.ensures.steps c.if-number-gt0.true c.endpoint_of.ensures

pub returns-then-number-gt0-clause-some : goal.returns-then-number-gt0-clause-some
returns-then-number-gt0-clause-some c = (told c).0

pub returns-then-number-gt0-clause-none : goal.returns-then-number-gt0-clause-none
returns-then-number-gt0-clause-none c = (told c).1

pub returns-clause-none : goal.returns-clause-none
returns-clause-none c =
    no_excluder c.args.self.now.numbers c.args.group.now _
    ((iter_end deref_pair c.range-key-items.result c.loop-key.yielded _ _ _ _ c.into_iter-key-iterator.ensures.into_iter_gives c.loop-key.yielded_by c.in-None.is c.next.ensures.steps).0
    ∙ c.range-key-items.ensures.between tt ∙ excluders_between _ c.args.group.now c.named.result c.args.self.now.numbers keys_compared c.named.ensures) (All-map (λ entry. entry.1 ≡ 0) deref_pair c.loop-key.yielded c.loop-key.invariant)
