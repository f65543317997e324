use Rattle.std.proofs.Common.{[], ℕ, sym, subst}
use Rattle.replication_workers.{specs.{Backs.{IsBack}, Replicators.{out_of, view_of}, Workers.{HasHandled}}, proofs.{Backs.{back_itself}, Handling.{has_handled_none}}}
use Rattle.replication_workers.proofs.dispatcher.inline_slot.InlineSlot.new.Goals as goal

pub invariant_of-result-clause-has_handled : goal.invariant_of-result-clause-has_handled
invariant_of-result-clause-has_handled g c =
    let own = c.args.replicator in
    subst (λ (sums : ℕ × ℕ). ∥ HasHandled c.of-first.result.value [] (out_of own) (view_of own) sums.0 sums.1 ∥₁) (λ i. (sym c.none.ensures.1 i, sym c.none.ensures.2 i))
    (subst (λ first. ∥ HasHandled first [] (out_of own) (view_of own) 0 0 ∥₁) (sym c.of-first.ensures) ∣ has_handled_none own ∣₁)

pub invariant_of-result-clause-idle : goal.invariant_of-result-clause-idle
invariant_of-result-clause-idle g c = λ none.
    let own = c.args.replicator in
    subst (λ first. IsBack first (out_of own) (view_of own)) (sym c.of-first.ensures) (back_itself own)
