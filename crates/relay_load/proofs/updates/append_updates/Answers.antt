use Rattle.std.proofs.{Common.{ℕ, ◌∙◌, sym, ap}, lemmas.List.{append-nil}}
use Rattle.relay_load.{specs.{Generator.{number_after}, Updates.{update_at}}, proofs.{Draws.{four_more}, Items.{next_update, pushed, pushed_sized, same_update}}}
use Rattle.relay_load.proofs.updates.append_updates.Goals as goal

pub loop-before-init : goal.loop-before-init
unfolding number_after
loop-before-init c = record { number = c.from.ensures; updates = sym (append-nil c.args.items.now); sized = λ settings start. start }

pub loop-before-preserved : goal.loop-before-preserved
loop-before-preserved c =
    let seed = c.args.seed in
    let before = c.loop-before.before in
    let number = c.loop-before.generator.number in
    let choice = c.draw_choice-choice.ensures in
    let update =
    c.in_ok-event.ensures.event
    ∙ (same_update _ _ _ _ number _ choice.port choice.nonce choice.group choice.excludes
    ∙ next_update seed before number c.loop-before.invariant.number) in
    record {
      number = choice.number ∙ (ap (λ (n : ℕ). number_after n 4) c.loop-before.invariant.number ∙ sym (four_more seed before));
      updates = pushed (update_at seed) _ _ _ before _ c.loop-before.invariant.updates update c.in_ok-push.ensures.ok;
      sized = λ settings. pushed_sized settings _ _ _ _ (c.loop-before.invariant.sized settings) (c.in_ok-event.ensures.sized settings) c.in_ok-push.ensures.ok;
    }
