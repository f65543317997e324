use Rattle.std.proofs.Common.{◌≡◌, ℕ, drop, ap, ◌∙◌}
use Rattle.group_records.{specs.Family.{width}, proofs.LoopSteps.{enough_step, sources_step}}
use Rattle.group_records.proofs.record.read_sources.Goals as goal

pub loop-preserved : goal.loop-preserved
loop-preserved c =
    let left = c.loop.left.now in
    let rest = c.split_at.result.1.now in
    let after : rest ≡ drop (width c.args.family) left = c.split_at.ensures.back ∙ ap (λ (n : ℕ). drop n left) c.width.ensures.value in
    let step = sources_step c.args.family c.args.count c.loop.counter c.loop.sources _ left rest c.loop-test.true after c.loop.invariant.read in
    record {
      enough = enough_step (width c.args.family) c.args.count c.loop.counter left rest c.loop-test.true after c.loop.invariant.enough;
      read = rw (c.in_ok-push.ensures.ok, c.first_address.ensures) step;
    }
