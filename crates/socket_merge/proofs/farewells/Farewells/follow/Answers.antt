use Rattle.std.proofs.Common.{ℕ, Bool, cond, Option, None, Some, sym, ap, subst, ◌∙◌}
use Rattle.socket_merge.{specs.Kept.{HasSlot}, proofs.Slots.{slot-is}}
use Rattle.socket_merge.proofs.farewells.Farewells.follow.Goals as goal

pub returns-then-stays-clause-slot : goal.returns-then-stays-clause-slot
returns-then-stays-clause-slot c =
    subst (λ (slot : Option (Option ℕ)). HasSlot c.args.group.now slot c.args.self.now c.fill.new.self)
    (ap (λ (stays : Bool). cond stays (Some c.left_after-left.result) None) (sym c.if-stays.true) ∙ slot-is _ _ _ _ _ _ _ _ _ c.stays.ensures c.left_after-left.ensures c.wants.ensures c.left.ensures) c.fill.ensures.filled

pub returns-clause-slot : goal.returns-clause-slot
returns-clause-slot c =
    subst (λ (slot : Option (Option ℕ)). HasSlot c.args.group.now slot c.args.self.now c.remove.new.self)
    (ap (λ (stays : Bool). cond stays (Some c.left_after-left.result) None) (sym c.if-stays.false) ∙ slot-is _ _ _ _ _ _ _ _ _ c.stays.ensures c.left_after-left.ensures c.wants.ensures c.left.ensures) c.remove.ensures.gone
