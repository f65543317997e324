use Rattle.std.{proofs.{Common.{ℕ, false, is_some, List, Option, subst, rules}, lemmas.Map.Keys.{IsDistinct-from_sorted}}, specs.Map.{keys_of}}
use Rattle.amt_values.specs.{declared.address.Ip.{Ip}, Order.{ip_order}}
use Rattle.source_filter.proofs.Compared.{compared}
use Rattle.socket_merge.{specs.Kept.{AreMade, left_after, slot_left, some_wants}, proofs.Slots.{ordered_by, retained}}
use Rattle.socket_merge.proofs.farewells.Farewells.leave_all.Goals as goal

pub returns-clause-left : goal.returns-clause-left
returns-clause-left c =
    subst (λ (slots : List (Ip × Option ℕ)). AreMade (slot_left c.args.named.now c.args.moment) slots c.retain.new.self.entries) c.self.view_is
    (retained _ (λ (group : Ip) (left : Option ℕ). left_after false (some_wants group c.args.named.now) c.args.moment left) (λ (group : Ip) (left : Option ℕ). is_some (left_after false (some_wants group c.args.named.now) c.args.moment left)) _
    (λ k v b w g t. search rules) c.self.inside.slots.entries c.retain.new.self.entries c.retain.ensures.filtered
    (IsDistinct-from_sorted ip_order (keys_of c.self.inside.slots.entries) (ordered_by _ compared c.self.inside.slots c.self.inside.slots c.retain.ensures.was_ordered)))

pub returns-clause-ordered : goal.returns-clause-ordered
returns-clause-ordered c = ordered_by _ compared c.self.inside.slots c.retain.new.self c.retain.ensures.ordered
