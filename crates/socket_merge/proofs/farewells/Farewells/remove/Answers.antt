use Rattle.std.proofs.Common.{ℕ, List, Option, None, subst}
use Rattle.amt_values.specs.declared.address.Ip.{Ip}
use Rattle.source_filter.proofs.Compared.{compared}
use Rattle.socket_merge.{specs.Kept.{HasSlot}, proofs.Slots.{HasSlot-updates, ordered_by}}
use Rattle.socket_merge.proofs.farewells.Farewells.remove.Goals as goal

pub returns-clause-gone : goal.returns-clause-gone
returns-clause-gone c =
    subst (λ (slots : List (Ip × Option ℕ)). HasSlot c.args.group.now None slots c.remove.new.self.entries) c.self.view_is
    (HasSlot-updates _ compared c.self.inside.slots c.remove.new.self c.args.group.now None c.remove.ensures.updates.0)

pub returns-clause-ordered : goal.returns-clause-ordered
returns-clause-ordered c = ordered_by _ compared c.self.inside.slots c.remove.new.self c.remove.ensures.ordered
