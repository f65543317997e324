use Rattle.std.{proofs.Common.{ℕ, List, Option, Some, Ok, Err, sym, ap, subst, ◌∙◌}, specs.Prelude.{OnErr, Result}}
use Rattle.amt_values.specs.declared.address.Ip.{Ip}
use Rattle.source_filter.proofs.Compared.{compared}
use Rattle.socket_merge.{specs.Kept.{HasSlot, slot_at}, proofs.Slots.{HasSlot-updates, ordered_by, slot_at-get}}
use Rattle.socket_merge.proofs.farewells.Farewells.put.Goals as goal

pub returns-clause-put : goal.returns-clause-put
returns-clause-put c =
    subst (λ (slots : List (Ip × Option ℕ)). HasSlot c.args.group (Some c.args.left) slots c.insert.new.self.entries) c.self.view_is
    (HasSlot-updates _ compared c.self.inside.slots c.insert.new.self c.args.group (Some c.args.left) c.in_ok-insert.ensures.updates.0)

pub returns-clause-ordered : goal.returns-clause-ordered
returns-clause-ordered c = ordered_by _ compared c.self.inside.slots c.insert.new.self c.insert.ensures.ordered

on_err : {A E : Type 0} (result : Result A E) (P : Type 0) → P → OnErr result P
on_err (Ok value) P is = tt
on_err (Err fault) P is = is

pub returns-in_err-insert-clause-new : goal.returns-in_err-insert-clause-new
returns-in_err-insert-clause-new c =
    on_err c.from_residual.result _
    (ap (λ (slots : List (Ip × Option ℕ)). slot_at slots c.args.group) (sym c.self.view_is)
    ∙ sym (slot_at-get _ compared c.self.inside.slots c.self.inside.slots c.args.group) ∙ c.in_err-insert.ensures.absent)

pub returns-in_err-insert-clause-ordered : goal.returns-in_err-insert-clause-ordered
returns-in_err-insert-clause-ordered c = ordered_by _ compared c.self.inside.slots c.insert.new.self c.insert.ensures.ordered
