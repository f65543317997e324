use Rattle.std.proofs.{Common.{List, [], ◌∷◌, length, sym, ap, subst, ◌∙◌, arith}, Math.Logic.{∥∥₁_map}, lemmas.List.{length-append}}
use Rattle.endpoint_membership.specs.{Table.{Holds}, declared.change.Change.{Change}}
use Rattle.published_table.specs.{Logs.{entries}, Terms.{settings_by}}
use Rattle.published_table.proofs.table_copy.TableCopyAbsorbEntry.absorb_first.Goals as goal

pub invariant_of-self-2 : goal.invariant_of-self-2
invariant_of-self-2 c =
    let copy = c.args.self.now in
    let settings = settings_by copy.terms in
    let log : List Change = entries copy.past in
    let next = c.then.ensures in
    let longer = ap length next ∙ length-append log (c.args.operation.now.change ∷ []) in record {
      stands = ∥∥₁_map copy.stands (λ holds. subst (Holds settings c.absorb.new.self) (sym next) (c.in_ok-absorb.ensures.stands settings log holds));
      counted = omega (arith, longer, copy.counted);
    }
