use Rattle.std.{proofs.{Common.{sym, subst}, Math.Logic.{∥∥₁_elim}, Props.{props}}, specs.Prelude.{Option}}
use Rattle.published_table.specs.{Logs.{entries}, Terms.{settings_by}, Views.{Fills}, declared.view.reading.Wanted.{Wanted}}
use Rattle.published_table.proofs.view.reading.fill.Goals as goal

pub returns-in-Some : goal.returns-in-Some
returns-in-Some c =
    let copy = c.args.copy.now in
    let log = entries copy.past in
    subst (λ (wanted : Option Wanted). Fills wanted copy.terms log c.args.targets.now c.admitting_into.new.out) (sym c.in-Some.is)
    (c.admitting_into.ensures.room, ∥∥₁_elim copy.stands (hlevel props) (λ holds. c.admitting_into.ensures.targets (settings_by copy.terms) log holds))
