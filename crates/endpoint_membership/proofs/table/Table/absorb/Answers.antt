use Rattle.std.proofs.Common.{[], ◌∷◌, ◌++◌, sym, subst}
use Rattle.endpoint_membership.specs.{Table.{Holds}, declared.change.Change.{Change}}
use Rattle.endpoint_membership.proofs.table.Table.absorb.Goals as goal

pub returns-in-Clear-clause-stands : goal.returns-in-Clear-clause-stands
returns-in-Clear-clause-stands c settings log holds =
    subst (λ (change : Change). Holds settings c.clear.new.self (log ++ change ∷ [])) (sym c.in-Clear.is) (c.clear.ensures.stands settings log holds)

pub returns-in-Mark-clause-stands : goal.returns-in-Mark-clause-stands
returns-in-Mark-clause-stands c settings log holds =
    subst (λ (change : Change). Holds settings c.advance.new.self (log ++ change ∷ [])) (sym c.in-Mark.is) (c.advance.ensures.stands settings log holds)
