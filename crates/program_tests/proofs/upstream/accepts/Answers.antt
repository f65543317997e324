use Rattle.std.proofs.Common.{[], ◌∷◌, ◌++◌, sym, subst}
use Rattle.endpoint_membership.specs.{Table.{Holds}, declared.change.Change.{Change}}
use Rattle.program_tests.proofs.upstream.accepts.Goals as goal

pub returns-in-Ok-clause-stands : goal.returns-in-Ok-clause-stands
returns-in-Ok-clause-stands c _ settings log holds =
    subst (λ (change : Change). Holds settings c.accept.new.self (log ++ change ∷ [])) (sym c.in-Reported.is) (c.in-Ok.ensures.stands settings log holds)

pub returns-in-Clear-clause-stands : goal.returns-in-Clear-clause-stands
returns-in-Clear-clause-stands c _ settings log holds =
    subst (λ (change : Change). Holds settings c.clear.new.self (log ++ change ∷ [])) (sym c.in-Clear.is) (c.clear.ensures.stands settings log holds)

pub returns-in-Mark-clause-stands : goal.returns-in-Mark-clause-stands
returns-in-Mark-clause-stands c _ settings log holds =
    subst (λ (change : Change). Holds settings c.advance.new.self (log ++ change ∷ [])) (sym c.in-Mark.is) (c.advance.ensures.stands settings log holds)
