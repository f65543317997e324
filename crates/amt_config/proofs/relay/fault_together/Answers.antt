use Rattle.std.proofs.Common.{inl, inr, refl, sym, subst}
use Rattle.relay_machine.specs.{declared.number_key.NumberKey.TheVariants.{Endpoints, Groups, Sources}, Settings.{AreLawfulSettings}}
use Rattle.amt_config.proofs.RelayLaws.{not_carried, too_many}
use Rattle.amt_config.proofs.relay.fault_together.Goals as goal

pub allows_too_many-requires-clause-endpoints : goal.allows_too_many-requires-clause-endpoints
allows_too_many-requires-clause-endpoints c = (c.requires Endpoints).most

pub allows_too_many-requires-clause-groups : goal.allows_too_many-requires-clause-groups
allows_too_many-requires-clause-groups c = (c.requires Groups).most

pub allows_too_many-requires-clause-sources : goal.allows_too_many-requires-clause-sources
allows_too_many-requires-clause-sources c = (c.requires Sources).most

pub returns-then-not-has_code-clause-found : goal.returns-then-not-has_code-clause-found
returns-then-not-has_code-clause-found c =
    inr (
      too_many c.args.config.now (c.if-allows_too_many.ensures.within refl),
      inl (λ code. let told = c.has_code.ensures.1 code in let not_told = c.if-not-has_code.true in cc (told, not_told), refl),
    )

pub returns-then-not-lawful-clause-found : goal.returns-then-not-lawful-clause-found
returns-then-not-lawful-clause-found c =
    let coded = c.if-not-has_code.ensures.0 refl in
    inr (
      too_many c.args.config.now (c.if-allows_too_many.ensures.within refl),
      inr (
        λ no_code. no_code coded,
        inl (
          not_carried c.args.config.now c.requires (c.if-allows_too_many.ensures.within refl) coded
              (λ lawful.
              let told = c.lawful.ensures.1 (subst AreLawfulSettings (sym c.settings.ensures) lawful) in
              let not_told = c.if-not-lawful.true in
              cc (told, not_told)),
          refl,
        ),
      ),
    )
