use Rattle.std.proofs.Common.{◌||◌, ap, ◌∙◌}
use Rattle.endpoint_membership.{specs.Parts.{is_renewal_in}, proofs.RenewedTogether.{undone}}
use Rattle.endpoint_membership.proofs.parts.renew.stage.Goals as goal

pub returns-in-Ok-clause-ok : goal.returns-in-Ok-clause-ok
returns-in-Ok-clause-ok c renewal = c.in-Ok.ensures.ok renewal ∙ ap (λ old. is_renewal_in c.args.memberships.now renewal || old) (c.requires renewal)

pub returns-in-Err-clause-err : goal.returns-in-Err-clause-err
returns-in-Err-clause-err c =
    undone c.args.filters.now c.args.memberships.now c.args.renewals.now c.put_renewals.new.renewals c.take_renewals.new.renewals c.requires c.in-Err.ensures.err c.take_renewals.ensures
