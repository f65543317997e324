use Rattle.std.proofs.Common.{◌∙◌}
use Rattle.gateway_machine.proofs.GeneralQueries.{general_query-carried, general_query-inner}
use Rattle.gateway_machine.proofs.general.read_general.Goals as goal

pub returns-in-Err-clause-value : goal.returns-in-Err-clause-value
returns-in-Err-clause-value c = general_query-inner c.args.v6 c.args.inner.now c.in-Err.fault c.in-Err.ensures.refused

pub returns-clause-value : goal.returns-clause-value
returns-clause-value c =
    c.carried_query.ensures.value
    ∙ general_query-carried c.args.v6 c.args.inner.now _ c.in-Ok.place c.in-Ok.ensures.refused c.in-Ok.ensures.value c.in-Ok.ensures.start c.split_at.ensures.back
