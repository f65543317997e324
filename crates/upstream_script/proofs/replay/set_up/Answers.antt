use Rattle.upstream_script.{specs.Texts.{start_of}, proofs.Runs.{at_start}}
use Rattle.upstream_script.proofs.replay.set_up.Goals as goal

pub returns : goal.returns
returns c = at_start _ (start_of c.args.script.now) c.lifetime_ms.result c.lifetime_ms.ensures c.in_ok-relay.ensures.stands c.in_ok-upstream.ensures
