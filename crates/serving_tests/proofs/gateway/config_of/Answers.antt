use Rattle.gateway_serving.proofs.Lawful.{lawful_config}
use Rattle.serving_tests.proofs.gateway.config_of.Goals as goal

pub returns : goal.returns
returns g c = lawful_config _ _ c.in-Ok.ensures.found
