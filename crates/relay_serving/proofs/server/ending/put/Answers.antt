use Rattle.relay_serving.proofs.Ending.{of_ok}
use Rattle.relay_serving.proofs.server.ending.put.Goals as goal

pub returns-clause-put : goal.returns-clause-put
returns-clause-put c = of_ok c.push.result (c.push.ensures.fits c.requires.room) c.push.ensures.ok
