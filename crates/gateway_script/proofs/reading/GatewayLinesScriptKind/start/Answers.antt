use Rattle.gateway_script.proofs.Lawful.{gateway_kind_lawful}
use Rattle.gateway_script.proofs.reading.GatewayLinesScriptKind.start.Goals as goal

pub returns-clause-lawful : goal.returns-clause-lawful
returns-clause-lawful c = gateway_kind_lawful
