use Rattle.std.proofs.Common.{rules}
use Rattle.control_lines.specs.AskingGateways.{IsForAsking}
use Rattle.gateway_serving.proofs.Apart.{calls_dont_ask}
use Rattle.gateway_serving.proofs.reading.read_line.Goals as goal

pub returns-in-Err-clause-is : goal.returns-in-Err-clause-is
returns-in-Err-clause-is c =
    let asks : IsForAsking c.args.line.now = search (rules) in record {
      no_call = λ event is. calls_dont_ask _ event c.args.line.now is asks;
      no_asking = λ asking is. cc (c.in-Err.ensures.only asking is);
      of_asking = λ _. c.in-Err.ensures.reason;
      of_call = λ not. absurd (not asks);
    }
