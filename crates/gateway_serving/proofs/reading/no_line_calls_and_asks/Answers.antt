use Rattle.gateway_serving.proofs.Apart.{asks_begin, calls_dont_ask}
use Rattle.gateway_serving.proofs.reading.no_line_calls_and_asks.Goals as goal

pub returns : goal.returns
returns c = λ family event asking octets is asks. calls_dont_ask family event octets is (asks_begin asking octets asks)
