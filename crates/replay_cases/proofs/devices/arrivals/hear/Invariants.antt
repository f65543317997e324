use Rattle.std.specs.List.{All}
use Rattle.amt_ports.specs.Arrivals.{IsShortAnswer}
use Rattle.replay_cases.proofs.devices.arrivals.hear.Given as goal

abbrev pub invariant-loop-number : goal.invariant-loop-number
invariant-loop-number l = All IsShortAnswer l.answers.items
