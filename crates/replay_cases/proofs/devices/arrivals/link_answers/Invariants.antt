use Rattle.std.specs.List.{All}
use Rattle.amt_ports.specs.Arrivals.{IsShortAnswer}
use Rattle.replay_cases.proofs.devices.arrivals.link_answers.Given as goal

abbrev pub invariant-loop-line : goal.invariant-loop-line
invariant-loop-line l = All IsShortAnswer l.answers.items
