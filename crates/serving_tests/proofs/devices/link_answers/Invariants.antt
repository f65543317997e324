use Rattle.std.specs.List.{All}
use Rattle.amt_ports.specs.Arrivals.{IsShortAnswer}
use Rattle.serving_tests.proofs.devices.link_answers.Given as goal

abbrev pub invariant-loop-one : goal.invariant-loop-one
invariant-loop-one l = All IsShortAnswer l.answers.items
