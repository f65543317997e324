use Rattle.std.specs.List.{All}
use Rattle.amt_ports.specs.Arrivals.{IsShortFeedAnswer}
use Rattle.serving_tests.proofs.devices.feed_answers.Given as goal

abbrev pub invariant-loop-one : goal.invariant-loop-one
invariant-loop-one l = All IsShortFeedAnswer l.answers.items
