use Rattle.std.specs.List.{All}
use Rattle.amt_ports.specs.Arrivals.{IsShortFeedAnswer}
use Rattle.replay_cases.proofs.devices.arrivals.feed_answers.Given as goal

abbrev pub invariant-loop-line : goal.invariant-loop-line
invariant-loop-line l = All IsShortFeedAnswer l.answers.items
