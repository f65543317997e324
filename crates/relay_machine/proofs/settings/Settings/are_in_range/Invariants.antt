use Rattle.std.{proofs.Common.{take}, specs.List.{All}}
use Rattle.relay_machine.specs.Settings.{IsInKeyRange, number_at}
use Rattle.relay_machine.proofs.settings.Settings.are_in_range.Given as goal

abbrev pub invariant-loop-key : goal.invariant-loop-key
invariant-loop-key l = All (λ key. IsInKeyRange key (number_at l.self key)) (take l.key-index l.key-items)
