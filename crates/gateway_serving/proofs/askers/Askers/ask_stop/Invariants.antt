-- Nobody so far asks for it.
use Rattle.std.{proofs.Common.{◌≡◌, false, take}, specs.List.{list_any}}
use Rattle.gateway_serving.specs.{Askers.{is_stop}, declared.askers.Asker.{Asker}}
use Rattle.gateway_serving.proofs.askers.Askers.ask_stop.Given as goal

abbrev pub invariant-loop-asker : goal.invariant-loop-asker
invariant-loop-asker l = list_any (λ (one : Asker). is_stop one.reading) (take l.asker-index l.asker-items) ≡ false
