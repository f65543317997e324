use Rattle.std.proofs.Common.{◌≡◌, false}
use Rattle.gateway_machine.specs.Runs.{settings_of}
use Rattle.program_tests.proofs.gateway.goes_through.Given as goal

abbrev pub invariant-loop-given : goal.invariant-loop-given
invariant-loop-given g l = (settings_of l.gateway).v6 ≡ false
