-- The status that a process ends with.
use Rattle.std.specs.Prelude.{ℕ}
use Rattle.amt_command.specs.declared.exit.Exit.{Exit}

-- the status with which it ends the process
abbrev pub status_in : Exit → ℕ
status_in end = end.status
