use Rattle.amt_dump.proofs.Lawful.{one_dump}
use Rattle.amt_dump.proofs.dump.dump_lines.Goals as goal

pub returns-in-Err-clause-one_dump : goal.returns-in-Err-clause-one_dump
returns-in-Err-clause-one_dump c = one_dump

pub returns-in-Ok-print_datagrams-clause-one_dump : goal.returns-in-Ok-print_datagrams-clause-one_dump
returns-in-Ok-print_datagrams-clause-one_dump c = one_dump

pub returns-clause-one_dump : goal.returns-clause-one_dump
returns-clause-one_dump c = one_dump
