use Rattle.std.proofs.Common.{Err, ap}
use Rattle.amt_words.specs.declared.command.WordsFault.{WordsFault}
use Rattle.amt_command.proofs.Commands.{starved}
use Rattle.amt_command.proofs.top.run.Goals as goal

pub returns-in-Err-Usage-clause-of_command : goal.returns-in-Err-Usage-clause-of_command
returns-in-Err-Usage-clause-of_command g c = λ command line.
    absurd (c.in-Err-Usage.ensures.usage (ap (λ (fault : WordsFault). Err fault) c.in-Err-Usage.field-0-is) command line)

pub returns-in-Err-Usage-clause-serves : goal.returns-in-Err-Usage-clause-serves
returns-in-Err-Usage-clause-serves g c = λ command line.
    absurd (c.in-Err-Usage.ensures.usage (ap (λ (fault : WordsFault). Err fault) c.in-Err-Usage.field-0-is) command line)

pub returns-in-Err-Memory-clause-serves : goal.returns-in-Err-Memory-clause-serves
returns-in-Err-Memory-clause-serves g c = λ command line. starved _ _ _ _ _ _ _ command
