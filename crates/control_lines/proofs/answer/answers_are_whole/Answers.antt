use Rattle.control_lines.proofs.Pieces.{IsAnswer-unique, IsAnswer-whole}
use Rattle.control_lines.proofs.answer.answers_are_whole.Goals as goal

pub returns-clause-whole : goal.returns-clause-whole
returns-clause-whole c = IsAnswer-whole

pub returns-clause-one : goal.returns-clause-one
returns-clause-one c = IsAnswer-unique
