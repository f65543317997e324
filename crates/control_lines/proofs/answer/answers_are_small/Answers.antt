use Rattle.control_lines.proofs.Pieces.{IsAnswer-small}
use Rattle.control_lines.proofs.answer.answers_are_small.Goals as goal

pub returns : goal.returns
returns c = IsAnswer-small
