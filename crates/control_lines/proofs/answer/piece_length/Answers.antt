use Rattle.control_lines.proofs.Cutting.{piece_of_all, piece_of_lines}
use Rattle.control_lines.proofs.answer.piece_length.Goals as goal

pub returns-in-Some-clause-length : goal.returns-in-Some-clause-length
returns-in-Some-clause-length c = piece_of_lines c.args.start.now c.in-Some.place c.in-Some.ensures

pub returns-in-None-clause-length : goal.returns-in-None-clause-length
returns-in-None-clause-length c = piece_of_all c.args.start.now c.in-None.ensures
