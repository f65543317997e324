use Rattle.std.proofs.Common.{[], refl, arith}
use Rattle.control_lines.{specs.Answer.{bad_text}, proofs.Pieces.{IsAnswer-known, bad_short, closing_known}}
use Rattle.control_lines.proofs.answer.short_answers_are_known.Goals as goal

pub returns-clause-bad : goal.returns-clause-bad
returns-clause-bad c = λ reason datagrams. IsAnswer-known (bad_text reason) datagrams (bad_short reason) refl

pub returns-clause-none : goal.returns-clause-none
returns-clause-none c = λ datagrams. IsAnswer-known [] datagrams (omega arith) closing_known
