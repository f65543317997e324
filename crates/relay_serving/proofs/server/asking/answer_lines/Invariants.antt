-- Each line so far was answered.
use Rattle.std.proofs.Common.{◌≡◌, ◌+◌, length}
use Rattle.relay_serving.{specs.Controls.{control_at}, proofs.Askings.{IsAsking}}
use Rattle.relay_serving.proofs.server.asking.answer_lines.Given as goal

abbrev pub invariant-loop : goal.invariant-loop
invariant-loop g l = record {
  asking : IsAsking (λ refused. g.A.Replies.texts l.held (l.fn.starved + refused)) (control_at g.K.Link g.N.Copies l.initial.control) (control_at g.K.Link g.N.Copies l.control) l.counter l.lines;
  room : length l.buf ≡ length l.initial.buf;
}
