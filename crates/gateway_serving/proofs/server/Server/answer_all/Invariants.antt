-- Those so far were answered.
use Rattle.std.proofs.Common.{take}
use Rattle.amt_ports.specs.Devices.{link_at}
use Rattle.gateway_serving.specs.Answering.{AnswersEach, IsUnheard}
use Rattle.gateway_serving.proofs.server.Server.answer_all.Given as goal

abbrev pub invariant-loop-asker : goal.invariant-loop-asker
invariant-loop-asker g l = record {
  answers : AnswersEach l.fn.turns l.initial.self l.self (take l.asker-index l.askers) (link_at g.K.Link l.initial.control) (link_at g.K.Link l.control);
  unheard : IsUnheard (link_at g.K.Link l.initial.control) (link_at g.K.Link l.control) (g.K.Link.longest_wait l.initial.control) (g.K.Link.longest_wait l.control);
}
