use Rattle.std.proofs.Common.{List, sym, subst}
use Rattle.socket_merge.{specs.{History.{AcceptedCall, LeaveAll, Socket}, Kept.{IsSound}}, proofs.{Calls.{Does, IsSound-after, does_left, within_limits}, Lawful.{fills_no_more}, Refused.{refusal-all}, sockets.Sockets.leave_all.Goals.{After-clear}}}
use Rattle.socket_merge.proofs.sockets.Sockets.leave_all.Goals as goal

-- what the call does
does : (c : After-clear) → Does c.args.at.now LeaveAll c.args.self.now c.later-self-inside.result c.clear.new.self c.leave_all.new.self
does c =
    subst (λ (sockets : List Socket). Does c.args.at.now LeaveAll c.args.self.now c.later-self-inside.result sockets c.leave_all.new.self) (sym c.clear.ensures)
    (does_left _ c.self.inside.moment _ c.self.inside.named c.self.inside.farewells _ _ c.self.view_is c.self.invariant c.later-self-inside.ensures c.leave_all.ensures.ordered c.leave_all.ensures.left)

sound : (c : After-clear) → IsSound c.later-self-inside.result c.clear.new.self c.leave_all.new.self
sound c =
    IsSound-after c.args.at.now LeaveAll _ _ _ _ _ _ _ c.self.view_is c.self.invariant (does c).stands (does c).back tt (λ history holds. refusal-all c.args.at.now history)

pub invariant_of-self : goal.invariant_of-self
invariant_of-self c = sound c

pub returns : goal.returns
returns c = record {
  sockets = c.clear.ensures;
  stands = (does c).stands;
  shrinks = λ (history : List AcceptedCall) holds. fills_no_more c.args.at.now LeaveAll history tt;
  keeps = (does c).keep;
  fits = within_limits c.later-self-inside.result c.clear.new.self c.leave_all.new.self (sound c);
}
