-- How a step follows the table of answers by whatever history its sockets stand for.
use Rattle.std.specs.Prelude.{◌≡◌, ◌⊎◌, List, Option, Some, None, Result, Ok, Err, IfOk, map, unwrap_or}
use Rattle.socket_merge.specs.{History.{AcceptedCall, SocketCall, with_call}, Refusal.{refusal_of}, Sockets.{ForHistory, SocketsHold, SocketsValue}, declared.fault.SocketFault.{SocketFault, TheVariants.{Memory}}}
use Rattle.gateway_machine.specs.{declared.{exchange.Exchange.{Exchange}, event.GatewayEvent.{GatewayEvent}, reply.Reply.{Reply}, settings.GatewaySettings.{GatewaySettings}}, Answers.{Answer, call_answer, event_answer, history_after, history_by}, Outcomes.{IsRefused}, Sends.{datagram_of}}

-- the reply is this answer
pub record IsReply (answer : Answer) (reply : Reply) : Type 0 where
  pub outcome : reply.outcome ≡ answer.outcome
  pub sends : reply.sends.datagrams ≡ map datagram_of answer.sends
  pub deliver : reply.deliver ≡ answer.deliver
  pub next : reply.next ≡ answer.next

-- the reply, if there is one, is the answer by each history that the sockets stand for
abbrev pub Replies : {E : Type 0} → SocketsValue → Result Reply E → (List AcceptedCall → Answer) → Type 0
Replies sockets result answer = ForHistory sockets (λ history. IfOk result (IsReply (answer history)))

-- sockets come of a call that nothing refuses, and stand for the history with it; a fault is why the call is
-- refused, or memory ran out
abbrev pub AnswersCall : Exchange → List AcceptedCall → SocketCall → Result SocketsValue SocketFault → Type 0
AnswersCall exchange history call (Ok after) =
    (refusal_of exchange.moment call history ≡ None) × SocketsHold after (with_call exchange.moment call history)
AnswersCall exchange history call (Err fault) = (refusal_of exchange.moment call history ≡ Some fault) ⊎ (fault ≡ Memory)

-- the reply is this answer, and the sockets after it, others than before or the same, stand for the history
-- after it; what is refused brings no others
pub record IsTakenAs (answer : Answer) (before : SocketsValue) (after : List AcceptedCall) (taken : Reply × Option SocketsValue) : Type 0 where
  pub reply : IsReply answer taken.0
  pub sockets : SocketsHold (unwrap_or taken.1 before) after
  pub refused : IsRefused answer.outcome → taken.1 ≡ None

-- what is to be taken is the answer to a socket call
abbrev pub IsTakenCall : GatewaySettings → Exchange → SocketsValue → List AcceptedCall → SocketCall → Reply × Option SocketsValue → Type 0
IsTakenCall settings exchange sockets history call taken =
    IsTakenAs (call_answer settings exchange history call) sockets (history_by (Some call) exchange history) taken

-- what is to be taken is the answer to an event
abbrev pub IsTaken : GatewaySettings → Exchange → SocketsValue → List AcceptedCall → GatewayEvent → Reply × Option SocketsValue → Type 0
IsTaken settings exchange sockets history event taken =
    IsTakenAs (event_answer settings exchange history event) sockets (history_after exchange history event) taken
