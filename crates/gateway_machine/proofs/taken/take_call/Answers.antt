use Rattle.std.proofs.Common.{◌≡◌, Bool, List, Option, Some, None, sym}
use Rattle.std.specs.Prelude.{IfSome}
use Rattle.socket_merge.specs.{History.{AcceptedCall, SocketCall, with_call}, Refusal.{refusal_of}, Sockets.{SocketsHold, SocketsValue}}
use Rattle.gateway_machine.{specs.{Answers.{accepted_answer, call_in, is_opening}, Taken.{IsReply, IsTakenCall}, declared.{exchange.Exchange.{Exchange}, reply.Reply.{Reply}, settings.GatewaySettings.{GatewaySettings}}}, proofs.Lawful.{accepted-lawful}}
use Rattle.gateway_machine.proofs.taken.take_call.Goals as goal

-- the reply to an accepted call, if there is a call, with the sockets after it
taken_call : (settings : GatewaySettings) (exchange : Exchange) (sockets after : SocketsValue) (history : List AcceptedCall) (called : Option SocketCall) (opening : Bool) (reply : Reply)
    → IfSome called (λ call. opening ≡ is_opening call)
    → IfSome called (λ call. (refusal_of exchange.moment call history ≡ None) × SocketsHold after (with_call exchange.moment call history))
    → ((call : SocketCall) → SocketsHold after (with_call exchange.moment call history) → IsReply (accepted_answer exchange.state opening settings exchange history (with_call exchange.moment call history)) reply)
    → IfSome called (λ call. IsTakenCall settings exchange sockets history call (reply, Some after))
taken_call settings exchange sockets after history None opening reply opens accepted replies = tt
taken_call settings exchange sockets after history (Some call) opening reply opens accepted replies =
    let heeded = accepted-lawful (λ mac nonce. Unit {0}) (λ packet. Unit {0}) (λ left. ⊥) settings None exchange.state opening exchange history (with_call exchange.moment call history) in
    rw (accepted.0, sym opens) (record { reply = replies call accepted.1; sockets = accepted.1; refused = λ refused. absurd (heeded.refused refused) })

pub returns : goal.returns
returns c history held =
    let here = c.args.here.now in
    taken_call here.settings here.exchange here.sockets.now c.in-Ok.after history (call_in c.args.event.now) c.is_opening.result c.in_ok-reply.reply
    c.is_opening.ensures (c.in-Ok.ensures.answers history held) (c.in_ok-reply.ensures history held)
