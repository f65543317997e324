use Rattle.std.proofs.Common.{◌≡◌, List, refl, sym, ap, ◌∙◌, inl}
use Rattle.socket_merge.specs.{declared.stored.Socket.{Socket}, Changes.{IsOneCallAfter}, History.{Change, Close, Open, SocketCall, sockets_after}, Sockets.{SocketsHold, SocketsValue}}
use Rattle.gateway_machine.{specs.Settings.{family_of}, proofs.{CallRefusals.{close-accepted, close-refused, leave_all-accepted}, OwnSockets.{filter-of_socket}}}
use Rattle.gateway_machine.proofs.calls.make_call.Goals as goal

-- a call that is made on a copy of the sockets
one_call : (call : SocketCall) (before copy : SocketsValue) (after : List Socket) → copy ≡ before → after ≡ sockets_after call copy.sockets → IsOneCallAfter before.sockets after
one_call call before copy after same made = record { call = call; made = made ∙ ap (λ (value : SocketsValue). sockets_after call value.sockets) same }

pub returns-in-Ok-open-clause-one_call : goal.returns-in-Ok-open-clause-one_call
returns-in-Ok-open-clause-one_call c = one_call (Open _ _ _) c.args.here.now.sockets.now c.in-Ok.after _ c.in-Ok.ensures c.in-Ok-open.ensures.sockets

pub change-requires-clause-family : goal.change-requires-clause-family
change-requires-clause-family c =
    let here = c.args.here.now in
    let event = rw c.in-Change.is at c.requires in
    rw c.in-Ok.ensures (filter-of_socket (family_of here.settings) c.as_slice-in-Change.result.now here.sockets.now.sockets c.in-Change.filter here.of_settings event.family)

pub returns-in-Ok-change-clause-one_call : goal.returns-in-Ok-change-clause-one_call
returns-in-Ok-change-clause-one_call c = one_call (Change _ _) c.args.here.now.sockets.now c.in-Ok.after _ c.in-Ok.ensures c.in-Ok-change.ensures.sockets

pub returns-in-Ok-close-clause-answers : goal.returns-in-Ok-close-clause-answers
returns-in-Ok-close-clause-answers c history held =
    let copied : SocketsHold c.in-Ok.after history = rw c.in-Ok.ensures held in
    rw (c.in-Close.is, sym c.as_slice-in-Close.ensures) (close-accepted _ _ history (c.in-Ok-close.ensures.refused history copied).1, c.in-Ok-close.ensures.stands history copied)

pub returns-in-Ok-close-clause-one_call : goal.returns-in-Ok-close-clause-one_call
returns-in-Ok-close-clause-one_call c = one_call (Close _) c.args.here.now.sockets.now c.in-Ok.after _ c.in-Ok.ensures c.in-Ok-close.ensures.sockets

pub returns-in-Err-close-clause-answers : goal.returns-in-Err-close-clause-answers
returns-in-Err-close-clause-answers c history held =
    rw (c.in-Close.is, sym c.as_slice-in-Close.ensures) (inl (close-refused _ _ history ((c.in-Err-close.ensures.refused history (rw c.in-Ok.ensures held)).0 refl)))

pub returns-in-LeaveAll-clause-answers : goal.returns-in-LeaveAll-clause-answers
returns-in-LeaveAll-clause-answers c history held =
    rw c.in-LeaveAll.is (leave_all-accepted _ history, c.leave_all.ensures.stands history (rw c.in-Ok.ensures held))
