use Rattle.std.proofs.Common.{◌≡◌, ◌++◌, take, flat_map}
use Rattle.gateway_serving.specs.Replies.{socket_text}
use Rattle.gateway_serving.proofs.replying.append_sockets.Given as goal

abbrev pub invariant-loop-socket : goal.invariant-loop-socket
invariant-loop-socket l = l.text ≡ l.initial.text ++ flat_map socket_text (take l.socket-index l.sockets)
