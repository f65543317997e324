-- Which outcomes change nothing, and which events need no memory.
use Rattle.amt_messages.specs.Refusal.{TakesMemory, message_of}
use Rattle.gateway_machine.specs.declared.{event.GatewayEvent.{GatewayEvent, TheVariants.{Moment, Nonce, Datagram}}, outcome.GatewayOutcome.{GatewayOutcome, TheVariants.{Quiet, Idle, SocketRefused, Ignored}}}

-- a socket call was refused, or a datagram ignored
abbrev pub IsRefused : GatewayOutcome → Type 0
IsRefused (SocketRefused refusal) = Unit {0}
IsRefused (Ignored cause) = Unit {0}
IsRefused outcome = ⊥

-- nothing was due, or nothing is wanted any more
abbrev pub IsAtRest : GatewayOutcome → Type 0
IsAtRest Quiet = Unit {0}
IsAtRest Idle = Unit {0}
IsAtRest outcome = ⊥

-- the event needs no memory where it comes to this: a moment at which nothing is sent, a nonce, and a datagram
-- that is ignored, unless it is a message of which octets are copied before it is judged
abbrev pub NeedsNoMemory : GatewayEvent → GatewayOutcome → Type 0
NeedsNoMemory (Moment at) outcome = IsAtRest outcome
NeedsNoMemory (Nonce nonce) outcome = Unit {0}
NeedsNoMemory (Datagram from bytes) outcome = IsRefused outcome × (¬ TakesMemory (message_of bytes))
NeedsNoMemory event outcome = ⊥
