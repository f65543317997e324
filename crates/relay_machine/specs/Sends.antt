-- What a relay sends.
use Rattle.std.specs.Prelude.{◌≤◌, List, All, length}
use Rattle.relay_machine.specs.declared.sends.OneSend.{OneSend}

-- each datagram has at most so many octets as a UDP payload has in all crates
abbrev pub AreShort : List OneSend → Type 0
AreShort sends = All (λ send. length send.bytes ≤ 65535) sends
