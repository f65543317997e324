-- What a replicator sends for a packet (RFC 7450, section 5.3.3.2).
use Rattle.std.specs.Prelude.{ℕ, List}
use Rattle.amt_values.specs.{Endpoint.{peer_of}, EndpointValue.{EndpointValue}, declared.peer.Peer.{Peer}}
use Rattle.endpoint_membership.specs.{Table.{TableSettings}, declared.change.Change.{Change}}
use Rattle.relay_machine.specs.{EventAnswer.{packet_answer}, Packets.{head_to_copy, targets_at}, declared.sends.OneSend.{OneSend}}

-- what a relay of this log sends for the packet at the moment, or at the log's latest one if that is later
abbrev pub copies_by : TableSettings → ℕ → List Change → ℕ → List ℕ → List OneSend
copies_by settings limit log moment packet = (packet_answer (targets_at settings log moment) packet (head_to_copy limit packet)).sends

-- a datagram and the peer to which it goes
abbrev pub to_peer : OneSend → Peer × List ℕ
to_peer send = (peer_of send.to, send.bytes)

-- the message as a datagram to the endpoint
abbrev pub with_message : List ℕ → EndpointValue → Peer × List ℕ
with_message message endpoint = (peer_of endpoint, message)
