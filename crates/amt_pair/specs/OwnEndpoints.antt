-- Peers whose endpoint is that of no other peer.
use Rattle.std.specs.Prelude.{◌≡◌, Some}
use Rattle.amt_values.specs.{Endpoint.{endpoint_of, peer_of}, EndpointValue.{EndpointValue}, declared.peer.Peer.{Peer}}

-- the endpoint of the peer, if it has one, names the peer
abbrev pub HasOwnEndpoint : Peer → Type 0
HasOwnEndpoint peer = (endpoint : EndpointValue) → endpoint_of peer ≡ Some endpoint → peer_of endpoint ≡ peer
