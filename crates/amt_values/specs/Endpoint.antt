-- Which endpoint a peer or a message names.
use Rattle.std.specs.Prelude.{ℕ, ◌%◌, ◌^◌, Option, Some, None, if◌then◌else◌}
use Rattle.amt_values.specs.{declared.peer.Peer.{Peer}, Address.{is_mapped, has_ipv4_prefix, number_of, address_of}, EndpointValue.{EndpointValue}}

-- the endpoint of a datagram's source
abbrev pub endpoint_of : Peer → Option EndpointValue
endpoint_of peer =
    if has_ipv4_prefix peer.ip then None
    else Some (record { address = number_of peer.ip; port = peer.port })

-- the endpoint that a message names, in its one form
abbrev pub endpoint_named : ℕ → ℕ → EndpointValue
endpoint_named address port =
    record { address = if is_mapped address then address % 2 ^ 32 else address; port = port }

-- where datagrams for the endpoint go
abbrev pub peer_of : EndpointValue → Peer
peer_of tunnel = record { ip = address_of tunnel.address; port = tunnel.port }
