-- A tunnel endpoint is that of one peer.
use Rattle.std.proofs.{Common.{◌≡◌, ℕ, Bool, true, false, Some, None, if◌then◌else◌, refl, sym, ap, ◌∙◌}, Math.Nat.{div-eq_of_lt, mod-eq_of_lt}}
use Rattle.amt_values.specs.{declared.{address.Ip.{Ip, TheVariants.{V4, V6}}, peer.Peer.{Peer}}, Address.{IsAddress, address_of, has_ipv4_prefix, number_of}, Endpoint.{endpoint_of, peer_of}, EndpointValue.{EndpointValue}}

-- the number of an address in no prefix names that address
address_again : (ip : Ip) → IsAddress ip → has_ipv4_prefix ip ≡ false → address_of (number_of ip) ≡ ip
address_again (V4 number) small apart =
    let high = div-eq_of_lt small in
    let low = mod-eq_of_lt small in
    rw (high, low) refl
address_again (V6 number) small apart = rw apart refl

abbrev peer_at : Ip → ℕ → Peer
peer_at ip port = record { ip = ip; port = port }

abbrev tunnel_of : Peer → ℕ → EndpointValue
tunnel_of peer address = record { address = address; port = peer.port }

-- a peer in no prefix has this endpoint
pub endpoint_is : (peer : Peer) (address : ℕ) → has_ipv4_prefix peer.ip ≡ false → address ≡ number_of peer.ip → endpoint_of peer ≡ Some (tunnel_of peer address)
endpoint_is peer address apart same = rw apart (ap (λ (number : ℕ). Some (tunnel_of peer number)) (sym same))

peer_again_by : (prefixed : Bool) (peer : Peer) (tunnel : EndpointValue) → IsAddress peer.ip → has_ipv4_prefix peer.ip ≡ prefixed
    → (if prefixed then None else Some (tunnel_of peer (number_of peer.ip))) ≡ Some tunnel → peer_of tunnel ≡ peer
peer_again_by true peer tunnel small is same = cc
peer_again_by false peer tunnel small is same =
    let is_tunnel : tunnel_of peer (number_of peer.ip) ≡ tunnel = cc in
    sym (ap peer_of is_tunnel) ∙ ap (λ (ip : Ip). peer_at ip peer.port) (address_again peer.ip small is)

-- the peer of an endpoint is the one that it is of
pub peer_again : (peer : Peer) (tunnel : EndpointValue) → IsAddress peer.ip → endpoint_of peer ≡ Some tunnel → peer_of tunnel ≡ peer
peer_again peer tunnel small same = peer_again_by (has_ipv4_prefix peer.ip) peer tunnel small refl same

-- two peers of one endpoint are one
pub one_peer : (one other : Peer) (tunnel : EndpointValue) → IsAddress one.ip → IsAddress other.ip → endpoint_of one ≡ Some tunnel → endpoint_of other ≡ Some tunnel → other ≡ one
one_peer one other tunnel small other_small same other_same =
    sym (peer_again other tunnel other_small other_same) ∙ peer_again one tunnel small same
