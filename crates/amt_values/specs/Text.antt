-- Addresses and peers as text.
use Rattle.std.specs.{Prelude.{◌≡◌, ℕ, ◌<◌, ◌^◌, List, ◌++◌, codes, decimal}, Int.{w32, to_be_bytes}, Net.Text.{ipv4_text, hex_groups_text}}
use Rattle.amt_values.specs.{declared.{address.Ip.{Ip, TheVariants.{V4, V6}}, peer.Peer.{Peer}}, Canonical.{IsCanonicalText}, Segments.{address_segments, IsV6Text}}

-- four decimal numbers with dots between them
abbrev pub v4_text : ℕ → List ℕ
v4_text number = ipv4_text (to_be_bytes w32 number)

-- groups of hexadecimal digits in lower case, the longest run of zero groups as `::`, and never a
-- dotted tail (RFC 5952, section 4)
abbrev pub v6_text : ℕ → List ℕ
v6_text number = hex_groups_text (address_segments number)

-- the text of an address of either family
abbrev pub ip_text : Ip → List ℕ
ip_text (V4 number) = v4_text number
ip_text (V6 number) = v6_text number

-- the text is the one in which the address is printed; of IPv6, by the rule itself
abbrev pub IsPrintedIp : Ip → List ℕ → Type 0
IsPrintedIp (V4 number) text = text ≡ v4_text number
IsPrintedIp (V6 number) text = IsCanonicalText (address_segments number) text

-- the text names the address
abbrev pub IsIpText : Ip → List ℕ → Type 0
IsIpText (V4 number) text = (number < 2 ^ 32) × (text ≡ v4_text number)
IsIpText (V6 number) text = (number < 2 ^ 128) × IsV6Text number text

-- ADDRESS:PORT for IPv4, and [ADDRESS]:PORT for IPv6 (RFC 5952, section 6)
abbrev pub with_port : Ip → List ℕ → ℕ → List ℕ
with_port (V4 number) address port = address ++ (codes ":" ++ decimal port)
with_port (V6 number) address port = codes "[" ++ (address ++ (codes "]:" ++ decimal port))

-- an address and a port; an IPv6 address stands in brackets (RFC 5952, section 6)
abbrev pub address_and_port : Ip → ℕ → List ℕ
address_and_port ip port = with_port ip (ip_text ip) port

-- the text of a peer
abbrev pub peer_text : Peer → List ℕ
peer_text peer = address_and_port peer.ip peer.port

-- the text is the one in which the peer is printed
pub record IsPrintedPeer (peer : Peer) (text : List ℕ) : Type 0 where
  pub address : List ℕ
  pub printed : IsPrintedIp peer.ip address
  pub spelled : text ≡ with_port peer.ip address peer.port

-- the text names the peer: a text of its address, and a decimal port without leading zeros
pub record IsPeerText (peer : Peer) (text : List ℕ) : Type 0 where
  pub address : List ℕ
  pub names : IsIpText peer.ip address
  pub port : peer.port < 2 ^ 16
  pub spelled : text ≡ with_port peer.ip address peer.port
