-- What is printed names the value, and is the one text that the rule allows.
use Rattle.std.proofs.Common.{◌≡◌, ℕ, ◌↔◌, List, refl, ap, ◌∙◌}
use Rattle.amt_values.{specs.{declared.{address.Ip.{Ip, TheVariants.{V4, V6}}, peer.Peer.{Peer}}, Segments.{address_segments}, Text.{ip_text, peer_text, with_port, IsPrintedIp, IsPrintedPeer}}, proofs.{Printed.{canonical_exactly}, Segments.{AllSegments-address_segments}}}

pub printed_ip : (ip : Ip) (text : List ℕ) → IsPrintedIp ip text ↔ (text ≡ ip_text ip)
printed_ip (V4 number) text = (λ same. same, λ same. same)
printed_ip (V6 number) text = canonical_exactly (address_segments number) (AllSegments-address_segments number) text

pub printed_peer : (peer : Peer) (text : List ℕ) → IsPrintedPeer peer text ↔ (text ≡ peer_text peer)
printed_peer peer text = (
  λ h. h.spelled ∙ ap (λ (address : List ℕ). with_port peer.ip address peer.port) ((printed_ip peer.ip h.address).0 h.printed),
  λ same. record { address = ip_text peer.ip; printed = (printed_ip peer.ip (ip_text peer.ip)).1 refl; spelled = same },
)
