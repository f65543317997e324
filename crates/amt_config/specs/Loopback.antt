-- Addresses of the loopback, and peers that have to be on it.
use Rattle.std.specs.Prelude.{◌≡◌, ◌/◌, ◌^◌, ◌==◌, ◌||◌, ℕ, Bool, true, false, List}
use Rattle.amt_values.specs.{declared.{address.Ip.{Ip, TheVariants.{V4, V6}}, peer.Peer.{Peer}}, Text.{IsPeerText}}

-- 127.0.0.0/8 (RFC 1122, section 3.2.1.3), and ::1 (RFC 4291, section 2.5.3); no IPv4 address within IPv6
abbrev pub is_loopback : Ip → Bool
is_loopback (V4 number) = number / 2 ^ 24 == 127
is_loopback (V6 number) = number == 1

-- a guarded peer may have the address: one of the loopback, or any where it may be anywhere
abbrev pub may_be_at : Bool → Ip → Bool
may_be_at anywhere ip = anywhere || is_loopback ip

-- the text names the peer, which has such an address
abbrev pub IsGuardedText : Bool → Peer → List ℕ → Type 0
IsGuardedText anywhere peer text = IsPeerText peer text × (may_be_at anywhere peer.ip ≡ true)

-- the text names a peer that has no such address
abbrev pub IsAwayText : Bool → List ℕ → Type 0
IsAwayText anywhere text = (peer : Peer) × IsPeerText peer text × (may_be_at anywhere peer.ip ≡ false)
