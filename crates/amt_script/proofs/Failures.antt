-- The first reason why the fields of a datagram or a packet fail.
use Rattle.std.proofs.Common.{◌≡◌, ℕ, ◌⊎◌, List, [], ◌∷◌, inl, inr, refl, sym, subst}
use Rattle.amt_values.specs.{declared.peer.Peer.{Peer}, Text.{IsPeerText}, Conditions.{First}}
use Rattle.amt_script.specs.{declared.kind.Kind.TheVariants.{Datagram, Packet}, Fault.{FailsAs, order_of_values}}
use Rattle.script_lines.specs.declared.reason.Reason.TheVariants as reasons
use Rattle.script_lines.specs.Form.{IsHexText}

neither : ⊥ ⊎ (⊥ ⊎ ⊥) → ⊥
neither (inl h) = h
neither (inr (inl h)) = h
neither (inr (inr h)) = h

hex_first : (peer hex : List ℕ) → ((bytes : List ℕ) → IsHexText bytes hex → ⊥)
    → First (FailsAs Datagram (peer ∷ hex ∷ [])) order_of_values reasons.Hex
hex_first peer hex none = inr (λ other. other refl, inr (neither, inl (inr (inl none), refl)))

hex_read : (bytes hex : List ℕ) → IsHexText bytes hex → ⊥ ⊎ (((octets : List ℕ) → IsHexText octets hex → ⊥) ⊎ ⊥) → ⊥
hex_read bytes hex spelled (inl h) = h
hex_read bytes hex spelled (inr (inl none)) = none bytes spelled
hex_read bytes hex spelled (inr (inr h)) = h

peer_first : (peer hex bytes : List ℕ) → IsHexText bytes hex → ((from : Peer) → IsPeerText from peer → ⊥)
    → First (FailsAs Datagram (peer ∷ hex ∷ [])) order_of_values reasons.Peer
peer_first peer hex bytes spelled none =
    inr (λ other. other refl, inr (neither, inr (hex_read bytes hex spelled, inr (neither, inl (inl none, refl)))))

pub bad_hex : (values : List (List ℕ)) (peer hex : List ℕ) → values ≡ peer ∷ hex ∷ [] → ((bytes : List ℕ) → IsHexText bytes hex → ⊥)
    → First (FailsAs Datagram values) order_of_values reasons.Hex
bad_hex values peer hex parts none =
    subst (λ (vs : List (List ℕ)). First (FailsAs Datagram vs) order_of_values reasons.Hex) (sym parts) (hex_first peer hex none)

pub bad_peer : (values : List (List ℕ)) (peer hex bytes : List ℕ) → values ≡ peer ∷ hex ∷ [] → IsHexText bytes hex
    → ((from : Peer) → IsPeerText from peer → ⊥) → First (FailsAs Datagram values) order_of_values reasons.Peer
bad_peer values peer hex bytes parts spelled none =
    subst (λ (vs : List (List ℕ)). First (FailsAs Datagram vs) order_of_values reasons.Peer) (sym parts) (peer_first peer hex bytes spelled none)

neither_one : ⊥ ⊎ ⊥ → ⊥
neither_one (inl h) = h
neither_one (inr h) = h

octets_first : (hex : List ℕ) → ((bytes : List ℕ) → IsHexText bytes hex → ⊥) → First (FailsAs Packet (hex ∷ [])) order_of_values reasons.Hex
octets_first hex none = inr (λ other. other refl, inr (neither_one, inl (inl none, refl)))

pub bad_octets : (values : List (List ℕ)) (hex : List ℕ) → values ≡ hex ∷ [] → ((bytes : List ℕ) → IsHexText bytes hex → ⊥)
    → First (FailsAs Packet values) order_of_values reasons.Hex
bad_octets values hex parts none =
    subst (λ (vs : List (List ℕ)). First (FailsAs Packet vs) order_of_values reasons.Hex) (sym parts) (octets_first hex none)
