-- The first reason why the fields of a line fail.
use Rattle.std.proofs.Common.{◌≡◌, ℕ, ◌⊎◌, ◌↔◌, List, [], ◌∷◌, None, Some, Option, Bool, IsTrue, true, false, not, is_some, IfSome, IfNone, inl, inr, refl, sym, subst}
use Rattle.amt_values.specs.{Conditions.{First}, declared.peer.Peer.{Peer}, Text.{IsPeerText}}
use Rattle.group_records.specs.declared.family.Family.{Family}
use Rattle.script_lines.specs.declared.reason.Reason.TheVariants as reasons
use Rattle.script_lines.specs.{Form.{Fails, Form, IsFamilyText, IsHexText, a_family, a_peer}, Shape.{FailsIn, SomeFails}}
use Rattle.gateway_script.specs.{declared.kind.{Key.{Key}, LineKind.TheVariants.{Datagram, Set}}, Fault.{FailsAs, order_of_values}, Reading.{order_with_word}, Row.{fixed, form_of_key}}

neither : ⊥ ⊎ (⊥ ⊎ ⊥) → ⊥
neither (inl h) = h
neither (inr (inl h)) = h
neither (inr (inr h)) = h

hex_first : (family : Option Family) (peer hex : List ℕ) → ((bytes : List ℕ) → IsHexText bytes hex → ⊥)
    → First (FailsAs family Datagram (peer ∷ hex ∷ [])) order_of_values reasons.Hex
hex_first family peer hex none = inr (λ other. other refl, inr (neither, inl (inr (inl none), refl)))

hex_read : (bytes hex : List ℕ) → IsHexText bytes hex → ⊥ ⊎ (((octets : List ℕ) → IsHexText octets hex → ⊥) ⊎ ⊥) → ⊥
hex_read bytes hex spelled (inl h) = h
hex_read bytes hex spelled (inr (inl none)) = none bytes spelled
hex_read bytes hex spelled (inr (inr h)) = h

peer_first : (family : Option Family) (peer hex bytes : List ℕ) → IsHexText bytes hex → ((from : Peer) → IsPeerText from peer → ⊥)
    → First (FailsAs family Datagram (peer ∷ hex ∷ [])) order_of_values reasons.Peer
peer_first family peer hex bytes spelled none =
    inr (λ other. other refl, inr (neither, inr (hex_read bytes hex spelled, inr (neither, inl (inl none, refl)))))

pub bad_hex : (family : Option Family) (values : List (List ℕ)) (peer hex : List ℕ) → values ≡ peer ∷ hex ∷ [] → ((bytes : List ℕ) → IsHexText bytes hex → ⊥)
    → First (FailsAs family Datagram values) order_of_values reasons.Hex
bad_hex family values peer hex parts none =
    subst (λ (vs : List (List ℕ)). First (FailsAs family Datagram vs) order_of_values reasons.Hex) (sym parts) (hex_first family peer hex none)

pub bad_peer : (family : Option Family) (values : List (List ℕ)) (peer hex bytes : List ℕ) → values ≡ peer ∷ hex ∷ [] → IsHexText bytes hex
    → ((from : Peer) → IsPeerText from peer → ⊥) → First (FailsAs family Datagram values) order_of_values reasons.Peer
bad_peer family values peer hex bytes parts spelled none =
    subst (λ (vs : List (List ℕ)). First (FailsAs family Datagram vs) order_of_values reasons.Peer) (sym parts) (peer_first family peer hex bytes spelled none)

neither_one : ⊥ ⊎ ⊥ → ⊥
neither_one (inl h) = h
neither_one (inr h) = h

only_peer : (text : List ℕ) → ((peer : Peer) → IsPeerText peer text → ⊥) → First (FailsIn (fixed (a_peer ∷ [])) (text ∷ [])) order_with_word reasons.Peer
only_peer text none =
    inr (neither_one, inr (λ other. other refl, inr (neither_one, inr (neither_one, inr (neither_one, inl (inl none, refl))))))

-- the one field of a setting that is a peer isn't one
pub bad_setting_peer : (family : Option Family) (key : Key) (text : List ℕ) → form_of_key key ≡ a_peer → ((peer : Peer) → IsPeerText peer text → ⊥)
    → First (FailsAs family (Set key) (text ∷ [])) order_with_word reasons.Peer
bad_setting_peer family key text form none =
    subst (λ (f : Form). First (FailsIn (fixed (f ∷ [])) (text ∷ [])) order_with_word reasons.Peer) (sym form) (only_peer text none)

family_word : (text : List ℕ) (rest : List (List ℕ)) → SomeFails (a_family ∷ []) None (text ∷ rest) reasons.Word → Fails a_family text reasons.Word
family_word text rest (inl here) = here
family_word text [] (inr later) = absurd later
family_word text (next ∷ rest) (inr later) = absurd later

told_family : (text : List ℕ) (rest : List (List ℕ)) (read : Option Family) (none : Bool) → is_some read ≡ not none
    → IfSome read (λ family. IsFamilyText family text) → IfNone read (Fails a_family text reasons.Word)
    → IsTrue none ↔ SomeFails (a_family ∷ []) None (text ∷ rest) reasons.Word
told_family text rest None true same found fails = (λ t. inl fails, λ h. refl)
told_family text rest None false same found fails = cc same
told_family text rest (Some family) true same found fails = cc same
told_family text rest (Some family) false same found fails = (λ t. cc t, λ h. absurd (family_word text rest h family found))

-- the first field is no family where none was read of it
pub bad_family : (values : List (List ℕ)) (text : List ℕ) (rest : List (List ℕ)) (read : Option Family) (none : Bool) → values ≡ text ∷ rest → is_some read ≡ not none
    → IfSome read (λ family. IsFamilyText family text) → IfNone read (Fails a_family text reasons.Word)
    → IsTrue none ↔ SomeFails (a_family ∷ []) None values reasons.Word
bad_family values text rest read none parts same found fails =
    subst (λ (vs : List (List ℕ)). IsTrue none ↔ SomeFails (a_family ∷ []) None vs reasons.Word) (sym parts) (told_family text rest read none same found fails)
