-- Peers that have to be on the loopback.
use Rattle.std.proofs.Common.{◌≡◌, ℕ, Bool, true, false, List, Option, Some, None, inl, inr, refl, sym, subst, ◌∙◌}
use Rattle.std.specs.Option.{option_and_then}
use Rattle.amt_values.{specs.{declared.peer.Peer.{Peer}, Text.{IsPeerText}}, proofs.Unique.{IsPeerText-unique}}
use Rattle.script_lines.specs.Form.{a_peer}
use Rattle.toml.specs.Data.{Data, Members, as_str, get_member}
use Rattle.amt_config.specs.{Key.{FailsBy, HasOptional, IsRight, IsUnfit, RefusesPeer, a_guarded_peer, optional}, Loopback.{IsAwayText, IsGuardedText, may_be_at}, declared.fault.KeyFault.{KeyFault}}
use Rattle.amt_config.proofs.Faults.{right_absent}

pub guarded_unique : (anywhere : Bool) (one other : Peer) (text : List ℕ) → IsGuardedText anywhere one text → IsGuardedText anywhere other text → one ≡ other
guarded_unique anywhere one other text h k = IsPeerText-unique one other text h.0 k.0

pub as_guarded : (word : List ℕ) (anywhere : Bool) (table : Members) (peer : Peer) → HasOptional word table IsPeerText (Some peer) → may_be_at anywhere peer.ip ≡ true
    → HasOptional word table (IsGuardedText anywhere) (Some peer)
as_guarded word anywhere table peer named near = (named.0, named.1, (named.2, near))

-- one that is there is right
near_or_away : (anywhere : Bool) (one other : Peer) → one ≡ other → may_be_at anywhere one.ip ≡ true → may_be_at anywhere other.ip ≡ false → ⊥
near_or_away anywhere one other same near away = let both : true ≡ false = sym (subst (λ (p : Peer). may_be_at anywhere p.ip ≡ true) same near) ∙ away in cc both

fits_text : (anywhere : Bool) (peer : Peer) (r : Option (List ℕ)) (text : List ℕ) (fault : KeyFault) → r ≡ Some text → IsGuardedText anywhere peer text → RefusesPeer anywhere r fault → ⊥
fits_text anywhere peer None text fault is named refused = cc is
fits_text anywhere peer (Some x) text fault is named (inl h) = let same : x ≡ text = cc is in subst (IsUnfit a_peer) same h.0 peer named.0
fits_text anywhere peer (Some x) text fault is named (inr h) =
    let same : x ≡ text = cc is in
    let away = subst (IsAwayText anywhere) same h.0 in
    near_or_away anywhere peer away.0 (IsPeerText-unique peer away.0 text named.0 away.1) named.1 away.2

fits_by : (word : List ℕ) (anywhere : Bool) (peer : Peer) (found : Option Data) (text : List ℕ) (fault : KeyFault) → option_and_then as_str found ≡ Some text
    → IsGuardedText anywhere peer text → FailsBy (optional word (a_guarded_peer anywhere)) found fault → ⊥
fits_by word anywhere peer None text fault is named fails = cc is
fits_by word anywhere peer (Some value) text fault is named fails = fits_text anywhere peer (as_str value) text fault is named fails

pub right_guarded : (word : List ℕ) (anywhere : Bool) (table : Members) (given : Option Peer) → HasOptional word table (IsGuardedText anywhere) given
    → IsRight table (optional word (a_guarded_peer anywhere))
right_guarded word anywhere table None none = right_absent (optional word (a_guarded_peer anywhere)) table refl none
right_guarded word anywhere table (Some peer) named = record { none = λ fault fails. fits_by word anywhere peer (get_member word table) named.0 fault named.1 named.2 fails }
