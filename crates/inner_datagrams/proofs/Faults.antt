-- Bytes have no fault exactly where they are an inner datagram, of either version.
use Rattle.std.proofs.{Common.{◌≡◌, ℕ, ◌≤◌, List, ◌∷◌, ◌++◌, length, Bool, true, false, not, eqb, cond, ◌||◌, None, refl, ap, ◌∙◌, arith}, lemmas.Bool.{eqb-true, ne_eqb}}
use Rattle.amt_values.{specs.{declared.address.Ip.{Ip, TheVariants.{V4, V6}}, Conditions.{Conditions, first_holding}, IpHeader.{ip_version}}, proofs.ConditionLaws.{skipped}}
use Rattle.inner_datagrams.specs.{Inner.{IsInner, IsInner4, IsInner6}, Fault.{first_inner_fault, version_faults, faults4, faults6}, Reading.{HasParts, inner_at, inner4_at, inner6_at, payload_of, payload_start}, declared.inner.Inner.{Inner}}
use Rattle.inner_datagrams.{specs.declared.inner.InnerFault.{InnerFault, TheVariants.{Version, ShortHeader}}, proofs.{Lawful4.{inner4_of_no_fault, no_fault_of_inner4}, Lawful6.{HasWholeHeaders-follows, inner6_of_no_fault, no_fault_of_inner6}, Payloads.{payload_whole}}}

-- these parts are those of an inner datagram
abbrev pub IsInnerAt : Inner → List ℕ → Type 0
IsInnerAt inner bytes = IsInner inner.source inner.destination (payload_of inner.start inner.end bytes) bytes

pub version4 : (version : ℕ) → not (eqb version 4 || eqb version 6) ≡ false → eqb version 6 ≡ false → version ≡ 4
version4 version one not_six = eqb-true version 4 (grind arith)

-- where no condition on the version holds, the first fault is that of the conditions after it
after_version : (bytes : List ℕ) (rest : Conditions InnerFault) → first_holding (version_faults bytes ++ rest) ≡ None
    → (not (eqb (ip_version bytes) 4 || eqb (ip_version bytes) 6) ≡ false) × (first_holding rest ≡ None)
after_version bytes rest none =
    let other = not (eqb (ip_version bytes) 4 || eqb (ip_version bytes) 6) in
    let version = Version (ip_version bytes) in
    let some = skipped (eqb (length bytes) 0) (ShortHeader 20 0) ((other, version) ∷ rest) none in
    skipped other version rest some.1

inner_by_version : (six : Bool) (bytes : List ℕ) → eqb (ip_version bytes) 6 ≡ six
    → first_holding (version_faults bytes ++ cond six (faults6 bytes) (faults4 bytes)) ≡ None
    → IsInnerAt (cond six (inner6_at bytes) (inner4_at bytes)) bytes
inner_by_version true bytes test none = inner6_of_no_fault bytes (eqb-true _ _ test) (after_version bytes (faults6 bytes) none).1
inner_by_version false bytes test none =
    let known = after_version bytes (faults4 bytes) none in
    inner4_of_no_fault bytes (version4 _ known.0 test) known.1

-- bytes with no fault are the inner datagram that stands in them
pub inner_of_no_fault : (bytes : List ℕ) → first_inner_fault bytes ≡ None → IsInnerAt (inner_at bytes) bytes
unfolding first_inner_fault
inner_of_no_fault bytes none = inner_by_version (eqb (ip_version bytes) 6) bytes refl none

no_fault4 : (source destination : ℕ) (payload bytes : List ℕ) → IsInner4 source destination payload bytes → first_inner_fault bytes ≡ None
unfolding first_inner_fault
no_fault4 source destination payload bytes h =
    let some : eqb (length bytes) 0 ≡ false = ne_eqb (length bytes) 0 (λ e. let a = h.least_header in let b = h.whole_header in omega arith) in
    rw (some, h.version) (no_fault_of_inner4 source destination payload bytes h)

no_fault6 : (source destination : ℕ) (payload bytes : List ℕ) → IsInner6 source destination payload bytes → first_inner_fault bytes ≡ None
unfolding first_inner_fault
no_fault6 source destination payload bytes h =
    let some : eqb (length bytes) 0 ≡ false = ne_eqb (length bytes) 0 (λ e. let a = h.whole_header in omega arith) in
    rw (some, h.version) (no_fault_of_inner6 source destination payload bytes h)

-- an inner datagram has no fault, and its parts are at their places
pub record IsLawful (source destination : Ip) (payload bytes : List ℕ) : Type 0 where
  pub none : first_inner_fault bytes ≡ None
  pub within : payload_start bytes ≤ length bytes
  pub parts : HasParts source destination payload bytes (inner_at bytes)

parts4 : (source destination : ℕ) (payload bytes : List ℕ) → IsInner4 source destination payload bytes
    → HasParts (V4 source) (V4 destination) payload bytes (inner4_at bytes)
parts4 source destination payload bytes h =
    record {
      comes_from = ap (λ (n : ℕ). V4 n) h.comes_from;
      goes_to = ap (λ (n : ℕ). V4 n) h.goes_to;
      carries = payload_whole _ bytes ∙ h.carries;
    }

parts6 : (source destination : ℕ) (payload bytes : List ℕ) → IsInner6 source destination payload bytes
    → HasParts (V6 source) (V6 destination) payload bytes (inner6_at bytes)
parts6 source destination payload bytes h =
    record {
      comes_from = ap (λ (n : ℕ). V6 n) h.comes_from;
      goes_to = ap (λ (n : ℕ). V6 n) h.goes_to;
      carries = payload_whole _ bytes ∙ (HasWholeHeaders-follows payload bytes h.whole_header h.follows).carries;
    }

pub IsLawful-inner : (source destination : Ip) (payload bytes : List ℕ) → IsInner source destination payload bytes
    → IsLawful source destination payload bytes
IsLawful-inner (V4 source) (V4 destination) payload bytes h =
    record {
      none = no_fault4 source destination payload bytes h;
      within = rw h.version h.whole_header;
      parts = rw h.version (parts4 source destination payload bytes h);
    }
IsLawful-inner (V6 source) (V6 destination) payload bytes h =
    record {
      none = no_fault6 source destination payload bytes h;
      within = rw h.version (HasWholeHeaders-follows payload bytes h.whole_header h.follows).within;
      parts = rw h.version (parts6 source destination payload bytes h);
    }
IsLawful-inner (V4 source) (V6 destination) payload bytes h = absurd h
IsLawful-inner (V6 source) (V4 destination) payload bytes h = absurd h
