-- The parts of a peer's text.
use Rattle.std.proofs.{Common.{◌≡◌, ◌≢◌, ℕ, ◌^◌, ◌<◌, List, ◌∷◌, ◌++◌, decimal, inl, inr, refl, sym, subst, ◌∙◌, arith}, NetLemmas.Alphabet.{IsDigitOrDot}}
use Rattle.amt_values.{specs.{declared.{address.Ip.{Ip, TheVariants.{V4, V6}}, peer.Peer.{Peer}}, Segments.{address_segments}, Text.{IsIpText, IsPeerText}}, proofs.{Cuts.{Lacks, cut_once, not_first, not_lacking}, Dotted.{Lacks-v4_text}, Joined.{Lacks-v6}}}

no_colon : IsDigitOrDot 58 → ⊥
no_colon (inl digit) = omega (arith, digit.1)
no_colon (inr dot) = omega (arith, dot)

no_bracket : IsDigitOrDot 91 → ⊥
no_bracket (inl digit) = omega (arith, digit.1)
no_bracket (inr dot) = omega (arith, dot)

-- an IPv4 address has no colon and no opening bracket
pub Lacks-colon : (number : ℕ) (address : List ℕ) → IsIpText (V4 number) address → Lacks 58 address
Lacks-colon number address names = subst (Lacks 58) (sym names.1) (Lacks-v4_text 58 number no_colon)

pub Lacks-opening : (number : ℕ) (address : List ℕ) → IsIpText (V4 number) address → Lacks 91 address
Lacks-opening number address names = subst (Lacks 91) (sym names.1) (Lacks-v4_text 91 number no_bracket)

-- an IPv6 address has no closing bracket
pub Lacks-closing : (number : ℕ) (address : List ℕ) → IsIpText (V6 number) address → Lacks 93 address
Lacks-closing number address names = Lacks-v6 93 (address_segments number) address (omega arith) (λ same. omega arith) names.1

-- the text of an IPv4 peer has no bracket before it
pub not_bracketed : (number port : ℕ) (text : List ℕ) → IsPeerText (record { ip = V4 number; port = port }) (91 ∷ text) → ⊥
not_bracketed number port text h =
    not_first 91 h.address (decimal port) text 58 (Lacks-opening number h.address h.names) (λ same. omega arith) (sym h.spelled)

-- what stands before and after the first colon, where no bracket stands before it
pub record IsPlainPeer (ip : Ip) (port : ℕ) (front back : List ℕ) : Type 0 where
  pub number : ℕ
  pub family : ip ≡ V4 number
  pub names : IsIpText (V4 number) front
  pub small : port < 2 ^ 16
  pub digits : back ≡ decimal port

pub plain_parts : (text front back : List ℕ) (ip : Ip) (port : ℕ) → Lacks 58 front → text ≡ front ++ 58 ∷ back
    → ((rest : List ℕ) → text ≢ 91 ∷ rest) → IsPeerText (record { ip = ip; port = port }) text → IsPlainPeer ip port front back
plain_parts text front back (V4 number) port lacks cut open_ h =
    let same = cut_once 58 front back h.address (decimal port) lacks (Lacks-colon number h.address h.names) (sym cut ∙ h.spelled) in
    record {
      number = number;
      family = refl;
      names = subst (IsIpText (V4 number)) (sym same.0) h.names;
      small = h.port;
      digits = same.1;
    }
plain_parts text front back (V6 number) port lacks cut open_ h = absurd (open_ _ h.spelled)

-- a text without a colon and a bracket names no peer
pub no_plain_peer : (text : List ℕ) (ip : Ip) (port : ℕ) → Lacks 58 text → ((rest : List ℕ) → text ≢ 91 ∷ rest)
    → IsPeerText (record { ip = ip; port = port }) text → ⊥
no_plain_peer text (V4 number) port lacks open_ h = not_lacking 58 text h.address (decimal port) lacks h.spelled
no_plain_peer text (V6 number) port lacks open_ h = open_ _ h.spelled

-- what stands between the brackets, and after them
pub record IsBracketedPeer (ip : Ip) (port : ℕ) (front back : List ℕ) : Type 0 where
  pub number : ℕ
  pub family : ip ≡ V6 number
  pub names : IsIpText (V6 number) front
  pub small : port < 2 ^ 16
  pub digits : back ≡ 58 ∷ decimal port

after_opening : (number port : ℕ) (text : List ℕ) (h : IsPeerText (record { ip = V6 number; port = port }) (91 ∷ text))
    → text ≡ h.address ++ 93 ∷ 58 ∷ decimal port
after_opening number port text h = cc (h.spelled)

pub bracketed_parts : (text front back : List ℕ) (ip : Ip) (port : ℕ) → Lacks 93 front → text ≡ front ++ 93 ∷ back
    → IsPeerText (record { ip = ip; port = port }) (91 ∷ text) → IsBracketedPeer ip port front back
bracketed_parts text front back (V4 number) port lacks cut h = absurd (not_bracketed number port text h)
bracketed_parts text front back (V6 number) port lacks cut h =
    let whole = after_opening number port text h in
    let same = cut_once 93 front back h.address (58 ∷ decimal port) lacks (Lacks-closing number h.address h.names) (sym cut ∙ whole) in
    record {
      number = number;
      family = refl;
      names = subst (IsIpText (V6 number)) (sym same.0) h.names;
      small = h.port;
      digits = same.1;
    }

-- a text without a closing bracket after an opening one names no peer
pub no_bracketed_peer : (text : List ℕ) (ip : Ip) (port : ℕ) → Lacks 93 text → IsPeerText (record { ip = ip; port = port }) (91 ∷ text) → ⊥
no_bracketed_peer text (V4 number) port lacks h = not_bracketed number port text h
no_bracketed_peer text (V6 number) port lacks h = not_lacking 93 text h.address (58 ∷ decimal port) lacks (after_opening number port text h)

-- a peer is its address and its port
pub same_peer : (one other : Peer) → one.ip ≡ other.ip → one.port ≡ other.port → one ≡ other
same_peer one other same_ip same_port = λ i. record { ip = same_ip i; port = same_port i }
