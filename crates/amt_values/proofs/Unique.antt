-- A text names one value.
use Rattle.std.proofs.{Common.{◌≡◌, ℕ, ◌^◌, ◌<◌, List, ◌∷◌, ◌++◌, decimal, sym, subst, ap, ◌∙◌, arith}, lemmas.Fmt.{decimal_injective}}
use Rattle.amt_values.{specs.{declared.{address.Ip.{Ip, TheVariants.{V4, V6}}, peer.Peer.{Peer}}, Segments.{address_segments}, Text.{IsIpText, IsPeerText}}, proofs.{Cuts.{Lacks, cut_once}, Dotted.{v4_injective, v4_not_lacking}, Joined.{Lacks-v6}, PeerTexts.{Lacks-colon, Lacks-closing, not_bracketed, same_peer}, V6Texts.{v6_unique}}}

-- no text names addresses of both families
pub one_family : (n m : ℕ) (text : List ℕ) → IsIpText (V4 n) text → IsIpText (V6 m) text → ⊥
one_family n m text h k =
    let lacks = Lacks-v6 46 (address_segments m) text (omega arith) (λ same. omega arith) k.1 in
    v4_not_lacking n (subst (Lacks 46) h.1 lacks)

pub IsIpText-unique : (one other : Ip) (text : List ℕ) → IsIpText one text → IsIpText other text → one ≡ other
IsIpText-unique (V4 n) (V4 m) text h k = ap V4 (v4_injective n m h.0 k.0 (sym h.1 ∙ k.1))
IsIpText-unique (V4 n) (V6 m) text h k = absurd (one_family n m text h k)
IsIpText-unique (V6 n) (V4 m) text h k = absurd (one_family m n text k h)
IsIpText-unique (V6 n) (V6 m) text h k = ap V6 (v6_unique text n m h.0 k.0 h.1 k.1)

-- what two readings of a peer's text have in common
record AreSame (one other : Ip) (p q : ℕ) : Type 0 where
  ip : one ≡ other
  port : p ≡ q

same_port : (p q : ℕ) → p < 2 ^ 16 → q < 2 ^ 16 → decimal p ≡ decimal q → p ≡ q
same_port p q small_p small_q same = decimal_injective p q (omega arith) (omega arith) same

parts_same : (one other : Ip) (p q : ℕ) (text : List ℕ) → IsPeerText (record { ip = one; port = p }) text
    → IsPeerText (record { ip = other; port = q }) text → AreSame one other p q
parts_same (V4 n) (V4 m) p q text h k =
    let same = cut_once 58 h.address (decimal p) k.address (decimal q) (Lacks-colon n h.address h.names) (Lacks-colon m k.address k.names) (sym h.spelled ∙ k.spelled) in
    record {
      ip = IsIpText-unique (V4 n) (V4 m) k.address (subst (IsIpText (V4 n)) same.0 h.names) k.names;
      port = same_port p q h.port k.port same.1;
    }
parts_same (V4 n) (V6 m) p q text h k = absurd (not_bracketed n p _ (subst (IsPeerText (record { ip = V4 n; port = p })) k.spelled h))
parts_same (V6 n) (V4 m) p q text h k = absurd (not_bracketed m q _ (subst (IsPeerText (record { ip = V4 m; port = q })) h.spelled k))
parts_same (V6 n) (V6 m) p q text h k =
    let whole : h.address ++ 93 ∷ 58 ∷ decimal p ≡ k.address ++ 93 ∷ 58 ∷ decimal q = cc (h.spelled, k.spelled) in
    let same = cut_once 93 h.address (58 ∷ decimal p) k.address (58 ∷ decimal q) (Lacks-closing n h.address h.names) (Lacks-closing m k.address k.names) whole in
    let digits : decimal p ≡ decimal q = cc (same.1) in
    record {
      ip = IsIpText-unique (V6 n) (V6 m) k.address (subst (IsIpText (V6 n)) same.0 h.names) k.names;
      port = same_port p q h.port k.port digits;
    }

pub IsPeerText-unique : (one other : Peer) (text : List ℕ) → IsPeerText one text → IsPeerText other text → one ≡ other
IsPeerText-unique one other text h k =
    let same = parts_same one.ip other.ip one.port other.port text h k in
    same_peer one other same.ip same.port
