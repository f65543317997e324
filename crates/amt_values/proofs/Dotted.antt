-- IPv4 addresses in dotted decimal, by std's grammar of them.
use Rattle.std.proofs.{Common.{◌≡◌, ◌≢◌, ℕ, zero, suc, ◌^◌, ◌<◌, List, [], ◌∷◌, refl, sym, subst, ap, ◌∙◌, arith}, lemmas.{List.Elements.{All-weaker}, Nat.{be_bytes_4, from_be_bytes-to_be_bytes_4}}, NetLemmas.Alphabet.{IsDigitOrDot, All-ipv4_text}}
use Rattle.std.{proofs.NetLemmas.{Texts.{IsDotted-ipv4_text}, Theorems.{IsIpv4Text_unique}}, specs.{Int.{w32, from_be_bytes, to_be_bytes}, Net.{Addr.{ipv4_bits}, Grammar.{IsDotted, IsIpv4Text}, Text.{ipv4_text}}, declared.net.ipv4_addr.Ipv4Addr.{Ipv4Addr}}}
use Rattle.amt_values.{specs.{Text.{v4_text}, Octets.{AreOctets}}, proofs.{Cuts.{Lacks}, Joined.{dotted_not_lacking}, NetworkOrder.{AreOctets-bytes_high_first}}}

four_octets : (a b c d : ℕ) → a < 256 → b < 256 → c < 256 → d < 256 → AreOctets (a ∷ b ∷ c ∷ d ∷ [])
four_octets a b c d small_a small_b small_c small_d zero = small_a
four_octets a b c d small_a small_b small_c small_d (suc zero) = small_b
four_octets a b c d small_a small_b small_c small_d (suc (suc zero)) = small_c
four_octets a b c d small_a small_b small_c small_d (suc (suc (suc zero))) = small_d
four_octets a b c d small_a small_b small_c small_d (suc (suc (suc (suc k)))) = omega arith

octets_again : (text octets : List ℕ) → IsDotted text octets → to_be_bytes w32 (from_be_bytes w32 octets) ≡ octets
octets_again text octets dotted =
    let small = four_octets dotted.a dotted.b dotted.c dotted.d dotted.fit.0 dotted.fit.1 dotted.fit.2 dotted.fit.3 in
    let family : List ℕ → Type 0 = λ (xs : List ℕ). to_be_bytes w32 (from_be_bytes w32 xs) ≡ xs in
    subst family (sym dotted.value) (be_bytes_4 (dotted.a ∷ dotted.b ∷ dotted.c ∷ dotted.d ∷ []) _ refl small refl)

-- a text in std's grammar is the text of the address's number
pub v4_found : (text : List ℕ) (address : Ipv4Addr) → IsIpv4Text text address → text ≡ v4_text (ipv4_bits address)
unfolding ipv4_bits
v4_found text address dotted =
    (dotted.spelled ∙ sym (ap ipv4_text dotted.value)) ∙ sym (ap ipv4_text (octets_again text address.octets dotted))

v4_address : ℕ → Ipv4Addr
v4_address number = record { octets = to_be_bytes w32 number }

-- the text of a number is in std's grammar
v4_spelled : (number : ℕ) → IsIpv4Text (v4_text number) (v4_address number)
unfolding v4_address
v4_spelled number = IsDotted-ipv4_text (to_be_bytes w32 number) refl (λ k. AreOctets-bytes_high_first 4 number k)

-- so a text names one number
pub v4_only : (text : List ℕ) (address : Ipv4Addr) (number : ℕ) → IsIpv4Text text address → number < 2 ^ 32 → text ≡ v4_text number
    → ipv4_bits address ≡ number
unfolding ipv4_bits v4_address
v4_only text address number dotted small same =
    let family : List ℕ → Type 0 = λ (t : List ℕ). IsIpv4Text t (v4_address number) in
    let again = subst family (sym same) (v4_spelled number) in
    let unique = IsIpv4Text_unique text address (v4_address number) dotted again in
    ap (λ (a : Ipv4Addr). from_be_bytes w32 a.octets) unique ∙ from_be_bytes-to_be_bytes_4 number small

pub v4_injective : (n m : ℕ) → n < 2 ^ 32 → m < 2 ^ 32 → v4_text n ≡ v4_text m → n ≡ m
v4_injective n m small_n small_m same =
    sym (v4_only (v4_text n) (v4_address n) n (v4_spelled n) small_n refl) ∙ v4_only (v4_text n) (v4_address n) m (v4_spelled n) small_m same

-- and where std finds no address, none is named
pub v4_none : (text : List ℕ) (number : ℕ) → ((a : Ipv4Addr) → IsIpv4Text text a → ⊥) → text ≡ v4_text number → ⊥
v4_none text number none same =
    let family : List ℕ → Type 0 = λ (t : List ℕ). IsIpv4Text t (v4_address number) in
    none (v4_address number) (subst family (sym same) (v4_spelled number))

-- the text has no octet but digits and dots
pub Lacks-v4_text : (at number : ℕ) → (IsDigitOrDot at → ⊥) → Lacks at (v4_text number)
Lacks-v4_text at number other =
    All-weaker IsDigitOrDot (λ octet. octet ≢ at) (λ octet shown same. other (subst IsDigitOrDot same shown)) (v4_text number)
    (All-ipv4_text (to_be_bytes w32 number) (λ k. AreOctets-bytes_high_first 4 number k))

-- and it has a dot
pub v4_not_lacking : (number : ℕ) → Lacks 46 (v4_text number) → ⊥
v4_not_lacking number lacks = dotted_not_lacking [] (v4_text number) (v4_text number) _ refl (v4_spelled number) lacks
