-- IPv6 addresses as numbers, by std's grammar of them.
use Rattle.std.{proofs.{Common.{◌≡◌, ◌≢◌, ℕ, ◌^◌, ◌<◌, ◌⊎◌, List, All, length, inl, inr, sym, subst, ap, ◌∙◌, arith}, NetLemmas.{Alphabet.{IsHexOrColon, All-hex_groups_text}, Texts.{AllSegments, IsColonHex-hex_groups_text}, Theorems.{IsIpv6Text_unique}}, lemmas.List.Elements.{All-weaker}}, specs.{Net.{Addr.{ipv6_bits}, Grammar.{IsIpv6Text}}, declared.net.ipv6_addr.Ipv6Addr.{Ipv6Addr}}}
use Rattle.amt_values.{specs.{Segments.{address_segments, IsV6Text, IsSegmentsText, IsElided}, Text.{v6_text}}, proofs.{Cuts.{Lacks}, Joined.{IsColonHex-from_groups, groups_from_IsColonHex}, Segments.{AllSegments-address_segments, address_segments-injective, address_segments-number, length-address_segments, number-address_segments, number_of_groups}}}

v6_address : ℕ → Ipv6Addr
v6_address number = record { segments = address_segments number }

-- a text that names the number is in std's grammar
to_std : (number : ℕ) (text : List ℕ) → IsV6Text number text → IsIpv6Text text (v6_address number)
unfolding v6_address
to_std number text h = IsColonHex-from_groups (address_segments number) text (length-address_segments number) h

-- a text without a dot in std's grammar names the address's number
pub v6_found : (text : List ℕ) (address : Ipv6Addr) → length address.segments ≡ 8 → AllSegments address.segments → Lacks 46 text
    → IsIpv6Text text address → IsV6Text (ipv6_bits address) text
unfolding ipv6_bits
v6_found text address eight fits lacks read =
    let family : List ℕ → Type 0 = λ (groups : List ℕ). IsSegmentsText groups text ⊎ IsElided groups text in
    subst family (sym (address_segments-number address.segments eight fits)) (groups_from_IsColonHex address.segments text lacks read)

-- and no other number
pub v6_only : (text : List ℕ) (address : Ipv6Addr) (number : ℕ) → IsIpv6Text text address → number < 2 ^ 128 → IsV6Text number text
    → ipv6_bits address ≡ number
unfolding ipv6_bits v6_address
v6_only text address number read small h =
    let same = IsIpv6Text_unique text address (v6_address number) read (to_std number text h) in
    ap (λ (a : Ipv6Addr). number_of_groups a.segments) same ∙ number-address_segments number small

-- where std finds no address, none is named
pub v6_none : (text : List ℕ) (number : ℕ) → ((a : Ipv6Addr) → IsIpv6Text text a → ⊥) → IsV6Text number text → ⊥
v6_none text number none h = none (v6_address number) (to_std number text h)

-- a text names one number
pub v6_unique : (text : List ℕ) (n m : ℕ) → n < 2 ^ 128 → m < 2 ^ 128 → IsV6Text n text → IsV6Text m text → n ≡ m
unfolding v6_address
v6_unique text n m small_n small_m h k =
    let same = IsIpv6Text_unique text (v6_address n) (v6_address m) (to_std n text h) (to_std m text k) in
    address_segments-injective n m small_n small_m (ap (λ (a : Ipv6Addr). a.segments) same)

no_dot : (octet : ℕ) → IsHexOrColon octet → octet ≢ 46
no_dot octet (inl digit) = λ same. omega arith
no_dot octet (inr letter) = λ same. omega arith

-- what is printed of a number has only colons and hexadecimal digits in lower case
pub All-v6_text : (number : ℕ) → All IsHexOrColon (v6_text number)
All-v6_text number = All-hex_groups_text (address_segments number) (AllSegments-address_segments number)

-- and it names the number
pub v6_printed : (number : ℕ) → IsV6Text number (v6_text number)
v6_printed number =
    let lacks = All-weaker IsHexOrColon (λ octet. octet ≢ 46) no_dot (v6_text number) (All-v6_text number) in
    groups_from_IsColonHex (address_segments number) (v6_text number) lacks
    (IsColonHex-hex_groups_text (address_segments number) (length-address_segments number) (AllSegments-address_segments number))
