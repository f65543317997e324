-- Reading by the refusals and the places of fields is the relation between octets and messages.
use Rattle.std.proofs.{Common.{◌≡◌, ℕ, ◌+◌, ◌/◌, ◌%◌, ◌<◌, ◌≤◌, List, length, take, drop, slice_index, Bool, true, false, ◌&&◌, eqb, leb, ltb, Option, Some, None, Ok, refl, sym, subst, ap, ap₂, ◌∙◌, arith, length-drop, cond}, lemmas.Bool.{le-ltb, ne_eqb}}
use Rattle.amt_values.{specs.{EndpointValue.{EndpointValue}, declared.{address.Ip.{Ip, TheVariants.{V4, V6}}, mac.Mac48.{Mac48}}, Conditions.{NoneHolds}}, proofs.ConditionLaws.{first_holding-none, skips_same}}
use Rattle.amt_messages.specs.{declared.message.Message.{Message, TheVariants.{Discovery, Advertisement, Request, Query, Update, Multicast, Teardown}}, StatedLength.{inner_length_of}}
use Rattle.amt_messages.{specs.{Layout.{Spells, IsAdvertisement, IsQuery, has_flag, query_length, gateway_at}, Refusal.{first_refusal, refusals, length_refusals, advertisement_length, is_unknown, stated_inner, message_at, message_of, relay_at}}, proofs.InnerLength.{inner_length_of-least, inner_length_of-take}}

-- octets of version 0 and a known type are refused by their length alone
unrefused_by : (kind : ℕ) (bytes : List ℕ) → kind < 16 → 0 < length bytes → slice_index bytes 0 ≡ kind → is_unknown kind ≡ false
    → NoneHolds (length_refusals kind bytes) → first_refusal bytes ≡ None
unfolding first_refusal
unrefused_by kind bytes small some first known fits =
    let there : eqb (length bytes) 0 ≡ false = ne_eqb (length bytes) 0 (λ e. omega arith) in
    let version : slice_index bytes 0 / 16 ≡ 0 = omega arith in
    let low : kind ≡ slice_index bytes 0 % 16 = omega arith in
    first_holding-none (refusals bytes) (
      there,
      (
        skips_same _ _ version,
        subst (λ (k : ℕ). (is_unknown k ≡ false) × NoneHolds (length_refusals k bytes)) low (known, fits),
      ),
    )

same_length : (need have : ℕ) → have ≡ need → (ltb have need ≡ false) × ((ltb need have ≡ false) × Unit {0})
same_length need have same = (le-ltb have need (omega arith), (le-ltb need have (omega arith), tt))

and_false : (b : Bool) → (b && false) ≡ false
and_false true = refl
and_false false = refl

-- the message is read where nothing is refused and the fields are its
reading_unrefused : (bytes : List ℕ) (message : Message) → first_refusal bytes ≡ None → message_at bytes ≡ message → message_of bytes ≡ Ok message
unfolding message_of
reading_unrefused bytes message unrefused fields = rw (unrefused, fields) refl

-- a Query's inner datagram in its place states its length
stated : (inner bytes : List ℕ) → 12 + length inner ≤ length bytes → inner ≡ take (length inner) (drop 12 bytes) → inner_length_of inner ≡ Some (length inner)
    → inner_length_of (drop 12 bytes) ≡ Some (length inner)
stated inner bytes enough field whole =
    let least = inner_length_of-least inner (length inner) whole in
    let rest = length-drop 12 bytes in
    sym (inner_length_of-take (length inner) (drop 12 bytes) (omega arith) (omega arith))
    ∙ (ap inner_length_of (sym field) ∙ whole)

query_unrefused : (named : Bool) (inner : ℕ) (bytes : List ℕ) → has_flag 0 bytes ≡ named → length bytes ≡ query_length named inner
    → stated_inner bytes ≡ Some inner → NoneHolds (length_refusals 4 bytes)
query_unrefused named inner bytes flag octets states =
    rw (states, flag) (and_false (leb 12 (length bytes)), same_length (query_length named inner) (length bytes) octets)

spelled_query : (limited named : Bool) (mac : Mac48) (nonce : ℕ) (inner : List ℕ) (seen : Option EndpointValue) (bytes : List ℕ)
    → IsQuery limited named mac nonce inner bytes → cond named (Some (gateway_at (length inner) bytes)) None ≡ seen
    → 12 + length inner ≤ length bytes
    → message_of bytes ≡ Ok (Query limited mac nonce inner seen)
spelled_query limited named mac nonce inner seen bytes h says enough =
    let states = stated inner bytes enough h.inner_field h.inner_whole in
    let fits = query_unrefused named (length inner) bytes (sym h.g_flag) h.kind.octets states in
    let unrefused = unrefused_by 4 bytes (omega arith) (omega arith) h.kind.first refl fits in
    reading_unrefused bytes (Query limited mac nonce inner seen) unrefused
    (rw (h.kind.first, states, sym h.g_flag, says, sym h.l_flag, sym h.mac_field, sym h.nonce_field, sym h.inner_field) refl)

spelled_advertisement : (nonce address octets : ℕ) (relay : Ip) (bytes : List ℕ) → IsAdvertisement nonce address octets bytes
    → advertisement_length (8 + octets) ≡ 8 + octets → relay_at bytes ≡ relay → message_of bytes ≡ Ok (Advertisement nonce relay)
spelled_advertisement nonce address octets relay bytes h right says =
    let whole = h.kind.octets in
    let fits = same_length (advertisement_length (length bytes)) (length bytes) (rw whole (sym right)) in
    let unrefused = unrefused_by 2 bytes (omega arith) (omega arith) h.kind.first refl (refl, fits) in
    reading_unrefused bytes (Advertisement nonce relay) unrefused
    (rw h.kind.first (ap₂ (λ (n : ℕ) (ip : Ip). Advertisement n ip) (sym h.nonce_field) says))

-- what octets spell is read
pub spelled_is_read : (message : Message) (bytes : List ℕ) → Spells message bytes → message_of bytes ≡ Ok message
spelled_is_read (Discovery nonce) bytes h =
    let octets = h.kind.octets in
    let unrefused = unrefused_by 1 bytes (omega arith) (omega arith) h.kind.first refl (refl, same_length 8 (length bytes) octets) in
    reading_unrefused bytes (Discovery nonce) unrefused (rw h.kind.first (ap (λ (n : ℕ). Discovery n) (sym h.nonce_field)))
spelled_is_read (Advertisement nonce (V4 address)) bytes h =
    spelled_advertisement nonce address 4 (V4 address) bytes h refl (rw (h.kind.octets, sym h.address_field) refl)
spelled_is_read (Advertisement nonce (V6 address)) bytes h =
    spelled_advertisement nonce address 16 (V6 address) bytes h refl (rw (h.kind.octets, sym h.address_field) refl)
spelled_is_read (Request v6 nonce) bytes h =
    let octets = h.kind.octets in
    let unrefused = unrefused_by 3 bytes (omega arith) (omega arith) h.kind.first refl (refl, same_length 8 (length bytes) octets) in
    reading_unrefused bytes (Request v6 nonce) unrefused
    (rw (h.kind.first, sym h.p_flag, sym h.nonce_field) refl)
spelled_is_read (Query limited mac nonce inner None) bytes h =
    let octets = h.kind.octets in
    spelled_query limited false mac nonce inner None bytes h refl (omega arith)
spelled_is_read (Query limited mac nonce inner (Some endpoint)) bytes h =
    let octets = h.0.kind.octets in
    spelled_query limited true mac nonce inner (Some endpoint) bytes h.0 (ap (λ (e : EndpointValue). Some e) (sym h.1)) (omega arith)
spelled_is_read (Update mac nonce inner) bytes h =
    let octets = h.kind.octets in
    let fits : NoneHolds (length_refusals 5 bytes) = (refl, (le-ltb (length bytes) 12 (omega arith), (refl, tt))) in
    let unrefused = unrefused_by 5 bytes (omega arith) (omega arith) h.kind.first refl fits in
    reading_unrefused bytes (Update mac nonce inner) unrefused
    (rw (h.kind.first, sym h.mac_field, sym h.nonce_field, sym h.inner_field) refl)
spelled_is_read (Multicast packet) bytes h =
    let octets = h.kind.octets in
    let fits : NoneHolds (length_refusals 6 bytes) = (refl, (le-ltb (length bytes) 2 (omega arith), (refl, tt))) in
    let unrefused = unrefused_by 6 bytes (omega arith) (omega arith) h.kind.first refl fits in
    reading_unrefused bytes (Multicast packet) unrefused
    (rw h.kind.first (ap (λ (p : List ℕ). Multicast p) (sym h.packet_field)))
spelled_is_read (Teardown mac nonce gateway) bytes h =
    let octets = h.kind.octets in
    let unrefused = unrefused_by 7 bytes (omega arith) (omega arith) h.kind.first refl (refl, same_length 30 (length bytes) octets) in
    reading_unrefused bytes (Teardown mac nonce gateway) unrefused
    (rw (h.kind.first, sym h.mac_field, sym h.nonce_field, sym h.gateway_field) refl)
