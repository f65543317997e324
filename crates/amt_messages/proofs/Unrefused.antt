-- Octets that nothing refuses spell the message that stands at the places of its fields.
use Rattle.std.proofs.{Common.{◌≡◌, ℕ, zero, suc, ◌+◌, ◌/◌, ◌%◌, ◌<◌, ◌≤◌, ◌⊎◌, inl, inr, List, length, take, drop, slice_index, Bool, true, false, ◌&&◌, eqb, leb, ltb, is_none, unwrap_or, Option, Some, None, Ok, refl, sym, subst, ap, ◌∙◌, arith, length-drop}, lemmas.{Bool.{ltb-false}, List.{length-take-le}}}
use Rattle.byteorder.specs.Endian.{big_number}
use Rattle.amt_messages.{specs.{declared.message.Message.{Message}, Layout.{Spells, IsQuery, has_flag, query_length, gateway_at}, Refusal.{first_refusal, refusals, length_refusals, needed_length, query_need, stated_inner, advertisement_length, is_unknown, message_at, message_of, query_with}}, proofs.InnerLength.{inner_length_of-least, inner_length_of-take}}
use Rattle.amt_values.{specs.Conditions.{NoneHolds}, proofs.ConditionLaws.{NoneHolds-of, holds_not, unless-ok}}

pub length_fits : (need have : ℕ) → ltb have need ≡ false → ltb need have ≡ false → have ≡ need
length_fits need have short long = grind arith

advertisement_fits : (have : ℕ) → have ≡ advertisement_length have → (have ≡ 12) ⊎ (have ≡ 24)
advertisement_fits have same = grind arith

-- a Query that isn't refused has an inner datagram, and the octets that go with it
pub record IsWholeQuery (inner : ℕ) (bytes : List ℕ) : Type 0 where
  pub states : stated_inner bytes ≡ Some inner
  pub octets : length bytes ≡ query_length (has_flag 0 bytes) inner

head_alone : (have : ℕ) → (leb 12 have && true) ≡ false → ltb have 12 ≡ false → ⊥
head_alone have inner short = grind arith

whole_query : (stated : Option ℕ) (bytes : List ℕ) → stated_inner bytes ≡ stated → (leb 12 (length bytes) && is_none stated) ≡ false
    → ltb (length bytes) (query_need stated bytes) ≡ false → ltb (query_need stated bytes) (length bytes) ≡ false
    → (inner : ℕ) × IsWholeQuery inner bytes
whole_query None bytes is inner short long = absurd (head_alone (length bytes) inner short)
whole_query (Some inner) bytes is there short long = (inner, record { states = is; octets = length_fits _ (length bytes) short long })

-- the types that are read, each with the length that it may have
data IsKnown (kind : ℕ) (bytes : List ℕ) : Type 0 where
  discovery : kind ≡ 1 → length bytes ≡ 8 → IsKnown kind bytes
  advertisement : kind ≡ 2 → (length bytes ≡ 12) ⊎ (length bytes ≡ 24) → IsKnown kind bytes
  request : kind ≡ 3 → length bytes ≡ 8 → IsKnown kind bytes
  query : kind ≡ 4 → (inner : ℕ) × IsWholeQuery inner bytes → IsKnown kind bytes
  update : kind ≡ 5 → 12 ≤ length bytes → IsKnown kind bytes
  multicast : kind ≡ 6 → 2 ≤ length bytes → IsKnown kind bytes
  teardown : kind ≡ 7 → length bytes ≡ 30 → IsKnown kind bytes

-- octets of a known type that aren't refused by their length
known_at : (kind : ℕ) (bytes : List ℕ) → 0 < kind → kind < 8 → NoneHolds (length_refusals kind bytes) → IsKnown kind bytes
known_at zero bytes some small none = absurd (omega arith)
known_at (suc zero) bytes some small none = discovery refl (length_fits 8 (length bytes) none.1.0 none.1.1.0)
known_at (suc (suc zero)) bytes some small none =
    advertisement refl (advertisement_fits (length bytes) (length_fits _ (length bytes) none.1.0 none.1.1.0))
known_at (suc (suc (suc zero))) bytes some small none = request refl (length_fits 8 (length bytes) none.1.0 none.1.1.0)
known_at (suc (suc (suc (suc zero)))) bytes some small none = query refl (whole_query (stated_inner bytes) bytes refl none.0 none.1.0 none.1.1.0)
known_at (suc (suc (suc (suc (suc zero))))) bytes some small none = update refl (ltb-false (length bytes) 12 none.1.0)
known_at (suc (suc (suc (suc (suc (suc zero)))))) bytes some small none = multicast refl (ltb-false (length bytes) 2 none.1.0)
known_at (suc (suc (suc (suc (suc (suc (suc zero))))))) bytes some small none = teardown refl (length_fits 30 (length bytes) none.1.0 none.1.1.0)
known_at (suc (suc (suc (suc (suc (suc (suc (suc kind)))))))) bytes some small none = absurd (omega arith)

some_octet : (have : ℕ) → eqb have 0 ≡ false → 0 < have
some_octet have some = grind arith

known_some : (kind : ℕ) → is_unknown kind ≡ false → 0 < kind
known_some kind known = grind arith

known_small : (kind : ℕ) → is_unknown kind ≡ false → kind < 8
known_small kind known = grind arith

-- octets that nothing refuses are there, and their first octet is a type that has none of the refusals by length
pub record IsUnrefused (bytes : List ℕ) : Type 0 where
  pub some : 0 < length bytes
  pub defined : 0 < slice_index bytes 0
  pub small : slice_index bytes 0 < 8
  pub fits : NoneHolds (length_refusals (slice_index bytes 0) bytes)

pub first_refusal-none : (bytes : List ℕ) → first_refusal bytes ≡ None → IsUnrefused bytes
unfolding first_refusal
first_refusal-none bytes unrefused =
    let all = NoneHolds-of (refusals bytes) unrefused in
    let version : slice_index bytes 0 / 16 ≡ 0 = holds_not _ _ all.1.0 in
    let low : slice_index bytes 0 % 16 ≡ slice_index bytes 0 = omega arith in
    let there : 0 < slice_index bytes 0 % 16 = known_some _ all.1.1.0 in
    let below : slice_index bytes 0 % 16 < 8 = known_small _ all.1.1.0 in
    record {
      some = some_octet (length bytes) all.0;
      defined = omega arith;
      small = omega arith;
      fits = subst (λ (kind : ℕ). NoneHolds (length_refusals kind bytes)) low all.1.1.1;
    }

-- octets that aren't refused have version 0, and their first octet is their type
known : (bytes : List ℕ) → first_refusal bytes ≡ None → IsKnown (slice_index bytes 0) bytes
known bytes unrefused =
    let parts = first_refusal-none bytes unrefused in
    known_at (slice_index bytes 0) bytes parts.defined parts.small parts.fits

-- there is one, and it is a type
pub unrefused_first : (bytes : List ℕ) → first_refusal bytes ≡ None → 0 < length bytes
unrefused_first bytes unrefused = (first_refusal-none bytes unrefused).some

pub unrefused_small : (bytes : List ℕ) → first_refusal bytes ≡ None → slice_index bytes 0 < 8
unrefused_small bytes unrefused = (first_refusal-none bytes unrefused).small

pub unrefused_defined : (bytes : List ℕ) → first_refusal bytes ≡ None → 0 < slice_index bytes 0
unrefused_defined bytes unrefused = (first_refusal-none bytes unrefused).defined

-- they are as many as their type needs
pub unrefused_length : (kind : ℕ) (bytes : List ℕ) → first_refusal bytes ≡ None → slice_index bytes 0 ≡ kind → needed_length kind bytes ≤ length bytes
unrefused_length kind bytes unrefused first =
    let parts = first_refusal-none bytes unrefused in
    let fits = subst (λ (k : ℕ). NoneHolds (length_refusals k bytes)) first parts.fits in
    ltb-false (length bytes) (needed_length kind bytes) fits.1.0

-- an Advertisement's are those of either address
pub unrefused_advertisement : (bytes : List ℕ) → first_refusal bytes ≡ None → slice_index bytes 0 ≡ 2 → (length bytes ≡ 12) ⊎ (length bytes ≡ 24)
unrefused_advertisement bytes unrefused first =
    let parts = first_refusal-none bytes unrefused in
    let fits = subst (λ (k : ℕ). NoneHolds (length_refusals k bytes)) first parts.fits in
    advertisement_fits (length bytes) (length_fits _ (length bytes) fits.1.0 fits.1.1.0)

-- and a Query's are those of its inner datagram too
unrefused_query : (bytes : List ℕ) → first_refusal bytes ≡ None → slice_index bytes 0 ≡ 4 → (inner : ℕ) × IsWholeQuery inner bytes
unrefused_query bytes unrefused first =
    let parts = first_refusal-none bytes unrefused in
    let fits = subst (λ (k : ℕ). NoneHolds (length_refusals k bytes)) first parts.fits in
    whole_query (stated_inner bytes) bytes refl fits.0 fits.1.0 fits.1.1.0

query_length-least : (named : Bool) (inner : ℕ) → 12 + inner ≤ query_length named inner
query_length-least true inner = omega arith
query_length-least false inner = omega arith

pub unrefused_query-whole : (bytes : List ℕ) → first_refusal bytes ≡ None → slice_index bytes 0 ≡ 4
    → query_length (has_flag 0 bytes) (unwrap_or (stated_inner bytes) 0) ≤ length bytes
unrefused_query-whole bytes unrefused first =
    let found = unrefused_query bytes unrefused first in
    rw (found.1.states, found.1.octets) (omega arith)

pub unrefused_query-head : (bytes : List ℕ) → first_refusal bytes ≡ None → slice_index bytes 0 ≡ 4 → 12 + unwrap_or (stated_inner bytes) 0 ≤ length bytes
unrefused_query-head bytes unrefused first =
    let whole = unrefused_query-whole bytes unrefused first in
    omega (arith, query_length-least (has_flag 0 bytes) (unwrap_or (stated_inner bytes) 0), whole)

-- its fields by their places are those of a Query with this G flag
query_fields : (named : Bool) (inner : ℕ) (bytes : List ℕ) → slice_index bytes 0 ≡ 4 → has_flag 0 bytes ≡ named → IsWholeQuery inner bytes
    → 12 + inner ≤ length bytes
    → IsQuery (has_flag 1 bytes) named (record { 0 = take 6 (drop 2 bytes) }) (big_number 4 (drop 8 bytes)) (take inner (drop 12 bytes)) bytes
query_fields named inner bytes first flag whole enough =
    let least = inner_length_of-least (drop 12 bytes) inner whole.states in
    let rest = length-drop 12 bytes in
    let len = length-take-le inner (drop 12 bytes) (omega arith) in
    let states = inner_length_of-take inner (drop 12 bytes) (omega arith) (omega arith) ∙ whole.states in
    record {
      kind = record { octets = rw len (whole.octets ∙ ap (λ (g : Bool). query_length g inner) flag); first = first };
      l_flag = refl;
      g_flag = sym flag;
      mac_field = refl;
      nonce_field = refl;
      inner_field = rw len refl;
      inner_whole = rw len states;
    }

query_spelled : (named : Bool) (inner : ℕ) (bytes : List ℕ) → slice_index bytes 0 ≡ 4 → has_flag 0 bytes ≡ named → IsWholeQuery inner bytes
    → Spells (query_with inner bytes) bytes
query_spelled false inner bytes first flag whole =
    let octets : length bytes ≡ 12 + inner = whole.octets ∙ ap (λ (g : Bool). query_length g inner) flag in
    rw flag (query_fields false inner bytes first flag whole (omega arith))
query_spelled true inner bytes first flag whole =
    let octets : length bytes ≡ 12 + inner + 18 = whole.octets ∙ ap (λ (g : Bool). query_length g inner) flag in
    let len = length-take-le inner (drop 12 bytes) (omega (arith, length-drop 12 bytes)) in
    rw flag (query_fields true inner bytes first flag whole (omega arith), ap (λ (n : ℕ). gateway_at n bytes) (sym len))

message_spelled : (bytes : List ℕ) → IsKnown (slice_index bytes 0) bytes → Spells (message_at bytes) bytes
message_spelled bytes (discovery first octets) =
    rw first record { kind = record { octets = octets; first = first }; nonce_field = refl }
message_spelled bytes (advertisement first (inl short)) =
    rw (first, short) record { kind = record { octets = short; first = first }; nonce_field = refl; address_field = refl }
message_spelled bytes (advertisement first (inr long)) =
    rw (first, long) record { kind = record { octets = long; first = first }; nonce_field = refl; address_field = refl }
message_spelled bytes (request first octets) =
    rw first record { kind = record { octets = octets; first = first }; p_flag = refl; nonce_field = refl }
message_spelled bytes (query first found) =
    rw (first, found.1.states) (query_spelled (has_flag 0 bytes) found.0 bytes first refl found.1)
message_spelled bytes (update first enough) =
    let octets : length bytes ≡ 12 + length (drop 12 bytes) = omega (arith, length-drop 12 bytes) in
    rw first record { kind = record { octets = octets; first = first }; mac_field = refl; nonce_field = refl; inner_field = refl }
message_spelled bytes (multicast first enough) =
    let octets : length bytes ≡ 2 + length (drop 2 bytes) = omega (arith, length-drop 2 bytes) in
    rw first record { kind = record { octets = octets; first = first }; packet_field = refl }
message_spelled bytes (teardown first octets) =
    rw first record { kind = record { octets = octets; first = first }; mac_field = refl; nonce_field = refl; gateway_field = refl }

-- what is read of octets, they spell
pub read_is_spelled : (bytes : List ℕ) (message : Message) → message_of bytes ≡ Ok message → Spells message bytes
unfolding message_of
read_is_spelled bytes message same =
    let parts = unless-ok (first_refusal bytes) (message_at bytes) message (sym same) in
    subst (λ (m : Message). Spells m bytes) (sym parts.1) (message_spelled bytes (known bytes parts.0))

-- where something is read, nothing is refused
pub read_is_unrefused : (bytes : List ℕ) (message : Message) → message_of bytes ≡ Ok message → first_refusal bytes ≡ None
unfolding message_of
read_is_unrefused bytes message same = (unless-ok (first_refusal bytes) (message_at bytes) message (sym same)).0

-- octets that nothing refuses spell the message at the places of its fields
pub unrefused_is_spelled : (bytes : List ℕ) → first_refusal bytes ≡ None → (message : Message) × Spells message bytes
unrefused_is_spelled bytes unrefused = (message_at bytes, message_spelled bytes (known bytes unrefused))
