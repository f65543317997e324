-- The response MAC (RFC 7450, section 5.3.5), and the secrets that give it.
use Rattle.std.specs.{Prelude.{◌≡◌, ℕ, ◌+◌, ◌-◌, ◌≤◌, ◌⊎◌, ◌||◌, Bool, Option, Some, None, List, ◌∷◌, ◌++◌, length, map, take, drop, replicate, reverse, slice_index_or}, List.{Any, filter_map, list_any}, Str.{bytes_eq}}
use Rattle.byteorder.specs.Endian.{big_bytes}
use Rattle.amt_values.specs.{declared.mac.Mac48.{Mac48}, EndpointValue.{EndpointValue}}
use Rattle.response_mac.specs.{declared.secret.Secret.{Secret}, Hmac.{hmac_of}}

-- the endpoint's address in 16 octets, its port in 2, the nonce in 4
abbrev pub authenticated_octets : EndpointValue → ℕ → List ℕ
authenticated_octets endpoint nonce =
    big_bytes 16 endpoint.address ++ (big_bytes 2 endpoint.port ++ big_bytes 4 nonce)

-- the octets of a digest that a MAC keeps (RFC 2104, section 5)
abbrev pub leftmost_48_bits : List ℕ → Mac48
leftmost_48_bits digest = record { 0 = take 6 digest }

-- the response MAC of an endpoint and a nonce under a secret
unfoldable pub mac_of : Secret → EndpointValue → ℕ → Mac48
mac_of secret endpoint nonce =
    leftmost_48_bits (hmac_of secret.0 (authenticated_octets endpoint nonce))

-- what contracts see of a relay's secrets: the newest one; the older ones that are kept, newest first;
-- and how many are kept at most
pub record SecretsValue : Type 0 where
  pub current : Secret
  pub older : List Secret
  pub keep : ℕ

-- the secrets in slots
abbrev pub older_in : List (Option Secret) → List Secret
older_in slots = filter_map (λ slot. slot) slots

-- three slots with these secrets in the first ones, and nothing in the others
abbrev pub slots_of : List Secret → List (Option Secret)
slots_of older = map (λ secret. Some secret) older ++ replicate (3 - length older) None

-- from one to four secrets are kept, the current one among them, and nothing beside them
pub record AreSlots (keep : ℕ) (slots : List (Option Secret)) : Type 0 where
  pub some : 1 ≤ keep
  pub few : keep ≤ 4
  pub within : length (older_in slots) + 1 ≤ keep
  pub back : slots_of (older_in slots) ≡ slots

-- the current secret or one of the older ones that are kept gives the MAC
abbrev pub IsGood : SecretsValue → EndpointValue → ℕ → Mac48 → Type 0
IsGood secrets endpoint nonce mac =
    (mac ≡ mac_of secrets.current endpoint nonce)
    ⊎ Any (λ older. mac ≡ mac_of older endpoint nonce) secrets.older

-- the same octets
abbrev pub same_mac : Mac48 → Mac48 → Bool
same_mac one other = bytes_eq one.0 other.0

-- whether a secret gives the MAC
abbrev pub gives : Secret → EndpointValue → ℕ → Mac48 → Bool
gives secret endpoint nonce mac = same_mac mac (mac_of secret endpoint nonce)

-- the same as a test
abbrev pub is_good : SecretsValue → EndpointValue → ℕ → Mac48 → Bool
is_good secrets endpoint nonce mac =
    gives secrets.current endpoint nonce mac || list_any (λ older. gives older endpoint nonce mac) secrets.older

-- the newest so many secrets are kept, of which the newest is current (RFC 7450, section 5.3.6)
abbrev pub secrets_after : ℕ → Secret → List Secret → SecretsValue
secrets_after keep first changes =
    let newest_first = take keep (reverse (first ∷ changes)) in
    record { current = slice_index_or newest_first 0 first; older = drop 1 newest_first; keep = keep }
