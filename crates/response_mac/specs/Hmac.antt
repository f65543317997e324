-- HMAC (RFC 2104, section 2) with SHA-256 as its hash function H.
use Rattle.std.specs.Prelude.{ℕ, ◌-◌, nat_lt, if◌then◌else◌, List, ◌++◌, length, map, replicate, bit_xor}
use Rattle.sha2.specs.Sha256.{sha256}

-- B, the octets of a block of H
abbrev pub block_octets : ℕ
block_octets = 64

-- the octet that ipad repeats
abbrev pub ipad : ℕ
ipad = 0x36

-- the octet that opad repeats
abbrev pub opad : ℕ
opad = 0x5c

-- a key that is longer than a block is used by its digest
abbrev pub short_key : List ℕ → List ℕ
short_key key = if nat_lt block_octets (length key) then sha256 key else key

-- K: the key, and zeros up to a block
abbrev pub key_block : List ℕ → List ℕ
key_block key = short_key key ++ replicate (block_octets - length (short_key key)) 0

-- K XOR a pad
abbrev pub padded_key : List ℕ → ℕ → List ℕ
padded_key key pad = map (λ octet. bit_xor octet pad) (key_block key)

-- H (K XOR opad, H (K XOR ipad, text))
unfoldable pub hmac_of : List ℕ → List ℕ → List ℕ
hmac_of key text = sha256 (padded_key key opad ++ sha256 (padded_key key ipad ++ text))
