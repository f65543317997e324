-- Where a name stands in the octets of a message (RFC 1035, sections 3.1 and 4.1.4).
use Rattle.std.specs.Prelude.{◌≡◌, ℕ, ◌+◌, ◌%◌, ◌^◌, ◌<◌, ◌≤◌, List, [], ◌∷◌, length, take, drop, slice_index}
use Rattle.byteorder.specs.Endian.{big_number}
use Rattle.amt_dns_names.specs.Name.{IsLabel, name_wire}

-- the octet stands at the place
pub record IsOctetAt (bytes : List ℕ) (at octet : ℕ) : Type 0 where
  pub within : at < length bytes
  pub is : slice_index bytes at ≡ octet

-- the label stands there behind its length octet (section 3.1); an octet of 64 to 191 is the length
-- of none
pub record IsLabelAt (bytes : List ℕ) (at : ℕ) (label : List ℕ) : Type 0 where
  pub lawful : IsLabel label
  pub counted : IsOctetAt bytes at (length label)
  pub spelled : take (length label) (drop (at + 1) bytes) ≡ label

-- two octets stand there of which the first has both high bits, and the other 14 bits are the place
-- that they lead to (section 4.1.4)
pub record IsPointerAt (bytes : List ℕ) (at to : ℕ) : Type 0 where
  pub within : at + 2 ≤ length bytes
  pub high : 192 ≤ slice_index bytes at
  pub low : to ≡ big_number 2 (drop at bytes) % 2 ^ 14

-- of the part of a name that begins at `start`, what stands from a place on, and where the name goes
-- on behind a pointer: its labels, and the place after its octets. It is a zero octet; a label and
-- what follows it; or a pointer to before the part, where a name stands, so that no name leads back
-- into itself
pub data PartAt (bytes : List ℕ) : ℕ → ℕ → List (List ℕ) → ℕ → Type 0 where
  zero_octet : (start at : ℕ) → IsOctetAt bytes at 0 → PartAt bytes start at [] (at + 1)
  label : (start at : ℕ) (label : List ℕ) (labels : List (List ℕ)) (end : ℕ)
      → IsLabelAt bytes at label → PartAt bytes start (at + 1 + length label) labels end
      → PartAt bytes start at (label ∷ labels) end
  pointer : (start at to : ℕ) (labels : List (List ℕ)) (end : ℕ)
      → IsPointerAt bytes at to → to < start → PartAt bytes to to labels end
      → PartAt bytes start at labels (at + 2)

-- a name of these labels stands at the place, and ends before `end`: its first part begins there,
-- and the whole has at most 255 octets (section 2.3.4)
pub record NameAt (bytes : List ℕ) (at : ℕ) (labels : List (List ℕ)) (end : ℕ) : Type 0 where
  pub part : PartAt bytes at at labels end
  pub limit : length (name_wire labels) ≤ 255

-- no name stands at the place
abbrev pub HasNoNameAt : List ℕ → ℕ → Type 0
HasNoNameAt bytes at = (labels : List (List ℕ)) (end : ℕ) → NameAt bytes at labels end → ⊥
