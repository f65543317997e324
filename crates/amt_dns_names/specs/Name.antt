-- DNS names and their octets (RFC 1035, section 3.1).
use Rattle.std.specs.{Prelude.{ℕ, ◌≤◌, List, [], ◌∷◌, ◌++◌, length, All}, List.{flat_map}}

-- a label has 1 to 63 octets (section 2.3.4)
pub record IsLabel (label : List ℕ) : Type 0 where
  pub some : 1 ≤ length label
  pub most : length label ≤ 63

-- a label behind its length octet
abbrev pub label_wire : List ℕ → List ℕ
label_wire label = length label ∷ label

-- each label behind its length octet, and the zero octet, which is the length of the root's label
abbrev pub name_wire : List (List ℕ) → List ℕ
name_wire labels = flat_map label_wire labels ++ 0 ∷ []

-- at most 255 octets, with the length octets and the zero octet (section 2.3.4)
pub record IsName (name : List (List ℕ)) : Type 0 where
  pub labels : All IsLabel name
  pub limit : length (name_wire name) ≤ 255
