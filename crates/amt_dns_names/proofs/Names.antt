-- Labels and the octets of names.
use Rattle.std.proofs.{Common.{◌≡◌, ℕ, ◌+◌, ◌≤◌, List, [], ◌∷◌, ◌++◌, length, subst, arith, length-append}, lemmas.{Grind.{flat_map-append}, List.Elements.{All-append, All-cons, All-nil}}}
use Rattle.amt_dns_names.specs.Name.{IsLabel, IsName, name_wire}

-- one more label takes its octets and its length octet
pub length-pushed : (name : List (List ℕ)) (label : List ℕ)
    → length (name_wire (name ++ label ∷ [])) ≡ length (name_wire name) + 1 + length label
length-pushed name label = simp (flat_map-append, length-append) (omega arith)

pub IsName-pushed : (name : List (List ℕ)) (label : List ℕ) → IsName name → IsLabel label
    → length (name_wire name) + 1 + length label ≤ 255 → IsName (name ++ label ∷ [])
IsName-pushed name label is one fits = record {
  labels = All-append IsLabel name (label ∷ []) is.labels (All-cons IsLabel label [] one (All-nil IsLabel));
  limit = omega (arith, length-pushed name label);
}

-- labels that are those of a name are a name
pub IsName-of : {inner outer : List (List ℕ)} → inner ≡ outer → IsName inner → IsName outer
IsName-of same is = subst IsName same is
