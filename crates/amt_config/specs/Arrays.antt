-- Arrays whose items are all texts, or all tables.
use Rattle.std.specs.{Prelude.{ℕ, Bool, true, ◌&&◌, is_some, List, [], ◌∷◌, Option, Some, None, if◌then◌else◌}, Option.{option_and_then}}
use Rattle.toml.specs.Data.{Data, Items, Members, as_array, as_str, as_table, item, no_items}

-- whether this reads each of the items
abbrev pub all_are : {X : Type 0} → (Data → Option X) → Items → Bool
all_are read no_items = true
all_are read (item value rest) = is_some (read value) && all_are read rest

abbrev pub with_first : {X : Type 0} → Option X → List X → List X
with_first None rest = rest
with_first (Some one) rest = one ∷ rest

-- what this reads of them
abbrev pub those_in : {X : Type 0} → (Data → Option X) → Items → List X
those_in read no_items = []
those_in read (item value rest) = with_first (read value) (those_in read rest)

-- the items of an array, where this reads each
abbrev pub all_of : {X : Type 0} → (Data → Option X) → Data → Option (List X)
all_of read value =
    option_and_then (λ items. if all_are read items then Some (those_in read items) else None) (as_array value)

-- the texts of an array of texts
abbrev pub as_texts : Data → Option (List (List ℕ))
as_texts value = all_of as_str value

-- the tables of an array of tables
abbrev pub as_tables : Data → Option (List Members)
as_tables value = all_of as_table value
