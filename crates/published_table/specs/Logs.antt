-- Which entries a log has of which none is kept.
use Rattle.std.specs.Prelude.{List, [], ◌∷◌, ◌++◌}
use Rattle.endpoint_membership.specs.declared.change.Change.{Change}
use Rattle.published_table.specs.declared.past.Past.{Past, Empty, Then'}

-- the entries, oldest first
abbrev pub entries : Past → List Change
entries Empty = []
entries (Then' _ before change) = entries before ++ change.value ∷ []
