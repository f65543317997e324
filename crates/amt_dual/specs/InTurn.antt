-- Parts of a pair's steps as those of machines, of IPv4 and of IPv6 in turn.
use Rattle.std.specs.Prelude.{Bool, false, not, List, [], ◌∷◌}
use Rattle.amt_pair.specs.declared.step.Part.{Part}
use Rattle.amt_pair.specs.declared.step.Part.TheVariants as parts
use Rattle.amt_dual.specs.{Answers.{is_ignored}, declared.step.DualPart.{DualPart, TheVariants.{Absent, Gateway, Relay}}}

-- the part of a machine of this family
abbrev pub part_of : Bool → Part → DualPart
part_of v6 (parts.Relay step) = Relay step
part_of v6 (parts.Gateway name step) = Gateway name v6 step
part_of v6 (parts.Absent number) = Absent number

-- parts of machines of which the first is of this family
abbrev pub parts_in_turn : Bool → List Part → List DualPart
parts_in_turn v6 [] = []
parts_in_turn v6 (part ∷ rest) = part_of v6 part ∷ parts_in_turn (not v6) rest

-- the part is that of a gateway that ignored a datagram
abbrev pub is_ignored_part : Part → Bool
is_ignored_part (parts.Gateway name step) = is_ignored step.outcome
is_ignored_part part = false
