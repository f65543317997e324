-- What is read of a door, and of a reader that went in.
use Rattle.std.specs.Prelude.{ℕ}
use Rattle.left_right.specs.Sides.{view}
use Rattle.published_table.specs.declared.door.{Door.{Door}, Inside.{Inside}}

module _ {T V P : Type 0} where
  -- the number of its reader among all who may read
  abbrev pub seat_of : Door T V P → ℕ
  seat_of door = door.reader.place.id

  -- what its reader knows
  abbrev pub known_at : Door T V P → V
  known_at door = view door.reader.place

  -- how many readings were handed back to it
  abbrev pub handed_at : Door T V P → ℕ
  handed_at door = door.handed

  -- the value that is read
  abbrev pub value_in : Inside T V P → T
  value_in inside = inside.reading.part.value

  abbrev pub known_in : Inside T V P → V
  known_in inside = view inside.reading.place

  abbrev pub handed_in : Inside T V P → ℕ
  handed_in inside = inside.handed
