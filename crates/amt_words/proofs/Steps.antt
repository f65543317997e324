-- The walk over the words of a command that serves: a file, and options with their numbers.
use Rattle.std.{proofs.Common.{◌≡◌, ℕ, List, [], ◌∷◌, Option, Some, codes, fold, refl, ap}, specs.Str.Parse.{digits_value}}
use Rattle.clap.specs.{Words.{Row, Shape, Text, without_minus}, Walk.{Waiting, Walk, idle, nothing_held, option, walk_from, walked}, Faults.{turn_fault, walk_fault}, declared.builder.value_parser.Reading.TheVariants.{AsWritten}}
use Rattle.amt_words.{specs.Line.{IsNumberIn, number_of, turns_or_most}, proofs.{Digits.{digits_number}, Walks.{number_row, row}}}

abbrev pub start : Walk
start = walk_from nothing_held

-- the walk after the file, with these rows and this argument pending
abbrev pub at : List Row → Option (Text × List Text) → Waiting → Walk
at rows pending waiting = record start {
  held = record { rows = rows; pending = pending; skip = 0 };
  waiting = waiting;
  position = 2;
}

abbrev pub file_row : Text → Row
file_row = row AsWritten (codes "FILE")

abbrev pub turns_row : Text → Row
turns_row = number_row (codes "turns")

abbrev pub after_file : Text → Walk
after_file file = at [] (Some (codes "FILE", file ∷ [])) idle

-- after the name of an option, and after its number
abbrev pub opened : Text → List Row → Walk
opened id rows = at rows (Some (id, [])) (option id)

abbrev pub filled : Text → List Row → Text → Walk
filled id rows number = at rows (Some (id, number ∷ [])) idle

module _ (top : Shape) where
  abbrev pub step : Walk → Text → Walk
  step = walked top.rules []

  abbrev pub Steps : Walk → Text → Walk → Type 0
  Steps w word after = (step w word ≡ after) × (turn_fault top [] w word ≡ [])

  -- the steps over words, from one walk to another
  abbrev pub Path : Walk → List Text → Walk → Type 0
  Path u [] w = u ≡ w
  Path u (word ∷ rest) w = (v : Walk) × Steps u word v × Path v rest w

  pub walked_by : (u w : Walk) (words : List Text) → Path u words w → (fold step u words ≡ w) × (walk_fault top [] u words ≡ [])
  unfolding walk_fault
  walked_by u w [] is = (is, refl)
  walked_by u w (word ∷ rest) steps =
      let later = walked_by steps.0 w rest steps.2 in
      let next = steps.1.0 in
      let no_fault = steps.1.1 in
      (rw next later.0, rw (no_fault, next) later.1)

pub given_turns : (turns : Text) → IsNumberIn 1 1099511627776 turns → turns_or_most (Some (number_of (without_minus turns))) ≡ digits_value 10 turns
given_turns turns h = ap (λ (n : ℕ). turns_or_most (Some n)) (digits_number turns h.0)
