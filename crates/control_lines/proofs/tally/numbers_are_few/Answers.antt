use Rattle.std.{proofs.{Common.{ℕ, ◌≤◌, length, List}, lemmas.List.{Elements.{All-map}, Sums.{count_by-le-length}}}, specs.{List.{count_by}, Str.{bytes_eq}}}
use Rattle.control_lines.proofs.tally.numbers_are_few.Goals as goal

pub returns : goal.returns
returns c = λ words said.
    All-map (λ (number : ℕ). number ≤ length said) (λ (word : List ℕ). count_by (bytes_eq word) said) words
    (λ place word within. count_by-le-length (bytes_eq _) said)
