-- A prefix of a line was written, whatever came of it.
use Rattle.std.{proofs.Common.{ℕ, ◌<◌, Option, List, [], length, take, Result, Ok, Err, OnOk, OnErr, sym, append-nil}, specs.Io.KnownBytes.{Appends}}
use Rattle.script_lines.{specs.Writing.{WritesPrefix}, proofs.Writes.{prefix_written}}

pub prefix_of_line : {E : Type 0} (r : Result (Unit {0}) E) (a b : Option (List ℕ)) (text : List ℕ)
    → OnOk r (Appends a b text) → OnErr r ((n : ℕ) × (n < length text) × Appends a b (take n text)) → WritesPrefix a b text
prefix_of_line (Ok done) a b text whole prefix = ([], record { prefix = text; parts = sym (append-nil text); written = whole })
prefix_of_line (Err fault) a b text whole prefix = prefix_written a b text prefix.0 prefix.2
