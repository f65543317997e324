-- Test vectors, as a kind of script: each line is a row, whatever the lines before it are.
use Rattle.std.specs.Prelude.{◌≡◌, List, []}
use Rattle.script_lines.specs.Kind.{Kind}
use Rattle.amt_vectors.specs.{declared.row.Row.{Row}, Fault.{FailsAsRow, order_of_reasons}, Says.{SaysRow}}

-- rows, in order; any number of them
abbrev pub vector_kind : Kind Row (List Row)
vector_kind = record {
  Says = λ past row line. SaysRow row line;
  Fails = λ past line reason. FailsAsRow line reason;
  order = order_of_reasons;
  Makes = λ said rows. rows ≡ said;
  FailsAtEnd = λ said reason. ⊥;
  order_at_end = [];
}
