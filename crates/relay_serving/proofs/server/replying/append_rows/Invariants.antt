use Rattle.std.proofs.Common.{◌≡◌, ◌++◌, take, flat_map}
use Rattle.amt_script.specs.Texts.{row_text}
use Rattle.relay_serving.proofs.server.replying.append_rows.Given as goal

abbrev pub invariant-loop-row : goal.invariant-loop-row
invariant-loop-row l = l.text ≡ l.initial.text ++ flat_map row_text (take l.row-index l.rows)
