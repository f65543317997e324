use Rattle.std.proofs.Common.{◌≡◌, ◌++◌, take, Some}
use Rattle.relay_serving.specs.Replies.{rows_at, rows_text}
use Rattle.relay_serving.proofs.server.replying.append_rows_of.Given as goal

abbrev pub invariant-loop-row : goal.invariant-loop-row
invariant-loop-row l = l.text ≡ l.initial.text ++ rows_text (rows_at (Some l.endpoint) (take l.row-index l.rows))
