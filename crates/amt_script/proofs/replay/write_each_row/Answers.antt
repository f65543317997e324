use Rattle.std.proofs.Common.{ℕ, List, ◌+◌, ◌++◌, take, flat_map, sym, ap, subst, ◌∙◌}
use Rattle.script_lines.{specs.Writing.{WritesUpTo, WritesPrefix}, proofs.Writes.{written_on, prefix_on}}
use Rattle.endpoint_membership.specs.declared.row.Row.{Row}
use Rattle.amt_script.{specs.Texts.{row_text}, proofs.RowLines.{row_more, prefix_of_rows}}
use Rattle.amt_script.proofs.replay.write_each_row.Goals as goal

pub returns-in_default-clause-begun : goal.returns-in_default-clause-begun
returns-in_default-clause-begun g c =
    let rows = c.as_slice-row-items.result.now in
    rw (← c.as_slice-row-items.ensures) (prefix_of_rows _ _ c.args.held.now rows c.loop-row.row-index (c.loop-row.held, c.loop-row.invariant.text))

pub returns-in-Err-clause-begun : goal.returns-in-Err-clause-begun
returns-in-Err-clause-begun g c =
    let rows = c.as_slice-row-items.result.now in
    let i = c.loop-row.row-index in
    let start = c.args.held.now in
    let row = c.row-item.result in
    let held = c.in-Ok.ensures ∙ ap (λ (one : Row). c.loop-row.held ++ row_text one) c.row-item.is in
    let cut = prefix_on _ _ _ (start ++ flat_map row_text (take i rows)) _ c.loop-row.held c.loop-row.invariant.text (subst (WritesPrefix _ _) held c.in-Err.ensures.begun) in
    rw (← c.as_slice-row-items.ensures) (prefix_of_rows _ _ start rows (i + 1) (subst (WritesPrefix _ _) (sym (row_more start rows i _ c.loop-row-test.true)) cut))

pub loop-row-preserved : goal.loop-row-preserved
loop-row-preserved g c =
    let rows = c.as_slice-row-items.result.now in
    let i = c.loop-row.row-index in
    let start = c.args.held.now in
    let held = c.in-Ok.ensures ∙ ap (λ (one : Row). c.loop-row.held ++ row_text one) c.row-item.is in
    let done = rw held at c.in-Ok-write_where_full.ensures.done in
    record {
      text = subst (λ (text : List ℕ). WritesUpTo (g.O.Sink.written c.args.out.now) (g.O.Sink.written c.write_where_full.new.out) text c.write_where_full.new.held) (sym (row_more start rows i _ c.loop-row-test.true)) (written_on _ _ _ (start ++ flat_map row_text (take i rows)) _ c.loop-row.held c.write_where_full.new.held c.loop-row.invariant.text done);
      calm = c.in-Ok-write_where_full.ensures.counts.quiet (λ fault. cc fault) ∙ c.loop-row.invariant.calm;
    }
