use Rattle.std.proofs.{Common.{◌++◌, List, ap, ◌∙◌}, lemmas.Result.{on_ok_weaker}}
use Rattle.source_filter.specs.declared.record.Record.{Record}
use Rattle.amt_values.specs.declared.address.Ip.{Ip}
use Rattle.amt_upstream.specs.{Looking.{seen_after}, Upstream.{joined}}
use Rattle.amt_upstream.proofs.Looked.{changed-side}
use Rattle.amt_upstream.proofs.records.push_changed.Goals as goal

pub returns : goal.returns
returns c = λ after is.
    let side = c.args.side.now in
    let looked = c.in_ok-after.ensures after is ∙ ap (λ (named : List Ip). seen_after c.mode-mode.result named (joined after side.group)) c.deref.ensures.value in
    let changed = changed-side c.args.table.now.rows c.args.changes.now c.args.tally.now.numbers after side c.mode-mode.result c.in_ok-after.after c.requires is c.mode-mode.ensures looked in
    on_ok_weaker c.append.result (λ pushed. pushed ∙ ap (λ (more : List Record). c.args.records.now ++ more) (c.in_ok-diff.ensures.records ∙ changed)) c.append.ensures
