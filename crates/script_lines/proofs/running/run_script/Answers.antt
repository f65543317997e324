use Rattle.std.proofs.{Common.{take, ◌∙◌}, lemmas.Result.{on_err_weaker}}
use Rattle.script_lines.{specs.Writing.{WritesPrefix}, proofs.Runs.{run_more, run_cut, run_closed}}
use Rattle.script_lines.proofs.running.run_script.Goals as goal

pub returns-in-Err-clause-begun : goal.returns-in-Err-clause-begun
returns-in-Err-clause-begun g c = λ start at.
    let items = c.args.items.now in
    let i = c.loop-index.index in
    let run = c.loop-index.invariant.run start at in
    run_cut (g.R.ScriptRun.text_of start) (λ value before. g.R.ScriptRun.IsAfter value start before) c.loop-index.running items i _ c.loop-index.held _ _ _
    c.loop-index-test.true c.index-items-index.is run (c.in-Err.ensures.begun start (take i items) run.at)

pub loop-index-preserved : goal.loop-index-preserved
loop-index-preserved g c = record {
  run = λ start at.
      let items = c.args.items.now in
      let i = c.loop-index.index in
      let run = c.loop-index.invariant.run start at in
      run_more (g.R.ScriptRun.text_of start) (λ value before. g.R.ScriptRun.IsAfter value start before) c.loop-index.running c.write_item.new.self items i _ c.loop-index.held c.write_item.new.held _ _ _
      c.loop-index-test.true c.index-items-index.is run (c.in-Ok.ensures.done start (take i items) run.at) (c.in-Ok.ensures.next start (take i items) run.at);
  calm = c.in-Ok.ensures.counts.quiet (λ fault. cc fault) ∙ c.loop-index.invariant.calm;
}

pub returns-clause-begun : goal.returns-clause-begun
returns-clause-begun g c = λ start at.
    let items = c.args.items.now in
    on_err_weaker c.write_end.result
    (λ (prefix : WritesPrefix (g.O.Sink.written c.loop-index.out) (g.O.Sink.written c.write_end.new.out) _).
    run_closed (g.R.ScriptRun.text_of start) (λ value before. g.R.ScriptRun.IsAfter value start before) c.loop-index.running items c.loop-index.index c.loop-index.held _ _ _
    c.loop-index-test.false (c.loop-index.invariant.run start at) prefix)
    c.write_end.ensures.begun
