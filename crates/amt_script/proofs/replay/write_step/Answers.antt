use Rattle.std.{specs.Result.{OnOk}, proofs.Common.{Result, Ok, Err, List, ℕ, ◌++◌, ap, ◌∙◌}}
use Rattle.script_lines.{specs.declared.fault.RunFault.{RunFault}, proofs.Writes.{nothing_written}}
use Rattle.amt_script.proofs.Runs.{same_step}
use Rattle.amt_script.proofs.replay.write_step.Goals as goal

pub returns-in_default-clause-begun : goal.returns-in_default-clause-begun
returns-in_default-clause-begun g c = λ settings first events at. nothing_written _ _

pub returns-in_default-append_relay_step-clause-begun : goal.returns-in_default-append_relay_step-clause-begun
returns-in_default-append_relay_step-clause-begun g c = λ settings first events at. nothing_written _ _

pub returns-clause-done : goal.returns-clause-done
returns-clause-done g c = λ settings first events at.
    let held = c.args.held.now in
    let same = c.in-Ok-append_relay_step.ensures ∙ ap (λ (text : List ℕ). held ++ text) (same_step c.args.number _ _ _ _ (c.in-Ok.ensures.outcome settings first events at) (c.in-Ok.ensures.sends settings first events at)) in
    rw same at c.write_where_full.ensures.done

pub returns-clause-begun : goal.returns-clause-begun
returns-clause-begun g c = λ settings first events at.
    let held = c.args.held.now in
    let same = c.in-Ok-append_relay_step.ensures ∙ ap (λ (text : List ℕ). held ++ text) (same_step c.args.number _ _ _ _ (c.in-Ok.ensures.outcome settings first events at) (c.in-Ok.ensures.sends settings first events at)) in
    rw same at c.write_where_full.ensures.begun

whatever_result : {P : Type 0} (result : Result (Unit {0}) RunFault) → P → OnOk result P
whatever_result (Ok done) h = h
whatever_result (Err fault) h = tt

pub returns-clause-next : goal.returns-clause-next
returns-clause-next g c = λ settings first events at. whatever_result c.write_where_full.result (c.in-Ok.ensures.next settings first events at)
