use Rattle.script_lines.proofs.Taking.{taking_start, taking_more}
use Rattle.script_lines.proofs.reading.read_lines.Goals as goal

pub loop-left-init : goal.loop-left-init
loop-left-init g c = taking_start g.K.ScriptKind.kind g.K.ScriptKind.HasHeard c.args.text.now _ c.start-heard.ensures.heard

pub loop-left-preserved : goal.loop-left-preserved
loop-left-preserved g c =
    let before = c.loop-left.invariant in
    taking_more g.K.ScriptKind.kind g.K.ScriptKind.HasHeard _ _ _ _ _ _ c.loop-left.count before c.next_line.ensures.lines c.next_line.ensures.shorter
    (c.in-Ok.ensures.taken before.before before.begun)
