use Rattle.std.proofs.lemmas.Result.{MatchResult-weaker}
use Rattle.script_lines.proofs.Verdicts.{error_rules_out, one_script, one_fault}
use Rattle.script_lines.proofs.reading.read_script.Goals as goal

pub returns-clause-none : goal.returns-clause-none
returns-clause-none g c =
    MatchResult-weaker c.read_whole.result c.read_whole.ensures.fault (λ script h. h)
    (λ error h. error_rules_out g.K.ScriptKind.kind c.read_whole.ensures.lawful c.args.bytes.now error h)

pub returns-clause-one_script : goal.returns-clause-one_script
returns-clause-one_script g c = one_script g.K.ScriptKind.kind c.read_whole.ensures.lawful

pub returns-clause-one_fault : goal.returns-clause-one_fault
returns-clause-one_fault g c = one_fault g.K.ScriptKind.kind c.read_whole.ensures.lawful
