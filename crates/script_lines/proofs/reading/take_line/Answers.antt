use Rattle.std.proofs.Common.{ℕ, List, sym, subst, rules}
use Rattle.script_lines.{specs.Lines.{IsPlain}, proofs.{Begun.{has_begun_said}, Taking.{fails_on_line}}}
use Rattle.script_lines.proofs.reading.take_line.Goals as goal

pub returns-in-Ok-clause-taken : goal.returns-in-Ok-clause-taken
returns-in-Ok-clause-taken g c = λ before begun.
    let kind = g.K.ScriptKind.kind in
    let line = c.args.line.now in
    let parts = c.in-Some.ensures.parts in
    let heard = c.in-Ok.ensures.heard begun.said begun.heard in
    let plain : IsPlain line = search rules in
    has_begun_said kind g.K.ScriptKind.HasHeard _ _ before line begun heard.0 c.if-line-gt-MOST_OCTETS_OF_A_LINE.false
    c.in-Some.ensures.says plain
    (subst (λ (fs : List (List ℕ)). kind.Says begun.said heard.0 fs) (sym parts) heard.1) heard.2

pub returns-in-Err-clause-bad : goal.returns-in-Err-clause-bad
returns-in-Err-clause-bad g c = λ past h.
    let line = c.args.line.now in
    let parts = c.in-Some.ensures.parts in
    let plain : IsPlain line = search rules in
    fails_on_line g.K.ScriptKind.kind past line _ c.in-Err.error c.if-line-gt-MOST_OCTETS_OF_A_LINE.false
    c.in-Some.ensures.says plain parts (c.in-Err.ensures.bad past h)
