use Rattle.script_lines.proofs.Splitting.{fields-cut, fields-whole, fields-none}
use Rattle.script_lines.proofs.fields.next_field.Goals as goal

pub returns-in_default-clause-parts : goal.returns-in_default-clause-parts
returns-in_default-clause-parts c = fields-none c.args.line.now c.in_default.ensures.none

pub returns-in-None-clause-parts : goal.returns-in-None-clause-parts
returns-in-None-clause-parts c =
    let found = c.in-Some.ensures.spaces in
    fields-whole c.args.line.now c.in-Some.text.now found.0 found.1 found.2 c.in-Some.ensures.filled.0 c.in-None.ensures.none

pub returns-in-Some-cut_at-clause-parts : goal.returns-in-Some-cut_at-clause-parts
returns-in-Some-cut_at-clause-parts c =
    let found = c.in-Some.ensures.spaces in
    let parts = c.in-Some-cut_at.parts in
    fields-cut c.args.line.now c.in-Some.text.now parts.0.now parts.1.now found.0 found.1 found.2 c.in-Some-cut_at.ensures.found
    c.in-Some.ensures.filled.1 c.in-Some-cut_at.ensures.first
