use Rattle.std.proofs.Common.{ℕ, List, length, ap, refl, ◌∙◌, arith}
use Rattle.source_filter.specs.Filter.{ascending_sources}
use Rattle.script_lines.specs.Lines.{fields}
use Rattle.gateway_script.proofs.{Calls.{change_mode, change_name, change_sources}, Running.{few_fields, filter_of_addresses}}
use Rattle.gateway_script.proofs.call_line.read_change.Goals as goal

pub returns-in-Err-clause-reason : goal.returns-in-Err-clause-reason
returns-in-Err-clause-reason c =
    change_sources c.args.family (fields c.args.values.now) c.in-Some.name.now c.in-Some.mode.now (fields c.in-Some.addresses.now) c.in-Some.ensures.found c.in-Err.error
    c.in-Err.ensures.reason

pub returns-then-not-is_name-clause-reason : goal.returns-then-not-is_name-clause-reason
returns-then-not-is_name-clause-reason c =
    change_name c.args.family (fields c.args.values.now) c.in-Some.name.now c.in-Some.mode.now (fields c.in-Some.addresses.now) c.in-Some.ensures.found c.in-Ok.sources
    c.in-Ok.ensures.found (λ named. let told = c.is_name.ensures.1 named in let not_told = c.if-not-is_name.true in cc (told, not_told))

pub returns-in_default-read_mode-clause-reason : goal.returns-in_default-read_mode-clause-reason
returns-in_default-read_mode-clause-reason c =
    change_mode c.args.family (fields c.args.values.now) c.in-Some.name.now c.in-Some.mode.now (fields c.in-Some.addresses.now) c.in-Some.ensures.found c.in-Ok.sources
    c.in-Ok.ensures.found (c.if-not-is_name.ensures.0 refl) c.in_default-read_mode.ensures.none

pub returns-clause-may : goal.returns-clause-may
returns-clause-may c =
    let parts = ap (λ (texts : List (List ℕ)). length texts) c.in-Some.ensures.found in
    filter_of_addresses c.args.family c.in-Ok-new.filter c.in-Ok.sources (fields c.in-Some.addresses.now) (omega (arith, parts, few_fields c.args.values.now, c.requires))
    c.in-Ok.ensures.found (c.in-Ok-new.ensures.sources ∙ ap ascending_sources c.as_slice.ensures)
