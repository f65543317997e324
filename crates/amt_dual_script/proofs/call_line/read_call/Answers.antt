use Rattle.std.proofs.Common.{◌≡◌, ℕ, true, List, ◌∷◌, sym, subst, ap, ◌∙◌}
use Rattle.script_lines.specs.{Lines.{fields}, declared.{fault.LineError.TheVariants.{Bad}, reason.Reason.TheVariants.{Count, Word}}}
use Rattle.pair_script.proofs.Orders.{call_judged, name_alone as family_alone}
use Rattle.amt_dual_script.{specs.{Gateways.{is_name_given}, Says.{SaysCall}}, proofs.{Calls.{call_said}, Judging.{machine_judged, name_alone, named_judged, unknown_family, unknown_word}}}
use Rattle.amt_dual_script.proofs.call_line.read_call.Goals as goal

pub returns-in-Ok-copied-clause-found : goal.returns-in-Ok-copied-clause-found
returns-in-Ok-copied-clause-found c =
    let name = c.args.name.now in
    let text = c.in-Some.family.now in
    let values = c.in-Some-next_field.word.now ∷ fields c.in-Some-next_field.rest.now in
    let parts = c.in-Some.ensures.parts ∙ ap (λ (ts : List (List ℕ)). text ∷ ts) c.in-Some-next_field.ensures.parts in
    let found : is_name_given c.args.gateways.now name ≡ true = sym c.is_name_given.ensures ∙ c.if-not-is_name_given.false in
    subst (λ (n : List ℕ). SaysCall c.args.gateways.now n c.is_v6.result c.in-Ok.event (name ∷ fields c.args.values.now)) (sym c.in-Ok-copied.ensures)
    (call_said c.args.gateways.now name text values (fields c.args.values.now) c.in-Some-read_family.family c.is_v6.result c.in-Ok.event c.requires.free found parts c.is_v6.ensures
    c.in-Some-read_family.ensures.found c.in-Ok.ensures.found c.in-Ok.ensures.call)

pub returns-then-not-is_name_given-clause-reason : goal.returns-then-not-is_name_given-clause-reason
returns-then-not-is_name_given-clause-reason c = λ given items.
    unknown_word given c.args.gateways.now items c.args.name.now (fields c.args.values.now) c.requires.free (sym c.is_name_given.ensures ∙ c.if-not-is_name_given.true)

pub returns-in_default-clause-reason : goal.returns-in_default-clause-reason
returns-in_default-clause-reason c = λ given items.
    named_judged given c.args.gateways.now items c.args.name.now (fields c.args.values.now) (Bad Count) c.requires.free (sym c.is_name_given.ensures ∙ c.if-not-is_name_given.false)
    (name_alone (fields c.args.values.now) c.in_default.ensures.parts)

pub returns-in_default-read_family-clause-reason : goal.returns-in_default-read_family-clause-reason
returns-in_default-read_family-clause-reason c = λ given items.
    named_judged given c.args.gateways.now items c.args.name.now (fields c.args.values.now) (Bad Word) c.requires.free (sym c.is_name_given.ensures ∙ c.if-not-is_name_given.false)
    (unknown_family c.in-Some.family.now (fields c.in-Some.rest.now) (fields c.args.values.now) c.in-Some.ensures.parts c.in_default-read_family.ensures.none)

pub returns-in_default-next_field-clause-reason : goal.returns-in_default-next_field-clause-reason
returns-in_default-next_field-clause-reason c = λ given items.
    let family = c.in-Some-read_family.family in
    named_judged given c.args.gateways.now items c.args.name.now (fields c.args.values.now) (Bad Count) c.requires.free (sym c.is_name_given.ensures ∙ c.if-not-is_name_given.false)
    (machine_judged family c.in-Some.family.now (fields c.in-Some.rest.now) (fields c.args.values.now) (Bad Count) c.in-Some.ensures.parts c.in-Some-read_family.ensures.found
    (family_alone family (fields c.in-Some.rest.now) c.in_default-next_field.ensures.parts))

pub returns-in-Err-clause-reason : goal.returns-in-Err-clause-reason
returns-in-Err-clause-reason c = λ given items.
    let family = c.in-Some-read_family.family in
    let values = fields c.in-Some.rest.now in
    let judged = call_judged family c.in-Some-next_field.word.now (fields c.in-Some-next_field.rest.now) values c.in-Err.error c.in-Some-next_field.ensures.parts
    c.in-Err.ensures.reason in
    named_judged given c.args.gateways.now items c.args.name.now (fields c.args.values.now) c.in-Err.error c.requires.free (sym c.is_name_given.ensures ∙ c.if-not-is_name_given.false)
    (machine_judged family c.in-Some.family.now values (fields c.args.values.now) c.in-Err.error c.in-Some.ensures.parts c.in-Some-read_family.ensures.found judged)
