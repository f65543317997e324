use Rattle.std.proofs.Common.{◌≡◌, [], Some, subst, rules}
use Rattle.group_records.specs.declared.family.Family.{Family}
use Rattle.script_lines.specs.{Lines.{fields}, Reading.{FailsFirst}, declared.{fault.LineError.TheVariants.{Bad}, reason.Reason.TheVariants.{Count}}}
use Rattle.pair_script.{specs.{Fault.{FailsToCall, order_of_reasons}, Gateways.{family_of, gateway_named}}, proofs.{Judging.{named_judged, unknown_word}, Orders.{call_judged, name_alone}}}
use Rattle.pair_script.proofs.call_line.read_call.Goals as goal

pub returns-in_default-clause-reason : goal.returns-in_default-clause-reason
returns-in_default-clause-reason c = λ given items.
    unknown_word given c.args.gateways.now items c.args.name.now (fields c.args.values.now) c.requires.free (search rules)

pub returns-in_default-next_field-clause-reason : goal.returns-in_default-next_field-clause-reason
returns-in_default-next_field-clause-reason c = λ given items.
    let found : gateway_named c.args.gateways.now c.args.name.now ≡ Some c.in-Some.gateway.now = search rules in
    let none : fields c.args.values.now ≡ [] = search rules in
    named_judged given c.args.gateways.now items c.args.name.now c.in-Some.gateway.now (fields c.args.values.now) (Bad Count) c.requires.free found
    (name_alone (family_of c.in-Some.gateway.now) (fields c.args.values.now) none)

pub returns-in-Err-clause-reason : goal.returns-in-Err-clause-reason
returns-in-Err-clause-reason c = λ given items.
    let values = fields c.args.values.now in
    let found : gateway_named c.args.gateways.now c.args.name.now ≡ Some c.in-Some.gateway.now = search rules in
    let judged = call_judged c.family_of.result c.in-Some-next_field.word.now (fields c.in-Some-next_field.rest.now) values c.in-Err.error c.in-Some-next_field.ensures.parts
    c.in-Err.ensures.reason in
    named_judged given c.args.gateways.now items c.args.name.now c.in-Some.gateway.now values c.in-Err.error c.requires.free found
    (subst (λ (family : Family). FailsFirst (FailsToCall family values) order_of_reasons c.in-Err.error) c.family_of.ensures judged)
