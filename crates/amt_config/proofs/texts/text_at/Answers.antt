use Rattle.std.{proofs.Common.{ap, ◌∙◌, sym}, specs.Option.{option_and_then, option_copied}}
use Rattle.toml.specs.{Data.{as_str}, View.{table_view, view}}
use Rattle.amt_config.{specs.{FileKey.{word_of}, Key.{IsUnfit, fault_of, reason_of, text_key}, declared.fault.KeyFault.TheVariants.{Kind}}, proofs.Faults.{fails_kind, found_none, found_value, may_fail}}
use Rattle.amt_config.proofs.texts.text_at.Goals as goal

pub returns-in-None-clause-none : goal.returns-in-None-clause-none
returns-in-None-clause-none c = λ same. found_none c.value_at.result _ c.value_at.ensures c.in-None.is

pub returns-in-Some-as_str-clause-text : goal.returns-in-Some-as_str-clause-text
returns-in-Some-as_str-clause-text c =
    ap (option_and_then as_str) (found_value c.value_at.result c.in-Some.value _ c.value_at.ensures c.in-Some.is)
    ∙ (sym c.as_str.ensures ∙ ap option_copied c.in-Some-as_str.is)

pub returns-in-None-as_str-clause-fault : goal.returns-in-None-as_str-clause-fault
returns-in-None-as_str-clause-fault c = λ must form.
    let key = text_key (word_of c.args.key) must form in
    may_fail (table_view c.args.table.now) key Kind c.told.result
    (fails_kind as_str (IsUnfit form) (fault_of (reason_of form)) key (table_view c.args.table.now) (λ value fault h. h) (view c.in-Some.value.now)
    (found_value c.value_at.result c.in-Some.value _ c.value_at.ensures c.in-Some.is) (sym c.as_str.ensures ∙ ap option_copied c.in-None-as_str.is)) c.told.ensures
