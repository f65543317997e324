use Rattle.std.{proofs.Common.{Bor, List, option_map, refl, sym, ap, ◌∙◌}, specs.Option.{option_and_then}}
use Rattle.toml.specs.{Data.{as_str}, View.{items_view, table_view, view}, declared.value.Value.{Value}}
use Rattle.amt_config.{specs.{Arrays.{as_texts, those_in}, FileKey.{word_of}, Key.{IsSomeUnfit, fault_of, reason_of, required, some_texts}, declared.fault.KeyFault.TheVariants.{Missing, Kind}}, proofs.Faults.{fails_kind, fails_missing, found_none, found_value, may_fail}}
use Rattle.amt_config.proofs.arrays.texts_at.Goals as goal

pub returns-in-None-clause-fault : goal.returns-in-None-clause-fault
returns-in-None-clause-fault c = λ form.
    let key = required (word_of c.args.key) (some_texts form) in
    may_fail (table_view c.args.table.now) key Missing c.told.result
    (fails_missing key (table_view c.args.table.now) refl (found_none c.value_at.result _ c.value_at.ensures c.in-None.is)) c.told.ensures

pub returns-in-Some-texts_of-clause-found : goal.returns-in-Some-texts_of-clause-found
returns-in-Some-texts_of-clause-found c =
    ap (option_and_then as_texts) (found_value c.value_at.result c.in-Some.value _ c.value_at.ensures c.in-Some.is)
    ∙ (sym c.texts_of.ensures ∙ ap (option_map (λ (items : Bor (List Value)). those_in as_str (items_view items.now))) c.in-Some-texts_of.is)

pub returns-in-None-texts_of-clause-fault : goal.returns-in-None-texts_of-clause-fault
returns-in-None-texts_of-clause-fault c = λ form.
    let key = required (word_of c.args.key) (some_texts form) in
    may_fail (table_view c.args.table.now) key Kind c.told-in-None-texts_of.result
    (fails_kind as_texts (IsSomeUnfit form) (fault_of (reason_of form)) key (table_view c.args.table.now) (λ value fault h. h) (view c.in-Some.value.now)
    (found_value c.value_at.result c.in-Some.value _ c.value_at.ensures c.in-Some.is) (sym c.texts_of.ensures ∙ ap (option_map (λ (items : Bor (List Value)). those_in as_str (items_view items.now))) c.in-None-texts_of.is)) c.told-in-None-texts_of.ensures
