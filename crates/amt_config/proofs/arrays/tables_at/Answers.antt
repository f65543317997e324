use Rattle.std.{proofs.Common.{Bor, List, [], inl, inr, refl, option_map, sym, ap, ◌∙◌}, specs.Option.{option_and_then}}
use Rattle.toml.specs.{Data.{as_table}, View.{items_view, table_view, view}, declared.value.Value.{Value}}
use Rattle.amt_config.{specs.{Arrays.{as_tables, those_in}, FileKey.{word_of}, Key.{HasTables, optional, some_tables}, declared.fault.KeyFault.TheVariants.{Kind, Range}}, proofs.{Faults.{fails_kind, found_none, found_value, may_fail}, Values.{right_tables}}}
use Rattle.amt_config.proofs.arrays.tables_at.Goals as goal

pub returns-in-None : goal.returns-in-None
returns-in-None c =
    let found : HasTables (word_of c.args.key) (table_view c.args.table.now) [] = inl (found_none c.value_at.result _ c.value_at.ensures c.in-None.is, refl) in
    record { found = found; right = right_tables _ _ _ found; fault = tt }

pub returns-in-Some-tables_of : goal.returns-in-Some-tables_of
returns-in-Some-tables_of c =
    let found : HasTables (word_of c.args.key) (table_view c.args.table.now) (those_in as_table (items_view c.in-Some-tables_of.items.now)) =
    inr (ap (option_and_then as_tables) (found_value c.value_at.result c.in-Some.value _ c.value_at.ensures c.in-Some.is)
    ∙ (sym c.tables_of.ensures ∙ ap (option_map (λ (items : Bor (List Value)). those_in as_table (items_view items.now))) c.in-Some-tables_of.is)) in
    record { found = found; right = right_tables _ _ _ found; fault = tt }

pub returns-in-None-tables_of-clause-fault : goal.returns-in-None-tables_of-clause-fault
returns-in-None-tables_of-clause-fault c =
    let key = optional (word_of c.args.key) some_tables in
    may_fail (table_view c.args.table.now) key Kind c.told.result
    (fails_kind as_tables (λ tables. ⊥) Range key (table_view c.args.table.now) (λ value fault h. h) (view c.in-Some.value.now)
    (found_value c.value_at.result c.in-Some.value _ c.value_at.ensures c.in-Some.is)
    (sym c.tables_of.ensures ∙ ap (option_map (λ (items : Bor (List Value)). those_in as_table (items_view items.now))) c.in-None-tables_of.is)) c.told.ensures
