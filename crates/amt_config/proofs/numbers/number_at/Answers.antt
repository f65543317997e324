use Rattle.std.{proofs.Common.{◌≡◌, ℤ, inl, inr, of_z, refl, rules, subst, sym, to_z, w64, ap, ◌∙◌, Some}, specs.Option.{option_and_then}}
use Rattle.toml.specs.{Data.{as_integer}, View.{table_view, view}}
use Rattle.amt_config.{specs.{FileKey.{word_of}, Key.{HasWholeNumber, IsOutside, a_whole, optional}, declared.fault.KeyFault.TheVariants.{Kind, Range}}, proofs.{Faults.{fails_kind, fails_unfit, found_none, found_value, may_fail}, Values.{right_number}}}
use Rattle.amt_config.proofs.numbers.number_at.Goals as goal

pub returns-in-None : goal.returns-in-None
returns-in-None c =
    let found : HasWholeNumber (word_of c.args.key) c.args.range (table_view c.args.table.now) c.args.range.default =
    inl (found_none c.value_at.result _ c.value_at.ensures c.in-None.is, refl) in
    record { found = found; right = right_number _ _ _ _ found; fault = tt }

pub returns-in-None-as_integer-clause-fault : goal.returns-in-None-as_integer-clause-fault
returns-in-None-as_integer-clause-fault c =
    let key = optional (word_of c.args.key) (a_whole c.args.range) in
    may_fail (table_view c.args.table.now) key Kind c.told.result
    (fails_kind as_integer (IsOutside c.args.range) Range key (table_view c.args.table.now) (λ value fault h. h) (view c.in-Some.value.now)
    (found_value c.value_at.result c.in-Some.value _ c.value_at.ensures c.in-Some.is) (sym c.as_integer.ensures ∙ c.in-None-as_integer.is)) c.told.ensures

pub returns-in-Some-in_range : goal.returns-in-Some-in_range
returns-in-Some-in_range c =
    let back : to_z w64 (of_z w64 c.in-Some-as_integer.number) ≡ c.in-Some-as_integer.number = search rules in
    let found : HasWholeNumber (word_of c.args.key) c.args.range (table_view c.args.table.now) c.in-Some-in_range.number = inr (
      ap (option_and_then as_integer) (found_value c.value_at.result c.in-Some.value _ c.value_at.ensures c.in-Some.is)
          ∙ (sym c.as_integer.ensures ∙ (c.in-Some-as_integer.is ∙ ap (λ (z : ℤ). Some z) (sym back ∙ c.in-Some-in_range.ensures.found.0))),
      c.in-Some-in_range.ensures.found.1,
    ) in
    record { found = found; right = right_number _ _ _ _ found; fault = tt }

pub returns-in-None-in_range-clause-fault : goal.returns-in-None-in_range-clause-fault
returns-in-None-in_range-clause-fault c =
    let back : to_z w64 (of_z w64 c.in-Some-as_integer.number) ≡ c.in-Some-as_integer.number = search rules in
    let key = optional (word_of c.args.key) (a_whole c.args.range) in
    may_fail (table_view c.args.table.now) key Range c.told-in-None-in_range.result
    (fails_unfit as_integer (IsOutside c.args.range) Range key (table_view c.args.table.now) (λ value fault h. h) c.in-Some-as_integer.number
    (ap (option_and_then as_integer) (found_value c.value_at.result c.in-Some.value _ c.value_at.ensures c.in-Some.is)
    ∙ (sym c.as_integer.ensures ∙ c.in-Some-as_integer.is)) (subst (IsOutside c.args.range) back c.in-None-in_range.ensures.none)) c.told-in-None-in_range.ensures
