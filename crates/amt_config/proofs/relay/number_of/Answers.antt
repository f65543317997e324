use Rattle.std.{proofs.Common.{subst}, specs.Result.{IfErr, OnOk}}
use Rattle.relay_machine.specs.declared.number_key.NumberRange.{NumberRange}
use Rattle.amt_script.specs.Row.{number_word}
use Rattle.toml.specs.View.{table_view}
use Rattle.amt_config.{specs.{Key.{IsRight, a_whole, optional}, Reading.{MayFail}}, proofs.RelayLaws.{same_range}}
use Rattle.amt_config.proofs.relay.number_of.Goals as goal

pub returns-clause-right : goal.returns-clause-right
returns-clause-right c =
    subst (λ (range : NumberRange). OnOk c.number_at.result (IsRight (table_view c.args.table.now) (optional (number_word c.args.key) (a_whole range))))
    (same_range c.range.result c.args.key c.range.ensures.least c.range.ensures.most c.range.ensures.default) c.number_at.ensures.right

pub returns-clause-fault : goal.returns-clause-fault
returns-clause-fault c =
    subst (λ (range : NumberRange). IfErr c.number_at.result (MayFail (table_view c.args.table.now) (optional (number_word c.args.key) (a_whole range))))
    (same_range c.range.result c.args.key c.range.ensures.least c.range.ensures.most c.range.ensures.default) c.number_at.ensures.fault
