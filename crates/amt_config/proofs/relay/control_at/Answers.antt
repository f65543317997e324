use Rattle.std.{proofs.Common.{Bool, codes, sym, subst}, specs.Result.{IfErr, OnOk}}
use Rattle.toml.specs.View.{table_view}
use Rattle.amt_config.{specs.{Key.{IsRight, a_guarded_peer, optional}, Reading.{MayFail}}, proofs.RelayLaws.{anywhere_is}}
use Rattle.amt_config.proofs.relay.control_at.Goals as goal

pub returns-clause-right : goal.returns-clause-right
returns-clause-right c =
    subst (λ (a : Bool). OnOk c.guarded_at.result (IsRight (table_view c.args.table.now) (optional (codes "control") (a_guarded_peer a))))
    (sym (anywhere_is (table_view c.args.table.now) c.args.anywhere c.requires)) c.guarded_at.ensures.right

pub returns-clause-fault : goal.returns-clause-fault
returns-clause-fault c =
    subst (λ (a : Bool). IfErr c.guarded_at.result (MayFail (table_view c.args.table.now) (optional (codes "control") (a_guarded_peer a))))
    (sym (anywhere_is (table_view c.args.table.now) c.args.anywhere c.requires)) c.guarded_at.ensures.fault
