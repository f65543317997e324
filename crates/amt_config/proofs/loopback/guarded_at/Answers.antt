use Rattle.std.proofs.Common.{Option, Some, sym, subst, ◌∙◌}
use Rattle.amt_values.specs.{declared.peer.Peer.{Peer}, Text.{IsPeerText}}
use Rattle.toml.specs.View.{table_view}
use Rattle.amt_config.{specs.{FileKey.{word_of}, Key.{HasOptional}}, proofs.Guarded.{as_guarded, right_guarded}}
use Rattle.amt_config.proofs.loopback.guarded_at.Goals as goal

pub returns-clause-right : goal.returns-clause-right
returns-clause-right c =
    let table = table_view c.args.table.now in
    let named = subst (λ (given : Option Peer). HasOptional (word_of c.args.key) table IsPeerText given) c.in-Ok-Some.field-0-is c.in-Ok-Some.ensures.found in
    right_guarded (word_of c.args.key) c.args.anywhere table (Some c.in-Ok-Some.peer)
    (as_guarded (word_of c.args.key) c.args.anywhere table c.in-Ok-Some.peer named (sym c.may_be_at.ensures ∙ c.if-not-may_be_at.false))
