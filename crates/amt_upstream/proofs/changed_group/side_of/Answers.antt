use Rattle.std.proofs.Common.{List, ap, ◌∙◌}
use Rattle.amt_values.specs.declared.address.Ip.{Ip}
use Rattle.amt_upstream.specs.{Looking.{named_by, seen}, Upstream.{joined}}
use Rattle.amt_upstream.proofs.Looked.{IsAfter-none}
use Rattle.amt_upstream.proofs.changed_group.side_of.Goals as goal

pub returns-clause-is : goal.returns-clause-is
returns-clause-is c = record {
  named = c.in_ok-named.ensures ∙ ap named_by c.changes_on.ensures;
  before = c.in_ok-before.ensures c.args.table.now.rows (IsAfter-none c.args.table.now.rows c.args.tally.now.numbers c.requires.rows c.requires.numbers c.requires.in_order) ∙ ap (λ (named : List Ip). seen named (joined c.args.table.now.rows c.args.group.now)) c.deref.ensures.value;
}
