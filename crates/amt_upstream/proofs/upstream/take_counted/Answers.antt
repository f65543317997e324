use Rattle.std.proofs.Common.{List, ◌∷◌, [], ◌++◌, sym, subst, ◌∙◌, ap}
use Rattle.endpoint_membership.specs.{Log.{latest}, Membership.{Membership}, MembershipChanges.{AreChanges}, Table.{memberships_now}}
use Rattle.endpoint_membership.proofs.MembershipsByLog.{AreMembershipsAt-memberships_at}
use Rattle.amt_upstream.specs.Upstream.{records_between}
use Rattle.endpoint_membership.proofs.HoldsAfter.{rows_now}
use Rattle.amt_upstream.proofs.NumbersAfter.{AreInOrder-Holds, AreInOrder-memberships_at}
use Rattle.amt_upstream.proofs.upstream.take_counted.Goals as goal

pub returns-clause-records : goal.returns-clause-records
returns-clause-records c settings log holds =
    let table = c.args.table.now in
    let next = log ++ c.args.change.now ∷ [] in
    let after = memberships_now settings next in
    let rows = rows_now settings table log holds in
    c.in_ok-records.ensures after (c.requires.numbers settings log holds) (AreInOrder-memberships_at settings.lifetime (latest next) next) (AreInOrder-Holds settings table log holds)
    (subst (λ (before : List Membership). AreChanges before after c.args.changes.now) (sym rows) (c.requires.changes settings log holds))
    holds.rows.ascend (AreMembershipsAt-memberships_at settings.lifetime (latest next) next).ascend
    ∙ ap (λ (before : List Membership). records_between before after) rows
