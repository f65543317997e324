use Rattle.std.{proofs.{Common.{◌≡◌, IfOk, List, sym, ap, subst, ◌∙◌}, lemmas.Result.{IfOk-weaker}}}
use Rattle.source_filter.specs.Filter.{FilterValue}
use Rattle.endpoint_membership.specs.{Membership.{Membership}, Table.{TableValue}}
use Rattle.amt_upstream.specs.Upstream.{AdmitsTheWanted, joined, upstream_filter}
use Rattle.endpoint_membership.proofs.HoldsAfter.{rows_now}
use Rattle.amt_upstream.proofs.WantedBySome.{AdmitsTheWanted-joined}
use Rattle.amt_upstream.proofs.upstream.Upstream.interface.Goals as goal

pub returns-clause-filter : goal.returns-clause-filter
returns-clause-filter c settings log holds =
    subst (λ (filter : FilterValue). IfOk c.joined_filter.result (λ found. found ≡ filter))
    (ap (λ (rows : List Membership). joined rows c.args.group.now) (ap (λ (table : TableValue). table.rows) c.self.view_is ∙ rows_now settings c.args.self.now log holds)) c.joined_filter.ensures

pub returns-clause-admits : goal.returns-clause-admits
returns-clause-admits c settings log holds =
    IfOk-weaker c.joined_filter.result (λ found. found ≡ upstream_filter settings.lifetime log c.args.group.now) (AdmitsTheWanted settings.lifetime log c.args.group.now)
    (λ found is. subst (AdmitsTheWanted settings.lifetime log c.args.group.now) (sym is) (AdmitsTheWanted-joined settings.lifetime log c.args.group.now)) (returns-clause-filter c settings log holds)
