use Rattle.std.{proofs.Common.{List, None, if◌then◌else◌, sym, ap, subst, ◌∙◌}, specs.Option.{option_or}}
use Rattle.amt_values.{specs.Ascending.{IsAscending, has}, proofs.AscendingLaws.{IsAscending-filter}}
use Rattle.endpoint_membership.{specs.{EndpointGroup.{EndpointGroup, endpoint_group_order}, EndpointMemberships.{AreGone, AreOwn}, Membership.{is_fresh, membership_order}, Memberships.{membership_in}, Table.{Holds, TableValue}}, proofs.{AfterReport.{AreAfterReport}, HoldsAfter.{Holds-report}, ReportFits.{AreAfterReport-set}}}
use Rattle.endpoint_membership.proofs.table.Table.absorb_report.Goals as goal

pub invariant_of-self-2 : goal.invariant_of-self-2
invariant_of-self-2 c = (
  c.self.invariant.0,
  subst (IsAscending membership_order) (sym c.purge.ensures) (IsAscending-filter membership_order (is_fresh c.self.inside.lifetime_ms c.later-moment.result) c.replace.new.self c.in_ok-replace.ensures.ascends),
  c.self.invariant.2,
)

pub returns-clause-stands : goal.returns-clause-stands
returns-clause-stands c settings log holds =
    let own = c.in_ok-memberships.field-0.memberships.items in
    let gone = c.in_ok-memberships.field-0.gone.items in
    let owned = subst (λ (table : TableValue). AreOwn table.lifetime c.later-moment.result c.args.endpoint.now c.args.records.now table.rows own) (sym c.self.view_is) c.in_ok-memberships.ensures.own in
    let left = subst (λ (table : TableValue). AreGone table.lifetime c.later-moment.result c.args.endpoint.now table.rows own gone) (sym c.self.view_is) c.in_ok-memberships.ensures.gone in
    Holds-report settings _ log c.args.endpoint.now c.args.records.now c.args.at.now c.later-moment.result own c.self.invariant.0.some_time c.later-moment.ensures owned
    (subst (λ (table : TableValue). Holds settings table log) (sym c.self.view_is) holds) c.purge.new.self
    (subst (AreAfterReport c.self.inside.lifetime_ms c.later-moment.result c.args.endpoint.now c.self.inside.rows own) (sym c.purge.ensures)
    (AreAfterReport-set c.self.inside.lifetime_ms c.later-moment.result c.args.endpoint.now c.args.records.now c.self.inside.rows own c.self.invariant.0.some_time owned c.replace.new.self gone c.in_ok-replace.ensures.ascends left
    (λ at. c.in_ok-replace.ensures.ok at ∙ ap (λ (pairs : List EndpointGroup). if has endpoint_group_order pairs at then None else option_or (membership_in own at) (membership_in c.self.inside.rows at)) c.deref.ensures.value)))
