use Rattle.std.proofs.Common.{◌≡◌, ℕ, ◌+◌, ◌≤◌, ◌<◌, ◌^◌, ◌==◌, Bool, true, false, if◌then◌else◌, List, filter, sym, ap, subst, arith}
use Rattle.amt_values.specs.EndpointValue.{EndpointValue}
use Rattle.endpoint_membership.{specs.{EndpointMemberships.{live_with}, Limits.{IsWithin, live_count, size}, Membership.{Membership}, Stored.{is_counted}, Table.{AreLawful, IsWithinLimits}, declared.{first_limit.Counts.{Counts}, limits.Limits.{Limits}}}, proofs.{CountedLive.{live_count-filter}, ReportBounds.{All-find}}}
use Rattle.endpoint_membership.proofs.table.Table.limit_passed.Goals as goal

few_others : (limits : Limits) (lifetime moment : ℕ) (endpoint : EndpointValue) (rows : List Membership) (others : ℕ) → AreLawful limits lifetime → IsWithin limits rows
    → others ≡ live_count (filter (is_counted lifetime moment endpoint) rows) → others ≤ 16777216
few_others limits lifetime moment endpoint rows others lawful within counted =
    omega (arith, counted, live_count-filter (is_counted lifetime moment endpoint) rows, within.endpoints, lawful.endpoints)

few_by : (none : Bool) (others : ℕ) → others + (if none then 0 else 1) ≤ others + 1
few_by true others = omega arith
few_by false others = omega arith

few_live : (counts : Counts) (groups others : ℕ) → counts ≡ record { groups = groups; live = live_with others groups } → others ≤ 16777216 → counts.live < 2 ^ 32
few_live counts groups others is few = omega (arith, ap (λ (one : Counts). one.live) is, few_by (groups == 0) others, few)

pub width_fault-requires : goal.width_fault-requires
width_fault-requires c =
    All-find (λ (membership : Membership). size membership < 2 ^ 32) _ c.args.own.now c.in-Some.membership.now c.requires.sources c.in-Some.ensures

pub new-without-requires : goal.new-without-requires
new-without-requires c =
    let few = few_others c.self.inside.limits c.self.inside.lifetime_ms c.args.moment c.args.endpoint.now c.self.inside.rows c.count_live-others.result c.self.invariant.0
    (subst IsWithinLimits (sym c.self.view_is) c.requires.within) c.count_live-others.ensures in omega (arith, few)

pub new-requires : goal.new-requires
new-requires c =
    let few = few_others c.self.inside.limits c.self.inside.lifetime_ms c.args.moment c.args.endpoint.now c.self.inside.rows c.count_live-others.result c.self.invariant.0
    (subst IsWithinLimits (sym c.self.view_is) c.requires.within) c.count_live-others.ensures in omega (arith, few)

pub count_passed-requires-clause-endpoints : goal.count_passed-requires-clause-endpoints
count_passed-requires-clause-endpoints c =
    few_live c.new.result _ c.count_live-others.result c.new.ensures (few_others c.self.inside.limits c.self.inside.lifetime_ms c.args.moment c.args.endpoint.now c.self.inside.rows c.count_live-others.result c.self.invariant.0
    (subst IsWithinLimits (sym c.self.view_is) c.requires.within) c.count_live-others.ensures)
