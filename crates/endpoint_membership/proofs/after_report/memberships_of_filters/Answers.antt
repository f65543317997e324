use Rattle.std.proofs.Common.{Bool, Some, None, Vec, Global, ◌++◌, ◌∷◌, [], if◌then◌else◌, sym, ap, ◌∙◌}
use Rattle.endpoint_membership.{specs.{EndpointGroup.{EndpointGroup}, EndpointMemberships.{gone_of_entry, membership_of_entry}, Membership.{Membership}}, proofs.{FilterMap.{made, none_more_given, one_more_given}, after_report.memberships_of_filters.Goals.{then-wants_any+in_ok-membership_of+in_ok-push, else-wants_any+in_ok-push-2}}}
use Rattle.endpoint_membership.proofs.after_report.memberships_of_filters.Goals as goal

pub loop-group-preserved : goal.loop-group-preserved
loop-group-preserved c =
    let endpoint = c.args.endpoint.now in
    let group = c.in-Some.group in
    let renewed_filter = c.in-Some.renewed_filter in
    let done = c.loop-group.yielded in
    let at : EndpointGroup = record { endpoint = endpoint; group = group } in
    let membership = made endpoint group renewed_filter.filter renewed_filter.renewed in
    let invariant = c.loop-group.invariant in
    elim c.if-wants_any.branch [
      | then-wants_any+in_ok-membership_of+in_ok-push w ↦
          let stands = sym c.wants_any.ensures ∙ w.if-wants_any.true in record {
            rows = ap (λ (rows : Vec Membership Global). rows.items) w.memberships-is
                ∙ one_more_given (membership_of_entry endpoint) done (group, renewed_filter) membership c.loop-group.memberships.items _ (ap (λ (test : Bool). if test then Some membership else None) stands) invariant.rows
                (w.in_ok-push.ensures.items ∙ ap (λ (one : Membership). c.loop-group.memberships.items ++ one ∷ []) w.in_ok-membership_of.ensures);
            gone = ap (λ (pairs : Vec EndpointGroup Global). pairs.items) w.gone-is
                ∙ none_more_given (gone_of_entry endpoint) done (group, renewed_filter) c.loop-group.gone.items (ap (λ (test : Bool). if test then None else Some at) stands) invariant.gone;
          }
      | else-wants_any+in_ok-push-2 w ↦
          let falls = sym c.wants_any.ensures ∙ w.if-wants_any.false in record {
            rows = ap (λ (rows : Vec Membership Global). rows.items) w.memberships-is
                ∙ none_more_given (membership_of_entry endpoint) done (group, renewed_filter) c.loop-group.memberships.items (ap (λ (test : Bool). if test then Some membership else None) falls) invariant.rows;
            gone = ap (λ (pairs : Vec EndpointGroup Global). pairs.items) w.gone-is
                ∙ one_more_given (gone_of_entry endpoint) done (group, renewed_filter) at c.loop-group.gone.items _ (ap (λ (test : Bool). if test then None else Some at) falls) invariant.gone w.in_ok-push-2.ensures.items;
          }
    ]
