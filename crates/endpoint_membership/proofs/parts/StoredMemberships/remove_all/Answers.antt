use Rattle.std.proofs.{Common.{◌++◌, ◌∷◌, [], None, Option, List, if◌then◌else◌, take, sym, ap, ◌∙◌}, lemmas.List.{take_more}}
use Rattle.amt_values.specs.Ascending.{has}
use Rattle.endpoint_membership.{specs.{EndpointGroup.{EndpointGroup, endpoint_group_order, same_endpoint_group}, Membership.{Membership}, Memberships.{membership_in}}, proofs.SetAt.{one_more_removed}}
use Rattle.endpoint_membership.proofs.parts.StoredMemberships.remove_all.Goals as goal

pub loop-at-preserved : goal.loop-at-preserved
loop-at-preserved c =
    let k = c.loop-at.at-index in
    let pairs = c.args.pairs.now in
    let key = c.at-item.result in
    let more = take_more pairs k key c.loop-at-test.true ∙ ap (λ (next : EndpointGroup). take k pairs ++ next ∷ []) (sym c.at-item.is) in record {
      ascends = c.remove.ensures.ascends;
      each = λ at. c.remove.ensures.each at ∙ ap (λ (found : Option Membership). if same_endpoint_group key at then None else found) (c.loop-at.invariant.each at)
          ∙ one_more_removed (take k pairs) key at (membership_in c.args.self.now at)
          ∙ ap (λ (done : List EndpointGroup). if has endpoint_group_order done at then None else membership_in c.args.self.now at) (sym more);
    }
