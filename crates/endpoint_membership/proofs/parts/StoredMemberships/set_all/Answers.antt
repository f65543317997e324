use Rattle.std.proofs.Common.{None, List, if◌then◌else◌, ap, ◌∙◌}
use Rattle.amt_values.specs.Ascending.{has}
use Rattle.endpoint_membership.{specs.{EndpointGroup.{EndpointGroup, endpoint_group_order}, Memberships.{membership_in}}, proofs.SetAt.{undone}}
use Rattle.endpoint_membership.proofs.parts.StoredMemberships.set_all.Goals as goal

pub returns-clause-err : goal.returns-clause-err
returns-clause-err c =
    undone c.args.parted.added.items c.set_both.new.self c.remove_all.new.self c.args.self.now c.remove_all.ensures.ascends c.requires.old c.requires.absent c.in-Err.ensures.others
    (λ at. c.remove_all.ensures.each at
    ∙ ap (λ (pairs : List EndpointGroup). if has endpoint_group_order pairs at then None else membership_in c.set_both.new.self at) (c.deref.ensures.value ∙ c.requires.pairs))
