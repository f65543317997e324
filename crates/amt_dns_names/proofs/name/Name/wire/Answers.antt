-- What was written of the labels is the name, which stands wherever its octets do.
use Rattle.std.proofs.{Common.{◌≡◌, All, arith}, lemmas.Grind.{common_steps}}
use Rattle.amt_dns_names.{specs.{Name.{IsLabel, name_wire}}, proofs.{Names.{IsName-of}, Places.{NameAt-written}}}
use Rattle.amt_dns_names.proofs.name.Name.wire.Goals as goal

pub append_label-requires : goal.append_label-requires
append_label-requires c =
    let all : All IsLabel c.as_slice-label-items.result.now = rw c.as_slice-label-items.ensures c.self.invariant.0.labels in
    let one = all c.loop-label.label-index c.label-item.result (omega arith) in
    rw (c.as_slice.ensures, c.label-item.is) one.most

pub returns-clause-stands : goal.returns-clause-stands
returns-clause-stands c =
    let is : c.push.new.self ≡ name_wire c.args.self.now = grind (arith, common_steps) in
    λ before after. rw is (NameAt-written before after c.args.self.now (IsName-of c.self.view_is c.self.invariant.0))
