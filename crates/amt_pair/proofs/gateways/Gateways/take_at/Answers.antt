use Rattle.std.proofs.{Common.{◌≡◌, List, map, get_or, set, sym, ap, ◌∙◌, subst}, Math.Seq.{map-set_same}, lemmas.{List.{set-get_or}, Result.{IfOk-weaker}}}
use Rattle.gateway_machine.specs.{Events.{IsEventOf}, Runs.{settings_of}}
use Rattle.amt_pair.{specs.{Members.{AreMembersAt, IsMemberAt, host_of}, Schedule.{with_gateway_event}, declared.gateways.NamedGateway.{NamedGateway}}, proofs.MembersAt.{member_at_place, members_set}}
use Rattle.amt_pair.proofs.gateways.Gateways.take_at.Goals as goal

pub take-requires-clause-event : goal.take-requires-clause-event
take-requires-clause-event c =
    let named = c.index_mut.result.now in
    let is : named ≡ get_or c.args.self.now c.args.place named =
    c.index_mut.ensures.value ∙ ap (λ (all : List NamedGateway). get_or all c.args.place named) c.self.view_is in
    subst (λ (one : NamedGateway). IsEventOf (settings_of one.gateway) c.args.event.now) (sym is) (c.requires.event named)

pub returns-clause-part : goal.returns-clause-part
returns-clause-part c = λ members member at there.
    c.take.ensures.part member
    (member_at_place c.self.inside.gateways.items c.args.self.now members c.args.place c.index_mut.result.now member c.self.view_is at c.requires.place c.index_mut.ensures.value there)

pub returns-clause-next : goal.returns-clause-next
returns-clause-next c = λ members member at there.
    let items = c.self.inside.gateways.items in
    let next = with_gateway_event c.args.event.now member in
    IfOk-weaker c.take.result (λ part. IsMemberAt c.take.new.self next) _
    (λ part now. members_set items members c.args.place c.take.new.self next (subst (λ (all : List NamedGateway). AreMembersAt all members) (sym c.self.view_is) at) now)
    (c.take.ensures.next member
    (member_at_place items c.args.self.now members c.args.place c.index_mut.result.now member c.self.view_is at c.requires.place c.index_mut.ensures.value there))

pub returns-clause-sent : goal.returns-clause-sent
returns-clause-sent c = λ members member at there.
    c.take.ensures.sent member
    (member_at_place c.self.inside.gateways.items c.args.self.now members c.args.place c.index_mut.result.now member c.self.view_is at c.requires.place c.index_mut.ensures.value there)

pub returns-clause-hosts : goal.returns-clause-hosts
returns-clause-hosts c =
    map-set_same host_of c.self.inside.gateways.items c.args.place c.take.new.self c.index_mut.result.now
    (c.take.ensures.host ∙ ap host_of c.index_mut.ensures.value)
    ∙ ap (map host_of) c.self.view_is

pub returns-clause-ignored : goal.returns-clause-ignored
returns-clause-ignored c = λ members member at there refused.
    let items = c.self.inside.gateways.items in
    let named = c.index_mut.result.now in
    IfOk-weaker c.take.result (λ part. (c.take.new.self ≡ named) × (c.take.new.up ≡ c.args.up.now)) _
    (λ part same. (
      ap (set items c.args.place) (same.0 ∙ c.index_mut.ensures.value) ∙ set-get_or items c.args.place named ∙ c.self.view_is,
      same.1,
    ))
    (c.take.ensures.ignored member
    (member_at_place items c.args.self.now members c.args.place named member c.self.view_is at c.requires.place c.index_mut.ensures.value there)
    refused)
