use Rattle.std.proofs.{Common.{◌≡◌, ◌<◌, sym, ◌∙◌, subst, length, true, HoldsAt, Option, ℕ, IfSome}, lemmas.Result.{IfOk-weaker}}
use Rattle.socket_merge.specs.History.{same_name}
use Rattle.amt_pair.{specs.{Schedule.{Course}, State.{StandsFor}, declared.gateways.NamedGateway.{NamedGateway}}, proofs.{Numbers.{call_may_come}, PairStates.{named_one, some_named}}}
use Rattle.amt_pair.proofs.pair.Pair.take_call.Goals as goal

pub unwrap-place-requires : goal.unwrap-place-requires
unwrap-place-requires c =
    some_named c.args.name.now c.args.self.now.gateways c.requires.1 c.place_of_name.result c.requires.2 c.requires.3 c.place_of_name.ensures.none

pub take_at_gateway-requires-clause-event : goal.take_at_gateway-requires-clause-event
take_at_gateway-requires-clause-event c =
    call_may_come c.args.name.now c.args.event.now c.args.self.now.gateways c.unwrap-place.result c.requires.1 c.args.self.now.apart
    (subst (λ (found : Option ℕ). IfSome found (λ place. place < length c.args.self.now.gateways)) c.unwrap-place.ensures c.place_of_name.ensures.within)
    (subst (λ (found : Option ℕ). IfSome found (HoldsAt (λ (one : NamedGateway). same_name c.args.name.now one.name ≡ true) c.args.self.now.gateways)) c.unwrap-place.ensures c.place_of_name.ensures.found)
    c.requires.2 c.requires.3 c.requires.4

pub returns-clause-parts : goal.returns-clause-parts
returns-clause-parts c = λ setup course stands.
    let one = named_one c.args.self.now.gateways course c.unwrap-place.result stands.gateways
    (subst (λ (found : Option ℕ). IfSome found (λ place. place < length c.args.self.now.gateways)) c.unwrap-place.ensures c.place_of_name.ensures.within) c.args.self.now.apart c.args.event.now c.args.name.now
    (subst (λ (found : Option ℕ). IfSome found (HoldsAt (λ (one : NamedGateway). same_name c.args.name.now one.name ≡ true) c.args.self.now.gateways)) c.unwrap-place.ensures c.place_of_name.ensures.found) in
    IfOk-weaker c.take_at_gateway.result _ _ (λ step is. is ∙ sym one.part) (c.take_at_gateway.ensures.parts setup course one.member stands one.here)

pub returns-clause-next : goal.returns-clause-next
returns-clause-next c = λ setup course stands.
    let one = named_one c.args.self.now.gateways course c.unwrap-place.result stands.gateways
    (subst (λ (found : Option ℕ). IfSome found (λ place. place < length c.args.self.now.gateways)) c.unwrap-place.ensures c.place_of_name.ensures.within) c.args.self.now.apart c.args.event.now c.args.name.now
    (subst (λ (found : Option ℕ). IfSome found (HoldsAt (λ (one : NamedGateway). same_name c.args.name.now one.name ≡ true) c.args.self.now.gateways)) c.unwrap-place.ensures c.place_of_name.ensures.found) in
    IfOk-weaker c.take_at_gateway.result _ _ (λ step now. subst (λ (after : Course). StandsFor c.take_at_gateway.new.self setup after) (sym one.reached) now)
    (c.take_at_gateway.ensures.next setup course one.member stands one.here)
