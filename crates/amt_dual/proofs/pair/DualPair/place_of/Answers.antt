use Rattle.{std.proofs.Common.{◌≡◌, ℕ, suc, Bool, sym, subst, subst₂, arith}, amt_pair.proofs.PairStates.{some_named}, amt_dual.proofs.TwinPlaces.{IsCalledAt, first_called, next_called}}
use Rattle.amt_dual.proofs.pair.DualPair.place_of.Goals as goal

pub unwrap-first-requires : goal.unwrap-first-requires
unwrap-first-requires c =
    some_named c.args.name.now c.args.self.now.gateways c.requires.0 c.place_of_name.result c.requires.1 c.requires.2 c.place_of_name.ensures.none

pub returns-then-v6-clause-within : goal.returns-then-v6-clause-within
returns-then-v6-clause-within c =
    let next = next_called c.args.name.now c.args.self.now.gateways c.unwrap-first.result c.args.self.now.twins c.place_of_name.result c.unwrap-first.ensures c.place_of_name.ensures.within c.place_of_name.ensures.found c.place_of_name.ensures.first in
    omega (arith, next.within, c.next_place.ensures)

pub returns-then-v6-clause-found : goal.returns-then-v6-clause-found
returns-then-v6-clause-found c =
    let next = next_called c.args.name.now c.args.self.now.gateways c.unwrap-first.result c.args.self.now.twins c.place_of_name.result c.unwrap-first.ensures c.place_of_name.ensures.within c.place_of_name.ensures.found c.place_of_name.ensures.first in
    let one_more : suc c.unwrap-first.result ≡ c.next_place.result = omega (arith, c.next_place.ensures) in
    let at : IsCalledAt c.args.name.now c.args.v6 c.args.self.now.gateways c.next_place.result =
    subst₂ (λ (v6 : Bool) (place : ℕ). IsCalledAt c.args.name.now v6 c.args.self.now.gateways place) (sym c.if-v6.true) one_more next in
    at.found

pub returns-else-v6-clause-found : goal.returns-else-v6-clause-found
returns-else-v6-clause-found c =
    let first = first_called c.args.name.now c.args.self.now.gateways c.unwrap-first.result c.args.self.now.twins c.place_of_name.result c.unwrap-first.ensures c.place_of_name.ensures.within c.place_of_name.ensures.found c.place_of_name.ensures.first in
    let at : IsCalledAt c.args.name.now c.args.v6 c.args.self.now.gateways c.unwrap-first.result =
    subst (λ (v6 : Bool). IsCalledAt c.args.name.now v6 c.args.self.now.gateways c.unwrap-first.result) (sym c.if-v6.false) first in
    at.found
