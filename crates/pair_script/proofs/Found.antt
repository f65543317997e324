-- A gateway that a name finds is one of those that were given, and has the name.
use Rattle.std.{proofs.{Common.{◌≡◌, ℕ, Bool, true, false, cond, List, [], ◌∷◌, map, Option, Some, refl, sym, subst, ap, ◌∙◌, arith}, lemmas.List.Elements.{Contains-append_right}}, specs.List.{Contains}}
use Rattle.socket_merge.{specs.History.{same_name}, proofs.Amounts.{same_name-exact}}
use Rattle.relay_machine.specs.declared.settings.Settings.{Settings}
use Rattle.amt_pair.specs.Setup.{Host}
use Rattle.pair_script.specs.{Gateways.{gateway_named}, Setup.{host_of}, declared.script.PairGateway.{PairGateway}}

the_gateway : (one other : PairGateway) → Some one ≡ Some other → one ≡ other
the_gateway one other same = cc

contains_first : (host : Host) (hosts : List Host) → Contains (host ∷ hosts) host
contains_first host hosts = (0, omega arith, refl)

-- its host is among the hosts
abbrev IsAmong : Settings → List PairGateway → PairGateway → Type 0
IsAmong settings gateways gateway = Contains (map (host_of settings) gateways) (host_of settings gateway)

among_first : (settings : Settings) (first gateway : PairGateway) (more : List PairGateway) → first ≡ gateway → IsAmong settings (first ∷ more) gateway
among_first settings first gateway more same =
    subst (λ (g : PairGateway). IsAmong settings (first ∷ more) g) same (contains_first (host_of settings first) (map (host_of settings) more))

found_by : (settings : Settings) (test : Bool) (first gateway : PairGateway) (more : List PairGateway) (found : Option PairGateway)
    → (found ≡ Some gateway → IsAmong settings more gateway) → cond test (Some first) found ≡ Some gateway → IsAmong settings (first ∷ more) gateway
found_by settings true first gateway more found rest is = among_first settings first gateway more (the_gateway first gateway is)
found_by settings false first gateway more found rest is =
    Contains-append_right (host_of settings first ∷ []) (map (host_of settings) more) (host_of settings gateway) (rest is)

pub found_among : (settings : Settings) (gateways : List PairGateway) (name : List ℕ) (gateway : PairGateway) → gateway_named gateways name ≡ Some gateway
    → IsAmong settings gateways gateway
found_among settings [] name gateway is = absurd cc
found_among settings (first ∷ more) name gateway is =
    found_by settings (same_name name first.name) first gateway more (gateway_named more name) (λ found. found_among settings more name gateway found) is

named_by : (test : Bool) (name : List ℕ) (first gateway : PairGateway) (found : Option PairGateway) → same_name name first.name ≡ test
    → (found ≡ Some gateway → gateway.name ≡ name) → cond test (Some first) found ≡ Some gateway → gateway.name ≡ name
named_by true name first gateway found same rest is =
    sym (same_name-exact name first.name same ∙ ap (λ (g : PairGateway). g.name) (the_gateway first gateway is))
named_by false name first gateway found same rest is = rest is

pub found_has_name : (gateways : List PairGateway) (name : List ℕ) (gateway : PairGateway) → gateway_named gateways name ≡ Some gateway → gateway.name ≡ name
found_has_name [] name gateway is = absurd cc
found_has_name (first ∷ more) name gateway is =
    named_by (same_name name first.name) name first gateway (gateway_named more name) refl (λ found. found_has_name more name gateway found) is
