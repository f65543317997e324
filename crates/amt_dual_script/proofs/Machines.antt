-- The machines of the gateways that lines give.
use Rattle.std.{proofs.{Common.{◌≡◌, ◌||◌, ℕ, Bool, true, false, List, [], ◌∷◌, ◌++◌, map, refl, sym, ◌∙◌, arith}, lemmas.List.{Elements.{Contains-append_right}, Folds.{list_any-append}}}, specs.List.{Contains, flat_map}}
use Rattle.relay_machine.specs.declared.settings.Settings.{Settings}
use Rattle.socket_merge.{specs.History.{same_name}, proofs.Amounts.{same_name-exact}}
use Rattle.amt_pair.specs.Setup.{Host}
use Rattle.amt_dual.specs.Setup.{machine_of, machines_of}
use Rattle.amt_dual_script.specs.{Gateways.{is_name_given}, Setup.{host_of}, declared.script.DualGateway.{DualGateway}}

-- the machines of these gateways
abbrev pub machines_by : Settings → List DualGateway → List Host
machines_by settings gateways = flat_map (machines_of settings) (map host_of gateways)

-- a machine of the family, of one of these gateways, which has the name
pub record HasMachine (settings : Settings) (gateways : List DualGateway) (name : List ℕ) (v6 : Bool) : Type 0 where
  pub gateway : DualGateway
  pub among : Contains (machines_by settings gateways) (machine_of settings v6 (host_of gateway))
  pub named : gateway.name ≡ name

among_first : (settings : Settings) (gateway : DualGateway) (more : List Host) (v6 : Bool)
    → Contains (machines_of settings (host_of gateway) ++ more) (machine_of settings v6 (host_of gateway))
among_first settings gateway more false = (0, omega arith, refl)
among_first settings gateway more true = (1, omega arith, refl)

found_by : (settings : Settings) (test given : Bool) (first : DualGateway) (more : List DualGateway) (name : List ℕ) (v6 : Bool) → same_name name first.name ≡ test
    → (given ≡ true → HasMachine settings more name v6) → (test || given) ≡ true → HasMachine settings (first ∷ more) name v6
found_by settings true given first more name v6 same rest is = record {
  gateway = first;
  among = among_first settings first (machines_by settings more) v6;
  named = sym (same_name-exact name first.name same);
}
found_by settings false given first more name v6 same rest is =
    let later = rest is in
    let machine = machine_of settings v6 (host_of later.gateway) in record {
      gateway = later.gateway;
      among = Contains-append_right (machines_of settings (host_of first)) (machines_by settings more) machine later.among;
      named = later.named;
    }

-- a name that was given is that of a gateway, of which both machines are among those of all
pub machine_found : (settings : Settings) (gateways : List DualGateway) (name : List ℕ) (v6 : Bool) → is_name_given gateways name ≡ true → HasMachine settings gateways name v6
machine_found settings [] name v6 is = absurd (cc is)
machine_found settings (first ∷ more) name v6 is =
    found_by settings (same_name name first.name) (is_name_given more name) first more name v6 refl (λ given. machine_found settings more name v6 given) is

or_more : (one more : Bool) → one ≡ true → (one || more) ≡ true
or_more true more is = refl
or_more false more is = absurd (cc is)

-- and it is given after more gateways
pub given_later : (before after : List DualGateway) (name : List ℕ) → is_name_given before name ≡ true → is_name_given (before ++ after) name ≡ true
given_later before after name is =
    list_any-append (λ (gateway : DualGateway). same_name name gateway.name) before after ∙ or_more (is_name_given before name) (is_name_given after name) is
