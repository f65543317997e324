-- The gateways of a script, added one by one.
use Rattle.std.{proofs.{Common.{◌≡◌, ◌<◌, ℕ, ◌+◌, ◌||◌, zero, suc, Bool, true, false, List, [], ◌∷◌, ◌++◌, length, map, take, get_or, refl, sym, subst, ap, ◌∙◌, append-nil, append_assoc, arith}, lemmas.List.{map-append, take_more}}, specs.List.{flat_map}}
use Rattle.gateway_machine.specs.Answers.{same_peer}
use Rattle.relay_machine.specs.declared.settings.Settings.{Settings}
use Rattle.response_mac.specs.declared.secret.Secret.{Secret}
use Rattle.socket_merge.specs.History.{same_name}
use Rattle.amt_pair.specs.Setup.{Host, has_taken}
use Rattle.amt_dual.specs.{Setup.{DualHost, DualSetup, machines_of}, State.{DualPairAt}, declared.pair.DualPair.{DualPair}}
use Rattle.amt_dual_script.specs.{Gateways.{IsNew, is_name_given, is_peer_given}, Running.{CanBeAdded}, Setup.{host_of}, declared.script.DualGateway.{DualGateway}}

-- what may be added next is new
pub added_at : (before gateways : List DualGateway) (i : ℕ) (d : DualGateway) → i < length gateways → CanBeAdded before gateways
    → IsNew (before ++ take i gateways) (get_or gateways i d)
added_at before [] i d inside all = absurd (omega (arith, inside))
added_at before (gateway ∷ rest) zero d inside all = subst (λ (given : List DualGateway). IsNew given gateway) (sym (append-nil before)) all.0
added_at before (gateway ∷ rest) (suc i) d inside all =
    subst (λ (given : List DualGateway). IsNew given (get_or rest i d)) (append_assoc before (gateway ∷ []) (take i rest))
    (added_at (before ++ gateway ∷ []) rest i d (omega (arith, inside)) all.1)

-- neither machine of the first has the name or the peer
not_taken_by : (named at_peer named_later given_later taken : Bool) → (named || named_later) ≡ false → (at_peer || given_later) ≡ false
    → (named_later ≡ false → given_later ≡ false → taken ≡ false) → ((named || at_peer) || ((named || at_peer) || taken)) ≡ false
not_taken_by true at_peer named_later given_later taken new free rest = absurd (cc new)
not_taken_by false true named_later given_later taken new free rest = absurd (cc free)
not_taken_by false false named_later given_later taken new free rest = rest new free

-- the machines of these gateways
abbrev machines_at : Settings → List DualGateway → List Host
machines_at settings gateways = flat_map (machines_of settings) (map host_of gateways)

not_taken : (settings : Settings) (gateways : List DualGateway) (gateway : DualGateway) → IsNew gateways gateway
    → has_taken gateway.name gateway.peer (machines_at settings gateways) ≡ false
not_taken settings [] gateway new = refl
not_taken settings (first ∷ more) gateway new =
    not_taken_by (same_name gateway.name first.name) (same_peer first.peer gateway.peer) (is_name_given more gateway.name) (is_peer_given more gateway.peer)
    (has_taken gateway.name gateway.peer (machines_at settings more)) new.name new.peer
    (λ name peer. not_taken settings more gateway (record { name = name; peer = peer }))

abbrev SetUpTo : Settings → Secret → List DualHost → DualSetup
SetUpTo settings secret hosts = record { settings = settings; secret = secret; hosts = hosts }

-- one gateway more
pub dual_more : (pair : DualPair) (settings : Settings) (secret : Secret) (gateways : List DualGateway) (i : ℕ) (d gateway : DualGateway) (name : List ℕ)
    → i < length gateways → gateway ≡ get_or gateways i d → name ≡ gateway.name
    → DualPairAt pair (SetUpTo settings secret (map host_of (take i gateways)
    ++ record { name = name; peer = gateway.peer; source4 = gateway.source4; source6 = gateway.source6 } ∷ [])) []
    → DualPairAt pair (SetUpTo settings secret (map host_of (take (i + 1) gateways))) []
dual_more pair settings secret gateways i d gateway name inside is name_is at =
    let before = map host_of (take i gateways) in
    let named = subst (λ (n : List ℕ). DualPairAt pair (SetUpTo settings secret (before
    ++ record { name = n; peer = gateway.peer; source4 = gateway.source4; source6 = gateway.source6 } ∷ [])) []) name_is at in
    let of_list = subst (λ (g : DualGateway). DualPairAt pair (SetUpTo settings secret (before ++ host_of g ∷ [])) []) is named in
    let hosts = sym (ap (map host_of) (take_more gateways i d inside) ∙ map-append host_of (take i gateways) (get_or gateways i d ∷ [])) in
    subst (λ (hs : List DualHost). DualPairAt pair (SetUpTo settings secret hs) []) hosts of_list

-- a pair that has these gateways has not taken what can be added next
pub never_taken : (settings : Settings) (before : List DualGateway) (gateway one : DualGateway) (name : List ℕ) (hosts : List Host) → hosts ≡ machines_at settings before
    → IsNew before one → gateway ≡ one → name ≡ gateway.name → has_taken name gateway.peer hosts ≡ true → ⊥
never_taken settings before gateway one name hosts are new is name_is taken =
    let here = subst (λ (g : DualGateway). IsNew before g) (sym is) new in
    let free = not_taken settings before gateway here in
    let same = ap (λ (hs : List Host). has_taken name gateway.peer hs) are ∙ ap (λ (n : List ℕ). has_taken n gateway.peer (machines_at settings before)) name_is in
    cc (sym taken ∙ (same ∙ free))
