-- The gateways of a script, added one by one.
use Rattle.std.proofs.{Common.{◌≡◌, ◌<◌, ℕ, ◌+◌, ◌||◌, zero, suc, Bool, true, false, cond, List, [], ◌∷◌, ◌++◌, length, map, take, get_or, Option, Some, None, refl, sym, subst, ap, ◌∙◌, append-nil, append_assoc, arith}, lemmas.List.{map-append, take_more}}
use Rattle.gateway_machine.specs.Answers.{same_peer}
use Rattle.group_records.specs.Written.{is_of_family}
use Rattle.relay_machine.specs.declared.settings.Settings.{Settings}
use Rattle.response_mac.specs.declared.secret.Secret.{Secret}
use Rattle.socket_merge.specs.History.{same_name}
use Rattle.amt_pair.specs.{Setup.{Host, PairSetup, has_taken, settings_of_host}, State.{PairAt}, declared.pair.Pair.{Pair}}
use Rattle.pair_script.specs.{Gateways.{IsNew, family_of, gateway_named, is_peer_given}, Running.{CanBeAdded}, Setup.{host_of}, declared.script.PairGateway.{PairGateway}}

-- what may be added next is new, and its reports go out from an address of its family
pub record IsAddable (before : List PairGateway) (gateway : PairGateway) : Type 0 where
  pub new : IsNew before gateway
  pub source : is_of_family (family_of gateway) gateway.source ≡ true

pub added_at : (before gateways : List PairGateway) (i : ℕ) (d : PairGateway) → i < length gateways → CanBeAdded before gateways
    → IsAddable (before ++ take i gateways) (get_or gateways i d)
added_at before [] i d inside all = absurd (omega (arith, inside))
added_at before (gateway ∷ rest) zero d inside all =
    subst (λ (given : List PairGateway). IsAddable given gateway) (sym (append-nil before)) (record { new = all.0; source = all.1 })
added_at before (gateway ∷ rest) (suc i) d inside all =
    subst (λ (given : List PairGateway). IsAddable given (get_or rest i d)) (append_assoc before (gateway ∷ []) (take i rest))
    (added_at (before ++ gateway ∷ []) rest i d (omega (arith, inside)) all.2)

not_taken_by : (named at_peer : Bool) (first : PairGateway) (found : Option PairGateway) (given taken : Bool) → cond named (Some first) found ≡ None → (at_peer || given) ≡ false
    → (found ≡ None → given ≡ false → taken ≡ false) → ((named || at_peer) || taken) ≡ false
not_taken_by true at_peer first found given taken none free rest = absurd (cc none)
not_taken_by false true first found given taken none free rest = absurd (cc free)
not_taken_by false false first found given taken none free rest = rest none free

pub not_taken : (settings : Settings) (gateways : List PairGateway) (gateway : PairGateway) → IsNew gateways gateway
    → has_taken gateway.name gateway.peer (map (host_of settings) gateways) ≡ false
not_taken settings [] gateway new = refl
not_taken settings (first ∷ more) gateway new =
    not_taken_by (same_name gateway.name first.name) (same_peer first.peer gateway.peer) first (gateway_named more gateway.name) (is_peer_given more gateway.peer)
    (has_taken gateway.name gateway.peer (map (host_of settings) more)) new.name new.peer
    (λ name peer. not_taken settings more gateway (record { name = name; peer = peer }))

abbrev SetUpTo : Settings → Secret → List Host → PairSetup
SetUpTo settings secret hosts = record { settings = settings; secret = secret; hosts = hosts }

-- one gateway more
pub pair_more : (pair : Pair) (settings : Settings) (secret : Secret) (gateways : List PairGateway) (i : ℕ) (d gateway : PairGateway) (name : List ℕ)
    → i < length gateways → gateway ≡ get_or gateways i d → name ≡ gateway.name
    → PairAt pair (SetUpTo settings secret (map (host_of settings) (take i gateways)
    ++ record { name = name; peer = gateway.peer; settings = settings_of_host settings gateway.v6 false gateway.source } ∷ [])) []
    → PairAt pair (SetUpTo settings secret (map (host_of settings) (take (i + 1) gateways))) []
pair_more pair settings secret gateways i d gateway name inside is name_is at =
    let before = map (host_of settings) (take i gateways) in
    let named = subst (λ (n : List ℕ). PairAt pair (SetUpTo settings secret (before
    ++ record { name = n; peer = gateway.peer; settings = settings_of_host settings gateway.v6 false gateway.source } ∷ [])) []) name_is at in
    let of_list = subst (λ (g : PairGateway). PairAt pair (SetUpTo settings secret (before ++ host_of settings g ∷ [])) []) is named in
    let hosts = sym (ap (map (host_of settings)) (take_more gateways i d inside) ∙ map-append (host_of settings) (take i gateways) (get_or gateways i d ∷ [])) in
    subst (λ (hs : List Host). PairAt pair (SetUpTo settings secret hs) []) hosts of_list

-- a pair that has these gateways has not taken what can be added next
pub never_taken : (settings : Settings) (before : List PairGateway) (gateway one : PairGateway) (name : List ℕ) (hosts : List Host) → hosts ≡ map (host_of settings) before
    → IsAddable before one → gateway ≡ one → name ≡ gateway.name → has_taken name gateway.peer hosts ≡ true → ⊥
never_taken settings before gateway one name hosts are addable is name_is taken =
    let here = subst (λ (g : PairGateway). IsNew before g) (sym is) addable.new in
    let free = not_taken settings before gateway here in
    let same = ap (λ (hs : List Host). has_taken name gateway.peer hs) are ∙ ap (λ (n : List ℕ). has_taken n gateway.peer (map (host_of settings) before)) name_is in
    cc (sym taken ∙ (same ∙ free))
