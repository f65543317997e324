-- The table of numbers: what holds of each key in the list holds of every key, and the defaults are
-- lawful.
use Rattle.std.proofs.Common.{◌≤◌, ◌<◌, ◌+◌, ◌*◌, ℕ, List, [], ◌∷◌, length, take, get_or, rules, refl, sym, subst, arith}
use Rattle.std.{proofs.lemmas.{List.{take_more, Elements.{All-append, All-cons, All-from_recursion, All-nil}}, Nat.{mul-le}}, specs.List.{All, AllByRecursion}}
use Rattle.amt_values.specs.declared.address.Ip.{Ip}
use Rattle.endpoint_membership.specs.Table.{AreLawful}
use Rattle.relay_machine.specs.{declared.{settings.Settings.{Settings}, number_key.{NumberKey.{NumberKey, TheVariants.{Robustness, QuerySeconds, ResponseTenths, Secrets, Endpoints, Groups, Sources, PacketLimit}}, TheConstants.{NUMBER_KEYS}}}, Settings.{AreLawfulSettings, IsInKeyRange, default_settings, membership_interval_ms, number_row}}

pub All-keys : (P : NumberKey → Type 0) → All P NUMBER_KEYS → (key : NumberKey) → P key
All-keys P all Robustness = all 0 Robustness (omega arith)
All-keys P all QuerySeconds = all 1 Robustness (omega arith)
All-keys P all ResponseTenths = all 2 Robustness (omega arith)
All-keys P all Secrets = all 3 Robustness (omega arith)
All-keys P all Endpoints = all 4 Robustness (omega arith)
All-keys P all Groups = all 5 Robustness (omega arith)
All-keys P all Sources = all 6 Robustness (omega arith)
All-keys P all PacketLimit = all 7 Robustness (omega arith)

-- what holds of the keys before one, and of that one, holds of one key more
pub All-more : (P : NumberKey → Type 0) (keys : List NumberKey) (i : ℕ) (d : NumberKey) → All P (take i keys) → i < length keys → P (get_or keys i d) → All P (take (i + 1) keys)
All-more P keys i d before within here =
    subst (All P) (sym (take_more keys i d within)) (All-append P (take i keys) (get_or keys i d ∷ []) before (All-cons P (get_or keys i d) [] here (All-nil P)))

numbers-default : (relay : Ip) (key : NumberKey) → IsInKeyRange key ((number_row key).number (default_settings relay))
numbers-default relay =
    let P : NumberKey → Type 0 = λ key. IsInKeyRange key ((number_row key).number (default_settings relay)) in
    let each : AllByRecursion P NUMBER_KEYS = search rules in All-keys P (All-from_recursion P NUMBER_KEYS each)

pub AreLawful-default : (relay : Ip) → AreLawfulSettings (default_settings relay)
AreLawful-default relay = record {
  numbers = numbers-default relay;
  times = record { interval = (125, omega arith, refl); response = (100, omega arith, refl); mld_response = (10000, omega arith, refl) };
  product = omega arith;
}

times_bounded : (robustness seconds tenths : ℕ) → robustness ≤ 7 → seconds ≤ 31744 → tenths ≤ 31744 → robustness * seconds * 1000 + tenths * 100 ≤ 1000000000
times_bounded robustness seconds tenths few short brief =
    let product : robustness * seconds ≤ 7 * 31744 = mul-le robustness seconds 7 31744 few short in omega (arith, product)

-- lawful settings are limits and a lifetime that a table may have
pub AreLawful-settings : (settings : Settings) → AreLawfulSettings settings → AreLawful settings.limits (membership_interval_ms settings)
AreLawful-settings settings lawful =
    let tenths = (lawful.numbers ResponseTenths).least in
    let endpoints = (lawful.numbers Endpoints).most in
    let groups = (lawful.numbers Groups).most in
    let sources = (lawful.numbers Sources).most in record {
      some_time = omega (arith, tenths);
      at_most = times_bounded settings.robustness settings.query_seconds settings.response_tenths (lawful.numbers Robustness).most (lawful.numbers QuerySeconds).most (lawful.numbers ResponseTenths).most;
      endpoints = omega (arith, endpoints);
      groups = omega (arith, groups);
      sources = omega (arith, sources);
    }
