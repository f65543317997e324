-- A relay's table has one configuration, or one first fault.
use Rattle.std.{proofs.Common.{◌≡◌, ◌⊎◌, ◌≤◌, ◌<◌, ◌*◌, ℕ, Bool, true, false, List, Option, None, Some, codes, inl, inr, sym, subst, ap, ◌∙◌, arith}, specs.Option.{option_and_then, unwrap_or}}
use Rattle.amt_values.{specs.{declared.address.Ip.TheVariants.{V4, V6}, Text.{IsIpText, IsPeerText}, Conditions.{First}}, proofs.Unique.{IsIpText-unique, IsPeerText-unique}}
use Rattle.relay_machine.specs.{declared.number_key.{NumberKey.{NumberKey, TheVariants.{Robustness, QuerySeconds, ResponseTenths, Secrets, Endpoints, Groups, Sources, PacketLimit}}, NumberRange.{NumberRange}}, Settings.{AreLawfulSettings, HasCode, IsInKeyRange, number_at, number_row}}
use Rattle.script_lines.{proofs.Firsts.{First-holds, First-unique}, specs.Form.{a_peer, an_address, an_address4, an_address6}}
use Rattle.amt_script.specs.declared.kind.Key.TheVariants as words
use Rattle.amt_script.specs.Row.{key_word, number_word}
use Rattle.toml.specs.Data.{Data, Members, as_bool, get_member}
use Rattle.amt_config.specs.{declared.{config.RelayConfig.{RelayConfig}, fault.ConfigFault.{ConfigFault}}, Key.{HasBoolean, HasOptional, HasWholeNumber, IsRight, report_range}, Loopback.{IsGuardedText}, Relay.{FailsTogether, HasValues, IsFaultTogether, RelayConfigOf, number_key, range_of, relay_keys, rotate_range, settings_of, table_anywhere, together_order, workers_range}, Table.{IsValueFault}}
use Rattle.amt_config.proofs.{Faults.{AreRight, also, by_else}, Guarded.{guarded_unique, right_guarded}, Values.{right_boolean, right_number, right_text, right_text_or, same_boolean, same_number, same_optional, same_text, same_text_or}}
use Rattle.amt_config.specs.declared.fault.ConfigFault.TheVariants as faults

v4_unique : (one other : ℕ) (text : List ℕ) → IsIpText (V4 one) text → IsIpText (V4 other) text → one ≡ other
v4_unique one other text h k = let same : V4 one ≡ V4 other = IsIpText-unique (V4 one) (V4 other) text h k in cc

v6_unique : (one other : ℕ) (text : List ℕ) → IsIpText (V6 one) text → IsIpText (V6 other) text → one ≡ other
v6_unique one other text h k = let same : V6 one ≡ V6 other = IsIpText-unique (V6 one) (V6 other) text h k in cc

-- what a table says of the control socket
anywhere_by : (found : Option Data) (flag : Bool) → found ≡ None → flag ≡ false → unwrap_or (option_and_then as_bool found) false ≡ flag
anywhere_by None flag none off = sym off
anywhere_by (Some value) flag none off = cc none

pub anywhere_is : (table : Members) (flag : Bool) → HasBoolean (codes "control_anywhere") table flag → table_anywhere table ≡ flag
anywhere_is table flag (inl absent) = anywhere_by (get_member (codes "control_anywhere") table) flag absent.0 absent.1
anywhere_is table flag (inr there) = ap (λ (o : Option Bool). unwrap_or o false) there

pub same_values : (table : Members) (one other : RelayConfig) → HasValues table one → HasValues table other → one ≡ other
same_values table one other h k =
    let numbers : (key : NumberKey) → number_at (settings_of one) key ≡ number_at (settings_of other) key =
    λ key. same_number (number_word key) (range_of key) table _ _ (h.numbers key) (k.numbers key) in
    let anywhere = same_boolean (codes "control_anywhere") table _ _ h.anywhere k.anywhere in
    let control = subst (λ (a : Bool). HasOptional (codes "control") table (IsGuardedText a) one.control) anywhere h.control in
    λ i. record {
      relay = same_text IsIpText IsIpText-unique (key_word words.Relay) table _ _ h.relay k.relay i;
      listen = same_text IsPeerText IsPeerText-unique (codes "listen") table _ _ h.listen k.listen i;
      feed = same_text IsPeerText IsPeerText-unique (codes "feed") table _ _ h.feed k.feed i;
      control_anywhere = anywhere i;
      control = same_optional (IsGuardedText other.control_anywhere) (guarded_unique other.control_anywhere) (codes "control") table _ _ control k.control i;
      query4 = same_text_or (λ (n : ℕ). IsIpText (V4 n)) v4_unique (key_word words.Query4) table _ _ _ h.query4 k.query4 i;
      query6 = same_text_or (λ (n : ℕ). IsIpText (V6 n)) v6_unique (key_word words.Query6) table _ _ _ h.query6 k.query6 i;
      robustness = numbers Robustness i;
      query_seconds = numbers QuerySeconds i;
      response_tenths = numbers ResponseTenths i;
      endpoints = numbers Endpoints i;
      groups = numbers Groups i;
      sources = numbers Sources i;
      packet_limit = numbers PacketLimit i;
      rotate_seconds = same_number (codes "rotate_seconds") rotate_range table _ _ h.rotate k.rotate i;
      secrets = numbers Secrets i;
      workers = same_number (codes "workers") workers_range table _ _ h.workers k.workers i;
      linux_gateways = same_boolean (key_word words.LinuxGateways) table _ _ h.linux_gateways k.linux_gateways i;
      report_seconds = same_number (codes "report_seconds") report_range table _ _ h.report k.report i;
    }

pub right_keys : (table : Members) (config : RelayConfig) → HasValues table config → AreRight table (relay_keys (table_anywhere table))
right_keys table config h =
    let number : (key : NumberKey) → IsRight table (number_key key) =
    λ key. right_number (number_word key) (range_of key) table (number_at (settings_of config) key) (h.numbers key) in
    subst (λ (a : Bool). AreRight table (relay_keys a)) (sym (anywhere_is table config.control_anywhere h.anywhere))
    (also (right_text an_address (IsIpText config.relay) (λ text names fails. fails config.relay names) (key_word words.Relay) table true h.relay)
    (also (right_text a_peer (IsPeerText config.listen) (λ text names fails. fails config.listen names) (codes "listen") table true h.listen)
    (also (right_text a_peer (IsPeerText config.feed) (λ text names fails. fails config.feed names) (codes "feed") table true h.feed)
    (also (right_boolean (codes "control_anywhere") table config.control_anywhere h.anywhere)
    (also (right_guarded (codes "control") config.control_anywhere table config.control h.control)
    (also (right_text_or an_address4 (IsIpText (V4 config.query4)) (λ text names fails. fails config.query4 names) (key_word words.Query4) table _ h.query4)
    (also (right_text_or an_address6 (IsIpText (V6 config.query6)) (λ text names fails. fails config.query6 names) (key_word words.Query6) table _ h.query6)
    (also (number Robustness) (also (number QuerySeconds) (also (number ResponseTenths) (also (number Endpoints) (also (number Groups) (also (number Sources) (also (number PacketLimit)
    (also (right_number (codes "rotate_seconds") rotate_range table config.rotate_seconds h.rotate)
    (also (number Secrets)
    (also (right_number (codes "workers") workers_range table config.workers h.workers)
    (also (right_boolean (key_word words.LinuxGateways) table config.linux_gateways h.linux_gateways)
    (also (right_number (codes "report_seconds") report_range table config.report_seconds h.report) tt)))))))))))))))))))

-- numbers that fail together aren't lawful
more_than : (a b : ℕ) → a ≤ b → b < a → ⊥
more_than a b most more = absurd (omega (arith, most, more))

not_lawful : (config : RelayConfig) (key : NumberKey) → FailsTogether config key → AreLawfulSettings (settings_of config) → ⊥
not_lawful config QuerySeconds fails lawful = fails lawful.times.interval
not_lawful config ResponseTenths fails lawful = fails (lawful.times.response, lawful.times.mld_response)
not_lawful config Endpoints fails lawful = more_than (config.endpoints * config.groups * config.sources) 16777216 lawful.product fails
not_lawful config key fails lawful = fails

pub one_config : (table : Members) (one other : RelayConfig) → RelayConfigOf table one → RelayConfigOf table other → one ≡ other
one_config table one other h k = same_values table one other h.values k.values

one_key : (one other : RelayConfig) (key key' : NumberKey) → one ≡ other → First (FailsTogether one) together_order key → First (FailsTogether other) together_order key' → key ≡ key'
one_key one other key key' same h k =
    First-unique (FailsTogether one) together_order key key' h (subst (λ (c : RelayConfig). First (FailsTogether c) together_order key') (sym same) k)

pub one_together : (table : Members) (one other : ConfigFault) → IsFaultTogether table one → IsFaultTogether table other → one ≡ other
one_together table one other h k =
    let same = one_key h.config k.config h.key k.key (same_values table h.config k.config h.values k.values) h.first k.first in
    h.is ∙ (ap (λ (n : NumberKey). faults.Range (number_word n)) same ∙ sym k.is)

pub not_together : (table : Members) (config : RelayConfig) (fault : ConfigFault) → RelayConfigOf table config → IsFaultTogether table fault → ⊥
not_together table config fault of h =
    not_lawful h.config h.key (First-holds (FailsTogether h.config) together_order h.key h.first)
    (subst (λ (c : RelayConfig). AreLawfulSettings (settings_of c)) (same_values table config h.config of.values h.values) of.lawful)

-- each number is in its range
default_in_range : (key : NumberKey) → IsInKeyRange key (number_row key).default
default_in_range Robustness = record { least = omega arith; most = omega arith }
default_in_range QuerySeconds = record { least = omega arith; most = omega arith }
default_in_range ResponseTenths = record { least = omega arith; most = omega arith }
default_in_range Secrets = record { least = omega arith; most = omega arith }
default_in_range Endpoints = record { least = omega arith; most = omega arith }
default_in_range Groups = record { least = omega arith; most = omega arith }
default_in_range Sources = record { least = omega arith; most = omega arith }
default_in_range PacketLimit = record { least = omega arith; most = omega arith }

in_range : (key : NumberKey) (table : Members) (number : ℕ) → HasWholeNumber (number_word key) (range_of key) table number → IsInKeyRange key number
in_range key table number (inl absent) = subst (IsInKeyRange key) (sym absent.1) (default_in_range key)
in_range key table number (inr there) = record { least = there.1.0; most = there.1.1 }

-- limits within what a relay keeps don't fail
pub too_many : (config : RelayConfig) → config.endpoints * config.groups * config.sources ≤ 16777216 → FailsTogether config Endpoints → ⊥
too_many config within more = more_than (config.endpoints * config.groups * config.sources) 16777216 within more

-- where only the response time is left that may be unlawful, it is what fails
pub not_carried : (config : RelayConfig) → ((key : NumberKey) → IsInKeyRange key (number_at (settings_of config) key))
    → config.endpoints * config.groups * config.sources ≤ 16777216 → HasCode config.query_seconds → (AreLawfulSettings (settings_of config) → ⊥)
    → FailsTogether config ResponseTenths
not_carried config numbers within seconds unlawful = λ both.
    unlawful (record { numbers = numbers; times = record { interval = seconds; response = both.0; mld_response = both.1 }; product = within })

pub same_range : (range : NumberRange) (key : NumberKey) → range.least ≡ (number_row key).least → range.most ≡ (number_row key).most → range.default ≡ (number_row key).default → range ≡ range_of key
same_range range key least most default = λ i. record { least = least i; most = most i; default = default i }

-- where all values are right, but not together
pub together_or : (table : Members) (config : RelayConfig) (key : NumberKey) (fault : ConfigFault) → HasValues table config → First (FailsTogether config) together_order key
    → (fault ≡ faults.Range (number_word key)) ⊎ (fault ≡ faults.Memory) → IsValueFault (relay_keys (table_anywhere table)) IsFaultTogether table fault ⊎ (fault ≡ faults.Memory)
together_or table config key fault values first (inl is) =
    inl (by_else table (relay_keys (table_anywhere table)) fault (IsFaultTogether table fault) (right_keys table config values)
    (record { config = config; values = values; key = key; first = first; is = is }))
together_or table config key fault values first (inr memory) = inr memory
