-- Settings of a script are settled in one way, and lawfully or not.
use Rattle.std.{proofs.{Common.{◌≡◌, ◌<◌, ◌+◌, ℕ, zero, suc, List, [], ◌∷◌, ◌++◌, length, get_or, take, Some, refl, sym, ap, subst, ◌∙◌, arith}, lemmas.List.{take_more}}, specs.List.{AllByRecursion}}
use Rattle.amt_values.specs.declared.address.Ip.{Ip, TheVariants.{V4}}
use Rattle.endpoint_membership.specs.declared.limits.Limits.{Limits}
use Rattle.response_mac.specs.declared.secret.Secret.{Secret}
use Rattle.relay_machine.specs.declared.number_key.NumberKey.TheVariants as numbers
use Rattle.relay_machine.specs.{Settings.{AreLawfulSettings, default_settings}, declared.settings.Settings.{Settings}}
use Rattle.script_lines.specs.declared.reason.Reason.{Reason}
use Rattle.script_lines.specs.declared.reason.Reason.TheVariants as reasons
use Rattle.amt_script.specs.{declared.setting.Setting.{Setting}, Fault.{FailsAtEnd}, Reading.{IsAllowed}, Settling.{Settles, limits_given, with_setting, with_settings}}
use Rattle.amt_script.specs.declared.setting.Setting.TheVariants as settings

same_ip : (one other : Ip) → Some one ≡ Some other → one ≡ other
same_ip one other same = cc

pub settled_values : (given : List Setting) (values values' : Settings) (secret secret' : Secret) → Settles given values secret → Settles given values' secret' → values ≡ values'
settled_values given values values' secret secret' h k =
    let relay = same_ip h.relay k.relay (sym h.relay_given ∙ k.relay_given) in
    h.values_are ∙ (ap (λ (ip : Ip). with_settings (default_settings ip) given) relay ∙ sym k.values_are)

-- a setting makes the same of the same limits, whatever else is set
same_limits : (one other : Settings) (setting : Setting) → one.limits ≡ other.limits → (with_setting one setting).limits ≡ (with_setting other setting).limits
same_limits one other (settings.Number numbers.Endpoints number) same = ap (λ (limits : Limits). record limits { endpoints = number }) same
same_limits one other (settings.Number numbers.Groups number) same = ap (λ (limits : Limits). record limits { groups = number }) same
same_limits one other (settings.Number numbers.Sources number) same = ap (λ (limits : Limits). record limits { sources = number }) same
same_limits one other (settings.Number key number) same = same
same_limits one other setting same = same

limits_by : (one other : Settings) (given : List Setting) → one.limits ≡ other.limits → (with_settings one given).limits ≡ (with_settings other given).limits
limits_by one other [] same = same
limits_by one other (setting ∷ rest) same = limits_by (with_setting one setting) (with_setting other setting) rest (same_limits one other setting same)

pub limits_settled : (given : List Setting) (values : Settings) (secret : Secret) → Settles given values secret → values.limits ≡ limits_given given
limits_settled given values secret settled =
    ap (λ (v : Settings). v.limits) settled.values_are ∙ limits_by (default_settings settled.relay) (default_settings (V4 0)) given refl

-- one setting more
pub with_settings-more : (values : Settings) (given : List Setting) (setting : Setting) → with_settings values (given ++ setting ∷ []) ≡ with_setting (with_settings values given) setting
with_settings-more values [] setting = refl
with_settings-more values (first ∷ rest) setting = with_settings-more (with_setting values first) rest setting

allowed_at : (given : List Setting) (i : ℕ) (d : Setting) → AllByRecursion IsAllowed given → i < length given → IsAllowed (get_or given i d)
allowed_at [] i d all inside = absurd (omega arith)
allowed_at (x ∷ xs) zero d all inside = all.0
allowed_at (x ∷ xs) (suc i) d all inside = allowed_at xs i d all.1 (omega (arith, inside))

-- the loop over the settings, one more
pub settled_more : (start before after : Settings) (given : List Setting) (i : ℕ) (d : Setting) → i < length given → AllByRecursion IsAllowed given
    → (IsAllowed (get_or given i d) → after ≡ with_setting before (get_or given i d))
    → before ≡ with_settings start (take i given) → after ≡ with_settings start (take (i + 1) given)
settled_more start before after given i d inside all sets same =
    let x = get_or given i d in
    sets (allowed_at given i d all inside) ∙ (ap (λ (v : Settings). with_setting v x) same
    ∙ (sym (with_settings-more start (take i given) x) ∙ ap (with_settings start) (sym (take_more given i d inside))))

pub wrong_at_end : (given : List Setting) (values : Settings) (secret : Secret) (reason : Reason) → Settles given values secret → AreLawfulSettings values
    → FailsAtEnd given reason → ⊥
wrong_at_end given values secret reasons.Missing settled lawful missing = cc (sym settled.relay_given ∙ missing)
wrong_at_end given values secret reasons.Range settled lawful range =
    range.3 (subst AreLawfulSettings (settled_values given values range.0 secret range.1 settled range.2) lawful)
wrong_at_end given values secret reason settled lawful fails = fails
