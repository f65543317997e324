-- The settings of a script are settled in one way, and something is missing or wrong, or nothing is.
use Rattle.std.proofs.Common.{◌≡◌, ℕ, List, Option, Some, inl, inr, sym, ap, subst, ◌∙◌}
use Rattle.gateway_machine.specs.{declared.settings.GatewaySettings.{GatewaySettings}, Settings.{HasSourceOfFamily}}
use Rattle.script_lines.specs.declared.reason.Reason.{Reason}
use Rattle.script_lines.specs.declared.reason.Reason.TheVariants as reasons
use Rattle.gateway_script.specs.{declared.setting.Setting.{Setting}, Fault.{FailsAtEnd, LacksSetting}, Settling.{Settles, is_v6}}

same_value : {X : Type 0} (given : Option X) (one other : X) → given ≡ Some one → given ≡ Some other → one ≡ other
same_value given one other h k = let same = sym h ∙ k in cc same

same_settings : (one other : GatewaySettings) → one.v6 ≡ other.v6 → one.discovery ≡ other.discovery → one.relay ≡ other.relay → one.port ≡ other.port
    → one.source ≡ other.source → one.linux_relay ≡ other.linux_relay → one ≡ other
same_settings one other v6 discovery relay port source linux =
    λ i. record { v6 = v6 i; discovery = discovery i; relay = relay i; port = port i; source = source i; linux_relay = linux i }

pub settled_values : (given : List Setting) (values values' : GatewaySettings) (nonce nonce' : ℕ) → Settles given values nonce → Settles given values' nonce' → values ≡ values'
settled_values given values values' nonce nonce' h k =
    let family = same_value _ h.family k.family h.family_is k.family_is in
    same_settings values values' (h.v6 ∙ (ap is_v6 family ∙ sym k.v6)) (same_value _ values.discovery values'.discovery h.discovery k.discovery) (h.relay ∙ sym k.relay)
    (h.port ∙ sym k.port) (same_value _ values.source values'.source h.source k.source) (h.linux_relay ∙ sym k.linux_relay)

nothing_missing : (given : List Setting) (values : GatewaySettings) (nonce : ℕ) → Settles given values nonce → LacksSetting given → ⊥
nothing_missing given values nonce settled (inl family) = cc (sym settled.family_is ∙ family)
nothing_missing given values nonce settled (inr (inl discovery)) = cc (sym settled.discovery ∙ discovery)
nothing_missing given values nonce settled (inr (inr source)) = cc (sym settled.source ∙ source)

pub wrong_at_end : (given : List Setting) (values : GatewaySettings) (nonce : ℕ) (reason : Reason) → Settles given values nonce → HasSourceOfFamily values
    → FailsAtEnd given reason → ⊥
wrong_at_end given values nonce reasons.Missing settled source missing = nothing_missing given values nonce settled missing
wrong_at_end given values nonce reasons.Range settled source range =
    range.3 (subst HasSourceOfFamily (settled_values given values range.0 nonce range.1 settled range.2) source)
wrong_at_end given values nonce reason settled source fails = fails
