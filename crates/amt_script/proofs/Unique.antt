-- A line says one thing.
use Rattle.std.proofs.Common.{◌≡◌, ℕ, Bool, List, refl, sym, subst, ap, ◌∙◌, arith}
use Rattle.amt_values.{specs.{declared.{address.Ip.{Ip, TheVariants.{V4, V6}}, peer.Peer.{Peer}}, Text.{IsIpText, IsPeerText}}, proofs.Unique.{IsIpText-unique, IsPeerText-unique}}
use Rattle.endpoint_membership.specs.declared.limits.Limits.{Limits}
use Rattle.response_mac.specs.declared.secret.Secret.{Secret}
use Rattle.relay_machine.specs.{declared.{event.Event.{Event}, number_key.NumberKey.{NumberKey}}, Settings.{number_row}}
use Rattle.relay_machine.specs.declared.event.Event.TheVariants as events
use Rattle.script_lines.{specs.Form.{IsFlagText, IsMomentText, IsNumberText, IsHexText, IsSecretText}, proofs.Forms.{IsFlagText-unique, IsHexText-unique, IsSecretText-unique, IsMomentText-unique, IsNumberText-unique, address4, address6, one_field}}
use Rattle.amt_script.specs.declared.kind.Kind.TheVariants as kinds
use Rattle.amt_script.{specs.{declared.{script.RelayItem.{RelayItem}, setting.Setting.{Setting}}, Says.{IsLimitText, SaysSetting, SaysEvent, SaysItem}, Setting.{key_of}}, proofs.{Rows.{most_small, same_kind}, Says.{kind_of_event, kind_of_item, setting_is_fit, item_is_fit}}}
use Rattle.amt_script.specs.declared.script.RelayItem.TheVariants as items
use Rattle.amt_script.specs.declared.setting.Setting.TheVariants as settings

same_number_at : (key : NumberKey) (x y : ℕ) (line : List (List ℕ)) → SaysSetting (settings.Number key x) line → SaysSetting (settings.Number key y) line
    → settings.Number key x ≡ settings.Number key y
same_number_at key x y line h k =
    let least = (number_row key).least in
    let most = (number_row key).most in
    ap (λ (v : ℕ). settings.Number key v)
    (one_field _ (IsNumberText least most) (λ v w text p q. IsNumberText-unique least most v w text (most_small key) p q) x y line h k)

same_number : (key other : NumberKey) (x y : ℕ) (line : List (List ℕ)) → key ≡ other → SaysSetting (settings.Number key x) line → SaysSetting (settings.Number other y) line
    → settings.Number key x ≡ settings.Number other y
same_number key other x y line same h k =
    same_number_at key x y line h (subst (λ (n : NumberKey). SaysSetting (settings.Number n y) line) (sym same) k)
    ∙ ap (λ (n : NumberKey). settings.Number n y) same

SaysSetting-same : (one other : Setting) (line : List (List ℕ)) → key_of one ≡ key_of other → SaysSetting one line → SaysSetting other line → one ≡ other
SaysSetting-same (settings.Relay x) (settings.Relay y) line same h k = ap (λ (v : Ip). settings.Relay v) (one_field _ IsIpText IsIpText-unique x y line h k)
SaysSetting-same (settings.Query4 x) (settings.Query4 y) line same h k =
    ap (λ (v : ℕ). settings.Query4 v) (one_field _ (λ (v : ℕ). IsIpText (V4 v)) (λ v w text p q. address4 v w (IsIpText-unique (V4 v) (V4 w) text p q)) x y line h k)
SaysSetting-same (settings.Query6 x) (settings.Query6 y) line same h k =
    ap (λ (v : ℕ). settings.Query6 v) (one_field _ (λ (v : ℕ). IsIpText (V6 v)) (λ v w text p q. address6 v w (IsIpText-unique (V6 v) (V6 w) text p q)) x y line h k)
SaysSetting-same (settings.Number key x) (settings.Number other y) line same h k =
    let keys_same : key ≡ other = cc in
    same_number key other x y line keys_same h k
SaysSetting-same (settings.Secret x) (settings.Secret y) line same h k =
    ap (λ (v : Secret). settings.Secret v) (one_field _ IsSecretText IsSecretText-unique x y line h k)
SaysSetting-same (settings.LinuxGateways x) (settings.LinuxGateways y) line same h k =
    ap (λ (v : Bool). settings.LinuxGateways v) (one_field _ IsFlagText IsFlagText-unique x y line h k)
SaysSetting-same one other line same h k = cc same

set_key : (one other : Setting) (line : List (List ℕ)) → SaysSetting one line → SaysSetting other line → key_of one ≡ key_of other
set_key one other line h k =
    let x = setting_is_fit one line h in
    let y = setting_is_fit other line k in
    let same = same_kind (kinds.Set (key_of one)) (kinds.Set (key_of other)) x.values y.values (sym x.parts ∙ y.parts) in
    cc same

pub SaysSetting-unique : (one other : Setting) (line : List (List ℕ)) → SaysSetting one line → SaysSetting other line → one ≡ other
SaysSetting-unique one other line h k = SaysSetting-same one other line (set_key one other line h k) h k

same_datagram : (from from' : Peer) (bytes bytes' : List ℕ) → from ≡ from' → bytes ≡ bytes' → events.Datagram bytes from ≡ events.Datagram bytes' from'
same_datagram from from' bytes bytes' same_from same_bytes = rw (same_from, same_bytes) refl

same_limits : (one other : Limits) → one.endpoints ≡ other.endpoints → one.groups ≡ other.groups → one.sources ≡ other.sources → events.Limits one ≡ events.Limits other
same_limits one other endpoints groups sources = λ i. events.Limits (record { endpoints = endpoints i; groups = groups i; sources = sources i })

IsLimitText-unique : (one other : ℕ) (text : List ℕ) → IsLimitText one text → IsLimitText other text → one ≡ other
IsLimitText-unique one other text h k = IsNumberText-unique 1 4294967295 one other text (omega arith) h k

-- one text names one limit
one_limit : (one other : ℕ) (text other_text : List ℕ) → text ≡ other_text → IsLimitText one text → IsLimitText other other_text → one ≡ other
one_limit one other text other_text same h k = IsLimitText-unique one other other_text (subst (IsLimitText one) same h) k

SaysEvent-same : (one other : Event) (line : List (List ℕ)) → kind_of_event one ≡ kind_of_event other → SaysEvent one line → SaysEvent other line → one ≡ other
SaysEvent-same (events.Moment x) (events.Moment y) line same h k = ap (λ (v : ℕ). events.Moment v) (one_field _ IsMomentText IsMomentText-unique x y line h k)
SaysEvent-same (events.Datagram bytes from) (events.Datagram bytes' from') line same h k =
    let parts = sym h.parts ∙ k.parts in
    let same_peer : h.text ≡ k.text = cc in
    let same_hex : h.next ≡ k.next = cc in
    same_datagram from from' bytes bytes' (IsPeerText-unique from from' k.text (subst (IsPeerText from) same_peer h.names) k.names)
    (IsHexText-unique bytes bytes' k.next (subst (IsHexText bytes) same_hex h.names_next) k.names_next)
SaysEvent-same (events.Packet x) (events.Packet y) line same h k = ap (λ (v : List ℕ). events.Packet v) (one_field _ IsHexText IsHexText-unique x y line h k)
SaysEvent-same (events.Rotate x) (events.Rotate y) line same h k = ap (λ (v : Secret). events.Rotate v) (one_field _ IsSecretText IsSecretText-unique x y line h k)
SaysEvent-same (events.Limits x) (events.Limits y) line same h k =
    let parts = sym h.parts ∙ k.parts in
    let same_first : h.text ≡ k.text = cc in
    let same_next : h.next ≡ k.next = cc in
    let same_last : h.last ≡ k.last = cc in
    same_limits x y (one_limit x.endpoints y.endpoints h.text k.text same_first h.names k.names)
    (one_limit x.groups y.groups h.next k.next same_next h.names_next k.names_next)
    (one_limit x.sources y.sources h.last k.last same_last h.names_last k.names_last)
SaysEvent-same one other line same h k = cc same

SaysItem-same : (one other : RelayItem) (line : List (List ℕ)) → kind_of_item one ≡ kind_of_item other → SaysItem one line → SaysItem other line → one ≡ other
SaysItem-same (items.Event one) (items.Event other) line same h k = ap (λ (event : Event). items.Event event) (SaysEvent-same one other line same h k)
SaysItem-same items.Show items.Show line same h k = refl
SaysItem-same (items.Event (events.Moment ms)) items.Show line same h k = cc same
SaysItem-same (items.Event (events.Datagram bytes from)) items.Show line same h k = cc same
SaysItem-same (items.Event (events.Packet bytes)) items.Show line same h k = cc same
SaysItem-same (items.Event (events.Rotate secret)) items.Show line same h k = cc same
SaysItem-same (items.Event (events.Limits limits)) items.Show line same h k = cc same
SaysItem-same items.Show (items.Event (events.Moment ms)) line same h k = cc same
SaysItem-same items.Show (items.Event (events.Datagram bytes from)) line same h k = cc same
SaysItem-same items.Show (items.Event (events.Packet bytes)) line same h k = cc same
SaysItem-same items.Show (items.Event (events.Rotate secret)) line same h k = cc same
SaysItem-same items.Show (items.Event (events.Limits limits)) line same h k = cc same

pub SaysItem-unique : (one other : RelayItem) (line : List (List ℕ)) → SaysItem one line → SaysItem other line → one ≡ other
SaysItem-unique one other line h k =
    let x = item_is_fit one line h in
    let y = item_is_fit other line k in
    SaysItem-same one other line (same_kind (kind_of_item one) (kind_of_item other) x.values y.values (sym x.parts ∙ y.parts)) h k
