-- A line says one thing.
use Rattle.std.proofs.Common.{◌≡◌, ℕ, Bool, List, ◌∷◌, ◌++◌, Option, None, refl, sym, subst, ap, ◌∙◌, arith}
use Rattle.amt_values.{specs.{declared.{address.Ip.{Ip}, peer.Peer.{Peer}}, Text.{IsIpText, IsPeerText}}, proofs.Unique.{IsIpText-unique, IsPeerText-unique}}
use Rattle.group_records.specs.declared.family.Family.{Family}
use Rattle.source_filter.specs.Filter.{FilterValue, ascending_sources}
use Rattle.gateway_machine.specs.declared.event.GatewayEvent.{GatewayEvent}
use Rattle.gateway_machine.specs.declared.event.GatewayEvent.TheVariants as events
use Rattle.script_lines.{specs.Form.{IsFamilyText, IsFlagText, IsGroupText, IsHexText, IsModeText, IsMomentText, IsNameText, IsNonceText, IsNumberText}, proofs.Forms.{IsFlagText-unique, IsHexText-unique, IsMomentText-unique, IsNumberText-unique, one_field}}
use Rattle.gateway_script.specs.{declared.{kind.LineKind.{LineKind}, setting.Setting.{Setting}}, Row.{words_of}, Says.{AreAddressTexts, SaysEvent, SaysFilter, SaysSetting}, Setting.{key_of}}
use Rattle.gateway_script.proofs.{Fields.{AreAddressTexts-unique, IsAddressText-unique, IsFamilyText-unique, IsModeText-unique, IsNameText-unique, IsNonceText-unique}, Rows.{same_kind, same_values}, Says.{kind_of_event, setting_is_fit, event_is_fit}}
use Rattle.gateway_script.specs.declared.kind.LineKind.TheVariants as kinds
use Rattle.gateway_script.specs.declared.setting.Setting.TheVariants as settings

SaysSetting-same : (one other : Setting) (line : List (List ℕ)) → key_of one ≡ key_of other → SaysSetting one line → SaysSetting other line → one ≡ other
SaysSetting-same (settings.Family x) (settings.Family y) line same h k =
    ap (λ (v : Family). settings.Family v) (one_field _ IsFamilyText IsFamilyText-unique x y line h k)
SaysSetting-same (settings.Discovery x) (settings.Discovery y) line same h k =
    ap (λ (v : Peer). settings.Discovery v) (one_field _ IsPeerText IsPeerText-unique x y line h k)
SaysSetting-same (settings.Source x) (settings.Source y) line same h k = ap (λ (v : Ip). settings.Source v) (one_field _ IsIpText IsIpText-unique x y line h k)
SaysSetting-same (settings.Relay x) (settings.Relay y) line same h k = ap (λ (v : Peer). settings.Relay v) (one_field _ IsPeerText IsPeerText-unique x y line h k)
SaysSetting-same (settings.Port x) (settings.Port y) line same h k =
    ap (λ (v : ℕ). settings.Port v)
    (one_field _ (IsNumberText 0 65535) (λ v w text p q. IsNumberText-unique 0 65535 v w text (omega arith) p q) x y line h k)
SaysSetting-same (settings.Nonce x) (settings.Nonce y) line same h k =
    ap (λ (v : ℕ). settings.Nonce v) (one_field _ IsNonceText IsNonceText-unique x y line h k)
SaysSetting-same (settings.LinuxRelay x) (settings.LinuxRelay y) line same h k =
    ap (λ (v : Bool). settings.LinuxRelay v) (one_field _ IsFlagText IsFlagText-unique x y line h k)
SaysSetting-same one other line same h k = cc same

set_key : (one other : Setting) (line : List (List ℕ)) → SaysSetting one line → SaysSetting other line → key_of one ≡ key_of other
set_key one other line h k =
    let x = setting_is_fit None one line h in
    let y = setting_is_fit None other line k in
    let same = same_kind (kinds.Set (key_of one)) (kinds.Set (key_of other)) x.values y.values (sym x.parts ∙ y.parts) in
    cc same

pub SaysSetting-unique : (one other : Setting) (line : List (List ℕ)) → SaysSetting one line → SaysSetting other line → one ≡ other
SaysSetting-unique one other line h k = SaysSetting-same one other line (set_key one other line h k) h k

same_filter : (one other : FilterValue) → one.mode ≡ other.mode → one.sources ≡ other.sources → one ≡ other
same_filter one other same_mode same_sources = λ i. record { mode = same_mode i; sources = same_sources i }

SaysFilter-unique : (family : Option Family) (one other : FilterValue) (fields : List (List ℕ)) → SaysFilter family one fields → SaysFilter family other fields → one ≡ other
SaysFilter-unique family one other fields h k =
    let both = sym h.parts ∙ k.parts in
    let same_text : h.mode_text ≡ k.mode_text = cc in
    let same_texts : h.texts ≡ k.texts = cc in
    let mode = IsModeText-unique one.mode other.mode k.mode_text (subst (IsModeText one.mode) same_text h.mode) k.mode in
    let sources = AreAddressTexts-unique family h.sources k.sources k.texts (subst (AreAddressTexts family h.sources) same_texts h.addresses) k.addresses in
    same_filter one other mode (h.ascend ∙ (ap ascending_sources sources ∙ sym k.ascend))

-- what follows the first words is the same
values_of : (kind : LineKind) (line values values' : List (List ℕ)) → line ≡ words_of kind ++ values → line ≡ words_of kind ++ values' → values ≡ values'
values_of kind line values values' parts parts' = same_values kind kind values values' (sym parts ∙ parts')

open_same : (family : Option Family) (name name' : List ℕ) (group group' : Ip) (filter filter' : FilterValue) (line : List (List ℕ))
    → SaysEvent family (events.Open name group filter) line → SaysEvent family (events.Open name' group' filter') line
    → events.Open name group filter ≡ events.Open name' group' filter'
open_same family name name' group group' filter filter' line h k =
    let both = values_of kinds.Open line (h.text ∷ h.rest) (k.text ∷ k.rest) h.parts k.parts in
    let same_text : h.text ≡ k.text = cc in
    let same_rest : h.rest ≡ k.rest = cc in
    let fields = sym h.after.parts ∙ (same_rest ∙ k.after.parts) in
    let same_group : h.after.text ≡ k.after.text = cc in
    let same_fields : h.after.rest ≡ k.after.rest = cc in
    rw (
      IsNameText-unique name name' k.text (subst (IsNameText name) same_text h.names) k.names,
      IsAddressText-unique family group group' k.after.text (subst (λ (text : List ℕ). IsGroupText family group text) same_group h.after.joins).0 k.after.joins.0,
      SaysFilter-unique family filter filter' k.after.rest (subst (SaysFilter family filter) same_fields h.after.filters) k.after.filters,
    ) refl

change_same : (family : Option Family) (name name' : List ℕ) (filter filter' : FilterValue) (line : List (List ℕ))
    → SaysEvent family (events.Change name filter) line → SaysEvent family (events.Change name' filter') line
    → events.Change name filter ≡ events.Change name' filter'
change_same family name name' filter filter' line h k =
    let both = values_of kinds.Change line (h.text ∷ h.rest) (k.text ∷ k.rest) h.parts k.parts in
    let same_text : h.text ≡ k.text = cc in
    let same_rest : h.rest ≡ k.rest = cc in
    rw (
      IsNameText-unique name name' k.text (subst (IsNameText name) same_text h.names) k.names,
      SaysFilter-unique family filter filter' k.rest (subst (SaysFilter family filter) same_rest h.after) k.after,
    ) refl

close_same : (family : Option Family) (name name' : List ℕ) (line : List (List ℕ))
    → SaysEvent family (events.Close name) line → SaysEvent family (events.Close name') line → events.Close name ≡ events.Close name'
close_same family name name' line h k =
    let both = values_of kinds.Close line (h.text ∷ h.rest) (k.text ∷ k.rest) h.parts k.parts in
    let same_text : h.text ≡ k.text = cc in
    ap (λ (n : List ℕ). events.Close n) (IsNameText-unique name name' k.text (subst (IsNameText name) same_text h.names) k.names)

SaysEvent-same : (family : Option Family) (one other : GatewayEvent) (line : List (List ℕ)) → kind_of_event one ≡ kind_of_event other
    → SaysEvent family one line → SaysEvent family other line → one ≡ other
SaysEvent-same family (events.Moment x) (events.Moment y) line same h k =
    ap (λ (v : ℕ). events.Moment v) (one_field _ IsMomentText IsMomentText-unique x y line h k)
SaysEvent-same family (events.Nonce x) (events.Nonce y) line same h k =
    ap (λ (v : ℕ). events.Nonce v) (one_field _ IsNonceText IsNonceText-unique x y line h k)
SaysEvent-same family (events.Datagram from bytes) (events.Datagram from' bytes') line same h k =
    let parts = sym h.parts ∙ k.parts in
    let same_peer : h.text ≡ k.text = cc in
    let same_hex : h.next ≡ k.next = cc in
    rw (
      IsPeerText-unique from from' k.text (subst (IsPeerText from) same_peer h.names) k.names,
      IsHexText-unique bytes bytes' k.next (subst (IsHexText bytes) same_hex h.names_next) k.names_next,
    ) refl
SaysEvent-same family (events.Open name group filter) (events.Open name' group' filter') line same h k =
    open_same family name name' group group' filter filter' line h k
SaysEvent-same family (events.Change name filter) (events.Change name' filter') line same h k = change_same family name name' filter filter' line h k
SaysEvent-same family (events.Close name) (events.Close name') line same h k = close_same family name name' line h k
SaysEvent-same family events.LeaveAll events.LeaveAll line same h k = refl
SaysEvent-same family one other line same h k = cc same

pub SaysEvent-unique : (family : Option Family) (one other : GatewayEvent) (line : List (List ℕ)) → SaysEvent family one line → SaysEvent family other line → one ≡ other
SaysEvent-unique family one other line h k =
    let x = event_is_fit family one line h in
    let y = event_is_fit family other line k in
    SaysEvent-same family one other line (same_kind (kind_of_event one) (kind_of_event other) x.values y.values (sym x.parts ∙ y.parts)) h k
