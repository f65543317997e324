-- What a line says fits the kind of the line.
use Rattle.std.proofs.Common.{◌≡◌, ◌≤◌, ℕ, List, [], ◌∷◌, ◌++◌, length, Option, Some, inl, inr, refl, sym, ap, subst, ◌∙◌, arith}
use Rattle.amt_values.specs.declared.address.Ip.{Ip}
use Rattle.group_records.specs.declared.family.Family.{Family}
use Rattle.source_filter.specs.Filter.{FilterValue}
use Rattle.gateway_machine.specs.declared.event.GatewayEvent.{GatewayEvent}
use Rattle.gateway_machine.specs.declared.event.GatewayEvent.TheVariants as events
use Rattle.script_lines.{specs.{declared.reason.Reason.{Reason}, Form.{Form, Fails, IsNumberText, a_family, a_flag, a_group, a_mode, a_moment, a_name, a_nonce, a_number, a_peer, an_address, an_address_of, some_octets}, Shape.{FailsIn, HasField, Shape, SomeFails}}, proofs.Forms.{flag_fits, moment_fits, number_fits, octets_fit, address_fits as any_address_fits, peer_fits, none_fits, one_fits, two_fit}}
use Rattle.script_lines.specs.declared.reason.Reason.TheVariants as reasons
use Rattle.gateway_script.{specs.{declared.{kind.LineKind.{LineKind}, setting.Setting.{Setting}}, Fault.{FailsAs}, Reading.{IsEventKind}, Row.{fixed, shape_of, words_of}, Says.{SaysEvent, SaysFilter, SaysMembership, SaysNamed, SaysSetting}, Setting.{key_of}}, proofs.{Fields.{addresses_fit, family_fits, group_fits, mode_fits, name_fits, nonce_fits}, Rows.{same_kind}}}
use Rattle.gateway_script.specs.declared.kind.Key.TheVariants as keys
use Rattle.gateway_script.specs.declared.kind.LineKind.TheVariants as kinds
use Rattle.gateway_script.specs.declared.setting.Setting.TheVariants as settings

-- the line is of this kind, and no field of it fails
pub record IsFit (family : Option Family) (kind : LineKind) (line : List (List ℕ)) : Type 0 where
  pub values : List (List ℕ)
  pub parts : line ≡ words_of kind ++ values
  pub fits : (reason : Reason) → FailsAs family kind values reason → ⊥

-- a line of one field, of a form that no text of this kind fails
field_is_fit : (family : Option Family) (kind : LineKind) (form : Form) (IsText : List ℕ → Type 0) (line : List (List ℕ)) → shape_of family kind ≡ fixed (form ∷ [])
    → ((text : List ℕ) → IsText text → (reason : Reason) → Fails form text reason → ⊥) → HasField (words_of kind) IsText line → IsFit family kind line
field_is_fit family kind form IsText line shape fits says = record {
  values = says.text ∷ [];
  parts = says.parts;
  fits = λ reason. subst (λ (known : Shape). FailsIn known (says.text ∷ []) reason → ⊥) (sym shape) (one_fits form says.text (fits says.text says.names) reason);
}

pub setting_is_fit : (family : Option Family) (setting : Setting) (line : List (List ℕ)) → SaysSetting setting line → IsFit family (kinds.Set (key_of setting)) line
setting_is_fit family (settings.Family value) line says = field_is_fit family (kinds.Set keys.Family) a_family _ line refl (family_fits value) says
setting_is_fit family (settings.Discovery peer) line says = field_is_fit family (kinds.Set keys.Discovery) a_peer _ line refl (peer_fits peer) says
setting_is_fit family (settings.Source ip) line says = field_is_fit family (kinds.Set keys.Source) an_address _ line refl (any_address_fits ip) says
setting_is_fit family (settings.Relay peer) line says = field_is_fit family (kinds.Set keys.Relay) a_peer _ line refl (peer_fits peer) says
setting_is_fit family (settings.Port port) line says =
    field_is_fit family (kinds.Set keys.Port) (a_number 0 65535) (IsNumberText 0 65535 port) line refl (λ text names. number_fits 0 65535 port text (omega arith) names) says
setting_is_fit family (settings.Nonce nonce) line says = field_is_fit family (kinds.Set keys.Nonce) a_nonce _ line refl (nonce_fits nonce) says
setting_is_fit family (settings.LinuxRelay flag) line says = field_is_fit family (kinds.Set keys.LinuxRelay) a_flag _ line refl (flag_fits flag) says

-- a field and those after it
field_or_more : (form : Form) (forms : List Form) (repeated : Option Form) (text : List ℕ) (texts : List (List ℕ)) (reason : Reason) → (Fails form text reason → ⊥)
    → (SomeFails forms repeated texts reason → ⊥) → SomeFails (form ∷ forms) repeated (text ∷ texts) reason → ⊥
field_or_more form forms repeated text texts reason here others (inl h) = here h
field_or_more form forms repeated text texts reason here others (inr h) = others h

-- no field of a filter fails
filter_fits : (family : Option Family) (filter : FilterValue) (fields : List (List ℕ)) → SaysFilter family filter fields
    → (reason : Reason) → SomeFails (a_mode ∷ []) (Some (an_address_of family)) fields reason → ⊥
filter_fits family filter fields says reason fails =
    field_or_more a_mode [] (Some (an_address_of family)) says.mode_text says.texts reason (mode_fits filter.mode says.mode_text says.mode reason)
    (addresses_fit family says.sources says.texts says.addresses reason)
    (subst (λ (ts : List (List ℕ)). SomeFails (a_mode ∷ []) (Some (an_address_of family)) ts reason) says.parts fails)

-- nor of a group and a filter
membership_fits : (family : Option Family) (group : Ip) (filter : FilterValue) (fields : List (List ℕ)) → SaysMembership family group filter fields
    → (reason : Reason) → SomeFails (a_group family ∷ a_mode ∷ []) (Some (an_address_of family)) fields reason → ⊥
membership_fits family group filter fields says reason fails =
    field_or_more (a_group family) (a_mode ∷ []) (Some (an_address_of family)) says.text says.rest reason (group_fits family group says.text says.joins reason)
    (filter_fits family filter says.rest says.filters reason)
    (subst (λ (ts : List (List ℕ)). SomeFails (a_group family ∷ a_mode ∷ []) (Some (an_address_of family)) ts reason) says.parts fails)

-- enough fields, none of which fails
repeated_fits : (forms : List Form) (form : Form) (values : List (List ℕ)) → length forms ≤ length values
    → ((reason : Reason) → SomeFails forms (Some form) values reason → ⊥) → (reason : Reason) → FailsIn (record { forms = forms; repeated = Some form }) values reason → ⊥
repeated_fits forms form values enough fits reasons.Count fails = absurd (omega (arith, enough, fails))
repeated_fits forms form values enough fits reason fails = fits reason fails

open_is_fit : (family : Option Family) (name : List ℕ) (group : Ip) (filter : FilterValue) (line : List (List ℕ))
    → SaysNamed (words_of kinds.Open) name (SaysMembership family group filter) line → IsFit family kinds.Open line
open_is_fit family name group filter line says =
    let fields = ap (λ (texts : List (List ℕ)). length texts) says.after.parts in
    let later = ap (λ (texts : List (List ℕ)). length texts) says.after.filters.parts in record {
      values = says.text ∷ says.rest;
      parts = says.parts;
      fits =
          repeated_fits (a_name ∷ a_group family ∷ a_mode ∷ []) (an_address_of family) (says.text ∷ says.rest) (omega (arith, fields, later))
          (λ reason. field_or_more a_name (a_group family ∷ a_mode ∷ []) (Some (an_address_of family)) says.text says.rest reason
          (name_fits name says.text says.names reason) (membership_fits family group filter says.rest says.after reason));
    }

change_is_fit : (family : Option Family) (name : List ℕ) (filter : FilterValue) (line : List (List ℕ))
    → SaysNamed (words_of kinds.Change) name (SaysFilter family filter) line → IsFit family kinds.Change line
change_is_fit family name filter line says =
    let fields = ap (λ (texts : List (List ℕ)). length texts) says.after.parts in record {
      values = says.text ∷ says.rest;
      parts = says.parts;
      fits =
          repeated_fits (a_name ∷ a_mode ∷ []) (an_address_of family) (says.text ∷ says.rest) (omega (arith, fields))
          (λ reason. field_or_more a_name (a_mode ∷ []) (Some (an_address_of family)) says.text says.rest reason (name_fits name says.text says.names reason)
          (filter_fits family filter says.rest says.after reason));
    }

abbrev pub kind_of_event : GatewayEvent → LineKind
kind_of_event (events.Moment ms) = kinds.Moment
kind_of_event (events.Nonce nonce) = kinds.Nonce
kind_of_event (events.Datagram from bytes) = kinds.Datagram
kind_of_event (events.Open name group filter) = kinds.Open
kind_of_event (events.Change name filter) = kinds.Change
kind_of_event (events.Close name) = kinds.Close
kind_of_event events.LeaveAll = kinds.Leave

pub event_is_fit : (family : Option Family) (event : GatewayEvent) (line : List (List ℕ)) → SaysEvent family event line → IsFit family (kind_of_event event) line
event_is_fit family (events.Moment ms) line says = field_is_fit family kinds.Moment a_moment _ line refl (moment_fits ms) says
event_is_fit family (events.Nonce nonce) line says = field_is_fit family kinds.Nonce a_nonce _ line refl (nonce_fits nonce) says
event_is_fit family (events.Datagram from bytes) line says = record {
  values = says.text ∷ says.next ∷ [];
  parts = says.parts;
  fits = two_fit a_peer some_octets says.text says.next (peer_fits from says.text says.names) (octets_fit bytes says.next says.names_next);
}
event_is_fit family (events.Open name group filter) line says = open_is_fit family name group filter line says
event_is_fit family (events.Change name filter) line says = change_is_fit family name filter line says
event_is_fit family (events.Close name) line says = record {
  values = says.text ∷ [];
  parts = says.parts ∙ ap (λ (rest : List (List ℕ)). words_of kinds.Close ++ says.text ∷ rest) says.after;
  fits = one_fits a_name says.text (name_fits name says.text says.names);
}
event_is_fit family events.LeaveAll line says = record { values = []; parts = says; fits = none_fits }

pub event_kind : (event : GatewayEvent) → IsEventKind (kind_of_event event)
event_kind (events.Moment ms) = tt
event_kind event = tt

-- no line says a setting and an event
pub setting_or_event : (family : Option Family) (setting : Setting) (event : GatewayEvent) (line : List (List ℕ)) → SaysSetting setting line
    → SaysEvent family event line → ⊥
setting_or_event family setting event line says says_event =
    let one = setting_is_fit family setting line says in
    let other = event_is_fit family event line says_event in
    subst IsEventKind (same_kind (kind_of_event event) (kinds.Set (key_of setting)) other.values one.values (sym other.parts ∙ one.parts)) (event_kind event)
