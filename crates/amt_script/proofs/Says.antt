-- What a line says fits the kind of the line.
use Rattle.std.proofs.Common.{◌≡◌, ℕ, List, [], ◌∷◌, ◌++◌, sym, ◌∙◌, arith}
use Rattle.relay_machine.specs.{declared.event.Event.{Event}, Settings.{number_row}}
use Rattle.relay_machine.specs.declared.event.Event.TheVariants as events
use Rattle.script_lines.{specs.{declared.reason.Reason.{Reason}, Form.{Fails, a_flag, a_moment, a_number, some_octets, a_secret, an_address, an_address4, an_address6, a_peer}}, proofs.Forms.{flag_fits, moment_fits, number_fits, octets_fit, secret_fits, address_fits, address4_fits, address6_fits, peer_fits, none_fits, one_fits, two_fit, three_fit}}
use Rattle.amt_script.{specs.{declared.{kind.{Key.{Key}, Kind.{Kind}}, script.RelayItem.{RelayItem}, setting.Setting.{Setting}}, Fault.{FailsAs}, Row.{a_limit, words_of}, Says.{IsLimitText, SaysSetting, SaysEvent, SaysItem}, Setting.{key_of}}, proofs.Rows.{most_small, same_kind}}
use Rattle.amt_script.specs.declared.kind.Kind.TheVariants as kinds
use Rattle.amt_script.specs.declared.script.RelayItem.TheVariants as items
use Rattle.amt_script.specs.declared.setting.Setting.TheVariants as settings

-- the line is of this kind, and no field of it fails
pub record IsFit (kind : Kind) (line : List (List ℕ)) : Type 0 where
  pub values : List (List ℕ)
  pub parts : line ≡ words_of kind ++ values
  pub fits : (reason : Reason) → FailsAs kind values reason → ⊥

abbrev pub kind_of_event : Event → Kind
kind_of_event (events.Moment ms) = kinds.Moment
kind_of_event (events.Datagram bytes from) = kinds.Datagram
kind_of_event (events.Packet bytes) = kinds.Packet
kind_of_event (events.Rotate secret) = kinds.Secret
kind_of_event (events.Limits limits) = kinds.Limits

pub setting_is_fit : (setting : Setting) (line : List (List ℕ)) → SaysSetting setting line → IsFit (kinds.Set (key_of setting)) line
setting_is_fit (settings.Relay ip) line says = record {
  values = says.text ∷ [];
  parts = says.parts;
  fits = one_fits an_address says.text (address_fits ip says.text says.names);
}
setting_is_fit (settings.Query4 number) line says = record {
  values = says.text ∷ [];
  parts = says.parts;
  fits = one_fits an_address4 says.text (address4_fits number says.text says.names);
}
setting_is_fit (settings.Query6 number) line says = record {
  values = says.text ∷ [];
  parts = says.parts;
  fits = one_fits an_address6 says.text (address6_fits number says.text says.names);
}
setting_is_fit (settings.Number key number) line says =
    let least = (number_row key).least in
    let most = (number_row key).most in record {
      values = says.text ∷ [];
      parts = says.parts;
      fits = one_fits (a_number least most) says.text (number_fits least most number says.text (most_small key) says.names);
    }
setting_is_fit (settings.Secret secret) line says = record {
  values = says.text ∷ [];
  parts = says.parts;
  fits = one_fits a_secret says.text (secret_fits secret says.text says.names);
}
setting_is_fit (settings.LinuxGateways flag) line says = record {
  values = says.text ∷ [];
  parts = says.parts;
  fits = one_fits a_flag says.text (flag_fits flag says.text says.names);
}

limit_fits : (limit : ℕ) (text : List ℕ) → IsLimitText limit text → (reason : Reason) → Fails a_limit text reason → ⊥
limit_fits limit text names = number_fits 1 4294967295 limit text (omega arith) names

pub event_is_fit : (event : Event) (line : List (List ℕ)) → SaysEvent event line → IsFit (kind_of_event event) line
event_is_fit (events.Moment ms) line says = record {
  values = says.text ∷ [];
  parts = says.parts;
  fits = one_fits a_moment says.text (moment_fits ms says.text says.names);
}
event_is_fit (events.Datagram bytes from) line says = record {
  values = says.text ∷ says.next ∷ [];
  parts = says.parts;
  fits = two_fit a_peer some_octets says.text says.next (peer_fits from says.text says.names) (octets_fit bytes says.next says.names_next);
}
event_is_fit (events.Packet bytes) line says = record {
  values = says.text ∷ [];
  parts = says.parts;
  fits = one_fits some_octets says.text (octets_fit bytes says.text says.names);
}
event_is_fit (events.Rotate secret) line says = record {
  values = says.text ∷ [];
  parts = says.parts;
  fits = one_fits a_secret says.text (secret_fits secret says.text says.names);
}
event_is_fit (events.Limits limits) line says = record {
  values = says.text ∷ says.next ∷ says.last ∷ [];
  parts = says.parts;
  fits =
      three_fit a_limit a_limit a_limit says.text says.next says.last (limit_fits limits.endpoints says.text says.names)
      (limit_fits limits.groups says.next says.names_next) (limit_fits limits.sources says.last says.names_last);
}

abbrev pub kind_of_item : RelayItem → Kind
kind_of_item (items.Event event) = kind_of_event event
kind_of_item items.Show = kinds.Show

pub item_is_fit : (item : RelayItem) (line : List (List ℕ)) → SaysItem item line → IsFit (kind_of_item item) line
item_is_fit (items.Event event) line says = event_is_fit event line says
item_is_fit items.Show line says = record { values = []; parts = says; fits = none_fits }

pub no_set_item : (item : RelayItem) (key : Key) → kinds.Set key ≡ kind_of_item item → ⊥
no_set_item (items.Event (events.Moment ms)) key same = cc same
no_set_item (items.Event (events.Datagram bytes from)) key same = cc same
no_set_item (items.Event (events.Packet bytes)) key same = cc same
no_set_item (items.Event (events.Rotate secret)) key same = cc same
no_set_item (items.Event (events.Limits limits)) key same = cc same
no_set_item items.Show key same = cc same

-- no line says a setting and an item
pub setting_or_item : (setting : Setting) (item : RelayItem) (line : List (List ℕ)) → SaysSetting setting line → SaysItem item line → ⊥
setting_or_item setting item line says says_item =
    let one = setting_is_fit setting line says in
    let other = item_is_fit item line says_item in
    no_set_item item (key_of setting) (same_kind (kinds.Set (key_of setting)) (kind_of_item item) one.values other.values (sym one.parts ∙ other.parts))
