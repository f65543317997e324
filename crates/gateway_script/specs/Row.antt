-- The kinds of lines of a gateway's script: the words with which a line of each kind begins, and the forms
-- of its fields.
use Rattle.std.specs.Prelude.{◌≢◌, ℕ, List, [], ◌∷◌, ◌++◌, codes, Option, None, Some}
use Rattle.group_records.specs.declared.family.Family.{Family}
use Rattle.script_lines.specs.{Form.{Form, a_family, a_flag, a_group, a_mode, a_moment, a_name, a_nonce, a_number, a_peer, an_address, an_address_of, some_octets}, Shape.{Shape}}
use Rattle.gateway_script.specs.declared.kind.{Key.{Key}, LineKind.{LineKind}}
use Rattle.gateway_script.specs.declared.kind.Key.TheVariants as keys
use Rattle.gateway_script.specs.declared.kind.LineKind.TheVariants as kinds

-- the word of a setting
abbrev pub key_word : Key → List ℕ
key_word keys.Family = codes "family"
key_word keys.Discovery = codes "discovery"
key_word keys.Source = codes "source"
key_word keys.Relay = codes "relay"
key_word keys.Port = codes "port"
key_word keys.Nonce = codes "nonce"
key_word keys.LinuxRelay = codes "linux_relay"

-- the first words of a line
abbrev pub words_of : LineKind → List (List ℕ)
words_of (kinds.Set key) = codes "set" ∷ key_word key ∷ []
words_of kinds.Moment = codes "at" ∷ []
words_of kinds.Nonce = codes "nonce" ∷ []
words_of kinds.Datagram = codes "dg" ∷ []
words_of kinds.Open = codes "open" ∷ []
words_of kinds.Change = codes "change" ∷ []
words_of kinds.Close = codes "close" ∷ []
words_of kinds.Leave = codes "leave" ∷ []

-- what a setting may be
abbrev pub form_of_key : Key → Form
form_of_key keys.Family = a_family
form_of_key keys.Discovery = a_peer
form_of_key keys.Source = an_address
form_of_key keys.Relay = a_peer
form_of_key keys.Port = a_number 0 65535
form_of_key keys.Nonce = a_nonce
form_of_key keys.LinuxRelay = a_flag

-- a line whose last field isn't repeated
abbrev pub fixed : List Form → Shape
fixed forms = record { forms = forms; repeated = None }

-- what the fields after the first words may be, of a gateway of the family, where it is known
abbrev pub shape_of : Option Family → LineKind → Shape
shape_of family (kinds.Set key) = fixed (form_of_key key ∷ [])
shape_of family kinds.Moment = fixed (a_moment ∷ [])
shape_of family kinds.Nonce = fixed (a_nonce ∷ [])
shape_of family kinds.Datagram = fixed (a_peer ∷ some_octets ∷ [])
shape_of family kinds.Open = record { forms = a_name ∷ a_group family ∷ a_mode ∷ []; repeated = Some (an_address_of family) }
shape_of family kinds.Change = record { forms = a_name ∷ a_mode ∷ []; repeated = Some (an_address_of family) }
shape_of family kinds.Close = fixed (a_name ∷ [])
shape_of family kinds.Leave = fixed []

-- the line is of no kind, and isn't a `set` alone either
pub record IsUnknown (line : List (List ℕ)) : Type 0 where
  pub no_kind : (kind : LineKind) (values : List (List ℕ)) → line ≢ words_of kind ++ values
  pub more : line ≢ codes "set" ∷ []
