-- The kinds of lines: the words with which a line of each kind begins, and the forms of its fields.
use Rattle.std.specs.Prelude.{◌≡◌, ◌≢◌, ℕ, List, [], ◌∷◌, ◌++◌, codes, None}
use Rattle.relay_machine.specs.{declared.number_key.NumberKey.{NumberKey}, Settings.{number_row}}
use Rattle.relay_machine.specs.declared.number_key.NumberKey.TheVariants as numbers
use Rattle.amt_script.specs.declared.kind.{Key.{Key}, Kind.{Kind}}
use Rattle.amt_script.specs.declared.kind.Key.TheVariants as keys
use Rattle.amt_script.specs.declared.kind.Kind.TheVariants as kinds
use Rattle.script_lines.specs.{Form.{Form, a_flag, a_moment, a_number, some_octets, a_secret, an_address, an_address4, an_address6, a_peer}, Shape.{Shape}}

-- the word of a setting that is one number
abbrev pub number_word : NumberKey → List ℕ
number_word numbers.Robustness = codes "robustness"
number_word numbers.QuerySeconds = codes "query_seconds"
number_word numbers.ResponseTenths = codes "response_tenths"
number_word numbers.Secrets = codes "secrets"
number_word numbers.Endpoints = codes "endpoints"
number_word numbers.Groups = codes "groups"
number_word numbers.Sources = codes "sources"
number_word numbers.PacketLimit = codes "packet_limit"

-- the word of a setting
abbrev pub key_word : Key → List ℕ
key_word keys.Relay = codes "relay"
key_word keys.Query4 = codes "query4"
key_word keys.Query6 = codes "query6"
key_word (keys.Number key) = number_word key
key_word keys.Secret = codes "secret"
key_word keys.LinuxGateways = codes "linux_gateways"

-- the first words of a line
abbrev pub words_of : Kind → List (List ℕ)
words_of (kinds.Set key) = codes "set" ∷ key_word key ∷ []
words_of kinds.Moment = codes "at" ∷ []
words_of kinds.Secret = codes "secret" ∷ []
words_of kinds.Limits = codes "limits" ∷ []
words_of kinds.Datagram = codes "dg" ∷ []
words_of kinds.Packet = codes "mc" ∷ []
words_of kinds.Show = codes "show" ∷ []

-- what a setting may be; a number has its range by the relay's table
abbrev pub form_of_key : Key → Form
form_of_key keys.Relay = an_address
form_of_key keys.Query4 = an_address4
form_of_key keys.Query6 = an_address6
form_of_key (keys.Number key) = a_number (number_row key).least (number_row key).most
form_of_key keys.Secret = a_secret
form_of_key keys.LinuxGateways = a_flag

-- a limit of the event: any that isn't 0, whatever limits are set
abbrev pub a_limit : Form
a_limit = a_number 1 4294967295

-- what the fields after the first words may be
abbrev pub forms_of : Kind → List Form
forms_of (kinds.Set key) = form_of_key key ∷ []
forms_of kinds.Moment = a_moment ∷ []
forms_of kinds.Secret = a_secret ∷ []
forms_of kinds.Limits = a_limit ∷ a_limit ∷ a_limit ∷ []
forms_of kinds.Datagram = a_peer ∷ some_octets ∷ []
forms_of kinds.Packet = some_octets ∷ []
forms_of kinds.Show = []

-- no line of a relay's script repeats its last field
abbrev pub shape_of : Kind → Shape
shape_of kind = record { forms = forms_of kind; repeated = None }

-- the first of the fields after `set` is no key
pub record BeginsWithNoKey (texts : List (List ℕ)) : Type 0 where
  pub word : List ℕ
  pub values : List (List ℕ)
  pub parts : texts ≡ word ∷ values
  pub no_key : (key : Key) → word ≢ key_word key

-- the line is of no kind, and isn't a `set` alone either
pub record IsUnknown (line : List (List ℕ)) : Type 0 where
  pub no_kind : (kind : Kind) (values : List (List ℕ)) → line ≢ words_of kind ++ values
  pub more : line ≢ codes "set" ∷ []
