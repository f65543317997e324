-- Settings, and what is set under a key.
use Rattle.std.specs.{Prelude.{Bool, List, Option, find}, Str.{bytes_eq}}
use Rattle.amt_script.specs.{declared.{kind.Key.{Key}, setting.Setting.{Setting, TheVariants.{Relay, Query4, Query6, Number, Secret, LinuxGateways}}}, Row.{key_word}}
use Rattle.amt_script.specs.declared.kind.Key.TheVariants as keys

-- what a setting sets
abbrev pub key_of : Setting → Key
key_of (Relay ip) = keys.Relay
key_of (Query4 number) = keys.Query4
key_of (Query6 number) = keys.Query6
key_of (Number key number) = keys.Number key
key_of (Secret secret) = keys.Secret
key_of (LinuxGateways flag) = keys.LinuxGateways

-- two keys are one where their words are
abbrev pub is_same_key : Key → Key → Bool
is_same_key one other = bytes_eq (key_word one) (key_word other)

-- the first setting of this key
abbrev pub set_at : List Setting → Key → Option Setting
set_at settings key = find (λ setting. is_same_key (key_of setting) key) settings
