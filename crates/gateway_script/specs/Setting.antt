-- Settings, and what is set under a key.
use Rattle.std.specs.{Prelude.{Bool, List, Option, find}, Str.{bytes_eq}}
use Rattle.gateway_script.specs.{declared.{kind.Key.{Key}, setting.Setting.{Setting, TheVariants.{Family, Discovery, Source, Relay, Port, Nonce, LinuxRelay}}}, Row.{key_word}}
use Rattle.gateway_script.specs.declared.kind.Key.TheVariants as keys

-- what a setting sets
abbrev pub key_of : Setting → Key
key_of (Family family) = keys.Family
key_of (Discovery peer) = keys.Discovery
key_of (Source ip) = keys.Source
key_of (Relay peer) = keys.Relay
key_of (Port port) = keys.Port
key_of (Nonce nonce) = keys.Nonce
key_of (LinuxRelay flag) = keys.LinuxRelay

-- two keys are one where their words are
abbrev pub is_same_key : Key → Key → Bool
is_same_key one other = bytes_eq (key_word one) (key_word other)

-- the first setting of this key
abbrev pub set_at : List Setting → Key → Option Setting
set_at given key = find (λ setting. is_same_key (key_of setting) key) given
