-- The settings of a script: the defaults, changed by each setting that was given.
use Rattle.std.specs.Prelude.{◌≡◌, List, [], ◌∷◌, replicate, Option, Some, None}
use Rattle.amt_values.specs.declared.address.Ip.{Ip, TheVariants.{V4}}
use Rattle.endpoint_membership.specs.declared.limits.Limits.{Limits}
use Rattle.response_mac.specs.declared.secret.Secret.{Secret}
use Rattle.relay_machine.specs.{Settings.{default_settings, with_number}, declared.settings.Settings.{Settings}}
use Rattle.amt_script.specs.declared.kind.Key.TheVariants as keys
use Rattle.amt_script.specs.{declared.setting.Setting.{Setting}, Setting.{set_at}}
use Rattle.amt_script.specs.declared.setting.Setting.TheVariants as settings

-- the address that was given
abbrev pub relay_in : Option Setting → Option Ip
relay_in (Some (settings.Relay ip)) = Some ip
relay_in other = None

-- the first secret, of 32 zero octets where none was given
abbrev pub secret_in : Option Setting → Secret
secret_in (Some (settings.Secret secret)) = secret
secret_in other = record { 0 = replicate 32 0 }

-- a relay's settings, changed by one that was given; the relay's address is in them from the start
abbrev pub with_setting : Settings → Setting → Settings
with_setting values (settings.Relay ip) = values
with_setting values (settings.Query4 number) = record values { query4 = number }
with_setting values (settings.Query6 number) = record values { query6 = number }
with_setting values (settings.Number key number) = with_number values key number
with_setting values (settings.Secret secret) = values
with_setting values (settings.LinuxGateways flag) = record values { linux_gateways = flag }

-- and by one after another
abbrev pub with_settings : Settings → List Setting → Settings
with_settings values [] = values
with_settings values (setting ∷ rest) = with_settings (with_setting values setting) rest

-- the limits among them, or by default, which are the same whatever the relay's address is
abbrev pub limits_given : List Setting → Limits
limits_given given = (with_settings (default_settings (V4 0)) given).limits

-- a relay's address was given, and these are its default settings with those that were given
pub record Settles (given : List Setting) (values : Settings) (secret : Secret) : Type 0 where
  pub relay : Ip
  pub relay_given : relay_in (set_at given keys.Relay) ≡ Some relay
  pub values_are : values ≡ with_settings (default_settings relay) given
  pub first_secret : secret ≡ secret_in (set_at given keys.Secret)
