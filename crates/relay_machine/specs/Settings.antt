-- What a relay may be set up with, and how long a report then counts.
use Rattle.std.specs.Prelude.{◌≡◌, false, ℕ, ◌+◌, ◌*◌, ◌<◌, ◌≤◌}
use Rattle.amt_values.specs.declared.address.Ip.{Ip}
use Rattle.endpoint_membership.specs.Table.{TableSettings}
use Rattle.igmp_records.specs.Code.{code_value}
use Rattle.mld_records.specs.Code.{code_value as mld_code_value}
use Rattle.relay_machine.specs.declared.{number_key.NumberKey.{NumberKey, TheVariants.{Robustness, QuerySeconds, ResponseTenths, Secrets, Endpoints, Groups, Sources, PacketLimit}}, settings.Settings.{Settings}}

-- a setting that is one number: its range, its default, the number in settings, and settings with
-- another
pub record NumberRow : Type 0 where
  pub least : ℕ
  pub most : ℕ
  pub default : ℕ
  pub number : Settings → ℕ
  pub with : Settings → ℕ → Settings

-- the table of these settings. The robustness isn't zero (RFC 3376, section 8.1), and three bits carry
-- it (section 4.1.6); the greatest time that a query carries is 31,744 (section 4.1.7; sections 8.2 and
-- 8.3 have the defaults). A gateway goes on using the last MAC that it was sent, so by default a secret
-- outlives one rotation (RFC 7450, section 5.3.6). A packet has at least an IPv4 header, and with two
-- octets before it fits a UDP payload
abbrev pub number_row : NumberKey → NumberRow
number_row Robustness = record { least = 1; most = 7; default = 2; number = λ s. s.robustness; with = λ s n. record s { robustness = n } }
number_row QuerySeconds = record { least = 1; most = 31744; default = 125; number = λ s. s.query_seconds; with = λ s n. record s { query_seconds = n } }
number_row ResponseTenths = record { least = 1; most = 31744; default = 100; number = λ s. s.response_tenths; with = λ s n. record s { response_tenths = n } }
number_row Secrets = record { least = 1; most = 4; default = 2; number = λ s. s.secrets; with = λ s n. record s { secrets = n } }
number_row Endpoints = record { least = 1; most = 65536; default = 1024; number = λ s. s.limits.endpoints; with = λ s n. record s { limits = record s.limits { endpoints = n } } }
number_row Groups = record { least = 1; most = 256; default = 64; number = λ s. s.limits.groups; with = λ s n. record s { limits = record s.limits { groups = n } } }
number_row Sources = record { least = 1; most = 64; default = 64; number = λ s. s.limits.sources; with = λ s n. record s { limits = record s.limits { sources = n } } }
number_row PacketLimit = record { least = 20; most = 65000; default = 1450; number = λ s. s.packet_limit; with = λ s n. record s { packet_limit = n } }

-- the key's number in settings
abbrev pub number_at : Settings → NumberKey → ℕ
number_at settings key = (number_row key).number settings

-- settings with this number at the key, and else the same
abbrev pub with_number : Settings → NumberKey → ℕ → Settings
with_number settings key number = (number_row key).with settings number

-- the number is in the key's range
pub record IsInKeyRange (key : NumberKey) (number : ℕ) : Type 0 where
  pub least : (number_row key).least ≤ number
  pub most : number ≤ (number_row key).most

-- the time has a code of 8 bits (RFC 3376, sections 4.1.1 and 4.1.7)
abbrev pub HasCode : ℕ → Type 0
HasCode time = (code : ℕ) × (code < 256) × (code_value code ≡ time)

-- the time has a code of 16 bits (RFC 3810, section 5.1.3)
abbrev pub HasMldCode : ℕ → Type 0
HasMldCode time = (code : ℕ) × (code < 65536) × (mld_code_value code ≡ time)

-- a Query Interval in seconds (RFC 3376, section 8.2) and a Query Response Interval in tenths
-- (section 8.3) that a General Query can carry, and the latter in milliseconds that one of MLD can
pub record HasQueryTimes (settings : Settings) : Type 0 where
  pub interval : HasCode settings.query_seconds
  pub response : HasCode settings.response_tenths
  pub mld_response : HasMldCode (settings.response_tenths * 100)

-- each number in its range, times that queries carry, and limits by which the sources of all rows are
-- at most 16,777,216
pub record AreLawfulSettings (settings : Settings) : Type 0 where
  pub numbers : (key : NumberKey) → IsInKeyRange key (number_at settings key)
  pub times : HasQueryTimes settings
  pub product : settings.limits.endpoints * settings.limits.groups * settings.limits.sources ≤ 16777216

-- the settings of a relay with this address where nothing else is said: each number is its key's
-- default (RFC 3376, sections 8.1 to 8.3), queries come from 0.0.0.0 and fe80::1, and Linux's gateways
-- aren't served
abbrev pub default_settings : Ip → Settings
default_settings relay = record {
  relay = relay;
  query4 = 0;
  query6 = 0xfe800000000000000000000000000001;
  robustness = (number_row Robustness).default;
  query_seconds = (number_row QuerySeconds).default;
  response_tenths = (number_row ResponseTenths).default;
  secrets = (number_row Secrets).default;
  limits = record {
    endpoints = (number_row Endpoints).default;
    groups = (number_row Groups).default;
    sources = (number_row Sources).default;
  };
  packet_limit = (number_row PacketLimit).default;
  linux_gateways = false;
}

-- the Group Membership Interval (RFC 3376, section 8.4), in milliseconds
abbrev pub membership_interval_ms : Settings → ℕ
membership_interval_ms settings =
    settings.robustness * settings.query_seconds * 1000 + settings.response_tenths * 100

-- the limits, and the lifetime of a membership, by which the relay's log is read
abbrev pub table_settings_of : Settings → TableSettings
table_settings_of settings = record { limits = settings.limits; lifetime = membership_interval_ms settings }
