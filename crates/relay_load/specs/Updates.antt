-- The Updates of a load. Each is of a tunnel endpoint of its own, and what is in it is chosen by four words,
-- drawn in the order port, nonce, group, record.
use Rattle.std.specs.Prelude.{ℕ, ◌+◌, ◌-◌, ◌*◌, ◌%◌, ◌==◌, Bool, true, false, List, [], ◌∷◌, replicate}
use Rattle.amt_values.specs.{EndpointValue.{EndpointValue}, declared.address.Ip.TheVariants.{V4}}
use Rattle.amt_messages.specs.{Layout.{spelling_of}, declared.message.Message.TheVariants.{Update}}
use Rattle.source_filter.specs.declared.record.{Record.{Record}, RecordKind.TheVariants.{IsIn, IsEx}}
use Rattle.response_mac.specs.{ResponseMac.{mac_of}, declared.secret.Secret.{Secret}}
use Rattle.relay_machine.specs.declared.event.Event.{Event, TheVariants.{Datagram}}
use Rattle.gateway_machine.specs.Reports.{report_datagram}
use Rattle.relay_load.specs.Generator.{number_after, word_after}

-- the relay's secret: 32 zero octets
abbrev pub load_secret : Secret
load_secret = record { 0 = replicate 32 0 }

-- 10.0.0.0, from which the addresses of the endpoints count
abbrev pub endpoint_base : ℕ
endpoint_base = 0x0a000000

-- 239.1.0.0, from which the groups count
abbrev pub group_base : ℕ
group_base = 0xef010000

-- 198.51.100.1, the source that records list and packets come from
abbrev pub load_source : ℕ
load_source = 0xc6336401

-- 10.0.0.2, from which the reports come
abbrev pub report_source : ℕ
report_source = 0x0a000002

-- by the first word: a port from 1024 to 61023
abbrev pub chosen_port : ℕ → ℕ
chosen_port number = 1024 + word_after number 0 % 60000

-- the second word
abbrev pub chosen_nonce : ℕ → ℕ
chosen_nonce number = word_after number 1

-- by the third word: one of 16 groups, from 239.1.0.1 on
abbrev pub chosen_group : ℕ → ℕ
chosen_group number = group_base + (1 + word_after number 2 % 16)

-- by the fourth word: an even one excludes no source, an odd one includes 198.51.100.1 alone
abbrev pub chosen_exclude : ℕ → Bool
chosen_exclude number = word_after number 3 % 2 == 0

-- a record on a group that excludes no source, or includes 198.51.100.1 alone
abbrev pub record_with : Bool → ℕ → Record
record_with true group = record { kind = IsEx; group = V4 group; sources = [] }
record_with false group = record { kind = IsIn; group = V4 group; sources = V4 load_source ∷ [] }

-- the datagram that carries the report of one record, as a gateway at that address writes it
abbrev pub load_report : Record → List ℕ
load_report group_record = report_datagram (V4 report_source) (group_record ∷ [])

-- the endpoint of this place, from 1 on, with this port: each place has an address of its own
abbrev pub endpoint_at : ℕ → ℕ → EndpointValue
endpoint_at place port = record { address = endpoint_base + place; port = port }

-- the Update of this place, with this port, nonce and record: the canonical octets, under the response MAC
-- of the endpoint
unfoldable pub update_with : ℕ → ℕ → ℕ → Record → Event
update_with place port nonce group_record =
    Datagram
    (spelling_of (Update (mac_of load_secret (endpoint_at place port) nonce) nonce (load_report group_record)))
    (record { ip = V4 (endpoint_base + place); port = port })

-- the Update of this place by the four words after a number of the generator
abbrev pub chosen_update : ℕ → ℕ → Event
chosen_update place number =
    update_with place (chosen_port number) (chosen_nonce number) (record_with (chosen_exclude number) (chosen_group number))

-- the Update of this place, where the generator began with the seed, and each Update before drew four words
abbrev pub update_at : ℕ → ℕ → Event
update_at seed place = chosen_update place (number_after seed (4 * (place - 1)))
