-- What is read of a running gateway.
use Rattle.std.specs.Prelude.{◌≡◌, ℕ, ◌+◌, List, [], length}
use Rattle.amt_config.specs.declared.config.GatewayConfig.{GatewayConfig}
use Rattle.amt_values.specs.declared.peer.Peer.{Peer}
use Rattle.gateway_machine.specs.{Runs.{settings_of}, Settings.{family_of}, declared.{event.GatewayEvent.{GatewayEvent}, settings.GatewaySettings.{GatewaySettings}}}
use Rattle.group_records.specs.declared.family.Family.{Family}
use Rattle.gateway_serving.specs.{Counting.{no_counts}, Courses.{events_so_far}, Events.{nonce_of}, Replies.{Standing}, Sending.{delivered_after, sends_after}, Settings.{settings_of as settings_by}, declared.{counts.Counts.{Counts}, server.Server.{Server}}}

-- what a gateway was set up with, its first nonce, and where packets go that are handed on
pub record Setup : Type 0 where
  pub settings : GatewaySettings
  pub first : ℕ
  pub deliver : Peer

abbrev pub setup_in : Server → Setup
setup_in server = record { settings = settings_of server.gateway; first = server.first; deliver = server.deliver }

abbrev pub settings_in : Server → GatewaySettings
settings_in server = (setup_in server).settings

abbrev pub family_in : Server → Family
family_in server = family_of (settings_in server)

-- its events so far
abbrev pub events_in : Server → List GatewayEvent
events_in server = events_so_far server.course

-- the latest moment that the clock has given
abbrev pub latest_in : Server → ℕ
latest_in server = server.latest

abbrev pub counts_in : Server → Counts
counts_in server = server.counts

-- its events, and all that is counted of answers
abbrev pub tally_in : Server → ℕ
tally_in server =
    length (events_in server) + ((counts_in server).datagrams + ((counts_in server).controls + ((counts_in server).bad_controls + (counts_in server).starved)))

-- where it stands after this number of turns
abbrev pub standing_in : ℕ → Server → Standing
standing_in turns server = record {
  events = events_in server;
  turns = turns;
  datagrams = (counts_in server).datagrams;
  controls = (counts_in server).controls;
  bad_controls = (counts_in server).bad_controls;
  delivered = (counts_in server).delivered;
  unsent = (counts_in server).unsent;
  starved = (counts_in server).starved;
}

-- what a link tries after these events for later ones, and what an out tries
abbrev pub wanted_sends : Setup → List GatewayEvent → List GatewayEvent → List (Peer × List ℕ)
wanted_sends setup earlier later = sends_after setup.settings setup.first earlier later

abbrev pub wanted_packets : Setup → List GatewayEvent → List GatewayEvent → List (Peer × List ℕ)
wanted_packets setup earlier later = delivered_after setup.deliver setup.settings setup.first earlier later

-- by this configuration, and by the word of the first nonce
abbrev pub setup_by : GatewayConfig → ℕ → Setup
setup_by config word = record { settings = settings_by config; first = nonce_of word; deliver = config.deliver }

-- it was set up so, and nothing has happened to it
pub record IsFresh (config : GatewayConfig) (word : ℕ) (server : Server) : Type 0 where
  pub set_up : setup_in server ≡ setup_by config word
  pub none : events_in server ≡ []
  pub counts : counts_in server ≡ no_counts
  pub latest : latest_in server ≡ 0
