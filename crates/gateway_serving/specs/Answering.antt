-- What a running gateway does with lines of its control that make no socket call.
use Rattle.std.specs.Prelude.{◌≡◌, ℕ, ◌+◌, Bool, List, map}
use Rattle.amt_ports.specs.Devices.{LinkSeen}
use Rattle.gateway_machine.specs.{Events.{IsEventOf}, declared.settings.GatewaySettings.{GatewaySettings}}
use Rattle.gateway_serving.specs.declared.reading.Reading.{Reading, TheVariants.{Call, Asking, Bad as BadLine, Starved as StarvedLine}}
use Rattle.gateway_serving.specs.{Askers.{AreAnswered, IsAnswered, Reply, refused_among}, Counting.{one_if}, Leaving.{IsLeaving, Leaving}, Servers.{counts_in, events_in, latest_in, setup_in, standing_in}, Traces.{AtWork, WorkDoes, leaving}, Turns.{Asks, Bad, Called, Line, Starved}, declared.{askers.{Asker.{Asker}, Askers.{Askers}}, server.Server.{Server}}}

-- those who are to be answered
abbrev pub waiting_in : Askers → List Asker
waiting_in askers = askers.list.items

-- what becomes of a line that was read so, if memory doesn't refuse its event
abbrev pub line_by : Reading → Line
line_by (Call event) = Called event
line_by (Asking asking) = Asks asking
line_by (BadLine reason) = Bad reason
line_by StarvedLine = Starved

-- its event may happen to such a gateway
abbrev pub MayHappen : GatewaySettings → Reading → Type 0
MayHappen settings (Call event) = IsEventOf settings event
MayHappen settings (Asking asking) = Unit {0}
MayHappen settings (BadLine reason) = Unit {0}
MayHappen settings StarvedLine = Unit {0}

-- memory refused this number of answers, and nothing else changed
pub record Refuses (number : ℕ) (before after : Server) : Type 0 where
  pub same : setup_in after ≡ setup_in before
  pub events : events_in after ≡ events_in before
  pub latest : latest_in after ≡ latest_in before
  pub counts_are : counts_in after ≡ record (counts_in before) { starved = (counts_in before).starved + number }

-- no line of the control was taken, by its answers to come, its faults and its longest wait
pub record IsUnheard (before after : LinkSeen) (wait wait' : ℕ) : Type 0 where
  pub same_coming : after.coming ≡ before.coming
  pub calm : after.receive_faults ≡ before.receive_faults
  pub same_wait : wait' ≡ wait

-- whoever asked was answered, or memory refused that
pub record AnswersOne (turns : ℕ) (before after : Server) (asker : Asker) (control control' : LinkSeen) : Type 0 where
  pub starved : Bool
  pub answer : IsAnswered (setup_in before).settings (setup_in before).first (standing_in turns before) (record { asker = asker; starved = starved }) control control'
  pub refuses : Refuses (one_if starved) before after

-- the same of all who asked, in order
pub record AnswersEach (turns : ℕ) (before after : Server) (askers : List Asker) (control control' : LinkSeen) : Type 0 where
  pub round : List Reply
  pub to_askers : map (λ one. one.asker) round ≡ askers
  pub answered : AreAnswered (setup_in before).settings (setup_in before).first (standing_in turns before) control round control'
  pub refuses : Refuses (refused_among round) before after

-- where somebody asked for it all sockets left their groups, or memory refused that
pub record LeavesSo (asked : Bool) (before after : AtWork) : Type 0 where
  pub left : Leaving
  pub is_left : IsLeaving asked left
  pub does : WorkDoes (leaving left) before after
