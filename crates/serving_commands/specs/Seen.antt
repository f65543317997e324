-- What is seen of the devices of a run, as one value.
use Rattle.std.specs.Prelude.{ℕ, nat_lt, ◌==◌, ◌&&◌, ◌||◌, Bool, is_none, is_some, List, length, Option, if◌then◌else◌}
use Rattle.amt_ports.specs.Devices.{OutSeen}
use Rattle.serving_commands.specs.declared.opening.asked.AskedBy.{AskedBy}
use Rattle.relay_serving.specs.{Controls.{ControlSeen}, Devices.{Devices}}

-- Of those of a relay: all but its control and its links out; its control, where it has one; its links out.
pub record RelaySeen : Type 0 where
  pub devices : Devices
  pub control : Option ControlSeen
  pub outs : List OutSeen

-- a control socket is wanted, or the end asks itself
abbrev pub is_asked : AskedBy → Bool
is_asked asking = is_some asking.control || nat_lt 0 asking.report_seconds

-- there is a control exactly where one is asked for
abbrev pub is_as_asked : {X : Type 0} → Bool → Option X → Bool
is_as_asked asked control = if asked then is_some control else is_none control

-- there is a link out for each of so many slots, and a control as asked
abbrev pub is_set_for : ℕ → Bool → RelaySeen → Bool
is_set_for slots asked seen = (length seen.outs == slots) && is_as_asked asked seen.control
