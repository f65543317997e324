-- What a script sets up.
use Rattle.std.specs.Prelude.{map}
use Rattle.amt_dual.specs.Setup.{DualHost, DualSetup}
use Rattle.amt_dual_script.specs.declared.script.{DualGateway.{DualGateway}, DualScript.{DualScript}}

-- a gateway of a script
abbrev pub host_of : DualGateway → DualHost
host_of gateway = record { name = gateway.name; peer = gateway.peer; source4 = gateway.source4; source6 = gateway.source6 }

-- the relay and the gateways that a script sets up
abbrev pub setup_of : DualScript → DualSetup
setup_of script = record { settings = script.settings; secret = script.secret; hosts = map host_of script.gateways }
