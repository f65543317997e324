-- What a script sets up.
use Rattle.std.specs.Prelude.{false, map}
use Rattle.relay_machine.specs.declared.settings.Settings.{Settings}
use Rattle.amt_pair.specs.Setup.{Host, PairSetup, settings_of_host}
use Rattle.pair_script.specs.declared.script.{PairGateway.{PairGateway}, PairScript.{PairScript}}

-- a gateway of a script, at a relay of these settings
abbrev pub host_of : Settings → PairGateway → Host
host_of settings gateway =
    record { name = gateway.name; peer = gateway.peer; settings = settings_of_host settings gateway.v6 false gateway.source }

-- the pair that a script sets up
abbrev pub setup_of : PairScript → PairSetup
setup_of script =
    record { settings = script.settings; secret = script.secret; hosts = map (host_of script.settings) script.gateways }
