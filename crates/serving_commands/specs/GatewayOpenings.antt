-- How devices are opened for a run.
use Rattle.std.specs.Prelude.{ℕ, List, Option}
use Rattle.amt_config.specs.declared.config.GatewayConfig.{GatewayConfig}
use Rattle.serving_commands.specs.{declared.opening.{asked.Opening.{Opening, TheVariants.{Gateway as AskedGateway}}, live.Live.{Ghosts as LiveTells}}, Kinds.{gateway_file}, Openings.{IsRefusedFor}}

-- what a run asks for: the link, the control socket and how often it asks itself are those of the settings
abbrev pub opening_by : GatewayConfig → Opening
opening_by config = AskedGateway config.listen config.control config.report_seconds

-- what the settings ask for was refused
abbrev pub IsRefusedBy : {V R G : Type 0} → LiveTells V R G → Option (List ℕ) → V → V → Type 0
IsRefusedBy live content before after = IsRefusedFor live gateway_file opening_by content before after
