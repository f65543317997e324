-- What is said of the commands `relay` and `gateway`, which serve by a settings file.
use Rattle.std.specs.Prelude.{◌≡◌, ℕ, List, Option}
use Rattle.amt_config.specs.declared.config.{GatewayConfig.{GatewayConfig}, RelayConfig.{RelayConfig}}
use Rattle.amt_ports.specs.declared.files.Files.{Ghosts as FilesTell}
use Rattle.amt_words.specs.{Line.{IsCommandLine}, declared.command.Command.{Command, TheVariants.{Gateway as GatewayServing, Relay as RelayServing}}}
use Rattle.serving_commands.specs.GatewayOpenings as gateway_openings
use Rattle.serving_commands.specs.GatewayRunning as gateways
use Rattle.serving_commands.specs.GatewayTexts as gateway_texts
use Rattle.gateway_serving.specs.declared.served.GatewayServed.{GatewayServed}
use Rattle.serving_commands.specs.RelayOpenings as relay_openings
use Rattle.serving_commands.specs.{RelayPlans.{plan_by}, Kinds.{gateway_file, relay_file}, Lives.{Tells}}
use Rattle.serving_commands.specs.RelayRunning as relays
use Rattle.serving_commands.specs.RelayTexts as relay_texts
use Rattle.relay_serving.specs.declared.plan.ServeReport.{ServeReport}
use Rattle.amt_command.specs.Serving.{Reporting, Serves, Service}

-- the arguments are those of `relay`
abbrev pub IsRelayLine : List (List ℕ) → Type 0
IsRelayLine words =
    (file : List ℕ) × (turns : ℕ) × (workers : Option ℕ) × IsCommandLine (RelayServing file turns workers) words

-- the arguments are those of `gateway`
abbrev pub IsGatewayLine : List (List ℕ) → Type 0
IsGatewayLine words = (file : List ℕ) × (turns : ℕ) × IsCommandLine (GatewayServing file turns) words

-- what the report of a relay's run tells
abbrev pub relay_reporting : Reporting ServeReport
relay_reporting = record { end_of = λ report. report.end; text_of = relay_texts.report_text }

-- what the report of a gateway's run tells
abbrev pub gateway_reporting : Reporting GatewayServed
gateway_reporting = record { end_of = λ report. report.end; text_of = gateway_texts.report_text }

module _ {V R G : Type 0} (told : Tells V R G) where
  -- `relay` with so many turns at most, and with these workers, where some are given
  abbrev pub relay_service : ℕ → Option ℕ → Service V RelayConfig ServeReport
  relay_service turns workers = record {
    kind = relay_file;
    opening_by = λ config. relay_openings.opening_by config (plan_by config turns workers);
    Runs = λ content before after report. relays.Runs told.live told.relay content turns workers before after report;
    reporting = relay_reporting;
  }

  -- `gateway` with so many turns at most
  abbrev pub gateway_service : ℕ → Service V GatewayConfig GatewayServed
  gateway_service turns = record {
    kind = gateway_file;
    opening_by = gateway_openings.opening_by;
    Runs = λ content before after report. gateways.Runs told.live told.gateway content turns before after report;
    reporting = gateway_reporting;
  }

module _ {F V R G : Type 0} (kept : FilesTell F) (told : Tells V R G) (file : List ℕ) (turns : ℕ) where
  -- What `relay` does with its arguments, as its status and its line show.
  abbrev pub Relays : Option ℕ → F → F → V → V → {A : Type 0} → (A → Option (List ℕ)) → A → A → ℕ → List ℕ → Type 0
  Relays workers files files' live live' written out out' status line =
      Serves kept told.live (relay_service told turns workers) file files files' live live' written out out' status line

  -- What `gateway` does with its arguments, as its status and its line show.
  abbrev pub Gateways : F → F → V → V → {A : Type 0} → (A → Option (List ℕ)) → A → A → ℕ → List ℕ → Type 0
  Gateways files files' live live' written out out' status line =
      Serves kept told.live (gateway_service told turns) file files files' live live' written out out' status line

module _ {F V R G : Type 0} (kept : FilesTell F) (told : Tells V R G) (files files' : F) (live live' : V) where
  -- What a command does with files and devices, as its status and its line show: `relay` and `gateway` serve, and
  -- no other touches them.
  abbrev pub ServesFor : Command → {A : Type 0} → (A → Option (List ℕ)) → A → A → ℕ → List ℕ → Type 0
  ServesFor (RelayServing file turns workers) written out out' status line =
      Relays kept told file turns workers files files' live live' written out out' status line
  ServesFor (GatewayServing file turns) written out out' status line = Gateways kept told file turns files files' live live' written out out' status line
  ServesFor command written out out' status line = (files' ≡ files) × (live' ≡ live)
