use Rattle.std.proofs.{Common.{Ok, Err, inl, inr, refl, ap}, Math.Logic.{∥∥₁_map}}
use Rattle.serving_commands.{specs.{declared.opening.live.OpenFault.{OpenFault}, Kinds.{gateway_file}}, proofs.{GatewayRuns.{ran_by}, Deciding.{decided_on, decided_too, of_other}}}
use Rattle.serving_commands.proofs.gateway.running.run_gateway.Goals as goal
use Rattle.gateway_serving.proofs.Lawful.{lawful_config}

pub returns-in-Err-clause-unread : goal.returns-in-Err-clause-unread
returns-in-Err-clause-unread g c = λ is. c.in-Err.ensures.failed (of_other c.in-Err.fault _ is)

pub returns-in-Err-clause-absent : goal.returns-in-Err-clause-absent
returns-in-Err-clause-absent g c = λ lacks. of_other c.in-Err.fault _ (c.in-Err.ensures.absent lacks)

pub returns-in-Err-clause-fault : goal.returns-in-Err-clause-fault
returns-in-Err-clause-fault g c = c.in-Err.ensures.fault

pub returns-in-Err-clause-decided : goal.returns-in-Err-clause-decided
returns-in-Err-clause-decided g c = λ octets told. decided_too gateway_file octets c.in-Err.fault (c.in-Err.ensures.decided octets told)

pub returns-in-Err-clause-unopened : goal.returns-in-Err-clause-unopened
returns-in-Err-clause-unopened g c = λ is. absurd (c.in-Err.ensures.opens_none (of_other c.in-Err.fault _ is))

pub returns-in-Err-clause-refused : goal.returns-in-Err-clause-refused
returns-in-Err-clause-refused g c = λ is. absurd (c.in-Err.ensures.opens_none (of_other c.in-Err.fault _ is))

pub returns-in-Err-clause-memory : goal.returns-in-Err-clause-memory
returns-in-Err-clause-memory g c = λ is. inl refl

pub returns-in-Err-clause-unasked : goal.returns-in-Err-clause-unasked
returns-in-Err-clause-unasked g c = λ first. refl

pub returns-in-Err-clause-calm_live : goal.returns-in-Err-clause-calm_live
returns-in-Err-clause-calm_live g c = λ other. refl

pub returns-in-Err-clause-calm_files : goal.returns-in-Err-clause-calm_files
returns-in-Err-clause-calm_files g c = λ other. c.in-Err.ensures.quiet (λ is. other (of_other c.in-Err.fault _ is))

pub returns-in-Err-clause-same_files : goal.returns-in-Err-clause-same_files
returns-in-Err-clause-same_files g c = c.read_settings.ensures.same

pub run_by-requires-clause-config : goal.run_by-requires-clause-config
run_by-requires-clause-config g c = let configured = c.in-Ok.ensures.found in lawful_config c.in-Ok.config configured.octets configured.file

pub returns-in-Ok-run_by-clause-ran : goal.returns-in-Ok-run_by-clause-ran
returns-in-Ok-run_by-clause-ran g c = ∥∥₁_map c.in-Ok-run_by.ensures.ran (ran_by _ _ _ c.in-Ok.config c.args.turns _ _ c.in-Ok-run_by.report c.in-Ok.ensures.found)

pub returns-in-Ok-run_by-clause-absent : goal.returns-in-Ok-run_by-clause-absent
returns-in-Ok-run_by-clause-absent g c = λ lacks. absurd (cc (c.in-Ok.ensures.absent lacks))

pub returns-in-Ok-run_by-clause-decided : goal.returns-in-Ok-run_by-clause-decided
returns-in-Ok-run_by-clause-decided g c = λ octets told. decided_on gateway_file octets c.in-Ok.config (Ok c.in-Ok-run_by.report) (c.in-Ok.ensures.decided octets told) tt

pub returns-in-Ok-run_by-clause-calm_files : goal.returns-in-Ok-run_by-clause-calm_files
returns-in-Ok-run_by-clause-calm_files g c = λ other. c.in-Ok.ensures.quiet (λ is. cc is)

pub returns-in-Ok-run_by-clause-same_files : goal.returns-in-Ok-run_by-clause-same_files
returns-in-Ok-run_by-clause-same_files g c = c.read_settings.ensures.same

pub returns-in-Ok-run_by-clause-unread : goal.returns-in-Ok-run_by-clause-unread
returns-in-Ok-run_by-clause-unread g c = λ is. absurd (cc is)

pub returns-in-Ok-run_by-clause-unopened : goal.returns-in-Ok-run_by-clause-unopened
returns-in-Ok-run_by-clause-unopened g c = λ is. absurd (cc is)

pub returns-in-Ok-run_by-clause-refused : goal.returns-in-Ok-run_by-clause-refused
returns-in-Ok-run_by-clause-refused g c = λ is. absurd (cc is)

pub returns-in-Ok-run_by-clause-memory : goal.returns-in-Ok-run_by-clause-memory
returns-in-Ok-run_by-clause-memory g c = λ is. absurd (cc is)

pub returns-in-Ok-run_by-clause-calm_live : goal.returns-in-Ok-run_by-clause-calm_live
returns-in-Ok-run_by-clause-calm_live g c = λ other. c.in-Ok-run_by.ensures.quiet (λ is. cc is)

pub returns-in-Err-Failed-clause-absent : goal.returns-in-Err-Failed-clause-absent
returns-in-Err-Failed-clause-absent g c = λ lacks. absurd (cc (c.in-Ok.ensures.absent lacks))

pub returns-in-Err-Failed-clause-decided : goal.returns-in-Err-Failed-clause-decided
returns-in-Err-Failed-clause-decided g c = λ octets told. decided_on gateway_file octets c.in-Ok.config _ (c.in-Ok.ensures.decided octets told) tt

pub returns-in-Err-Failed-clause-calm_files : goal.returns-in-Err-Failed-clause-calm_files
returns-in-Err-Failed-clause-calm_files g c = λ other. c.in-Ok.ensures.quiet (λ is. cc is)

pub returns-in-Err-Failed-clause-same_files : goal.returns-in-Err-Failed-clause-same_files
returns-in-Err-Failed-clause-same_files g c = c.read_settings.ensures.same

pub returns-in-Err-Failed-clause-unread : goal.returns-in-Err-Failed-clause-unread
returns-in-Err-Failed-clause-unread g c = λ is. absurd (cc is)

pub returns-in-Err-Failed-clause-unopened : goal.returns-in-Err-Failed-clause-unopened
returns-in-Err-Failed-clause-unopened g c = λ is. c.in-Err-Failed.ensures.failed (ap (λ (fault : OpenFault). Err fault) c.in-Err-Failed.field-0-is)

pub returns-in-Err-Failed-clause-refused : goal.returns-in-Err-Failed-clause-refused
returns-in-Err-Failed-clause-refused g c = λ is. record { config = c.in-Ok.config; configured = c.in-Ok.ensures.found; refused = c.in-Err-Failed.ensures.refused }

pub returns-in-Err-Failed-clause-memory : goal.returns-in-Err-Failed-clause-memory
returns-in-Err-Failed-clause-memory g c = λ is. absurd (cc is)

pub returns-in-Err-Failed-clause-unasked : goal.returns-in-Err-Failed-clause-unasked
returns-in-Err-Failed-clause-unasked g c = λ first. absurd first

pub returns-in-Err-Failed-clause-calm_live : goal.returns-in-Err-Failed-clause-calm_live
returns-in-Err-Failed-clause-calm_live g c = λ other. absurd (other refl)

pub returns-clause-absent : goal.returns-clause-absent
returns-clause-absent g c = λ lacks. absurd (cc (c.in-Ok.ensures.absent lacks))

pub returns-clause-decided : goal.returns-clause-decided
returns-clause-decided g c = λ octets told. decided_on gateway_file octets c.in-Ok.config _ (c.in-Ok.ensures.decided octets told) tt

pub returns-clause-calm_files : goal.returns-clause-calm_files
returns-clause-calm_files g c = λ other. c.in-Ok.ensures.quiet (λ is. cc is)

pub returns-clause-same_files : goal.returns-clause-same_files
returns-clause-same_files g c = c.read_settings.ensures.same

pub returns-clause-unread : goal.returns-clause-unread
returns-clause-unread g c = λ is. absurd (cc is)

pub returns-clause-unopened : goal.returns-clause-unopened
returns-clause-unopened g c = λ is. absurd (cc is)

pub returns-clause-refused : goal.returns-clause-refused
returns-clause-refused g c = λ is. absurd (cc is)

pub returns-clause-memory : goal.returns-clause-memory
returns-clause-memory g c = λ is. inr (record { config = c.in-Ok.config; configured = c.in-Ok.ensures.found; refused = c.in-Err-Memory.ensures.refused })

pub returns-clause-unasked : goal.returns-clause-unasked
returns-clause-unasked g c = λ first. absurd first

pub returns-clause-calm_live : goal.returns-clause-calm_live
returns-clause-calm_live g c = λ other. c.in-Err-Memory.ensures.quiet (λ is. cc (is, c.in-Err-Memory.field-0-is))
