use Rattle.std.proofs.{Common.{Ok, Err, inl, inr, refl, sym, subst, ap}, Math.Logic.{∥∥₁_map}}
use Rattle.serving_commands.{specs.{declared.opening.live.OpenFault.{OpenFault}, Kinds.{relay_file}}, proofs.{RelayPlanning.{lawful_plan, lawful_settings}, RelayRuns.{ran_by, refused_by}, Deciding.{decided_on, decided_too, of_other}}}
use Rattle.relay_serving.specs.{Plans.{IsLawfulPlan}, declared.plan.ServePlan.{ServePlan}}
use Rattle.serving_commands.proofs.relay.running.run_relay.Goals as goal

pub returns-in-Err-clause-unread : goal.returns-in-Err-clause-unread
returns-in-Err-clause-unread g c = λ is. c.in-Err.ensures.failed (of_other c.in-Err.fault _ is)

pub returns-in-Err-clause-absent : goal.returns-in-Err-clause-absent
returns-in-Err-clause-absent g c = λ lacks. of_other c.in-Err.fault _ (c.in-Err.ensures.absent lacks)

pub returns-in-Err-clause-fault : goal.returns-in-Err-clause-fault
returns-in-Err-clause-fault g c = c.in-Err.ensures.fault

pub returns-in-Err-clause-decided : goal.returns-in-Err-clause-decided
returns-in-Err-clause-decided g c = λ octets told. decided_too relay_file octets c.in-Err.fault (c.in-Err.ensures.decided octets told)

pub returns-in-Err-clause-unopened : goal.returns-in-Err-clause-unopened
returns-in-Err-clause-unopened g c = λ is. absurd (c.in-Err.ensures.opens_none (of_other c.in-Err.fault _ is))

pub returns-in-Err-clause-refused : goal.returns-in-Err-clause-refused
returns-in-Err-clause-refused g c = λ is. absurd (c.in-Err.ensures.opens_none (of_other c.in-Err.fault _ is))

pub returns-in-Err-clause-memory : goal.returns-in-Err-clause-memory
returns-in-Err-clause-memory g c = λ is. inl refl

pub returns-in-Err-clause-unasked : goal.returns-in-Err-clause-unasked
returns-in-Err-clause-unasked g c = λ first. refl

pub returns-in-Err-clause-calm_live : goal.returns-in-Err-clause-calm_live
returns-in-Err-clause-calm_live g c = λ other. refl

pub returns-in-Err-clause-calm_files : goal.returns-in-Err-clause-calm_files
returns-in-Err-clause-calm_files g c = λ other. c.in-Err.ensures.quiet (λ is. other (of_other c.in-Err.fault _ is))

pub returns-in-Err-clause-same_files : goal.returns-in-Err-clause-same_files
returns-in-Err-clause-same_files g c = c.read_settings.ensures.same

pub run_by-requires-clause-settings : goal.run_by-requires-clause-settings
run_by-requires-clause-settings g c = lawful_settings _ c.in-Ok.config c.in-Ok.ensures.found

pub run_by-requires-clause-plan : goal.run_by-requires-clause-plan
run_by-requires-clause-plan g c =
    subst (λ (plan : ServePlan). IsLawfulPlan plan) (sym c.plan_by-plan.ensures)
    (lawful_plan _ c.in-Ok.config c.args.turns c.args.workers c.in-Ok.ensures.found c.requires.turns c.requires.workers)

pub returns-in-Ok-run_by-clause-ran : goal.returns-in-Ok-run_by-clause-ran
returns-in-Ok-run_by-clause-ran g c =
    ∥∥₁_map c.in-Ok-run_by.ensures.ran
    (ran_by _ _
    _ c.in-Ok.config c.args.turns c.args.workers _ _ c.plan_by-plan.result c.in-Ok-run_by.report c.in-Ok.ensures.found c.plan_by-plan.ensures)

pub returns-in-Ok-run_by-clause-absent : goal.returns-in-Ok-run_by-clause-absent
returns-in-Ok-run_by-clause-absent g c = λ lacks. absurd (cc (c.in-Ok.ensures.absent lacks))

pub returns-in-Ok-run_by-clause-decided : goal.returns-in-Ok-run_by-clause-decided
returns-in-Ok-run_by-clause-decided g c = λ octets told. decided_on relay_file octets c.in-Ok.config (Ok c.in-Ok-run_by.report) (c.in-Ok.ensures.decided octets told) tt

pub returns-in-Ok-run_by-clause-calm_files : goal.returns-in-Ok-run_by-clause-calm_files
returns-in-Ok-run_by-clause-calm_files g c = λ other. c.in-Ok.ensures.quiet (λ is. cc is)

pub returns-in-Ok-run_by-clause-same_files : goal.returns-in-Ok-run_by-clause-same_files
returns-in-Ok-run_by-clause-same_files g c = c.read_settings.ensures.same

pub returns-in-Ok-run_by-clause-unread : goal.returns-in-Ok-run_by-clause-unread
returns-in-Ok-run_by-clause-unread g c = λ is. absurd (cc is)

pub returns-in-Ok-run_by-clause-unopened : goal.returns-in-Ok-run_by-clause-unopened
returns-in-Ok-run_by-clause-unopened g c = λ is. absurd (cc is)

pub returns-in-Ok-run_by-clause-refused : goal.returns-in-Ok-run_by-clause-refused
returns-in-Ok-run_by-clause-refused g c = λ is. absurd (cc is)

pub returns-in-Ok-run_by-clause-memory : goal.returns-in-Ok-run_by-clause-memory
returns-in-Ok-run_by-clause-memory g c = λ is. absurd (cc is)

pub returns-in-Ok-run_by-clause-calm_live : goal.returns-in-Ok-run_by-clause-calm_live
returns-in-Ok-run_by-clause-calm_live g c = λ other. c.in-Ok-run_by.ensures.quiet (λ is. cc is)

pub returns-in-Err-Failed-clause-absent : goal.returns-in-Err-Failed-clause-absent
returns-in-Err-Failed-clause-absent g c = λ lacks. absurd (cc (c.in-Ok.ensures.absent lacks))

pub returns-in-Err-Failed-clause-decided : goal.returns-in-Err-Failed-clause-decided
returns-in-Err-Failed-clause-decided g c = λ octets told. decided_on relay_file octets c.in-Ok.config _ (c.in-Ok.ensures.decided octets told) tt

pub returns-in-Err-Failed-clause-calm_files : goal.returns-in-Err-Failed-clause-calm_files
returns-in-Err-Failed-clause-calm_files g c = λ other. c.in-Ok.ensures.quiet (λ is. cc is)

pub returns-in-Err-Failed-clause-same_files : goal.returns-in-Err-Failed-clause-same_files
returns-in-Err-Failed-clause-same_files g c = c.read_settings.ensures.same

pub returns-in-Err-Failed-clause-unread : goal.returns-in-Err-Failed-clause-unread
returns-in-Err-Failed-clause-unread g c = λ is. absurd (cc is)

pub returns-in-Err-Failed-clause-unopened : goal.returns-in-Err-Failed-clause-unopened
returns-in-Err-Failed-clause-unopened g c = λ is. c.in-Err-Failed.ensures.failed (ap (λ (fault : OpenFault). Err fault) c.in-Err-Failed.field-0-is)

pub returns-in-Err-Failed-clause-refused : goal.returns-in-Err-Failed-clause-refused
returns-in-Err-Failed-clause-refused g c = λ is. refused_by g.V.Live _ c.in-Ok.config c.args.turns c.args.workers _ _ c.plan_by-plan.result c.in-Ok.ensures.found c.plan_by-plan.ensures c.in-Err-Failed.ensures.refused

pub returns-in-Err-Failed-clause-memory : goal.returns-in-Err-Failed-clause-memory
returns-in-Err-Failed-clause-memory g c = λ is. absurd (cc is)

pub returns-in-Err-Failed-clause-unasked : goal.returns-in-Err-Failed-clause-unasked
returns-in-Err-Failed-clause-unasked g c = λ first. absurd first

pub returns-in-Err-Failed-clause-calm_live : goal.returns-in-Err-Failed-clause-calm_live
returns-in-Err-Failed-clause-calm_live g c = λ other. absurd (other refl)

pub returns-in-Err-Memory-clause-absent : goal.returns-in-Err-Memory-clause-absent
returns-in-Err-Memory-clause-absent g c = λ lacks. absurd (cc (c.in-Ok.ensures.absent lacks))

pub returns-in-Err-Memory-clause-decided : goal.returns-in-Err-Memory-clause-decided
returns-in-Err-Memory-clause-decided g c = λ octets told. decided_on relay_file octets c.in-Ok.config _ (c.in-Ok.ensures.decided octets told) tt

pub returns-in-Err-Memory-clause-calm_files : goal.returns-in-Err-Memory-clause-calm_files
returns-in-Err-Memory-clause-calm_files g c = λ other. c.in-Ok.ensures.quiet (λ is. cc is)

pub returns-in-Err-Memory-clause-same_files : goal.returns-in-Err-Memory-clause-same_files
returns-in-Err-Memory-clause-same_files g c = c.read_settings.ensures.same

pub returns-in-Err-Memory-clause-unread : goal.returns-in-Err-Memory-clause-unread
returns-in-Err-Memory-clause-unread g c = λ is. absurd (cc is)

pub returns-in-Err-Memory-clause-unopened : goal.returns-in-Err-Memory-clause-unopened
returns-in-Err-Memory-clause-unopened g c = λ is. absurd (cc is)

pub returns-in-Err-Memory-clause-refused : goal.returns-in-Err-Memory-clause-refused
returns-in-Err-Memory-clause-refused g c = λ is. absurd (cc is)

pub returns-in-Err-Memory-clause-memory : goal.returns-in-Err-Memory-clause-memory
returns-in-Err-Memory-clause-memory g c = λ is. inr (refused_by g.V.Live _ c.in-Ok.config c.args.turns c.args.workers _ _ c.plan_by-plan.result c.in-Ok.ensures.found c.plan_by-plan.ensures c.in-Err-Memory.ensures.refused)

pub returns-in-Err-Memory-clause-unasked : goal.returns-in-Err-Memory-clause-unasked
returns-in-Err-Memory-clause-unasked g c = λ first. absurd first

pub returns-in-Err-Memory-clause-calm_live : goal.returns-in-Err-Memory-clause-calm_live
returns-in-Err-Memory-clause-calm_live g c = λ other. c.in-Err-Memory.ensures.quiet (λ is. cc (is, c.in-Err-Memory.field-0-is))
