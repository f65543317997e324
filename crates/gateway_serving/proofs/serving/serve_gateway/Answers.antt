use Rattle.std.{proofs.Common.{List, [], refl, sym, ap, subst, ◌∙◌}, specs.Prelude.{All}}
use Rattle.amt_config.specs.declared.config.Join.{Join}
use Rattle.amt_ports.proofs.Waits.{no_waits, waits_then}
use Rattle.gateway_machine.specs.Events.{IsEventOf}
use Rattle.gateway_serving.{specs.{Reports.{report_of}, Servers.{Setup}, Settings.{opening_of, settings_of}, Traces.{at_work, world}}, proofs.{Traces.{alone}, WholeRuns.{reported, serves_run, serves_undrawn, serves_unmade, serves_unopened}}}
use Rattle.gateway_serving.proofs.serving.serve_gateway.Goals as goal

pub returns-in_default : goal.returns-in_default
returns-in_default g c = record {
  serves = ∣ reported _ _ _ _ _ _ c.unused.ensures (serves_undrawn _ _ _ _ _ _ _ _ c.in_default.ensures.kept c.in_default.ensures.cause.failed) ∣₁;
  link_waits = no_waits _ _ refl;
  control_waits = no_waits _ _ refl;
}

pub returns-in_default-from_elem : goal.returns-in_default-from_elem
returns-in_default-from_elem g c = record {
  serves = ∣ reported _ _ _ _ _ _ c.unused-in_default-from_elem.ensures (serves_unmade _ _ c.in-Ok.word _ _ _ _ _ _ c.in-Ok.ensures.given c.in-Ok.ensures.cause.quiet) ∣₁;
  link_waits = no_waits _ _ refl;
  control_waits = no_waits _ _ refl;
}

pub returns-in_default-new : goal.returns-in_default-new
returns-in_default-new g c = record {
  serves = ∣ reported _ _ _ _ _ _ c.unused-in_default-new.ensures (serves_unmade _ _ c.in-Ok.word _ _ _ _ _ _ c.in-Ok.ensures.given c.in-Ok.ensures.cause.quiet) ∣₁;
  link_waits = no_waits _ _ refl;
  control_waits = no_waits _ _ refl;
}

pub returns-in_default-start : goal.returns-in_default-start
returns-in_default-start g c = record {
  serves = ∣ reported _ _ _ _ _ _ c.unused-in_default-start.ensures (serves_unmade _ _ c.in-Ok.word _ _ _ _ _ _ c.in-Ok.ensures.given c.in-Ok.ensures.cause.quiet) ∣₁;
  link_waits = no_waits _ _ refl;
  control_waits = no_waits _ _ refl;
}

pub open-requires-clause-joins : goal.open-requires-clause-joins
open-requires-clause-joins g c =
    let known = subst (λ (joins : List Join). All (λ join. IsEventOf (settings_of c.args.config.now) (opening_of join)) joins) (sym c.as_slice.ensures) c.requires.config.joins in
    subst (λ (setup : Setup). All (λ join. IsEventOf setup.settings (opening_of join)) c.as_slice.result.now) (sym c.in-Ok-start.ensures.fresh.set_up) known

pub returns-in_default-open : goal.returns-in_default-open
returns-in_default-open g c =
    let opens = c.open.ensures.opens in record {
      serves = ∣ reported _ _ _ _ _ _ (c.of.ensures ∙ ap (report_of _ 0) c.counts.ensures)
          (serves_unopened c.args.config.now _ c.in-Ok.word (world (at_work _ _ _ _) _ _ _ 0 0 []) _ _ _ c.as_slice.result.now c.open.result c.in-Ok-start.ensures.fresh c.in-Ok.ensures.given c.in-Ok.ensures.cause.quiet opens c.as_slice.ensures
          _ c.in_default-open.is) ∣₁;
      link_waits = (opens.does (alone c.in-Ok-start.server)).link_waits;
      control_waits = no_waits _ _ refl;
    }

pub returns : goal.returns
returns g c =
    let opens = c.open.ensures.opens in
    let runs = c.run-end.ensures.runs in record {
      serves = ∣ reported _ _ _ _ _ _ (c.of-2.ensures ∙ ap (report_of _ _) c.counts-2.ensures)
          (serves_run c.args.config.now _ c.in-Ok.word (world (at_work _ _ _ _) _ _ _ _ _ _) _ _ _ c.as_slice.result.now c.open.result c.in-Ok-start.ensures.fresh c.in-Ok.ensures.given c.in-Ok.ensures.cause.quiet opens c.as_slice.ensures
          c.in-Ok-open.is _ _ _ runs) ∣₁;
      link_waits = waits_then _ _ _ (opens.does (alone c.in-Ok-start.server)).link_waits runs.does.link_waits;
      control_waits = runs.does.control_waits;
    }
