use Rattle.std.proofs.{Common.{◌∙◌, length, refl, sym, ap, subst, arith}, Math.Logic.{∥∥₁_map}, lemmas.List.{length-map}}
use Rattle.amt_ports.proofs.Waits.{no_waits}
use Rattle.replication_workers.specs.{Replicators.{out_of}, Starting.{HaveStarted}}
use Rattle.relay_serving.{specs.{Devices.{outs_seen}, GivenOut.{starts_in}, Servers.{slots_in}}, proofs.WholeRuns.{few_in_all, few_words, four_words, has_risen, is_quiet, reported, serves_run, serves_unstarted, serves_without_secret}}
use Rattle.relay_serving.proofs.serving.serve_relay.Goals as goal

pub returns-in_default : goal.returns-in_default
returns-in_default g c =
    let drawn = c.draw_secret.ensures.drawn in
    let seen = outs_seen g.O.OutLink.tried g.O.OutLink.faults in record {
      serves = ∣ reported _ _ _ _ _ _ _ _ _ _ _ _ _ (ap seen c.unused.ensures.outs) c.unused.ensures.views c.unused.ensures.report
          (serves_without_secret _ _ _ drawn.words _ _ _ _ _ _ _ _ drawn.given (few_words _ _ _ _ drawn c.in_default.is) (has_risen _ _ _ _ c.draw_secret.ensures.cause c.in_default.is)) ∣₁;
      link_waits = no_waits _ _ refl;
      feed_waits = no_waits _ _ refl;
    }

pub returns-in_default-new : goal.returns-in_default-new
returns-in_default-new g c =
    let drawn = c.draw_secret.ensures.drawn in
    let seen = outs_seen g.O.OutLink.tried g.O.OutLink.faults in record {
      serves = ∣ reported _ _ _ _ _ _ _ _ _ _ _ _ _ (ap seen c.unused-in_default-new.ensures.outs) c.unused-in_default-new.ensures.views c.unused-in_default-new.ensures.report
          (serves_unstarted _ _ _ _ drawn.words _ _ _ _ _ _ _ _ _ _ _ drawn.given (four_words _ _ _ _ drawn c.in-Ok.is).1 (is_quiet _ _ _ _ c.draw_secret.ensures.cause c.in-Ok.is) (refl, refl, refl) _ refl (λ _. refl)) ∣₁;
      link_waits = no_waits _ _ refl;
      feed_waits = no_waits _ _ refl;
    }

pub returns-in-Err : goal.returns-in-Err
returns-in-Err g c =
    let drawn = c.draw_secret.ensures.drawn in
    let seen = outs_seen g.O.OutLink.tried g.O.OutLink.faults in record {
      serves = ∣ reported _ _ _ _ _ _ _ _ _ _ _ _ _ (ap seen c.unused-in-Err.ensures.outs) c.unused-in-Err.ensures.views c.unused-in-Err.ensures.report
          (serves_unstarted _ _ _ c.in-Err.field-0.end drawn.words _ _ _ _ _ _ _ _ _ _ (seen c.in-Err.field-0.outs) drawn.given (four_words _ _ _ _ drawn c.in-Ok.is).1 (is_quiet _ _ _ _ c.draw_secret.ensures.cause c.in-Ok.is)
          c.in-Err.ensures.left _ refl c.in-Err.ensures.none_started) ∣₁;
      link_waits = no_waits _ _ refl;
      feed_waits = no_waits _ _ refl;
    }

pub finish-ending-requires-clause-run : goal.finish-ending-requires-clause-run
finish-ending-requires-clause-run g c = c.run-end.ensures.runs.does.happens.same.same_tasks g.P.Spawner.task_of c.in-Ok-start.ensures.run

pub finish-ending-requires-clause-room : goal.finish-ending-requires-clause-room
finish-ending-requires-clause-room g c =
    let same = ap length (c.run-end.ensures.runs.does.happens.same.same_starts) in
    let were = ap length c.in-Ok-start.ensures.started.outs_are in
    let now = length-map (slots_in c.run-end.new.self) (λ slot. slot.first) in
    let outs = length-map (starts_in (slots_in c.in-Ok-start.server)) out_of in (
      omega (arith, same, were, now, outs, c.len.ensures, c.requires.outs, c.requires.plan.few_workers, c.in-Ok-new.ensures.turned.1),
      omega (arith, same, were, now, outs, c.len.ensures, c.requires.outs, c.requires.plan.few_workers, c.in-Ok-new.ensures.asked.1),
    )

pub of-requires : goal.of-requires
of-requires g c = record { few = few_in_all c.run-end.new.self c.finish-ending.result c.finish-ending.ensures.finishes c.run-end.ensures.few c.finish-ending.ensures.few }

pub returns : goal.returns
returns g c =
    let drawn = c.draw_secret.ensures.drawn in
    let four = four_words _ _ _ _ drawn c.in-Ok.is in
    let start = c.in-Ok-start.ensures in
    let seen = outs_seen g.O.OutLink.tried g.O.OutLink.faults in record {
      serves = ∥∥₁_map
          (serves_run c.args.settings c.args.plan.now c.in-Ok.first c.args.outs _ drawn.words c.in-Ok-start.server c.run-end.new.self c.finish-ending.result c.run-end.result.0 c.run-end.result.1
          _ _ _ _ _ _ _ _ _ _ _ four.0 four.1 drawn.given (is_quiet _ _ _ _ c.draw_secret.ensures.cause c.in-Ok.is) start.started _ _ _ _ _ _ c.run-end.ensures.runs
          c.finish-ending.ensures.finishes c.requires.plan.some_turns c.requires.outs refl _ _
          (λ threads. subst (HaveStarted (length c.args.outs) (g.P.Spawner.starts c.args.spawner.now)) (sym c.finish-ending.ensures.starts) (start.workers threads))
          (λ idle. c.finish-ending.ensures.starts ∙ start.none_started idle) _ _ (c.finish-ending.ensures.faults ∙ start.quiet))
          (λ serves. reported _ _ _ _ _ _ _ _ _ _ _ _ _ (ap seen c.of.ensures.outs) c.of.ensures.views c.of.ensures.report serves);
      link_waits = c.run-end.ensures.runs.does.link_waits;
      feed_waits = c.run-end.ensures.runs.does.feed_waits;
    }
