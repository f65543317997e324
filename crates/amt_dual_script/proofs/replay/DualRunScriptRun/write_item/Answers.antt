use Rattle.amt_dual.specs.{Schedule.{dual_course_of}, Setup.{machines_in}}
use Rattle.pair_script.proofs.Steps.{on_any}
use Rattle.amt_dual_script.{specs.Texts.{events_in}, proofs.Steps.{shown_more}}
use Rattle.amt_dual_script.proofs.replay.DualRunScriptRun.write_item.Goals as goal

pub returns-in-Event-clause-begun : goal.returns-in-Event-clause-begun
returns-in-Event-clause-begun g c = λ start before at. rw c.in-Event.is (c.write_event.ensures.begun start before at)

pub returns-in-Show-clause-begun : goal.returns-in-Show-clause-begun
returns-in-Show-clause-begun g c = λ start before at.
    rw c.in-Show.is (c.write_shown.ensures.begun (machines_in start) (dual_course_of start (events_in before)) at.at)

pub returns-in-Show-clause-done : goal.returns-in-Show-clause-done
returns-in-Show-clause-done g c = λ start before at.
    rw c.in-Show.is (c.write_shown.ensures.done (machines_in start) (dual_course_of start (events_in before)) at.at)

pub returns-in-Show-clause-next : goal.returns-in-Show-clause-next
returns-in-Show-clause-next g c = λ start before at.
    on_any c.write_shown.result (rw c.in-Show.is (shown_more c.args.self.now.pair c.args.self.now.up c.args.self.now.down start before at))
