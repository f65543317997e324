use Rattle.std.proofs.lemmas.Result.{on_ok_weaker}
use Rattle.amt_script.specs.Texts.{events_in}
use Rattle.upstream_script.proofs.Runs.{shown_more}
use Rattle.upstream_script.proofs.replay.UpstreamRunScriptRun.write_item.Goals as goal

pub returns-in-Event-clause-begun : goal.returns-in-Event-clause-begun
returns-in-Event-clause-begun g c = λ start before at. rw c.in-Event.is (c.write_event.ensures.begun start before at)

pub returns-in-Show-clause-begun : goal.returns-in-Show-clause-begun
returns-in-Show-clause-begun g c = λ start before at. rw c.in-Show.is (c.write_shown.ensures.begun start.settings start.secret (events_in before) at.relay_at)

pub returns-in-Show-clause-next : goal.returns-in-Show-clause-next
returns-in-Show-clause-next g c = λ start before at.
    on_ok_weaker c.write_shown.result (λ done. rw c.in-Show.is (shown_more c.args.self.now start before at)) (c.write_shown.ensures.done start.settings start.secret (events_in before) at.relay_at)
