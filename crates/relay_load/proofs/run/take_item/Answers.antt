use Rattle.amt_script.specs.Texts.{events_in}
use Rattle.relay_load.proofs.Runs.{both_ok, counted_event, counted_show}
use Rattle.relay_load.proofs.run.take_item.Goals as goal

pub returns-in-Event-clause-counted : goal.returns-in-Event-clause-counted
returns-in-Event-clause-counted c = λ settings first before so_far.
    rw c.in-Event.is
    (both_ok c.take_event.result (λ at counted. counted_event _ _ _ settings first before c.in-Event.event so_far.counts_are at counted)
    (c.take_event.ensures.next settings first (events_in before) so_far.at)
    (c.take_event.ensures.counted settings first (events_in before) so_far.at))

pub returns-in-Show-clause-counted : goal.returns-in-Show-clause-counted
returns-in-Show-clause-counted c = λ settings first before so_far. rw c.in-Show.is (counted_show _ _ settings first before so_far)
