use Rattle.std.proofs.Common.{List, ℕ, ◌++◌, ap, ◌∙◌}
use Rattle.gateway_machine.specs.Runs.{run_of}
use Rattle.gateway_serving.{specs.Replies.{state_text}, proofs.{NextDue.{due_reported}, ShownRuns.{run_shown}}}
use Rattle.gateway_serving.proofs.replying.show_text.Goals as goal

pub returns : goal.returns
returns c = λ settings first events at.
    let due = c.due.ensures in
    run_shown (run_of settings first events) c.state.result c.relay.result c.due.result c.open_sockets.result.now _ _ _ _
    (c.state.ensures settings first events at)
    (c.relay.ensures settings first events at)
    (due_reported settings first events c.due.result (due.due settings first events at) (due.onward settings first events at) c.append_due.ensures.small)
    (c.open_sockets.ensures settings first events at)
    (c.in_ok-append_state.ensures ∙ ap (λ (text : List ℕ). text ++ state_text c.state.result) c.new-text.ensures)
    c.in_ok-append_relay.ensures c.in_ok-append_due.ensures.text c.in_ok-append_sockets.ensures
