use Rattle.std.proofs.{Common.{◌≡◌, ℕ, List, ◌++◌, ap, rules, ◌∙◌}, lemmas.Result.{on_ok_weaker}}
use Rattle.relay_machine.specs.{Published.{published_log}, Settings.{table_settings_of}}
use Rattle.amt_script.specs.Texts.{events_in, step_text}
use Rattle.upstream_script.proofs.Runs.{event_more, may_take, text_is}
use Rattle.upstream_script.proofs.replay.take_event.Goals as goal

pub append_taken-requires : goal.append_taken-requires
append_taken-requires c =
    let start = c.requires.start in
    let events = events_in c.requires.before in
    may_take start.settings start.secret events c.args.event.now c.in_ok-step.step.change c.args.run.now.upstream c.requires.may.lawful c.requires.stands.upstream_at
    (c.in_ok-step.ensures.change start.settings start.secret events c.requires.stands.relay_at)

pub returns-clause-text : goal.returns-clause-text
returns-clause-text c = λ start before at.
    let step = c.in_ok-step.ensures in
    let settings = start.settings in
    let events = events_in before in
    let taken = c.in_ok-append_taken.ensures.text (table_settings_of settings) (published_log settings start.secret events) at.upstream_at in
    let taken_step = c.in_ok-step.step in
    let line : c.append_relay_step.new.text ≡ step_text c.args.number taken_step.outcome taken_step.sends = search rules in
    let text = text_is settings start.secret events c.args.event.now c.args.number _ _ taken_step.change c.append_relay_step.new.text c.append_taken.new.text
    (step.outcome settings start.secret events at.relay_at) (step.sends settings start.secret events at.relay_at) (step.change settings start.secret events at.relay_at)
    line taken in
    on_ok_weaker c.append.result (λ held. held ∙ ap (λ (all : List ℕ). c.args.held.now ++ all) (c.as_slice.ensures ∙ text)) c.append.ensures.ok

pub returns-clause-next : goal.returns-clause-next
returns-clause-next c = λ start before at.
    let events = events_in before in
    on_ok_weaker c.append.result
    (λ held. event_more _ start before c.args.event.now c.in_ok-step.step.change
    (c.in_ok-step.ensures.change start.settings start.secret events at.relay_at) (c.in_ok-step.ensures.next start.settings start.secret events at.relay_at)
    (c.in_ok-append_taken.ensures.next (table_settings_of start.settings) (published_log start.settings start.secret events) at.upstream_at))
    c.append.ensures.ok
