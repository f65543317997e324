use Rattle.std.proofs.{Common.{◌∷◌, ◌++◌, [], sym, subst}, lemmas.Result.{on_ok_weaker}}
use Rattle.relay_machine.specs.{Answers.{RelayAt}, declared.settings.Settings.{Settings}}
use Rattle.amt_script.{specs.{Running.{IsItem}, Texts.{events_in}}, proofs.Runs.{one_more}}
use Rattle.amt_script.proofs.replay.RelayRunScriptRun.write_item.Goals as goal

pub returns-clause-next : goal.returns-clause-next
returns-clause-next g c = λ start before at.
    let item = c.args.item.now in
    let relay = c.write_item.new.relay in
    on_ok_weaker c.write_item.result
    (λ (h : RelayAt relay start.settings start.secret (events_in before ++ events_in (item ∷ []))). one_more relay start.settings start.secret before item h)
    (c.write_item.ensures.next start.settings start.secret (events_in before) at)

pub write_item-requires : goal.write_item-requires
write_item-requires g c = subst (λ (settings : Settings). IsItem settings c.args.item.now) (sym c.requires.stands.settings_kept) c.requires.may
