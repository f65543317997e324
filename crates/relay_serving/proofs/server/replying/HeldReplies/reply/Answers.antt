use Rattle.std.proofs.Common.{◌≡◌}
use Rattle.relay_machine.specs.Answers.{settings_of}
use Rattle.relay_serving.{specs.Courses.{events_so_far}, proofs.Telling.{numbers_are, told_at}}
use Rattle.relay_serving.proofs.server.replying.HeldReplies.reply.Goals as goal

pub returns-in_ok-rows-in-Ok : goal.returns-in_ok-rows-in-Ok
returns-in_ok-rows-in-Ok g c =
    let held = c.args.self.now in
    let server = held.server.now in
    let are = c.in_ok-rows-in-Ok.ensures.stands (settings_of server.relay) server.first.value (events_so_far server.course) server.at in
    told_at server held.workers held.turns c.args.starved c.args.copied.now c.in-Ok.asking c.args.reading.now _ c.as_slice.result.now c.in_ok-rows-in-Ok.rows c.told_text.result c.in-Ok.is c.as_slice.ensures are
    (numbers_are server held.workers held.turns c.args.starved c.args.copied.now c.saturating_add.result c.saturating_add-in-Ok.result c.inline_of.result c.owed.result c.published.result
    c.saturating_add.ensures c.saturating_add-in-Ok.ensures c.inline_of.ensures c.owed.ensures c.published.ensures)
    c.told_text.ensures
