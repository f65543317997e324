use Rattle.std.proofs.Common.{◌∙◌, sym}
use Rattle.published_table.specs.{Publishers.{published}, Views.{named, seen, told}}
use Rattle.relay_serving.proofs.Ending.{reached_by}
use Rattle.relay_serving.proofs.server.ending.ask.Goals as goal

pub learn-requires : goal.learn-requires
learn-requires g c = c.tell.ensures.publisher ∙ sym c.requires

pub returns-then-read_length-published-clause-reached : goal.returns-then-read_length-published-clause-reached
returns-then-read_length-published-clause-reached g c =
    reached_by (seen c.read_length.new.view) (named c.tell.result) (published c.args.publisher.now) (told c.learn.new.self) (told c.args.view.now)
    c.learn.ensures.told c.tell.ensures.named c.read_length.ensures.told

pub returns-else-read_length-published-clause-reached : goal.returns-else-read_length-published-clause-reached
returns-else-read_length-published-clause-reached g c =
    reached_by (seen c.read_length.new.view) (named c.tell.result) (published c.args.publisher.now) (told c.learn.new.self) (told c.args.view.now)
    c.learn.ensures.told c.tell.ensures.named c.read_length.ensures.told
