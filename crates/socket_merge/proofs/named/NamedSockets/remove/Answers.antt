use Rattle.std.proofs.{Common.{rules, ap, ◌∙◌}, lemmas.Fn.{filter_same}}
use Rattle.socket_merge.specs.History.{Close, sockets_after}
use Rattle.socket_merge.proofs.named.NamedSockets.remove.Goals as goal

pub returns : goal.returns
returns c = filter_same _ _ _ (λ x b f' k. search rules) _ _ c.retain.ensures.filtered ∙ ap (sockets_after (Close c.args.name.now)) c.self.view_is
