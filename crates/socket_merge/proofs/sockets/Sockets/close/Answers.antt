use Rattle.std.proofs.Common.{List, is_some, option_copied, sym, ap, ◌∙◌}
use Rattle.socket_merge.{specs.{History.{AcceptedCall, Close, Socket, socket_named}, Kept.{IsSound}, Sockets.{SocketsValue}}, proofs.{Calls.{Does, IsSound-after, does_closed, found-counted, one_of, within_limits}, Lawful.{fills_no_more}, Refused.{refusal-closed}, sockets.Sockets.close.Goals.{After-follow}}}
use Rattle.socket_merge.proofs.sockets.Sockets.close.Goals as goal

pub follow-requires : goal.follow-requires
follow-requires c = (found-counted _ c.args.name.now c.self.inside.named c.self.inside.farewells c.in-Some.socket.now c.self.invariant (sym c.find.ensures ∙ ap option_copied c.in-Some.is)).1

-- what the call does
does : (c : After-follow) → Does c.args.at.now (Close c.args.name.now) c.args.self.now c.later-self-inside.result c.remove.new.self c.follow.new.self
does c =
    does_closed _ c.self.inside.moment _ _ c.self.inside.named _ c.self.inside.farewells _ _ c.self.view_is c.in-Some.socket.now c.self.invariant c.later-self-inside.ensures
    (sym c.find.ensures ∙ ap option_copied c.in-Some.is) (one_of _ _ _ _ _ _ _ c.wants-wanted.result c.wants-wanted.ensures c.remove.ensures c.follow.ensures.slot c.follow.ensures.ordered)

sound : (c : After-follow) → IsSound c.later-self-inside.result c.remove.new.self c.follow.new.self
sound c =
    IsSound-after c.args.at.now (Close c.args.name.now) _ _ _ _ _ _ _ c.self.view_is c.self.invariant (does c).stands (does c).back tt
    (λ history holds. refusal-closed c.args.at.now c.args.name.now history
    (sym (ap (λ (value : SocketsValue). is_some (socket_named c.args.name.now value.sockets)) c.self.view_is ∙ ap (λ (all : List Socket). is_some (socket_named c.args.name.now all)) holds.sockets)
    ∙ ap is_some (sym c.find.ensures ∙ ap option_copied c.in-Some.is)))

pub invariant_of-self : goal.invariant_of-self
invariant_of-self c = sound c

pub returns-clause-stands : goal.returns-clause-stands
returns-clause-stands c = (does c).stands

pub returns-clause-shrinks : goal.returns-clause-shrinks
returns-clause-shrinks c = λ (history : List AcceptedCall) holds. fills_no_more c.args.at.now (Close c.args.name.now) history tt

pub returns-clause-keeps : goal.returns-clause-keeps
returns-clause-keeps c = (does c).keep

pub returns-clause-fits : goal.returns-clause-fits
returns-clause-fits c = within_limits c.later-self-inside.result c.remove.new.self c.follow.new.self (sound c)
