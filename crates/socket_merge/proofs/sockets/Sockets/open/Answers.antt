use Rattle.std.proofs.Common.{◌≡◌, List, None, is_some, option_copied, length, sym, ap, subst, ◌∙◌, arith}
use Rattle.socket_merge.specs.{History.{AcceptedCall, Open, Socket, socket_named}, Kept.{IsSound}, Refusal.{refusal_of}, Sockets.{SocketsHold, SocketsValue}, declared.fault.SocketFault.{TheVariants.{Taken}}}
use Rattle.socket_merge.proofs.{Calls.{IsSound-after, MayPass-of, Opens, does_opened, refused_opening, within_limits}, Refused.{answers_accepted, answers_memory, answers_refused, refusal-taken}, sockets.Sockets.open.Goals.{After-drop_old}}
use Rattle.socket_merge.proofs.sockets.Sockets.open.Goals as goal

pub returns-in-Some-clause-refused : goal.returns-in-Some-clause-refused
returns-in-Some-clause-refused c =
    λ (history : List AcceptedCall) holds.
    let kept = subst (λ (value : SocketsValue). SocketsHold value history) (sym c.self.view_is) holds in
    answers_refused _ Taken
    (refusal-taken c.args.at.now c.args.name.now c.args.group.now c.args.filter.now history
    (ap (λ (all : List Socket). is_some (socket_named c.args.name.now all)) (sym kept.sockets) ∙ ap is_some (sym c.find.ensures ∙ ap option_copied c.in-Some.is)))

pub limit_passed-requires : goal.limit_passed-requires
limit_passed-requires c =
    let later = c.later-moment.ensures in
    let pass = MayPass-of c.self.inside.moment c.later-moment.result c.self.inside.named c.self.inside.farewells c.args.group.now c.self.invariant (omega arith) in
    let sources = ap length c.sources-sources.ensures.listed in
    record { few = pass.few; total = pass.total; places = pass.places; before = omega arith; within = omega arith; after = omega (arith, sources, c.requires.items) }

pub returns-in-Some-limit_passed-clause-refused : goal.returns-in-Some-limit_passed-clause-refused
returns-in-Some-limit_passed-clause-refused c =
    λ (history : List AcceptedCall) holds.
    answers_refused _ c.in-Some-limit_passed.fault
    (refused_opening _ _ _ _ _ _ _ _ _ _ _ c.self.view_is c.self.invariant c.later-moment.ensures (ap is_some (sym c.find.ensures ∙ ap option_copied c.in_default.is)) c.sources-sources.ensures.listed c.limit_passed.ensures history holds
    ∙ c.in-Some-limit_passed.is)

pub returns-in-Err-clause-refused : goal.returns-in-Err-clause-refused
returns-in-Err-clause-refused c =
    λ (history : List AcceptedCall) holds.
    answers_memory _
    (refused_opening _ _ _ _ _ _ _ _ _ _ _ c.self.view_is c.self.invariant c.later-moment.ensures (ap is_some (sym c.find.ensures ∙ ap option_copied c.in_default.is)) c.sources-sources.ensures.listed c.limit_passed.ensures history holds
    ∙ c.in_default-limit_passed.is)

-- what the call does
opens : (c : After-drop_old) → Opens c.args.at.now (Open c.args.name.now c.args.group.now c.args.filter.now) c.args.self.now c.later-moment.result c.insert_both.new.named c.drop_old.new.self
opens c =
    does_opened c.args.at.now c.self.inside.moment c.later-moment.result c.args.name.now c.args.group.now c.args.filter.now c.self.inside.named c.insert_both.new.named c.self.inside.farewells c.insert_both.new.farewells
    c.drop_old.new.self _ c.self.view_is c.self.invariant c.later-moment.ensures c.in-Ok.ensures.named c.in-Ok.ensures.slot c.in-Ok.ensures.ordered c.drop_old.ensures.ordered c.drop_old.ensures.fresh

-- no limit is passed
free : (c : After-drop_old) (history : List AcceptedCall) → SocketsHold c.args.self.now history → refusal_of c.args.at.now (Open c.args.name.now c.args.group.now c.args.filter.now) history ≡ None
free c history holds =
    refused_opening _ _ _ _ _ _ _ _ _ _ _ c.self.view_is c.self.invariant c.later-moment.ensures (ap is_some (sym c.find.ensures ∙ ap option_copied c.in_default.is)) c.sources-sources.ensures.listed c.limit_passed.ensures history holds
    ∙ c.in_default-limit_passed.is

sound : (c : After-drop_old) → IsSound c.later-moment.result c.insert_both.new.named c.drop_old.new.self
sound c =
    IsSound-after c.args.at.now (Open c.args.name.now c.args.group.now c.args.filter.now) _ _ _ _ _ _ _ c.self.view_is c.self.invariant (opens c).stands (opens c).back (c.requires.forwarded, c.requires.family) (free c)

pub invariant_of-self-2 : goal.invariant_of-self-2
invariant_of-self-2 c = sound c

pub returns-clause-stands : goal.returns-clause-stands
returns-clause-stands c = (opens c).stands

pub returns-clause-drops : goal.returns-clause-drops
returns-clause-drops c = (opens c).drops

pub returns-clause-refused : goal.returns-clause-refused
returns-clause-refused c = λ (history : List AcceptedCall) holds. answers_accepted _ (free c history holds)

pub returns-clause-fits : goal.returns-clause-fits
returns-clause-fits c = within_limits c.later-moment.result c.insert_both.new.named c.drop_old.new.self (sound c)
