use Rattle.std.proofs.Common.{◌≡◌, List, None, option_copied, length, sym, ap, subst, ◌∙◌, arith}
use Rattle.source_filter.specs.Filter.{FilterValue}
use Rattle.socket_merge.specs.{History.{AcceptedCall, Change, socket_named, sockets_after}, Kept.{IsSound}, Refusal.{refusal_of}, Sockets.{AreOfSocket, SocketsHold, SocketsValue}, declared.fault.SocketFault.{TheVariants.{NoSocket}}}
use Rattle.socket_merge.proofs.{Calls.{Does, IsSound-after, MayPass-of, does_changed, found-counted, keeps, one_of, refused_change, within_limits}, Refused.{answers_accepted, answers_memory, answers_refused, refusal-unknown}, sockets.Sockets.change.Goals.{After-follow}}
use Rattle.socket_merge.proofs.sockets.Sockets.change.Goals as goal

pub returns-in_default-clause-refused : goal.returns-in_default-clause-refused
returns-in_default-clause-refused c =
    λ (history : List AcceptedCall) holds.
    let kept = subst (λ (value : SocketsValue). SocketsHold value history) (sym c.self.view_is) holds in
    answers_refused (refusal_of c.args.at.now (Change c.args.name.now c.args.filter.now) history) NoSocket
    (refusal-unknown c.args.at.now c.args.name.now c.args.filter.now history (ap (socket_named c.args.name.now) (sym kept.sockets) ∙ sym c.find.ensures ∙ ap option_copied c.in_default.is))

pub limit_passed-requires : goal.limit_passed-requires
limit_passed-requires c =
    let later = c.later-moment.ensures in
    let socket = c.in-Some.socket.now in
    let counted = (found-counted _ c.args.name.now c.self.inside.named c.self.inside.farewells socket c.self.invariant (sym c.find.ensures ∙ ap option_copied c.in-Some.is)).0 in
    let pass = MayPass-of c.self.inside.moment c.later-moment.result c.self.inside.named c.self.inside.farewells socket.group c.self.invariant (omega arith) in
    let before = ap length c.sources-before.ensures.listed in
    let sources = ap length c.sources-after.ensures.listed in
    record { few = pass.few; total = pass.total; places = pass.places; before = omega (arith, before, counted.on); within = omega (arith, before, counted.all); after = omega (arith, sources, c.requires.items) }

pub returns-in-Some-limit_passed-clause-refused : goal.returns-in-Some-limit_passed-clause-refused
returns-in-Some-limit_passed-clause-refused c =
    λ (history : List AcceptedCall) holds.
    answers_refused _ c.in-Some-limit_passed.fault
    (refused_change _ _ _ _ _ _ _ c.in-Some.socket.now _ _ _ _ c.self.view_is c.self.invariant c.later-moment.ensures (sym c.find.ensures ∙ ap option_copied c.in-Some.is) c.sources-before.ensures.listed c.sources-after.ensures.listed c.limit_passed.ensures history holds
    ∙ c.in-Some-limit_passed.is)

pub returns-in-Err-clause-refused : goal.returns-in-Err-clause-refused
returns-in-Err-clause-refused c =
    λ (history : List AcceptedCall) holds.
    answers_memory _
    (refused_change _ _ _ _ _ _ _ c.in-Some.socket.now _ _ _ _ c.self.view_is c.self.invariant c.later-moment.ensures (sym c.find.ensures ∙ ap option_copied c.in-Some.is) c.sources-before.ensures.listed c.sources-after.ensures.listed c.limit_passed.ensures history holds
    ∙ c.in_default-limit_passed.is)

pub set_filter-requires : goal.set_filter-requires
set_filter-requires c = record { apart = (keeps c.self.inside.moment c.self.inside.named c.self.inside.farewells c.self.invariant.history c.self.invariant c.self.invariant.holds).apart c.args.name.now }

pub follow-requires : goal.follow-requires
follow-requires c = (found-counted _ c.args.name.now c.self.inside.named c.self.inside.farewells c.in-Some.socket.now c.self.invariant (sym c.find.ensures ∙ ap option_copied c.in-Some.is)).1

-- what the call does
does : (c : After-follow) → Does c.args.at.now (Change c.args.name.now c.args.filter.now) c.args.self.now c.later-moment.result c.set_filter.new.self c.follow.new.self
does c =
    does_changed _ c.self.inside.moment _ _ c.self.inside.named _ c.self.inside.farewells _ _ c.self.view_is c.in-Some.socket.now c.self.invariant c.later-moment.ensures
    (sym c.find.ensures ∙ ap option_copied c.in-Some.is) c.args.filter.now
    (one_of _ _ _ _ _ _ _ c.wants-wanted.result c.wants-wanted.ensures (c.set_filter.ensures ∙ ap (λ (one : FilterValue). sockets_after (Change c.args.name.now one) c.self.inside.named) c.in-Ok.ensures) c.follow.ensures.slot c.follow.ensures.ordered)

-- no limit is passed
free : (c : After-follow) (history : List AcceptedCall) → SocketsHold c.args.self.now history → refusal_of c.args.at.now (Change c.args.name.now c.args.filter.now) history ≡ None
free c history holds =
    refused_change _ _ _ _ _ _ _ c.in-Some.socket.now _ _ _ _ c.self.view_is c.self.invariant c.later-moment.ensures (sym c.find.ensures ∙ ap option_copied c.in-Some.is) c.sources-before.ensures.listed c.sources-after.ensures.listed c.limit_passed.ensures history holds
    ∙ c.in_default-limit_passed.is

sound : (c : After-follow) → IsSound c.later-moment.result c.set_filter.new.self c.follow.new.self
sound c =
    IsSound-after c.args.at.now (Change c.args.name.now c.args.filter.now) _ _ _ _ _ _ _ c.self.view_is c.self.invariant (does c).stands (does c).back
    (subst (λ (value : SocketsValue). AreOfSocket c.args.name.now value c.args.filter.now) (sym c.self.view_is) c.requires.family) (free c)

pub invariant_of-self : goal.invariant_of-self
invariant_of-self c = sound c

pub returns-clause-stands : goal.returns-clause-stands
returns-clause-stands c = (does c).stands

pub returns-clause-keeps : goal.returns-clause-keeps
returns-clause-keeps c = (does c).keep

pub returns-clause-refused : goal.returns-clause-refused
returns-clause-refused c = λ (history : List AcceptedCall) holds. answers_accepted _ (free c history holds)

pub returns-clause-fits : goal.returns-clause-fits
returns-clause-fits c = within_limits c.later-moment.result c.set_filter.new.self c.follow.new.self (sound c)
