use Rattle.std.{proofs.Common.{◌≡◌, ℕ, ◌<◌, ◌≤◌, true, false, List, length, Option, set, sym, ap, subst, ◌∙◌, rules}, specs.{List.{All, HoldsAt, count_by}, Prelude.{IfSome, IfNone}}}
use Rattle.socket_merge.{specs.History.{Change, Socket, same_name, sockets_after}, proofs.Amounts.{has_name, none_named, refiltered-at, unnamed, with_filter}}
use Rattle.socket_merge.proofs.named.NamedSockets.set_filter.Goals as goal

pub returns-in_default : goal.returns-in_default
returns-in_default c =
    let name = c.args.name.now in
    let sockets = c.args.self.now in
    let none : IfNone c.position.result (All (λ (one : Socket). same_name name one.name ≡ false) sockets) = search rules in
    let each = subst (λ (found : Option ℕ). IfNone found (All (λ (one : Socket). same_name name one.name ≡ false) sockets)) c.in_default.is none in
    sym ((unnamed name sockets (none_named name sockets each)).again c.args.filter)

pub returns : goal.returns
returns c =
    let name = c.args.name.now in
    let sockets = c.self.inside.sockets.items in
    let within : IfSome c.position.result (λ (place : ℕ). place < length sockets) = search rules in
    let here : IfSome c.position.result (HoldsAt (λ (one : Socket). same_name name one.name ≡ true) sockets) = search rules in
    let few = subst (λ (all : List Socket). count_by (has_name name) all ≤ 1) (sym c.self.view_is) c.requires.apart in
    let named = subst (λ (found : Option ℕ). IfSome found (HoldsAt (λ (one : Socket). same_name name one.name ≡ true) sockets)) c.in-Some.is here in
    ap (λ (one : Socket). set sockets c.in-Some.place (with_filter c.args.filter one)) c.index_mut.ensures.value
    ∙ refiltered-at name c.args.filter sockets c.in-Some.place c.index_mut.result.now (subst (λ (found : Option ℕ). IfSome found (λ (place : ℕ). place < length sockets)) c.in-Some.is within) (named c.index_mut.result.now) few
    ∙ ap (sockets_after (Change name c.args.filter)) c.self.view_is
