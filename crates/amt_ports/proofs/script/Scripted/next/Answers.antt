-- The value that is given next stands at the end of those that were given.
use Rattle.std.proofs.Common.{rules, ◌<◌, ◌^◌, length, ◌≡◌, List, drop, ap, ◌∙◌, subst}
use Rattle.amt_ports.{specs.{Scripted.{head_or, given_of, Script}, Told.{Appends}}, proofs.Given.{given_more, coming_less}}
use Rattle.amt_ports.proofs.script.Scripted.next.Goals as goal

pub returns-clause-given : goal.returns-clause-given
returns-clause-given g c =
    let fields = c.self.inside in
    let next = c.value_at-next.result in
    let value : next ≡ head_or fields.last (drop fields.given fields.values.items) = c.value_at-next.ensures ∙ ap (λ (values : List g.row.T.Denot). head_or fields.last (drop fields.given values)) c.as_slice.ensures.value in
    subst (λ (s : Script g.row.T.Denot). Appends s.given (given_of c.saturating_add-self-inside.result fields.values.items fields.last) next) c.self.view_is
    (given_more fields.given _ fields.values.items fields.last _ c.saturating_add-self-inside.ensures value)

pub returns-clause-coming : goal.returns-clause-coming
returns-clause-coming g c =
    let fields = c.self.inside in
    let short : length fields.values.items < 2 ^ 64 = search rules in
    coming_less fields.given _ fields.values.items c.saturating_add-self-inside.ensures short ∙ ap (λ (s : Script g.row.T.Denot). drop 1 s.coming) c.self.view_is
