-- The count that is given next stands at the end of those that were given.
use Rattle.std.proofs.Common.{◌≡◌, List, ap, drop, subst, ◌∙◌}
use Rattle.amt_ports.{specs.{Scripted.{Script, given_of, head_or}, Told.{Appends}}, proofs.Given.{given_more}}
use Rattle.relay_serving.specs.{Controls.{no_copies}, declared.control.CopyCount.{CopyCount}}
use Rattle.relay_serving.proofs.mem_copies.MemCopiesCopies.copies.Goals as goal

pub returns-clause-given : goal.returns-clause-given
returns-clause-given c =
    let fields = c.self.inside in
    let next = c.count_at-count.result in
    let value : next ≡ head_or no_copies (drop fields.given fields.counts.items) = c.count_at-count.ensures ∙ ap (λ (counts : List CopyCount). head_or no_copies (drop fields.given counts)) c.as_slice.ensures.value in
    subst (λ (copies : Script CopyCount). Appends copies.given (given_of c.saturating_add-self-inside.result fields.counts.items no_copies) next) c.self.view_is
    (given_more fields.given _ fields.counts.items no_copies _ c.saturating_add-self-inside.ensures value)
