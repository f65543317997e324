use Rattle.std.proofs.Common.{◌≡◌, ℕ, ap, sym, ◌∙◌, replicate, rules}
use Rattle.control_lines.proofs.Counting.{numbers_of-none}
use Rattle.control_lines.proofs.tally.Tally.new.Goals as goal

pub returns-clause-none : goal.returns-clause-none
returns-clause-none c = λ words many.
    let items : c.in_ok-vec.field-0.items ≡ replicate c.args.number 0 = search rules in
    items ∙ ap (λ (number : ℕ). replicate number 0) (sym many) ∙ sym (numbers_of-none words)
