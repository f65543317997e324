-- Texts that begin with another.
use Rattle.std.proofs.Common.{◌≡◌, ℕ, List, ◌++◌, ap, ◌∙◌, append_assoc}
use Rattle.script_lines.specs.Texts.{BeginsWith}

-- more was put at the end
pub begins_on : (after text front more : List ℕ) → BeginsWith text front → after ≡ text ++ more → BeginsWith after front
begins_on after text front more begun is =
    (begun.0 ++ more, is ∙ (ap (λ (xs : List ℕ). xs ++ more) begun.1 ∙ append_assoc front begun.0 more))
