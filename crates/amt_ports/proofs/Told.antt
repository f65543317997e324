-- Lists that devices tell: nothing more, and two lots in a row.
use Rattle.std.proofs.Common.{List, [], ◌++◌, Option, None, Some, refl, sym, ap, subst, ◌∙◌, append_assoc, append-nil}
use Rattle.amt_ports.specs.Told.{AppendsAll}

-- nothing was told
pub AppendsAll-none : {X : Type 0} (told : Option (List X)) → AppendsAll told told []
AppendsAll-none None = tt
AppendsAll-none (Some all) = (all, refl, sym (append-nil all))

-- two lots in a row
pub AppendsAll-then : {X : Type 0} (before now after : Option (List X)) (some more : List X) → AppendsAll before now some → AppendsAll now after more → AppendsAll before after (some ++ more)
AppendsAll-then before now None some more first second = tt
AppendsAll-then {X} before now (Some all) some more first second =
    let earlier = second.0 in
    let known = subst (λ (one : Option (List X)). AppendsAll before one some) second.1 first in
    (known.0, known.1, second.2 ∙ ap (λ (list : List X). list ++ more) known.2 ∙ append_assoc known.0 some more)
