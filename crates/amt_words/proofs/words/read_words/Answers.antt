use Rattle.std.proofs.Common.{◌∙◌, ◌∷◌, sym, ap, subst, map, string_bytes}
use Rattle.amt_words.specs.Line.{IsAccepted, IsCommandLine}
use Rattle.amt_words.proofs.Accepted.{accepted_taken, line_taken}
use Rattle.amt_words.proofs.words.read_words.Goals as goal

pub returns-in-Some-clause-usage : goal.returns-in-Some-clause-usage
returns-in-Some-clause-usage c usage command line =
    let is = ap (map string_bytes) c.in-Some.ensures.cases.0 ∙ ap (λ name. name ∷ map string_bytes c.in-Some.rest.now) (sym c.as_str.ensures.value) in
    c.read_named.ensures.refused usage (line_taken _ _ command (subst (IsCommandLine command) is line))

pub returns-in-Some-clause-refused : goal.returns-in-Some-clause-refused
returns-in-Some-clause-refused c usage accepted =
    let is = ap (map string_bytes) c.in-Some.ensures.cases.0 ∙ ap (λ name. name ∷ map string_bytes c.in-Some.rest.now) (sym c.as_str.ensures.value) in
    c.read_named.ensures.refused usage (accepted_taken _ _ (subst IsAccepted is accepted))
