use Rattle.std.proofs.{Common.{ap}, lemmas.Result.{IfOk-weaker}}
use Rattle.clap.specs.Words.{Rule}
use Rattle.amt_words.proofs.Numbers.{both_numbers}
use Rattle.amt_words.proofs.definition.load_definition.Goals as goal

pub returns-clause-numbers : goal.returns-clause-numbers
returns-clause-numbers c =
    let bare = c.bare_definition.ensures in
    let seed = c.seed_argument.ensures in
    let count = c.count_argument.ensures in
    IfOk-weaker c.arg-2.result _ _ (λ r added m parsed.
    both_numbers c.bare_definition.result c.in_ok-definition.definition r c.seed_argument.result c.count_argument.result m
    c.in_ok-definition.ensures added bare.empty.0 bare.empty.1 bare.local.0 bare.local.1
    seed.plain.0 seed.plain.1 seed.value count.plain.0 count.plain.1 count.value
    (ap (λ (a : Rule). a.id) seed.rule) (ap (λ (a : Rule). a.parser) seed.rule)
    (ap (λ (a : Rule). a.id) count.rule) (ap (λ (a : Rule). a.parser) count.rule) parsed)
    c.arg-2.ensures
