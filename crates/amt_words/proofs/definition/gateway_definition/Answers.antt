use Rattle.std.proofs.{Common.{ap}, lemmas.Result.{IfOk-weaker}}
use Rattle.clap.specs.Words.{Rule}
use Rattle.amt_words.proofs.Optional.{gateway_given}
use Rattle.amt_words.proofs.definition.gateway_definition.Goals as goal

pub returns-clause-given : goal.returns-clause-given
returns-clause-given c =
    let bare = c.bare_definition.ensures in
    let file = c.word_argument.ensures in
    let turns = c.turns_argument.ensures in
    IfOk-weaker c.arg-2.result _ _ (λ r added m parsed.
    gateway_given c.bare_definition.result c.in_ok-definition.definition r c.word_argument.result c.turns_argument.result
    c.in_ok-definition.ensures added bare.empty.0 bare.empty.1 bare.local.0 bare.local.1
    file.plain turns.plain file.value (ap (λ (a : Rule). a.id) file.rule) (ap (λ (a : Rule). a.id) turns.rule) (ap (λ (a : Rule). a.parser) turns.rule)
    m parsed)
    c.arg-2.ensures
