use Rattle.std.proofs.{Common.{◌≡◌, ◌∙◌, ap}, lemmas.Result.{IfOk-weaker}}
use Rattle.clap.specs.Words.{App, Rule, with_rule}
use Rattle.amt_words.proofs.Optional.{relay_given}
use Rattle.amt_words.proofs.definition.relay_definition.Goals as goal

-- a command with one more rule, in terms that are known
added_rule : (more old known : App) (rule expected : Rule) → more ≡ with_rule old rule → old ≡ known → rule ≡ expected
    → more ≡ with_rule known expected
added_rule more old known rule expected is old_is rule_is =
    is ∙ (ap (λ (a : App). with_rule a rule) old_is ∙ ap (λ (r : Rule). with_rule known r) rule_is)

pub returns-clause-usage : goal.returns-clause-usage
returns-clause-usage c =
    let file = c.word_argument.ensures in
    let turns = c.turns_argument.ensures in
    let workers = c.workers_argument.ensures in
    let one = added_rule _ _ _ _ _ (c.in_ok-definition.ensures.shape file.plain.1) c.bare_definition.ensures.usage file.rule in
    let two = added_rule _ _ _ _ _ (c.in_ok-arg.ensures.shape turns.plain.1) one turns.rule in
    IfOk-weaker c.arg-3.result _ _ (λ r added. added_rule _ _ _ _ _ (added.shape workers.plain.1) two workers.rule) c.arg-3.ensures

pub returns-clause-given : goal.returns-clause-given
returns-clause-given c =
    let bare = c.bare_definition.ensures in
    let file = c.word_argument.ensures in
    let turns = c.turns_argument.ensures in
    let workers = c.workers_argument.ensures in
    IfOk-weaker c.arg-3.result _ _ (λ r added m parsed.
    relay_given c.bare_definition.result c.in_ok-definition.definition c.in_ok-arg.field-0
    c.word_argument.result c.turns_argument.result
    c.in_ok-definition.ensures c.in_ok-arg.ensures bare.empty.0 bare.empty.1 bare.local.0 bare.local.1
    file.plain turns.plain file.value (ap (λ (a : Rule). a.id) file.rule) (ap (λ (a : Rule). a.id) turns.rule) (ap (λ (a : Rule). a.parser) turns.rule)
    r c.workers_argument.result m added workers.plain (ap (λ (a : Rule). a.id) workers.rule) (ap (λ (a : Rule). a.parser) workers.rule) parsed)
    c.arg-3.ensures
