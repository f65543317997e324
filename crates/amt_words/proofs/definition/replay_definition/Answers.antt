use Rattle.std.proofs.{Common.{◌≡◌, ◌∙◌, ap, rules}, lemmas.Result.{IfOk-weaker}}
use Rattle.clap.specs.{Words.{App, Shape, app_of, with_subcommand}}
use Rattle.amt_words.specs.Usage.{replay_head}
use Rattle.amt_words.proofs.definition.replay_definition.Goals as goal

-- a command with one more subcommand, in terms that are known
added : (more old known : App) (shape : Shape) → more ≡ with_subcommand old shape → old ≡ known → more ≡ with_subcommand known shape
added more old known shape is old_is = is ∙ ap (λ (a : App). with_subcommand a shape) old_is

pub returns : goal.returns
returns c =
    let head : app_of c.subcommand_required-head.result ≡ replay_head = search rules in
    let relay = added _ _ _ _ c.in_ok-relay.ensures head in
    let gateway = added _ _ _ _ c.in_ok-gateway.ensures relay in
    let pair = added _ _ _ _ c.in_ok-pair.ensures gateway in
    let dual = added _ _ _ _ c.in_ok-dual.ensures pair in
    IfOk-weaker c.with_replayable-5.result _ _ (λ r upstream. added _ _ _ _ upstream dual) c.with_replayable-5.ensures
