use Rattle.std.proofs.{Common.{ℕ, List, ◌++◌, codes, ap, ◌∙◌, append_assoc}, lemmas.Result.{on_ok_weaker}}
use Rattle.amt_script.specs.Texts.{not_forwarded_text}
use Rattle.amt_script.proofs.text.append_unforwarded.Goals as goal

pub returns : goal.returns
returns c =
    let cause = not_forwarded_text c.args.cause.now in
    on_ok_weaker c.append_not_forwarded.result
    (λ same. same ∙ (ap (λ (text : List ℕ). text ++ cause) c.in_ok-append.ensures.ok ∙ append_assoc c.args.text.now (codes "notforwarded ") cause))
    c.append_not_forwarded.ensures
