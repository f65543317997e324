use Rattle.std.{proofs.{Common.{◌∙◌, codes, sym, subst, ap, inl, inr, refl}, lemmas.Result.{IfOk-weaker}}}
use Rattle.clap.{specs.Words.{Rule, found_of}, proofs.CallerLemmas.{one_required_value}}
use Rattle.amt_words.{specs.Given.{HasWord}, proofs.Numbers.{text_differs}}
use Rattle.amt_words.proofs.definition.dns_definition.Goals as goal

pub returns-clause-given : goal.returns-clause-given
returns-clause-given c =
    let bare = c.bare_definition.ensures in
    let source = c.word_argument.ensures in
    let id = ap (λ (a : Rule). a.id) source.rule in
    IfOk-weaker c.arg.result _ _ (λ r added m parsed.
    subst (HasWord (found_of m)) id
    (one_required_value c.bare_definition.result r c.word_argument.result m added bare.empty.0 bare.empty.1 bare.local.0 bare.local.1
    source.plain.0 source.plain.1 source.value.0 source.value.1 source.value.2 source.value.3
    (λ empty. text_differs (codes "SOURCE") _ refl (sym id ∙ empty))
    (λ auto. elim auto [ inl h ↦ text_differs (codes "SOURCE") _ refl (sym id ∙ h) | inr h ↦ text_differs (codes "SOURCE") _ refl (sym id ∙ h) ]) parsed))
    c.arg.ensures
