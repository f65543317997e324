use Rattle.std.proofs.Common.{◌≤◌, ◌-◌, ◌∷◌, ◌++◌, Some, take, drop, ap, ◌∙◌, arith}
use Rattle.response_mac.specs.{declared.secret.Secret.{Secret}, ResponseMac.{SecretsValue}}
use Rattle.response_mac.proofs.Kept.{AreSlots-pushed, secrets_after-more}
use Rattle.response_mac.proofs.secrets.Secrets.rotate.Goals as goal

pub invariant_of-self : goal.invariant_of-self
invariant_of-self c =
    let slots = c.self.inside.older in
    let used = c.self.inside.keep - 1 in
    (AreSlots-pushed c.self.inside.keep slots _ c.self.inside.current c.self.invariant
    (c.push_front.ensures ∙ ap (λ (key : Secret). take used (Some key ∷ slots) ++ drop used slots) c.replace-old.ensures.value)).0

pub returns-clause-rotated : goal.returns-clause-rotated
returns-clause-rotated c =
    let slots = c.self.inside.older in
    let used = c.self.inside.keep - 1 in
    let kept = (AreSlots-pushed c.self.inside.keep slots _ c.self.inside.current c.self.invariant
    (c.push_front.ensures ∙ ap (λ (key : Secret). take used (Some key ∷ slots) ++ drop used slots) c.replace-old.ensures.value)).1 in
    let newest = c.replace-old.ensures.after ∙ c.new.ensures in
    (λ i. record { current = newest i; older = kept i; keep = c.self.inside.keep })
    ∙ ap (λ (old : SecretsValue). record { current = c.args.new; older = take (old.keep - 1) (old.current ∷ old.older); keep = old.keep }) c.self.view_is

pub returns-clause-appended : goal.returns-clause-appended
returns-clause-appended c keep first changes before =
    let same = ap (λ (old : SecretsValue). old.keep) c.self.view_is in
    let some : 1 ≤ c.args.self.now.keep = omega (arith, same, c.self.invariant.some) in
    returns-clause-rotated c ∙ secrets_after-more c.args.self.now keep first c.args.new changes some before
