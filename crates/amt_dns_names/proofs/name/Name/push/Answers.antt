-- A label that is lawful and fits leaves a name.
use Rattle.std.proofs.Common.{◌≡◌, ℕ, ◌+◌, ◌≤◌, List, [], ◌∷◌, ◌++◌, length, ap, ◌∙◌, arith}
use Rattle.amt_dns_names.specs.Name.{name_wire}
use Rattle.amt_dns_names.proofs.Names.{IsName-pushed, length-pushed}
use Rattle.amt_dns_names.proofs.name.Name.push.Goals as goal

pub invariant_of-self-2 : goal.invariant_of-self-2
invariant_of-self-2 c =
    let is : c.push.new.self ≡ c.self.inside.labels ++ c.args.label.now ∷ [] =
    c.in_ok-push.ensures.ok ∙ ap (λ (label : List ℕ). c.self.inside.labels ++ label ∷ []) c.in_ok-copied.ensures in
    let same = ap (λ (name : List (List ℕ)). length (name_wire name)) c.self.view_is in
    let fits : length (name_wire c.self.inside.labels) + 1 + length c.args.label.now ≤ 255 = omega (arith, same) in
    rw is (
      IsName-pushed c.self.inside.labels c.args.label.now c.self.invariant.0 c.requires.lawful fits,
      omega (arith, length-pushed c.self.inside.labels c.args.label.now, c.self.invariant.1),
    )
