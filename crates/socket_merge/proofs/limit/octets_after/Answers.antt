use Rattle.std.proofs.Common.{ℕ, ◌+◌, ap, ◌∙◌}
use Rattle.group_records.specs.declared.family.Family.{Family}
use Rattle.socket_merge.specs.Kept.{places_besides, raw_octets}
use Rattle.socket_merge.proofs.limit.octets_after.Goals as goal

pub returns-clause-value : goal.returns-clause-value
returns-clause-value c =
    c.raw_octets.ensures.value ∙ ap (λ (number : ℕ). raw_octets c.family_of-family.result (number + 1) c.args.sources) c.places_besides-places.ensures
    ∙ ap (λ (of : Family). raw_octets of (places_besides c.args.named.now of c.args.moment c.args.group.now c.args.farewells.now + 1) c.args.sources) c.family_of-family.ensures
