use Rattle.std.{proofs.{Common.{ℕ, List, Option, rules, tests, ap, ◌∙◌}, lemmas.Iterator.Consumers.{YieldsList-at, YieldsList-from_filter, YieldsList-from_rest, count_from_yields_List}}, specs.Map.Iter.{deref_pair}}
use Rattle.amt_values.specs.declared.address.Ip.{Ip}
use Rattle.socket_merge.specs.Kept.{has_place_besides, places_besides}
use Rattle.socket_merge.proofs.farewells.Farewells.places_besides.Goals as goal

pub returns : goal.returns
returns c =
    let place = has_place_besides c.args.named.now c.args.family c.args.moment c.args.group.now in
    count_from_yields_List c.filter.result c.count.result c.count.ensures.ran
    (YieldsList-from_filter _ place (YieldsList-at c.filter.ensures.source (YieldsList-from_rest {shows = deref_pair} c.self.inside.slots.entries c.iter.ensures.rest)) c.filter.ensures.closure (λ x b q k. search (rules, tests)))
    ∙ ap (λ (slots : List (Ip × Option ℕ)). places_besides c.args.named.now c.args.family c.args.moment c.args.group.now slots) c.self.view_is
