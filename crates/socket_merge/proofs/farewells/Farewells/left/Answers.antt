use Rattle.std.{proofs.Common.{ℕ, Bor, List, Option, None, sym, ap, ◌∙◌}, specs.Option.{option_map, unwrap_or}}
use Rattle.amt_values.specs.declared.address.Ip.{Ip}
use Rattle.source_filter.proofs.Compared.{compared}
use Rattle.socket_merge.{specs.Kept.{kept_at}, proofs.Slots.{slot_at-get}}
use Rattle.socket_merge.proofs.farewells.Farewells.left.Goals as goal

pub returns-in-Some : goal.returns-in-Some
returns-in-Some c =
    let found = sym c.get.ensures.value ∙ ap (option_map (λ (x : Bor (Option ℕ)). x.now)) c.in-Some.is in
    sym (ap (λ (slot : Option (Option ℕ)). unwrap_or slot None) (sym (slot_at-get _ compared c.self.inside.slots c.self.inside.slots c.args.group.now) ∙ found))
    ∙ ap (λ (slots : List (Ip × Option ℕ)). kept_at slots c.args.group.now) c.self.view_is

pub returns-in-None : goal.returns-in-None
returns-in-None c =
    let none = sym c.get.ensures.value ∙ ap (option_map (λ (x : Bor (Option ℕ)). x.now)) c.in-None.is in
    sym (ap (λ (slot : Option (Option ℕ)). unwrap_or slot None) (sym (slot_at-get _ compared c.self.inside.slots c.self.inside.slots c.args.group.now) ∙ none))
    ∙ ap (λ (slots : List (Ip × Option ℕ)). kept_at slots c.args.group.now) c.self.view_is
