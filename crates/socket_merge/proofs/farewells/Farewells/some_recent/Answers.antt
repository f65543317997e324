use Rattle.std.{proofs.{Common.{ℕ, Bool, Option, ap, ◌∙◌, rules, tests}, lemmas.Iterator.{Consumers.{YieldsList-from_rest}, Search.{any_from_yields_List}}}, specs.Map.{values_of, Iter.{deref}}}
use Rattle.amt_values.specs.declared.address.Ip.{Ip}
use Rattle.socket_merge.{specs.{FullReport.{is_recent}, Kept.{some_recent}}, proofs.Wanted.{any-map}}
use Rattle.socket_merge.proofs.farewells.Farewells.some_recent.Goals as goal

pub returns : goal.returns
returns c =
    let test : Option ℕ → Bool = is_recent c.args.at c.args.keep_ms in
    any_from_yields_List test _ _ c.any.result c.any.ensures.ran (YieldsList-from_rest {shows = deref} (values_of c.self.inside.slots.entries) c.values.ensures.rest) (λ x b q k. search (rules, tests))
    ∙ any-map test (λ (slot : Ip × Option ℕ). slot.1) c.self.inside.slots.entries
    ∙ ap (some_recent c.args.at c.args.keep_ms) c.self.view_is
