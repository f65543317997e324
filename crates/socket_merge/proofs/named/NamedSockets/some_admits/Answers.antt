use Rattle.std.proofs.{Common.{◌&&◌, ◌∙◌, rules, tests}, lemmas.Iterator.{Search.{any_from_yields_List}, YieldsList-from_slice}}
use Rattle.source_filter.specs.Filter.{FilterValue, admits}
use Rattle.socket_merge.{specs.{History.{Socket}, Interface.{same_group}}, proofs.Wanted.{any-on}}
use Rattle.socket_merge.proofs.named.NamedSockets.some_admits.Goals as goal

pub returns : goal.returns
returns c =
    any_from_yields_List (λ (one : Socket). same_group c.args.group.now one.group && admits one.filter c.args.source.now) _ _ c.any.result c.any.ensures.ran (YieldsList-from_slice c.args.self.now (search rules)) (λ x b q k. search (rules, tests))
    ∙ any-on c.args.group.now (λ (filter : FilterValue). admits filter c.args.source.now) c.args.self.now
