use Rattle.std.proofs.{Common.{sym, ◌∙◌, rules, tests}, lemmas.Iterator.{Search.{any_from_yields_List}, YieldsList-from_slice}}
use Rattle.socket_merge.{specs.{History.{Socket}, Interface.{same_group}}, proofs.{ByGroup.{group_of, has_socket-listed}, Wanted.{any-map}}}
use Rattle.socket_merge.proofs.named.NamedSockets.has.Goals as goal

pub returns : goal.returns
returns c =
    any_from_yields_List (λ (one : Socket). same_group c.args.group.now one.group) _ _ c.any.result c.any.ensures.ran (YieldsList-from_slice c.args.self.now (search rules)) (λ x b q k. search (rules, tests))
    ∙ sym (has_socket-listed c.args.group.now c.args.self.now ∙ any-map (same_group c.args.group.now) group_of c.args.self.now)
