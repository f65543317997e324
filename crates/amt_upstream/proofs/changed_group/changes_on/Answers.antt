use Rattle.std.proofs.{Common.{rules, of_calls, ◌≡◌, ◌-◌, length, take, drop, ap, sym, ◌∙◌}, Math.Seq.{take-length}, lemmas.{List.{length-drop}, List.Sorted.{IsPartitionPoint-from_clause}}}
use Rattle.amt_upstream.proofs.ChangesInOrder.{changes_between_points, is_before, is_not_after, parted_after, parted_before}
use Rattle.amt_upstream.proofs.changed_group.changes_on.Goals as goal

pub returns : goal.returns
returns c =
    let changes = c.args.changes.now in
    let group = c.args.group.now in
    let start = c.partition_point-start.result in
    let rest : take (length changes - start) (drop start changes) ≡ drop start changes =
    ap (λ n. take n (drop start changes)) (sym (length-drop start changes)) ∙ take-length (drop start changes) in
    let first = IsPartitionPoint-from_clause (is_before group) changes start c.partition_point-start.ensures.partitioned (parted_before group changes c.requires) (λ a r q k. search (rules, of_calls)) in
    let clauses = rw rest at c.partition_point-end.ensures in
    let second = IsPartitionPoint-from_clause (is_not_after group) (drop start changes) c.partition_point-end.result clauses.partitioned (parted_after group changes start c.requires) (λ a r q k. search (rules, of_calls)) in
    ap (take c.partition_point-end.result) rest ∙ changes_between_points group changes start c.partition_point-end.result first second clauses.bound
