use Rattle.std.{proofs.{Common.{length, ◌≤◌, arith, sym, ap, ◌∙◌}, lemmas.List.{take_all, Folds.{flat_map-map}}}, specs.List.{flat_map}}
use Rattle.amt_upstream.{specs.{Upstream.{records_on}, declared.changed_group.ChangedGroup.{ChangedGroup}}, proofs.ChangedGroups.{records_between-changed}}
use Rattle.amt_upstream.proofs.records.changed_records.Goals as goal

pub returns : goal.returns
returns c = λ after numbers in_order before_in_order are first second.
    let before = c.args.table.now.rows in
    let sides = c.args.sides.now in
    let whole : length sides ≤ c.loop-side.side-index = omega arith in
    c.loop-side.invariant after (record { ascended = first; ascends = second; are_changes = are; numbers = numbers; in_order = in_order })
    ∙ ap (flat_map (λ (side : ChangedGroup). records_on before after side.group)) (take_all c.loop-side.side-index sides whole)
    ∙ sym (flat_map-map (records_on before after) (λ (side : ChangedGroup). side.group) sides)
    ∙ ap (flat_map (records_on before after)) c.requires.groups
    ∙ sym (records_between-changed before after c.args.changes.now first second are)
