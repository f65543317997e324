use Rattle.std.proofs.{Common.{List, filter, ap, ◌∙◌}, lemmas.Result.{IfOk-weaker}}
use Rattle.amt_values.specs.declared.address.Ip.{Ip}
use Rattle.source_filter.{specs.declared.mode.Mode.TheVariants.{Exclude}, proofs.SourceSets.{listing}}
use Rattle.amt_upstream.specs.Looking.{is_common}
use Rattle.amt_upstream.proofs.{JoinedByNumbers.{excludes-none}, Looked.{look-common, look-included}}
use Rattle.amt_upstream.proofs.looking.look_after.Goals as goal

pub returns-in-Some : goal.returns-in-Some
returns-in-Some c = λ after is.
    let counted = c.in-Some.ensures.some in
    let looked = look-common c.args.table.now.rows c.args.changes.now c.args.tally.now.numbers after is c.args.group.now c.in-Some.endpoint _ c.args.mode c.args.named.now counted
    (c.filter_after-its.ensures after is.are_changes) in
    IfOk-weaker c.common.result _ _ (λ found same. same ∙ ap (λ (sources : List Ip). listing Exclude (filter (is_common c.args.tally.now.numbers c.args.group.now) sources)) c.sources_of.ensures.listed ∙ looked) c.common.ensures

pub returns-in-Include : goal.returns-in-Include
returns-in-Include c = λ after is.
    let none = c.in-None.ensures.none in
    let looked = look-included c.args.table.now.rows c.args.changes.now c.args.tally.now.numbers after is c.args.group.now c.args.named.now none in
    rw c.in-Include.is (IfOk-weaker c.included_among.result _ _ (λ found same. same ∙ looked) c.included_among.ensures)

pub returns-in-Exclude : goal.returns-in-Exclude
returns-in-Exclude c = λ after is.
    let none = c.in-None.ensures.none in
    rw c.in-Exclude.is (c.included.ensures after is.numbers is.in_order (excludes-none after c.args.tally.now.numbers is.numbers c.args.group.now is.in_order none))
