use Rattle.std.proofs.Common.{◌≡◌, ◌+◌, List, [], ◌∷◌, ◌++◌, Some, None, Bor, BTreeMap, String, Global, option_map, sym, subst, ap, ◌∙◌}
use Rattle.socket_merge.specs.Sockets.{ForHistory, SocketsHold, SocketsValue}
use Rattle.toml.specs.{Data.{Members, as_table}, View.{items_view, table_view}, declared.value.Value.{Value}}
use Rattle.amt_config.{specs.{declared.config.Join.{Join}, Arrays.{those_in}, Join.{with_join}}, proofs.{Items.{end_those, next_those, those_from}, OpenedJoins.{AreOpened, bad_open, bad_table, join_of_group, opened_end, opened_more, opened_start}, joins.read_joins.Goals.{in-Some+in-Ok-read_join+in-Ok-open+in-Ok-push, in_default-as_table}}}
use Rattle.amt_config.proofs.joins.read_joins.Goals as goal

abbrev view_of : Bor (BTreeMap (String Global) Value) → Members
view_of table = table_view table.now

pub loop-item-init : goal.loop-item-init
loop-item-init c = opened_start (Some c.args.family) (those_in as_table (items_view c.args.items.now)) c.new-joins.result c.in-Ok.sockets c.new-joins.ensures c.in-Ok.ensures.stands

pub returns-in-Err-clause-fault : goal.returns-in-Err-clause-fault
returns-in-Err-clause-fault c =
    let items = c.args.items.now in
    let i = c.loop-item.item-index in
    let next = next_those as_table items i c.item-item.result (Some (table_view c.in-Some.table.now)) c.loop-item-test.true c.item-item.is (sym c.as_table.ensures ∙ ap (option_map view_of) c.in-Some.is) in
    bad_table (Some c.args.family) (those_in as_table (items_view items)) c.loop-item.joins c.loop-item.sockets (table_view c.in-Some.table.now) (those_from as_table (i + 1) items)
    (subst (λ (left : List Members). AreOpened (Some c.args.family) (those_in as_table (items_view items)) c.loop-item.joins left c.loop-item.sockets) next c.loop-item.invariant)
    c.in-Err.fault c.in_join.result c.in-Err.ensures.fault c.in_join.ensures

pub open-requires-clause-family : goal.open-requires-clause-family
open-requires-clause-family c = join_of_group c.args.family (table_view c.in-Some.table.now) c.in-Ok-read_join.join c.in-Ok-read_join.ensures.found

pub returns-in-Err-open-clause-fault : goal.returns-in-Err-open-clause-fault
returns-in-Err-open-clause-fault c =
    let items = c.args.items.now in
    let i = c.loop-item.item-index in
    let next = next_those as_table items i c.item-item.result (Some (table_view c.in-Some.table.now)) c.loop-item-test.true c.item-item.is (sym c.as_table.ensures ∙ ap (option_map view_of) c.in-Some.is) in
    bad_open (Some c.args.family) (those_in as_table (items_view items)) c.loop-item.joins c.loop-item.sockets (table_view c.in-Some.table.now) (those_from as_table (i + 1) items)
    (subst (λ (left : List Members). AreOpened (Some c.args.family) (those_in as_table (items_view items)) c.loop-item.joins left c.loop-item.sockets) next c.loop-item.invariant)
    c.in-Ok-read_join.join c.in-Err-open.fault c.in-Ok-read_join.ensures.found c.in-Err-open.ensures.fault

pub loop-item-preserved : goal.loop-item-preserved
loop-item-preserved c =
    let items = c.args.items.now in
    let i = c.loop-item.item-index in
    elim c.match-as_table.branch [
      | in-Some+in-Ok-read_join+in-Ok-open+in-Ok-push w ↦
          let next = next_those as_table items i c.item-item.result (Some (table_view w.in-Some.table.now)) c.loop-item-test.true c.item-item.is (sym c.as_table.ensures ∙ ap (option_map view_of) w.in-Some.is) in
          opened_more (Some c.args.family) (those_in as_table (items_view items)) c.loop-item.joins c.loop-item.sockets (table_view w.in-Some.table.now) (those_from as_table (i + 1) items)
          (subst (λ (left : List Members). AreOpened (Some c.args.family) (those_in as_table (items_view items)) c.loop-item.joins left c.loop-item.sockets) next c.loop-item.invariant)
          c.match-as_table.joins c.match-as_table.sockets w.in-Ok-read_join.join w.in-Ok-read_join.ensures.found w.in-Ok-open.ensures.opened
          (subst (λ (sockets : SocketsValue). ForHistory c.loop-item.sockets (λ history. SocketsHold sockets (with_join w.in-Ok-read_join.join history))) (sym w.sockets-is)
          w.in-Ok-open.ensures.stands)
          (let grown : c.match-as_table.joins ≡ c.loop-item.joins ++ w.in-Ok-read_join.join ∷ [] = cc (w.in-Ok-push.ensures.ok, w.joins-is) in grown)
      | in_default-as_table w ↦
          subst (AreOpened (Some c.args.family) (those_in as_table (items_view items)) c.match-as_table.joins (those_from as_table (i + 1) items)) (sym w.sockets-is)
          (subst (λ (joins : List Join). AreOpened (Some c.args.family) (those_in as_table (items_view items)) joins (those_from as_table (i + 1) items) c.loop-item.sockets) (sym w.joins-is)
          (subst (λ left. AreOpened (Some c.args.family) (those_in as_table (items_view items)) c.loop-item.joins left c.loop-item.sockets)
          (next_those as_table items i c.item-item.result None c.loop-item-test.true c.item-item.is (sym c.as_table.ensures ∙ ap (option_map view_of) w.in_default-as_table.is)) c.loop-item.invariant))
    ]

pub returns-clause-found : goal.returns-clause-found
returns-clause-found c =
    opened_end (Some c.args.family) (those_in as_table (items_view c.args.items.now)) c.loop-item.joins c.loop-item.sockets
    (subst (λ (left : List Members). AreOpened (Some c.args.family) (those_in as_table (items_view c.args.items.now)) c.loop-item.joins left c.loop-item.sockets)
    (end_those as_table c.args.items.now c.loop-item.item-index c.loop-item-test.false) c.loop-item.invariant)
