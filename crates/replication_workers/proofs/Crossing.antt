-- A replicator and a worker may go to another thread where their link may.
use denote.{RattleType.{RattleType}, Param.Send.{IsSend, IsSync, recorded_send, struct_send, sendable}, Struct.Declared.{shape}}
use Rattle.std.proofs.Crossing.{crosses}
use Rattle.std.proofs.MapsCrossing as maps
use Rattle.amt_ports.specs.declared.out_link.OutLink.{Ghosts}
use Rattle.core.proofs.option.Option.TheSendSync as option
use Rattle.amt_values.proofs.items.Items.TheSendSync as items
use Rattle.amt_values.proofs.moment.Moment.TheSendSync as moment
use Rattle.amt_values.proofs.endpoint.Endpoint.TheSendSync as endpoint
use Rattle.atomic_table.proofs.owned.Table.TheSendSync as cells
use Rattle.atomic_table.proofs.send_lease.SendLease.TheSendSync as lease
use Rattle.atomic_table.proofs.shared.Seat.TheSendSync as seat
use Rattle.atomic_table.proofs.shared.Shared.TheSendSync as shared
use Rattle.source_filter.proofs.filter.Filter.TheSendSync as filter
use Rattle.endpoint_membership.proofs.filters.StoredFilters.TheSendSync as filters
use Rattle.endpoint_membership.proofs.keys.EndpointGroup.TheSendSync as endpoint_group
use Rattle.endpoint_membership.proofs.parts.StoredMemberships.TheSendSync as memberships
use Rattle.endpoint_membership.proofs.table.Table.TheSendSync as table
use Rattle.endpoint_membership.proofs.targets.Targets.TheSendSync as targets
use Rattle.left_right.proofs.part.Part.TheSendSync as part
use Rattle.left_right.proofs.reader.Factory.TheSendSync as factory
use Rattle.left_right.proofs.reader.Reader.TheSendSync as reader
use Rattle.logbook.proofs.tokens.Seen.TheSendSync as seen
use Rattle.published_table.proofs.door.Door.TheSendSync as door
use Rattle.endpoint_membership.specs.contracts.table.Table as Table
use Rattle.published_table.specs.contracts.table_copy.TableCopy as TableCopy
use Rattle.published_table.specs.contracts.view.View as View
use Rattle.replication_workers.specs.contracts.replicator.Replicator as Replicator
use Rattle.core.proofs.rt.Memory.TheSendSync as memory
use Rattle.core.proofs.atomic.AtomicUsize.TheSendSync as usizes
use Rattle.core.proofs.atomic.AtomicU64.TheSendSync as u64s
use Rattle.atomic_table.proofs.badge.Badge.TheSendSync as badge
use Rattle.crossbeam_channel.proofs.bells.Bell.TheSendSync as bell
use Rattle.crossbeam_channel.proofs.flavors.array.Rows.TheSendSync as rows
use Rattle.crossbeam_channel.proofs.flavors.array.ruled.Both.TheSendSync as both_ends
use Rattle.crossbeam_channel.proofs.flavors.array.ruled.Receiving.TheSendSync as receiving
use Rattle.published_table.proofs.history.Bookmark.TheSendSync as bookmark
use Rattle.replication_workers.specs.contracts.job.Job as Job
use Rattle.replication_workers.specs.contracts.queue.Item as Item
use Rattle.replication_workers.specs.contracts.worker.Worker as Worker

-- what a table holds, which readers share
ruleset tables = (sendable, crosses, maps.crosses, filter.the_sync, filters.the_sync, endpoint_group.the_sync, memberships.the_sync, items.the_sync, moment.the_sync, endpoint.the_sync, option.the_sync, table.the_sync)

Table-sync : IsSync (Table.the_field).row
Table-sync = search tables depth 20

TableCopy-sync : IsSync TableCopy.the_row
TableCopy-sync = search (sendable, crosses, Table-sync, seen.the_sync) depth 20

-- what a view holds
ruleset views = (
  sendable,
  crosses,
  TableCopy-sync,
  option.the_send,
  items.the_send,
  endpoint.the_send,
  targets.the_send,
  cells.the_field_send,
  cells.the_field_sync,
  cells.the_send,
  cells.the_sync,
  lease.the_send,
  lease.the_sync,
  seat.the_send,
  shared.the_send,
  shared.the_sync,
  part.the_send,
  part.the_sync,
  factory.the_field_send,
  factory.the_field_sync,
  reader.the_field_send,
  door.the_field_send,
  seen.the_send,
)

View-send : IsSend (View.the_field).row
View-send = search views depth 20

-- what a job holds
ruleset jobs = (sendable, crosses, items.the_send, moment.the_send, bookmark.the_field_send, seen.the_send)

Job-send : IsSend (Job.the_field).row
Job-send = search jobs depth 20

Item-send : IsSend Item.the_row
Item-send = search (sendable, crosses, Job-send) depth 20

-- what the taking end of a queue holds: it is shared, so what it holds is to be lent across threads too
ruleset queues = (
  sendable,
  crosses,
  Item-send,
  option.the_send,
  memory.the_field_send,
  memory.the_field_sync,
  usizes.the_field_send,
  usizes.the_field_sync,
  u64s.the_send,
  u64s.the_sync,
  badge.the_send,
  cells.the_field_send,
  cells.the_field_sync,
  lease.the_send,
  lease.the_sync,
  shared.the_send,
  shared.the_sync,
  bell.the_field_send,
  bell.the_field_sync,
  rows.the_send,
  rows.the_sync,
  both_ends.the_send,
  both_ends.the_sync,
  receiving.the_field_send,
  receiving.the_send,
)

module _ (O : RattleType) (g : Ghosts O.Denot) where
  pub Replicator-send : IsSend O → IsSend (Replicator.the_field O g).row
  Replicator-send s = let T = Replicator.the_type O g in
      struct_send (shape T) (View-send, (search (sendable, s), (search (sendable, crosses, targets.the_send) depth 20, (search (sendable, crosses), (search sendable, tt)))))

  pub Worker-send : IsSend (Replicator.the_field O g).row → IsSend (Worker.the_row O g)
  Worker-send s = let W = Worker.the_type O g in
      recorded_send _ _ _ W.to_one (struct_send (shape W) (s, (search queues depth 20, (search (sendable, crosses, seat.the_send, badge.the_send) depth 20, tt))))
