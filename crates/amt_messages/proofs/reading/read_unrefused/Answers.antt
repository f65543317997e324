use Rattle.std.proofs.Common.{◌≡◌, slice_index, arith, refl}
use Rattle.amt_messages.proofs.Unrefused.{unrefused_first, unrefused_small, unrefused_defined, unrefused_length, unrefused_advertisement, unrefused_query-head, unrefused_query-whole}
use Rattle.amt_messages.proofs.reading.read_unrefused.Goals as goal

pub bounds-bytes-0 : goal.bounds-bytes-0
bounds-bytes-0 c = unrefused_first c.args.bytes.now c.requires

pub read_discovery-requires : goal.read_discovery-requires
read_discovery-requires c = unrefused_length 1 c.args.bytes.now c.requires c.in-1.is

pub returns-in-1 : goal.returns-in-1
returns-in-1 c = rw (c.in-1.is, c.read_discovery.ensures) refl

pub read_advertisement-requires : goal.read_advertisement-requires
read_advertisement-requires c = unrefused_advertisement c.args.bytes.now c.requires c.in-2.is

pub read_request-requires : goal.read_request-requires
read_request-requires c = unrefused_length 3 c.args.bytes.now c.requires c.in-3.is

pub read_query-requires-clause-head : goal.read_query-requires-clause-head
read_query-requires-clause-head c = unrefused_query-head c.args.bytes.now c.requires c.in-4.is

pub read_query-requires-clause-whole : goal.read_query-requires-clause-whole
read_query-requires-clause-whole c = unrefused_query-whole c.args.bytes.now c.requires c.in-4.is

pub read_update-requires : goal.read_update-requires
read_update-requires c = unrefused_length 5 c.args.bytes.now c.requires c.in-5.is

pub read_multicast-requires : goal.read_multicast-requires
read_multicast-requires c = unrefused_length 6 c.args.bytes.now c.requires c.in-6.is

pub read_teardown-requires : goal.read_teardown-requires
read_teardown-requires c =
    let seven : slice_index c.args.bytes.now 0 ≡ 7 =
    omega (arith, unrefused_small c.args.bytes.now c.requires, unrefused_defined c.args.bytes.now c.requires, c.in_default) in
    unrefused_length 7 c.args.bytes.now c.requires seven
