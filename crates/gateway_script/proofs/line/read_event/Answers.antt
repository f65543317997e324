use Rattle.script_lines.specs.Lines.{fields}
use Rattle.gateway_script.specs.declared.kind.LineKind.TheVariants as kinds
use Rattle.gateway_script.proofs.Events.{error_of, found_of, may_of, reason_of}
use Rattle.gateway_script.proofs.line.read_event.Goals as goal

pub returns-in-Moment-clause-found : goal.returns-in-Moment-clause-found
returns-in-Moment-clause-found c =
    found_of c.args.family c.args.kind kinds.Moment (fields c.args.values.now) c.read_moment_event.result c.event_of.result c.in-Moment.is c.event_of.ensures
    (c.read_moment_event.ensures.found c.args.family)

pub returns-in-Moment-clause-may : goal.returns-in-Moment-clause-may
returns-in-Moment-clause-may c = may_of c.args.family c.read_moment_event.result c.event_of.result c.event_of.ensures (c.read_moment_event.ensures.may c.args.family)

pub returns-in-Moment-clause-reason : goal.returns-in-Moment-clause-reason
returns-in-Moment-clause-reason c =
    reason_of c.args.family c.args.kind kinds.Moment (fields c.args.values.now) c.read_moment_event.result c.event_of.result c.in-Moment.is c.event_of.ensures
    (c.read_moment_event.ensures.reason c.args.family)

pub returns-in-Nonce-clause-found : goal.returns-in-Nonce-clause-found
returns-in-Nonce-clause-found c =
    found_of c.args.family c.args.kind kinds.Nonce (fields c.args.values.now) c.read_nonce_event.result c.event_of-in-Nonce.result c.in-Nonce.is c.event_of-in-Nonce.ensures
    (c.read_nonce_event.ensures.found c.args.family)

pub returns-in-Nonce-clause-may : goal.returns-in-Nonce-clause-may
returns-in-Nonce-clause-may c = may_of c.args.family c.read_nonce_event.result c.event_of-in-Nonce.result c.event_of-in-Nonce.ensures (c.read_nonce_event.ensures.may c.args.family)

pub returns-in-Nonce-clause-reason : goal.returns-in-Nonce-clause-reason
returns-in-Nonce-clause-reason c =
    reason_of c.args.family c.args.kind kinds.Nonce (fields c.args.values.now) c.read_nonce_event.result c.event_of-in-Nonce.result c.in-Nonce.is c.event_of-in-Nonce.ensures
    (c.read_nonce_event.ensures.reason c.args.family)

pub returns-in-Leave-clause-found : goal.returns-in-Leave-clause-found
returns-in-Leave-clause-found c =
    found_of c.args.family c.args.kind kinds.Leave (fields c.args.values.now) c.read_leave.result c.event_of-in-Leave.result c.in-Leave.is c.event_of-in-Leave.ensures
    (c.read_leave.ensures.found c.args.family)

pub returns-in-Leave-clause-may : goal.returns-in-Leave-clause-may
returns-in-Leave-clause-may c = may_of c.args.family c.read_leave.result c.event_of-in-Leave.result c.event_of-in-Leave.ensures (c.read_leave.ensures.may c.args.family)

pub returns-in-Leave-clause-reason : goal.returns-in-Leave-clause-reason
returns-in-Leave-clause-reason c =
    reason_of c.args.family c.args.kind kinds.Leave (fields c.args.values.now) c.read_leave.result c.event_of-in-Leave.result c.in-Leave.is c.event_of-in-Leave.ensures
    (c.read_leave.ensures.reason c.args.family)

pub returns-in-Datagram-clause-may : goal.returns-in-Datagram-clause-may
returns-in-Datagram-clause-may c = c.read_datagram.ensures.may c.args.family

pub returns-in-Datagram-clause-reason : goal.returns-in-Datagram-clause-reason
returns-in-Datagram-clause-reason c =
    error_of c.args.family c.args.kind kinds.Datagram (fields c.args.values.now) c.read_datagram.result c.in-Datagram.is (c.read_datagram.ensures.reason c.args.family)

pub returns-in-Close-clause-may : goal.returns-in-Close-clause-may
returns-in-Close-clause-may c = c.read_close.ensures.may c.args.family

pub returns-in-Close-clause-reason : goal.returns-in-Close-clause-reason
returns-in-Close-clause-reason c =
    error_of c.args.family c.args.kind kinds.Close (fields c.args.values.now) c.read_close.result c.in-Close.is (c.read_close.ensures.reason c.args.family)
