-- A label more is read, or it makes the name too long.
use Rattle.std.proofs.Common.{refl}
use Rattle.amt_dns_names.{proofs.Steps.{Leads-read, none_too_long}}
use Rattle.amt_dns_names.proofs.reading.read_labels.Goals as goal

pub returns-then-not-has_room-clause-none : goal.returns-then-not-has_room-clause-none
returns-then-not-has_room-clause-none c = λ name_at known leads.
    none_too_long c.args.bytes.now name_at c.loop-label.name known c.args.start c.loop-label.at c.in-Some.label.now
    (c.loop-label.invariant name_at known leads) c.in-Some.ensures.some (c.if-not-has_room.ensures.long refl)

pub loop-label-preserved : goal.loop-label-preserved
loop-label-preserved c = λ name_at known leads.
    Leads-read c.args.bytes.now name_at c.loop-label.name c.push.new.self known c.args.start c.loop-label.at c.in-Some.label.now
    (c.loop-label.invariant name_at known leads) c.in-Some.ensures.some c.in_ok-push.ensures.ok
