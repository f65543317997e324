-- Where no label and no pointer stands, a zero octet ends the name, or there is none.
use Rattle.amt_dns_names.{proofs.Steps.{Leads-pointer, if_ended, if_broken}}
use Rattle.amt_dns_names.proofs.reading.read_parts.Goals as goal

pub returns-in_default-pointer_at-clause-some : goal.returns-in_default-pointer_at-clause-some
returns-in_default-pointer_at-clause-some c =
    let leads = rw c.in-Some.is at c.in_ok-place.ensures.leads in
    if_ended c.args.bytes.now c.args.at c.read_labels.new.name c.loop-place.known c.loop-place.start c.in-Some.place c.end_at.result
    (leads c.args.at c.loop-place.known c.loop-place.invariant) c.labels.ensures.lawful.limit c.end_at.ensures.some c.end_at.ensures.end

pub returns-in_default-pointer_at-clause-none : goal.returns-in_default-pointer_at-clause-none
returns-in_default-pointer_at-clause-none c =
    let leads = rw c.in-Some.is at c.in_ok-place.ensures.leads in
    let all = rw c.in-Some.is at c.in_ok-place.ensures.all in
    if_broken c.args.bytes.now c.args.at c.read_labels.new.name c.loop-place.known c.loop-place.start c.in-Some.place c.end_at.result
    (leads c.args.at c.loop-place.known c.loop-place.invariant) all c.in_default-pointer_at.ensures.none c.end_at.ensures.none

pub loop-place-preserved : goal.loop-place-preserved
loop-place-preserved c =
    let leads = rw c.in-Some.is at c.in_ok-place.ensures.leads in
    rw c.unwrap_or.ensures
    (Leads-pointer c.args.bytes.now c.args.at c.read_labels.new.name c.loop-place.known c.loop-place.start c.in-Some.place c.in-Some-pointer_at.to
    (leads c.args.at c.loop-place.known c.loop-place.invariant) c.in-Some-pointer_at.ensures.some c.in-Some-pointer_at.ensures.back)
