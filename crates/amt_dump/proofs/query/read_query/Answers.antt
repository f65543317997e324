use Rattle.amt_dump.proofs.Readings.{query_in-fault, query_in-inner, query_in-query}
use Rattle.amt_dump.proofs.query.read_query.Goals as goal

pub returns-in-Err-clause-value : goal.returns-in-Err-clause-value
returns-in-Err-clause-value c = query_in-inner c.args.inner.now c.in-Err.fault c.in-Err.ensures.refused

pub returns-in-Ok-carried_query-clause-value : goal.returns-in-Ok-carried_query-clause-value
returns-in-Ok-carried_query-clause-value c =
    query_in-query c.args.inner.now _ c.in-Ok.place c.in-Ok-carried_query.query c.in-Ok.ensures.refused c.in-Ok.ensures.value c.in-Ok.ensures.start c.split_at.ensures.back c.in-Ok-carried_query.ensures.value

pub returns-in-Err-carried_query-clause-value : goal.returns-in-Err-carried_query-clause-value
returns-in-Err-carried_query-clause-value c =
    query_in-fault c.args.inner.now _ c.in-Ok.place c.in-Err-carried_query.fault c.in-Ok.ensures.refused c.in-Ok.ensures.value c.in-Ok.ensures.start c.split_at.ensures.back c.in-Err-carried_query.ensures.value
