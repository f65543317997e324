use Rattle.amt_pair.proofs.{HeardQueries.{query_for-accepted}, QueryTimes.{interval_of-query_fields, lifetime_of-query_fields}, ReadQueries.{general_query_in-general_query}}
use Rattle.amt_pair.proofs.laws.relays_queries_are_accepted.Goals as goal

pub returns-clause-read : goal.returns-clause-read
returns-clause-read c = general_query_in-general_query

pub returns-clause-lifetime : goal.returns-clause-lifetime
returns-clause-lifetime c = lifetime_of-query_fields

pub returns-clause-interval : goal.returns-clause-interval
returns-clause-interval c = interval_of-query_fields

pub returns-clause-accepted : goal.returns-clause-accepted
returns-clause-accepted c = query_for-accepted
