-- Which jobs a list has of which no job is kept.
use Rattle.std.specs.Prelude.{List, [], ◌∷◌, ◌++◌}
use Rattle.replication_workers.specs.declared.{job.Job.{Job}, dispatcher.jobs_so_far.JobsSoFar.{JobsSoFar, Nothing, Then'}}

-- the jobs, oldest first
abbrev pub jobs_listed : JobsSoFar → List Job
jobs_listed Nothing = []
jobs_listed (Then' _ before job) = jobs_listed before ++ job.value ∷ []
