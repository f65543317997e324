-- What the handling of jobs sends.
use Rattle.std.specs.Prelude.{◌≡◌, ℕ, List, [], ◌∷◌, ◌++◌, map}
use Rattle.amt_values.specs.declared.peer.Peer.{Peer}
use Rattle.endpoint_membership.specs.{Table.{TableSettings}, declared.change.Change.{Change}}
use Rattle.published_table.specs.{Lists.{BeginsWith}, Views.{named}}
use Rattle.replication_workers.specs.{Replication.{copies_by, to_peer}, declared.job.Job.{Job}}

-- the datagrams of a job, if this is the log by which its receivers are found
abbrev pub copies_of : TableSettings → ℕ → List Change → Job → List (Peer × List ℕ)
copies_of settings limit log job = map to_peer (copies_by settings limit log job.at job.packet)

-- Each job was handled once and in order, by a log of its own, which begins with the one before it and
-- with the log that its note names. The first follows on what was seen, and the last one is the last that
-- was seen. All their datagrams, in order, are the wanted ones.
abbrev pub Handled : TableSettings → ℕ → List Change → List Job → List (Peer × List ℕ) → List Change → Type 0
Handled settings limit seen [] wanted last = (last ≡ seen) × (wanted ≡ [])
Handled settings limit seen (job ∷ jobs) wanted last =
    (log : List Change) × (rest : List (Peer × List ℕ))
    × BeginsWith log seen × BeginsWith log (named job.note)
    × (wanted ≡ copies_of settings limit log job ++ rest)
    × Handled settings limit log jobs rest last
