-- What is read of a replicator, and what it does.
use Rattle.std.specs.Prelude.{◌≡◌, ℕ, List, map}
use Rattle.amt_values.specs.declared.peer.Peer.{Peer}
use Rattle.endpoint_membership.specs.declared.change.Change.{Change}
use Rattle.published_table.specs.{Lists.{BeginsWith}, Terms.{settings_by}, Views.{named, publisher_of, seen, terms_of}, declared.view.View.{View}}
use Rattle.replication_workers.specs.{Replication.{copies_by, to_peer}, declared.{job.Job.{Job}, replicator.Replicator.{Replicator}}}
use Rattle.amt_ports.specs.{Tried.{HasTried}, declared.out_link.OutLink.{Ghosts}}

module _ {O : Type 0} {g : Ghosts O} where
  -- by which the receivers of a packet are found
  abbrev pub view_of : Replicator O g → View
  view_of replicator = replicator.view

  -- where its datagrams are sent to
  abbrev pub out_of : Replicator O g → O
  out_of replicator = replicator.out

  -- how many octets a packet has at most that is copied
  abbrev pub limit_of : Replicator O g → ℕ
  limit_of replicator = replicator.packet_limit

  -- the datagrams that it has to send for the packet, if this is the log
  abbrev pub copies_due : Replicator O g → List Change → ℕ → List ℕ → List (Peer × List ℕ)
  copies_due replicator log moment packet =
      map to_peer (copies_by (settings_by (terms_of (view_of replicator))) (limit_of replicator) log moment packet)

  -- exactly these datagrams were tried at its link; so many were sent, and so many not
  abbrev pub Tries : Replicator O g → Replicator O g → List (Peer × List ℕ) → ℕ → ℕ → Type 0
  Tries before after wanted sent unsent =
      HasTried (g.tried (out_of before)) (g.tried (out_of after)) (g.faults (out_of before)) (g.faults (out_of after)) wanted sent unsent

  -- It has handled the job: exactly its datagrams were tried, by the log that the view has seen then. That
  -- log begins with the one that was seen before, and with the one that the job's note names.
  pub record HasCopied (before : Replicator O g) (job : Job) (after : Replicator O g) : Type 0 where
    pub sent : ℕ
    pub unsent : ℕ
    pub tries : Tries before after (copies_due before (seen (view_of after)) job.at job.packet) sent unsent
    pub further : BeginsWith (seen (view_of after)) (seen (view_of before))
    pub noted : BeginsWith (seen (view_of after)) (named job.note)
    pub limit : limit_of after ≡ limit_of before
    pub terms : terms_of (view_of after) ≡ terms_of (view_of before)
    pub publisher : publisher_of (view_of after) ≡ publisher_of (view_of before)
