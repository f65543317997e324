use Rattle.std.proofs.Common.{ℕ, List, map, subst, ◌∙◌}
use Rattle.amt_ports.specs.Tried.{HasTried}
use Rattle.endpoint_membership.specs.declared.change.Change.{Change}
use Rattle.published_table.specs.{Lists.{BeginsWith, BeginsWithEach}, Terms.{settings_by}, Views.{seen}, declared.terms.Terms.{Terms}}
use Rattle.replication_workers.specs.Replication.{copies_by, to_peer}
use Rattle.replication_workers.proofs.replicator.Replicator.replicate.Goals as goal

pub returns : goal.returns
returns g c =
    let after = c.copy.new.self in
    let copied = c.copy.ensures in
    let learnt = c.learn.ensures in record {
      view = (copied.view.by ∙ learnt.terms, copied.view.of ∙ learnt.publisher, copied.view.same_told ∙ learnt.told);
      further = subst (λ (log : List Change). BeginsWith (seen after.view) log) learnt.seen copied.further;
      told = subst (λ (logs : List (List Change)). BeginsWithEach (seen after.view) logs) learnt.told copied.told;
      prefix = copied.prefix;
      sends = subst (λ (of : g.row.O.Denot × Terms × ℕ × List ℕ). HasTried (g.O.OutLink.tried of.0) (g.O.OutLink.tried after.out) (g.O.OutLink.faults of.0) (g.O.OutLink.faults after.out)
          (map to_peer (copies_by (settings_by of.1) of.2 (seen after.view) c.args.job.at of.3)) c.copy.result.sent c.copy.result.unsent)
          (λ i. (learnt.out i, learnt.terms i, learnt.limit i, c.as_slice.ensures i)) copied.sends;
      few = copied.few;
      limit = copied.limit ∙ learnt.limit;
    }
