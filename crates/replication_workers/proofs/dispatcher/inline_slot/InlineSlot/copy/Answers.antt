use Rattle.std.proofs.{Common.{[], ◌∷◌, List, ap, length, ◌∙◌, sym, subst, arith, length-append}, Math.Logic.{∥∥₁_map}}
use Rattle.replication_workers.specs.{JobsSoFar.{jobs_listed}, Replicators.{out_of, view_of}, Workers.{HasHandled}, declared.job.Job.{Job}}
use Rattle.replication_workers.proofs.dispatcher.inline_slot.InlineSlot.copy.Goals as goal

pub handle-requires : goal.handle-requires
handle-requires g c =
    let slot = c.args.self.now in
    record { publisher = c.requires.publisher ∙ sym slot.publisher; jobs = omega (arith, slot.counted, c.requires.few) }

pub invariant_of-self : goal.invariant_of-self
invariant_of-self g c =
    let slot = c.args.self.now in
    let done = c.handle.ensures in
    let now = c.handle.new.replicator in
    let counts = c.handle.new.counts in
    let listed = c.then-handled.ensures in record {
      counted = omega (arith, slot.counted, done.counted, ap length listed, length-append (jobs_listed slot.handled) (c.args.job ∷ []));
      has_handled = ∥∥₁_map slot.has_handled (λ so_far. subst (λ (jobs : List Job). HasHandled slot.first.value jobs (out_of now) (view_of now) counts.sent counts.unsent) (sym listed) (done.handled slot.first.value (jobs_listed slot.handled) slot.limit so_far));
      idle = λ none. absurd (omega (arith, none, done.counted));
      terms = done.copied.terms ∙ slot.terms;
      publisher = done.copied.publisher ∙ slot.publisher;
      limit = done.copied.limit ∙ slot.limit;
    }

pub returns-clause-jobs : goal.returns-clause-jobs
returns-clause-jobs g c = c.then-handled.ensures

pub returns-clause-copied : goal.returns-clause-copied
returns-clause-copied g c = c.handle.ensures.copied
