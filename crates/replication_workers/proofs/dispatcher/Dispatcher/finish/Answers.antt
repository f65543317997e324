use Rattle.std.proofs.Common.{◌≡◌, ◌∙◌, [], false, if◌then◌else◌, ap, map, subst, sym}
use Rattle.published_table.specs.Views.{views_of}
use Rattle.replication_workers.specs.{KeptSlots.{AreThreaded, now_of, state_of}, Replicators.{out_of, view_of}, SlotStates.{HaveLeft}}
use Rattle.replication_workers.proofs.dispatcher.Dispatcher.finish.Goals as goal

pub finish_all-outs-requires : goal.finish_all-outs-requires
finish_all-outs-requires g c =
    let self = c.args.self in
    record { fresh = self.fresh; room = self.room; few = self.few_jobs; run = c.requires.run }

pub returns : goal.returns
returns g c =
    let self = c.args.self in
    let ended = c.finish_all-outs.ensures.ended in
    let gathered = c.finish_all-outs.result in
    let kinds = λ (inline : self.threads ≡ false). subst (λ threads. AreThreaded threads self.slots.items) inline self.kinds in
    let held = λ (inline : self.threads ≡ false). ap (λ threads. if threads then [] else map now_of self.slots.items) (sym inline) in record {
      left = subst (λ outs. HaveLeft (map state_of self.slots.items) outs (views_of gathered.views) gathered.sent gathered.unsent) (sym c.from.ensures) ended.left;
      inline = λ inline. c.inline_jobs.ensures.inline inline ∙ ended.jobs;
      none_inline = c.inline_jobs.ensures.none;
      outs = λ inline. c.from.ensures ∙ ended.outs (kinds inline) ∙ ap (map out_of) (held inline);
      views = λ inline. ended.views (kinds inline) ∙ ap (map view_of) (held inline);
      starts = c.finish_all-outs.ensures.starts;
      faults = c.finish_all-outs.ensures.faults;
    }
