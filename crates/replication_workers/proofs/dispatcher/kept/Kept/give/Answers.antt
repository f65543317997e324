use Rattle.std.proofs.Common.{◌≡◌, ◌<◌, ◌^◌, ◌∙◌, ap, length, refl, subst, sym, true≢false}
use Rattle.published_table.specs.Views.{note_publisher, publisher_of}
use Rattle.replication_workers.specs.{KeptSlots.{IsGiven, state_of}, Replicators.{view_of}, Slots.{replicator_of}, declared.dispatcher.kept.Kept.TheVariants.{Threaded, Inline}}
use Rattle.replication_workers.proofs.dispatcher.kept.Kept.give.Goals as goal

pub put-requires : goal.put-requires
put-requires g c = record {
  few = subst (λ kept. length (state_of kept).jobs < 2 ^ 46) c.in-Threaded.is c.requires.few;
  publisher = subst (λ kept. note_publisher c.args.job.note ≡ publisher_of (view_of (state_of kept).first)) c.in-Threaded.is c.requires.publisher;
}

pub copy-requires : goal.copy-requires
copy-requires g c = record {
  few = subst (λ kept. length (state_of kept).jobs < 2 ^ 46) c.in-Inline.is c.requires.few;
  publisher = subst (λ kept. note_publisher c.args.job.note ≡ publisher_of (view_of (state_of kept).first)) c.in-Inline.is c.requires.publisher;
}

pub returns-in-Threaded : goal.returns-in-Threaded
returns-in-Threaded g c =
    let put = c.put.ensures in
    subst (λ kept. IsGiven c.args.job kept (Threaded c.put.new.self)) (sym c.in-Threaded.is)
    (record { state = λ i. record { first = replicator_of (put.worker i); jobs = put.put i }; kind = refl; run = λ task_of run. ap task_of put.started ∙ run ∙ sym put.worker; copied = λ inline. absurd (true≢false inline) })

pub returns-in-Inline : goal.returns-in-Inline
returns-in-Inline g c =
    let copied = c.copy.ensures in
    subst (λ kept. IsGiven c.args.job kept (Inline c.copy.new.self)) (sym c.in-Inline.is)
    (record { state = λ i. record { first = copied.first i; jobs = copied.jobs i }; kind = refl; run = λ task_of run. run; copied = λ inline. copied.copied })
