use Rattle.std.proofs.Common.{[], ◌∷◌, ap, sym, subst, ◌∙◌, arith}
use Rattle.logbook.specs.Pages.{Book}
use Rattle.published_table.{specs.{History.{AreUnder}, Logs.{entries}, Told.{logs_told}}, proofs.Beginnings.{AreUnder-also, AreUnder-later, IsUnder-later}}
use Rattle.published_table.proofs.view.Reader.learn.Goals as goal

pub invariant_of-self : goal.invariant_of-self
invariant_of-self c =
    let reader = c.args.self.now in
    let note = c.args.note in
    let logs = c.learn.new.self.seen.log in
    let most = c.max-self.result in
    let larger = c.max-self.ensures in
    let counted = note.counted in record {
      same = reader.same ∙ ap (λ (book : Book). (book, reader.terms) ∷ []) (sym c.learn.ensures.book);
      behind = reader.behind;
      reached = subst (AreUnder logs most) (sym c.also.ensures)
          (AreUnder-also logs most (entries note.log.value) (logs_told reader.told)
          (IsUnder-later note.bookmark.seen.log logs (entries note.log.value) c.learn.ensures.reached.1 note.reached) (omega (arith, larger, counted))
          (AreUnder-later reader.bookmark.seen.log logs reader.least most (logs_told reader.told) c.learn.ensures.reached.0 (omega (arith, larger)) reader.reached));
    }
