use Rattle.std.proofs.Common.{ap, sym, subst, ◌∙◌, length, map}
use Rattle.logbook.specs.Pages.{Named}
use Rattle.published_table.{specs.{Lists.{BeginsWithEach}, Logs.{entries}}, proofs.HistoryGrows.{adds_moves}}
use Rattle.published_table.proofs.history.History.record.Goals as goal

pub compare_exchange-found-requires : goal.compare_exchange-found-requires
compare_exchange-found-requires c =
    let history = c.args.self.now in
    let seen = c.again-seen.ensures in
    let offer = c.plain-offer.ensures in
    let pen = c.no_pen-pen.ensures in
    let book = (λ i. (seen i).book) ∙ sym (ap (λ (word : Named). word.book) history.head_is) in (
      ap (λ (word : Named). word.tracked) history.head_is,
      book,
      pen.0 ∙ book,
      offer.0,
      rw (ap (λ (word : Named). word.key) history.head_is, pen.1, offer.1, offer.3)
          (adds_moves c.again-seen.result.log c.args.log.now history.count ((λ i. length (seen i).log) ∙ sym history.counted) (subst (BeginsWithEach (entries c.args.log.now)) (λ i. map entries (sym seen i).log) c.requires)),
    )
