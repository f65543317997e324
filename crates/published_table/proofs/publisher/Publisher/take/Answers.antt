use Rattle.std.proofs.{Common.{◌≡◌, List, [], ◌∷◌, ◌++◌, ◌<◌, ◌^◌, length, drop, map, refl, sym, ap, subst, ◌∙◌, arith}, lemmas.List.{append_assoc, length-append}}
use Rattle.endpoint_membership.specs.declared.change.Change.{Change}
use Rattle.published_table.{specs.{Copies.{log_of}, Entries.{changes}, Lists.{BeginsWithEach}, Logs.{entries}, Terms.{Fits, FitsThroughout}}, proofs.{Beginnings.{begins_by, each_further}, CopiesFit.{FitsThroughout-next}}}
use Rattle.published_table.proofs.publisher.Publisher.take.Goals as goal

pub invariant_of-self : goal.invariant_of-self
invariant_of-self c =
    let publisher = c.args.self.now in
    let change = c.args.change in
    let shown : List Change = log_of publisher.writer.desk.shown.value in
    let pending : List Change = changes (drop publisher.writer.behind publisher.writer.log.items) in
    let taken : List Change = publisher.taken.items in
    let whole : List Change = entries publisher.whole in
    let next : entries c.then.result ≡ whole ++ change ∷ [] = c.then.ensures in
    let owing : pending ++ c.push_back_reserved.new.self.items ≡ (pending ++ taken) ++ change ∷ [] =
    ap (λ (items : List Change). pending ++ items) c.push_back_reserved.ensures.items ∙ sym (append_assoc pending taken (change ∷ [])) in
    let fits : Fits publisher.terms (whole ++ change ∷ []) = subst (λ (log : List Change). Fits publisher.terms (log ++ change ∷ [])) (sym publisher.all) c.requires.fits in
    let one_more = length-append whole (change ∷ []) in
    let as_long : length whole ≡ length (shown ++ (pending ++ taken)) = ap length publisher.all in
    let few = c.requires.few in record {
      marked = publisher.marked;
      origin = publisher.origin;
      all = next ∙ ap (λ (log : List Change). log ++ change ∷ []) publisher.all ∙ append_assoc shown (pending ++ taken) (change ∷ []) ∙ ap (λ (log : List Change). shown ++ log) (sym owing);
      vouched = publisher.vouched;
      under = publisher.under;
      above = subst (λ (log : List Change). BeginsWithEach log (map entries publisher.history.bookmark.seen.log)) (sym next)
          (each_further (whole ++ change ∷ []) whole (map entries publisher.history.bookmark.seen.log) (begins_by (whole ++ change ∷ []) whole (change ∷ []) refl) publisher.above);
      counted = omega (arith, publisher.counted, ap length owing, length-append (pending ++ taken) (change ∷ []));
      short = subst (λ (log : List Change). length log < 2 ^ 63) (sym next) (omega (arith, one_more, as_long, few));
      fits = subst (FitsThroughout publisher.terms) (sym next) (FitsThroughout-next publisher.terms whole change publisher.fits fits);
    }
