use Rattle.std.{proofs.{Common.{[], ◌∷◌, length, sym, ap, subst, ◌∙◌, arith}, lemmas.List.{length-append, Elements.{All-push}}}, specs.List.{All}}
use Rattle.logbook.specs.Pages.{Book}
use Rattle.published_table.specs.{Publishers.{book_of, reading_terms}, Views.{IsNew, views_of}, declared.terms.Terms.{Terms}}
use Rattle.published_table.proofs.publisher.Publisher.views.Goals as goal

pub loop-preserved : goal.loop-preserved
loop-preserved c =
    let before = c.loop.invariant in
    let step = c.in_ok-view.ensures in
    let view = c.in_ok-view.view in
    let views = views_of c.loop.views in
    let pushed = c.in-Ok.ensures.ok in
    let new = subst (λ (terms : Terms). IsNew (book_of c.args.self.now) terms view) before.0.terms (subst (λ (book : Book). IsNew book (reading_terms c.loop.self) view) before.0.book step.new) in (
      record { book = step.same.book ∙ before.0.book; terms = step.same.terms ∙ before.0.terms },
      record { same_published = step.logs.same_published ∙ before.1.same_published; same_owing = step.logs.same_owing ∙ before.1.same_owing },
      omega (arith, ap length pushed, length-append views (view ∷ []), before.2),
      subst (All (IsNew (book_of c.args.self.now) (reading_terms c.args.self.now))) (sym pushed) (All-push (IsNew (book_of c.args.self.now) (reading_terms c.args.self.now)) views view before.3 new),
    )
