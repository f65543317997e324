use Rattle.std.proofs.{Common.{◌≡◌, List, [], ◌∷◌, ◌++◌, drop, fold, sym, ap, subst, ◌∙◌}, lemmas.List.{append_assoc, map-append}}
use Rattle.endpoint_membership.specs.declared.change.Change.{Change}
use Rattle.published_table.{specs.{Copies.{log_of, state_of}, Entries.{IsVouched, changes, with_entry}, History.{IsUnder}, Logs.{entries}, declared.{entry.Entry.{Entry}, history.Bookmark.{Bookmark}, table_copy.TableCopy.{TableCopy}}}, proofs.Vouching.{IsVouched-next}}
use Rattle.published_table.proofs.publisher.publishing.hand_over.Goals as goal

pub loop-change-preserved : goal.loop-change-preserved
loop-change-preserved c =
    let writer = c.loop-change.writer in
    let kept = c.loop-change.invariant in
    let before : List Entry = drop writer.behind writer.log.items in
    let after : List Entry = drop c.append.new.self.behind c.append.new.self.log.items in
    let entry : Entry = record { change = c.in-Some.change; bookmark = c.again.result } in
    let rest : List Change = c.pop_front.new.self.items in
    let pending : after ≡ before ++ entry ∷ [] = c.in_default-append.ensures.pending in
    let taken : c.loop-change.taken.items ≡ entry.change ∷ rest = c.in-Some.ensures.items in
    let desk = c.append.ensures.desk in
    let split : changes after ++ rest ≡ changes before ++ entry.change ∷ rest =
    ap (λ (one : List Entry). changes one ++ rest) pending
    ∙ ap (λ (one : List Change). one ++ rest) (map-append (λ (one : Entry). one.change) before (entry ∷ []))
    ∙ append_assoc (changes before) (entry.change ∷ []) rest in
    let all : entries c.args.whole.now ≡ log_of writer.desk.shown.value ++ (changes before ++ entry.change ∷ rest) =
    c.requires.all
    ∙ ap (λ (one : List Change). log_of c.args.writer.now.desk.shown.value ++ one) (sym kept.1 ∙ ap (λ (one : List Change). changes before ++ one) taken)
    ∙ (λ i. log_of (sym kept.0 i).shown.value ++ (changes before ++ entry.change ∷ rest)) in
    let under = subst (λ (one : Bookmark). IsUnder one.seen.log (entries c.args.whole.now)) (sym c.again.ensures) c.requires.under in
    let vouched = IsVouched-next (state_of writer.desk.shown.value) before entry rest (entries c.args.whole.now) all under in
    let here = subst (λ (one : Bookmark). IsVouched one.seen.book (fold with_entry (state_of writer.desk.shown.value) (before ++ entry ∷ []))) c.again.ensures vouched in
    let there = subst (λ (list : List Entry). IsVouched c.args.bookmark.now.seen.book (fold with_entry (state_of writer.desk.shown.value) list)) (sym pending) here in (
      desk ∙ kept.0,
      split ∙ ap (λ (one : List Change). changes before ++ one) (sym taken) ∙ kept.1,
      subst (λ (copy : TableCopy). IsVouched c.args.bookmark.now.seen.book (fold with_entry (state_of copy) after)) (λ i. (sym desk i).shown.value) there,
    )
