-- What is known of a copy once it has the entries that are pending.
use Rattle.std.proofs.{Common.{◌≡◌, List, [], ◌∷◌, ◌++◌, fold, refl, sym, ap, subst, ◌∙◌}, lemmas.List.{append-nil, append_assoc, Sums.{fold-append}}}
use Rattle.endpoint_membership.specs.declared.change.Change.{Change}
use Rattle.published_table.{specs.{Entries.{IsVouched, changes, with_entry}, History.{IsUnder}, declared.entry.{CopyState.{CopyState}, Entry.{Entry}}}, proofs.Beginnings.{IsUnder-prefix, begins_by}}

pub log_after : (state : CopyState) (pending : List Entry) → (fold with_entry state pending).log ≡ state.log ++ changes pending
log_after state [] = sym (append-nil state.log)
log_after state (entry ∷ pending) =
    log_after (with_entry state entry) pending ∙ append_assoc state.log (entry.change ∷ []) (changes pending)

pub terms_after : (state : CopyState) (pending : List Entry) → (fold with_entry state pending).terms ≡ state.terms
terms_after state [] = refl
terms_after state (entry ∷ pending) = terms_after (with_entry state entry) pending

-- one more pending entry, with a bookmark that has seen the whole log
pub IsVouched-next : (state : CopyState) (pending : List Entry) (entry : Entry) (rest whole : List Change)
    → whole ≡ state.log ++ (changes pending ++ entry.change ∷ rest) → IsUnder entry.bookmark.seen.log whole
    → IsVouched entry.bookmark.seen.book (fold with_entry state (pending ++ entry ∷ []))
IsVouched-next state pending entry rest whole is under =
    let before : List Change = (fold with_entry state pending).log in
    let here : before ≡ state.log ++ changes pending = log_after state pending in
    let split : whole ≡ (before ++ entry.change ∷ []) ++ rest =
    is ∙ (sym (append_assoc state.log (changes pending) (entry.change ∷ rest))
    ∙ (ap (λ (log : List Change). log ++ entry.change ∷ rest) (sym here) ∙ sym (append_assoc before (entry.change ∷ []) rest))) in
    subst (IsVouched entry.bookmark.seen.book) (sym (fold-append with_entry state pending (entry ∷ [])))
    (refl, IsUnder-prefix entry.bookmark.seen.log whole (before ++ entry.change ∷ []) (begins_by whole (before ++ entry.change ∷ []) rest split) under)
