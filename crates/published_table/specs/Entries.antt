-- Entries on their way into the copies.
use Rattle.std.specs.Prelude.{◌≡◌, List, [], ◌∷◌, ◌++◌, map}
use Rattle.logbook.specs.Pages.{Book}
use Rattle.endpoint_membership.specs.declared.change.Change.{Change}
use Rattle.published_table.specs.{History.{IsUnder}, declared.entry.{CopyState.{CopyState}, Entry.{Entry}}}

-- a copy with one more entry
abbrev pub with_entry : CopyState → Entry → CopyState
with_entry state entry = record { log = state.log ++ entry.change ∷ []; bookmark = entry.bookmark; terms = state.terms }

-- the changes of entries
abbrev pub changes : List Entry → List Change
changes entries = map (λ entry. entry.change) entries

-- the copy's log is of the history in this book
abbrev pub IsVouched : Book → CopyState → Type 0
IsVouched book state = (state.bookmark.seen.book ≡ book) × IsUnder state.bookmark.seen.log state.log
