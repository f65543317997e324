-- What is read of a copy of the published table.
use Rattle.std.specs.Prelude.{List}
use Rattle.logbook.specs.Pages.{Book}
use Rattle.endpoint_membership.specs.declared.change.Change.{Change}
use Rattle.published_table.specs.{Logs.{entries}, declared.{entry.CopyState.{CopyState}, table_copy.TableCopy.{TableCopy}, terms.Terms.{Terms}}}

-- the log that it represents
abbrev pub log_of : TableCopy → List Change
log_of copy = entries copy.past

-- what stays whatever is published: the book of the history, and by what the log is read
abbrev pub origin_of : TableCopy → Book × Terms
origin_of copy = (copy.bookmark.seen.book, copy.terms)

-- what both copies have in common
abbrev pub state_of : TableCopy → CopyState
state_of copy = record { log = log_of copy; bookmark = copy.bookmark; terms = copy.terms }
