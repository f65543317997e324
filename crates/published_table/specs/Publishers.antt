-- What is read of a publisher.
use Rattle.std.specs.Prelude.{◌≡◌, ℕ, ◌-◌, List, [], ◌++◌, drop}
use Rattle.logbook.specs.Pages.{Book}
use Rattle.endpoint_membership.specs.declared.change.Change.{Change}
use Rattle.published_table.specs.{Copies.{log_of}, Entries.{changes}, declared.{publisher.Publisher.{Publisher}, terms.Terms.{Terms}}}

-- the log that views read
abbrev pub published : Publisher → List Change
published publisher = log_of publisher.writer.desk.shown.value

-- what was taken and isn't published, in order
abbrev pub owing : Publisher → List Change
owing publisher = changes (drop publisher.writer.behind publisher.writer.log.items) ++ publisher.taken.items

-- how many entries it can take without memory
abbrev pub spare : Publisher → ℕ
spare publisher = publisher.taken.cap - publisher.taken.len

-- who it is, as the book of its history
abbrev pub book_of : Publisher → Book
book_of publisher = publisher.history.bookmark.seen.book

-- by which limits and lifetime its log is read
abbrev pub reading_terms : Publisher → Terms
reading_terms publisher = publisher.terms

-- who it is and by what its log is read stay
pub record IsSamePublisher (before after : Publisher) : Type 0 where
  pub book : book_of after ≡ book_of before
  pub terms : reading_terms after ≡ reading_terms before

-- the same log is published, and the same is owed
pub record ShowsAlike (before after : Publisher) : Type 0 where
  pub same_published : published after ≡ published before
  pub same_owing : owing after ≡ owing before

-- all that was owed is published
pub record HasPublished (before after : Publisher) : Type 0 where
  pub all : published after ≡ published before ++ owing before
  pub none : owing after ≡ []
