-- What taking an entry needs of its changes and of the numbers. No public contract says these words.
use Rattle.std.specs.Prelude.{List, [], ◌∷◌, ◌++◌}
use Rattle.endpoint_membership.specs.{MembershipChanges.{AreChanges}, Table.{ForLog, TableValue, memberships_now}, declared.{change.Change.{Change}, membership_change.MembershipChange.{MembershipChange}}}
use Rattle.amt_upstream.specs.Counting.{AreNumbers, Numbers}

-- by every log that the table stands for, these are the changes that the entry makes
abbrev pub AreChangesBy : TableValue → Change → List MembershipChange → Type 0
AreChangesBy table entry changes = ForLog table (λ settings log. AreChanges (memberships_now settings log) (memberships_now settings (log ++ entry ∷ [])) changes)

-- by every log that the table stands for, the numbers are those of the memberships with the entry
abbrev pub AreNumbersAfter : TableValue → Change → Numbers → Type 0
AreNumbersAfter table entry tally = ForLog table (λ settings log. AreNumbers (memberships_now settings (log ++ entry ∷ [])) tally)
