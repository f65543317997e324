-- By what a log is read, as tables say it.
use Rattle.std.specs.Prelude.{ℕ, List, take}
use Rattle.endpoint_membership.specs.{Limits.{IsWithin}, Table.{AreLawful, TableSettings, memberships_now}, declared.change.Change.{Change}}
use Rattle.published_table.specs.declared.terms.Terms.{Terms}

abbrev pub settings_by : Terms → TableSettings
settings_by terms = record { limits = terms.limits; lifetime = terms.lifetime_ms }

-- the limits and the lifetime are those that a table may have
abbrev pub AreLawfulTerms : Terms → Type 0
AreLawfulTerms terms = AreLawful terms.limits terms.lifetime_ms

-- the memberships by the log are within the limits at its latest moment
abbrev pub Fits : Terms → List Change → Type 0
Fits terms log = IsWithin terms.limits (memberships_now (settings_by terms) log)

-- so are those by each prefix of it
abbrev pub FitsThroughout : Terms → List Change → Type 0
FitsThroughout terms log = (number : ℕ) → Fits terms (take number log)
