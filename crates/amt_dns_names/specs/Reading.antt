-- What a reader of names knows on its way.
use Rattle.std.specs.Prelude.{◌≡◌, ℕ, List, ◌++◌, Option, unwrap_or}
use Rattle.amt_dns_names.specs.NameAt.{PartAt}

-- the name is what was read, and then what stands at a place of a part; its end is the one that is
-- known, if one is
pub record GoesOn (bytes : List ℕ) (read : List (List ℕ)) (known : Option ℕ) (start at : ℕ) (labels : List (List ℕ)) (end : ℕ) : Type 0 where
  pub rest : List (List ℕ)
  pub last : ℕ
  pub part : PartAt bytes start at rest last
  pub whole : labels ≡ read ++ rest
  pub ended : end ≡ unwrap_or known last

-- from the name's place a reader came to a place of a part: what stands there completes what was read,
-- and nothing else does
pub record Leads (bytes : List ℕ) (name_at : ℕ) (read : List (List ℕ)) (known : Option ℕ) (start at : ℕ) : Type 0 where
  pub holds : (rest : List (List ℕ)) (last : ℕ) → PartAt bytes start at rest last
      → PartAt bytes name_at name_at (read ++ rest) (unwrap_or known last)
  pub only : (labels : List (List ℕ)) (end : ℕ) → PartAt bytes name_at name_at labels end
      → GoesOn bytes read known start at labels end
