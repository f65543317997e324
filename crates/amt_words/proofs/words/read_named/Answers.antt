use Rattle.std.proofs.Common.{map, string_bytes, inl, inr}
use Rattle.amt_words.specs.{Line.{IsTakenBy}, Usage.{usages}}
use Rattle.amt_words.proofs.words.read_named.Goals as goal

pub returns-in_default-clause-refused : goal.returns-in_default-clause-refused
returns-in_default-clause-refused c usage taken = go taken
  where
    go : IsTakenBy usages c.args.name.now (map string_bytes c.args.rest.now) → ⊥
    go (inl h) = c.in_default.not-replay h.0
    go (inr (inl h)) = c.in_default.not-dump h.0
    go (inr (inr (inl h))) = c.in_default.not-vectors h.0
    go (inr (inr (inr (inl h)))) = c.in_default.not-load h.0
    go (inr (inr (inr (inr later)))) = c.read_worded.ensures.refused usage later
