use Rattle.std.{proofs.{Common.{◌≡◌, ◌++◌, ℕ, List, Option, Some, None}, lemmas.Fmt.{contents_after_writes}}, specs.{Option.{IfSome}, Fmt.{WritesInCalls}}}
use Rattle.amt_values.proofs.items.Items+u8.write_fmt.Goals as goal

-- each call of a writer puts its text at the end
abbrev puts : List ℕ → List ℕ → List ℕ → Type 0
puts before text after = after ≡ before ++ text

appended : (before after : List ℕ) (text : Option (List ℕ)) → IfSome text (λ octets. WritesInCalls puts before octets after)
    → IfSome text (λ octets. after ≡ before ++ octets)
appended before after None told = tt
appended before after (Some text) told = contents_after_writes puts (λ octets. octets) (λ w l v t. t) before text after told

pub returns-in-Ok : goal.returns-in-Ok
returns-in-Ok g c = appended _ _ (g.D.Display.output c.args.text) c.in-Ok.ensures.writes
