use Rattle.std.proofs.Common.{ℕ, List, Some, ap}
use Rattle.amt_values.{specs.{declared.address.Ip.{Ip, TheVariants.{V4, V6}}, Text.{IsIpText}}, proofs.Unique.{IsIpText-unique}}
use Rattle.amt_values.proofs.text.parse_ip.Goals as goal

pub returns-in-Some-clause-only : goal.returns-in-Some-clause-only
returns-in-Some-clause-only c = λ ip names.
    ap (λ (i : Ip). Some i) (IsIpText-unique (V4 c.in-Some.number) ip c.args.text.now c.in-Some.ensures.found names)

pub returns-in-Some-parse_v6-clause-only : goal.returns-in-Some-parse_v6-clause-only
returns-in-Some-parse_v6-clause-only c = λ ip names.
    ap (λ (i : Ip). Some i) (IsIpText-unique (V6 c.in-Some-parse_v6.number) ip c.args.text.now c.in-Some-parse_v6.ensures.found names)

-- an address of either family would have been read
no_ip : (text : List ℕ) → ((number : ℕ) → IsIpText (V4 number) text → ⊥) → ((number : ℕ) → IsIpText (V6 number) text → ⊥)
    → (ip : Ip) → IsIpText ip text → ⊥
no_ip text no_v4 no_v6 (V4 number) names = no_v4 number names
no_ip text no_v4 no_v6 (V6 number) names = no_v6 number names

pub returns-in-None-clause-only : goal.returns-in-None-clause-only
returns-in-None-clause-only c = λ ip names.
    absurd (no_ip c.args.text.now (λ number h. let found = c.in_default.ensures.only number h in cc found) (λ number h. let found = c.in-None.ensures.only number h in cc found) ip names)
