use Rattle.std.proofs.{Common.{◌≡◌, ℕ, length, Some, sym, subst, ap, ◌∙◌, arith, rules, Fits, get_or, w16}, NetLemmas.Texts.{AllSegments}}
use Rattle.amt_values.{specs.Segments.{address_segments, IsV6Text}, proofs.{Cuts.{Lacks}, Joined.{Lacks-v6}, V6Texts.{v6_found, v6_only, v6_none}}}
use Rattle.amt_values.proofs.text.parse_v6.Goals as goal

pub returns-then-has_dot-clause-only : goal.returns-then-has_dot-clause-only
returns-then-has_dot-clause-only c = λ number names.
    let lacks : Lacks 46 c.args.text.now = Lacks-v6 46 (address_segments number) c.args.text.now (omega arith) (λ same. omega arith) names.1 in
    let none = c.has_dot.ensures.1 lacks in
    absurd (cc (none, c.if-has_dot.true))

pub returns-in-Ok-clause-found : goal.returns-in-Ok-clause-found
returns-in-Ok-clause-found c =
    let eight : length c.in-Ok.address.segments ≡ 8 = search rules in
    let small : (k : ℕ) → Fits w16 (get_or c.in-Ok.address.segments k 0) = search rules in
    let fits : AllSegments c.in-Ok.address.segments = λ k. omega (arith, small k) in
    let lacks : Lacks 46 c.args.text.now = c.has_dot.ensures.0 c.if-has_dot.false in
    let found = v6_found c.args.text.now c.in-Ok.address eight fits lacks c.in-Ok.ensures in
    (c.to_bits.type_inv, subst (λ (n : ℕ). IsV6Text n c.args.text.now) (sym c.to_bits.ensures) found)

pub returns-in-Ok-clause-only : goal.returns-in-Ok-clause-only
returns-in-Ok-clause-only c = λ number names.
    ap (λ (n : ℕ). Some n) (c.to_bits.ensures ∙ v6_only c.args.text.now c.in-Ok.address number c.in-Ok.ensures names.0 names.1)

pub returns-in-Err-clause-only : goal.returns-in-Err-clause-only
returns-in-Err-clause-only c = λ number names. absurd (v6_none c.args.text.now number c.in-Err.ensures names.1)
