-- Draws, one after another.
use Rattle.std.proofs.Common.{◌≡◌, ℕ, zero, suc, ◌+◌, ◌-◌, ◌*◌, ◌∙◌, ap, arith}
use Rattle.relay_load.specs.Generator.{next_number, number_after}

-- the draws of a second count follow those of a first
pub number_after-more : (first draws more : ℕ) → number_after first (draws + more) ≡ number_after (number_after first draws) more
unfolding number_after
number_after-more first draws zero = let none : draws + 0 ≡ draws = omega arith in ap (number_after first) none
number_after-more first draws (suc more) =
    let one : draws + suc more ≡ suc (draws + more) = omega arith in
    ap (number_after first) one ∙ ap next_number (number_after-more first draws more)

-- the four of one more Update
pub four_more : (first before : ℕ) → number_after first (4 * (before + 1)) ≡ number_after (number_after first (4 * before)) 4
four_more first before =
    let four : 4 * (before + 1) ≡ 4 * before + 4 = omega arith in
    ap (number_after first) four ∙ number_after-more first (4 * before) 4

-- those before the Update of a place
pub draws_before : (first before : ℕ) → number_after first (4 * ((before + 1) - 1)) ≡ number_after first (4 * before)
draws_before first before = let same : 4 * ((before + 1) - 1) ≡ 4 * before = omega arith in ap (number_after first) same
