-- Those who are to be answered after a turn.
use Rattle.std.{proofs.{Common.{◌≡◌, ◌<◌, ◌≤◌, ◌+◌, ℕ, List, [], ◌∷◌, ◌++◌, length, ap, arith, length-append}}, specs.Prelude.{Option, None, Some}}
use Rattle.std.specs.List.{cons_option}
use Rattle.gateway_serving.specs.{Askers.{asker_in, askers_among}, Turns.{ControlAnswer}, declared.askers.Asker.{Asker}}

one_option : {X : Type 0} (one : Option X) (list : List X) → length (cons_option one list) ≤ length list + 1
one_option None list = omega arith
one_option (Some x) list = omega arith

-- at most one a line
pub few_among : (lines : List ControlAnswer) → length (askers_among lines) ≤ length lines
few_among [] = omega arith
few_among (one ∷ lines) =
    let rest = few_among lines in
    let here = one_option (asker_in one.answer one.line) (askers_among lines) in omega (arith, rest, here)

pub few_askers : (before after : List Asker) (lines : List ControlAnswer) {count : ℕ} → before ≡ [] → after ≡ before ++ askers_among lines → length lines ≡ count → count < 64 → length after < 64
few_askers before after lines none is many few = omega (arith, ap length is, length-append before (askers_among lines), ap length none, few_among lines, many, few)
