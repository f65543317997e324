-- The one of a list that is taken: by its place, and as a function.
use Rattle.std.{proofs.{Common.{◌≡◌, ℕ, ◌+◌, ◌<◌, ◌≤◌, List, [], ◌∷◌, ◌++◌, length, get_or, take, drop, Option, None, Some, refl, ap, sym, ◌∙◌, arith}, Math.Seq.{get_or-append_seam}, lemmas.{List.{take-append-drop, drop_more, length-take-le, length-drop, get_or_default, get_or-take, get_or-drop, Elements.{All-head, All-tail}}, Bool.Decides.{nat_tests}}}, specs.{List.{All}, Prelude.{IfSome}}}
use Rattle.amt_dns.specs.{declared.found.Found.{Found}, Choice.{IsChosen, chosen_of, better_of}}

-- none has a lower precedence, and each of those before has a greater one
pub chosen_at : (found : List Found) (place : ℕ) → place < length found
    → ((k : ℕ) (d : Found) → k < place → (get_or found place d).precedence < (get_or found k d).precedence)
    → ((k : ℕ) (d : Found) → k < length found → (get_or found place d).precedence ≤ (get_or found k d).precedence)
    → (chosen : Found) × IsChosen found place chosen
chosen_at [] place within first least = absurd (omega arith)
chosen_at (one ∷ more) place within first least =
    let found = one ∷ more in (
      get_or found place one,
      record {
        before = take place found;
        after = drop (place + 1) found;
        parts = sym (take-append-drop place found) ∙ ap (λ (rest : List Found). take place found ++ rest) (drop_more found place one within);
        counted = grind (arith, length-take-le place found);
        first = λ k d below.
            let before : k < place = omega (arith, length-take-le place found) in
            rw (get_or-take place found k d before, get_or_default found place one d within) (first k d before);
        least = λ k d below.
            rw (get_or-drop (place + 1) found k d, get_or_default found place one d within)
            (least (place + 1 + k) d (omega (arith, length-drop (place + 1) found)));
      },
    )

abbrev AtLeast : ℕ → Found → Type 0
AtLeast limit one = limit ≤ one.precedence

taken_at_least : (limit : ℕ) (one : Found) (rest : Option Found) → AtLeast limit one → IfSome rest (AtLeast limit) → AtLeast limit (better_of one rest)
taken_at_least limit one None own rest = own
taken_at_least limit one (Some other) own rest = grind (arith, nat_tests)

all_at_least : (limit : ℕ) (all : List Found) → All (AtLeast limit) all → IfSome (chosen_of all) (AtLeast limit)
all_at_least limit [] each = tt
all_at_least limit (one ∷ more) each =
    taken_at_least limit one (chosen_of more) (All-head (AtLeast limit) one more each)
    (all_at_least limit more (All-tail (AtLeast limit) one more each))

first_taken : (one : Found) (rest : Option Found) → IfSome rest (AtLeast one.precedence) → better_of one rest ≡ one
first_taken one None above = refl
first_taken one (Some other) above = grind (arith, nat_tests)

among : (before after : List Found) (chosen : Found) → All (λ other. chosen.precedence < other.precedence) before
    → All (AtLeast chosen.precedence) after → chosen_of (before ++ chosen ∷ after) ≡ Some chosen
among [] after chosen first least = ap Some (first_taken chosen (chosen_of after) (all_at_least chosen.precedence after least))
among (one ∷ more) after chosen first least =
    let Above = λ (other : Found). chosen.precedence < other.precedence in
    let own : chosen.precedence < one.precedence = All-head Above one more first in
    rw (among more after chosen (All-tail Above one more first) least) (grind (arith, nat_tests))

chosen_is : (found : List Found) (place : ℕ) (chosen : Found) → IsChosen found place chosen → chosen_of found ≡ Some chosen
chosen_is found place chosen is = ap chosen_of is.parts ∙ among is.before is.after chosen is.first is.least

-- what stands at the place is the one that is taken
pub chosen_there : (found : List Found) (place : ℕ) (one chosen : Found) → one ≡ get_or found place one → IsChosen found place chosen
    → chosen_of found ≡ Some one
chosen_there found place one chosen at is =
    let seam : one ≡ chosen = at ∙ rw (is.parts, is.counted) (get_or-append_seam is.before chosen is.after one) in
    chosen_is found place chosen is ∙ ap Some (sym seam)
