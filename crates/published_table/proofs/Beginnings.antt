-- Lists that begin with others, and logs that are of one history.
use Rattle.std.{proofs.{Common.{◌≡◌, ◌⊎◌, ℕ, ◌≤◌, inl, inr, zero, suc, List, [], ◌∷◌, ◌++◌, length, take, drop, map, refl, sym, ap, subst, ◌∙◌, arith}, Math.Seq.{take-append_seam, drop-append_seam, take-length}, lemmas.List.{append-nil, append_assoc, length-append, map-append, nil_from_length, take-append-drop, take-take, Elements.{All-cons, All-drop, All-take}}}, specs.Prelude.{slice_index_or}}
use mathlib.Core.List.{IsPrefix}
use Rattle.endpoint_membership.specs.declared.change.Change.{Change}
use Rattle.published_table.specs.{History.{AreUnder, IsUnder}, Lists.{BeginsWith, BeginsWithEach}, Logs.{entries}, declared.past.Past.{Past}}

module _ {X : Type 0} where
  pub begins_by : (xs ys rest : List X) → xs ≡ ys ++ rest → BeginsWith xs ys
  begins_by xs ys rest is = ap (take (length ys)) is ∙ take-append_seam ys rest

  rest_after : (xs ys : List X) → BeginsWith xs ys → xs ≡ ys ++ drop (length ys) xs
  rest_after xs ys begins = sym (take-append-drop (length ys) xs) ∙ ap (λ (all : List X). all ++ drop (length ys) xs) begins

  pub begins_itself : (xs : List X) → BeginsWith xs xs
  begins_itself xs = take-length xs

  pub begins_further : (xs ys zs : List X) → BeginsWith xs ys → BeginsWith ys zs → BeginsWith xs zs
  begins_further xs ys zs first second =
      begins_by xs zs (drop (length zs) ys ++ drop (length ys) xs)
      (rest_after xs ys first ∙ ap (λ (all : List X). all ++ drop (length ys) xs) (rest_after ys zs second) ∙ append_assoc zs (drop (length zs) ys) (drop (length ys) xs))

  -- of two prefixes of one list, the longer begins with the shorter
  longer_begins : (all xs ys : List X) → BeginsWith all xs → BeginsWith all ys → length ys ≤ length xs → BeginsWith xs ys
  longer_begins all xs ys first second less =
      ap (take (length ys)) (sym first) ∙ take-take (length ys) (length xs) all less ∙ second

  each_fewer : (xs : List X) (lists more : List (List X)) → BeginsWithEach xs (lists ++ more) → BeginsWithEach xs lists
  each_fewer xs lists more each = subst (BeginsWithEach xs) (take-append_seam lists more) (All-take (BeginsWith xs) (length lists) (lists ++ more) each)

  each_last : (xs : List X) (lists : List (List X)) (last : List X) → BeginsWithEach xs (lists ++ last ∷ []) → BeginsWith xs last
  each_last xs lists last each =
      subst (BeginsWithEach xs) (drop-append_seam lists (last ∷ [])) (All-drop (BeginsWith xs) (length lists) (lists ++ last ∷ []) each) 0 last (omega arith)

  -- what begins with a list begins with what that begins with
  pub each_further : (xs ys : List X) (lists : List (List X)) → BeginsWith xs ys → BeginsWithEach ys lists → BeginsWithEach xs lists
  each_further xs ys lists begins each index default within = begins_further xs ys (slice_index_or lists index default) begins (each index default within)

  take_none : (number : ℕ) → take {A = X} number [] ≡ []
  take_none zero = refl
  take_none (suc number) = refl

  -- a prefix of a list with one more item is one without it, or all
  pub take_last : (number : ℕ) (xs : List X) (x : X) → (take number (xs ++ x ∷ []) ≡ take number xs) ⊎ (take number (xs ++ x ∷ []) ≡ xs ++ x ∷ [])
  take_last zero xs x = inl refl
  take_last (suc number) [] x = inr (ap (λ (rest : List X). x ∷ rest) (take_none number))
  take_last (suc number) (first ∷ xs) x = elim (take_last number xs x) [
    | inl same ↦ inl (ap (λ (rest : List X). first ∷ rest) same)
    | inr whole ↦ inr (ap (λ (rest : List X). first ∷ rest) whole)
  ]

  -- a prefix that is no shorter is all
  pub prefix_whole : (before all : List X) → IsPrefix before all → length all ≤ length before → before ≡ all
  prefix_whole before all is short =
      let counted = length-append before is.0 in
      let longer = ap length is.1 in
      let none = nil_from_length is.0 (omega (arith, counted, longer, short)) in
      sym (append-nil before) ∙ ap (λ (rest : List X). before ++ rest) (sym none) ∙ is.1

-- a longer history
pub IsUnder-later : (logs later : List Past) (log : List Change) → IsPrefix logs later → IsUnder logs log → IsUnder later log
IsUnder-later logs later log is under longest begins =
    under longest (each_fewer longest (map entries logs) (map entries is.0)
    (subst (BeginsWithEach longest) (ap (map entries) (sym is.1) ∙ map-append entries logs is.0) begins))

-- a prefix of the log
pub IsUnder-prefix : (logs : List Past) (longer log : List Change) → BeginsWith longer log → IsUnder logs longer → IsUnder logs log
IsUnder-prefix logs longer log begins under longest each = begins_further longest longer log (under longest each) begins

-- the log that was added last
pub IsUnder-last : (logs : List Past) (log : Past) → IsUnder (logs ++ log ∷ []) (entries log)
IsUnder-last logs log longest begins =
    each_last longest (map entries logs) (entries log) (subst (BeginsWithEach longest) (map-append entries logs (log ∷ [])) begins)

pub AreUnder-later : (logs later : List Past) (most more : ℕ) (others : List (List Change)) → IsPrefix logs later → most ≤ more → AreUnder logs most others → AreUnder later more others
AreUnder-later logs later most more others is less under index default within =
    let here = under index default within in
    (IsUnder-later logs later (slice_index_or others index default) is here.0, omega (arith, less, here.1))

pub AreUnder-also : (logs : List Past) (most : ℕ) (log : List Change) (others : List (List Change)) → IsUnder logs log → length log ≤ most → AreUnder logs most others → AreUnder logs most (log ∷ others)
AreUnder-also logs most log others under short all = All-cons (λ (one : List Change). IsUnder logs one × (length one ≤ most)) log others (under, short) all

-- a log of the history that is no shorter begins with each
pub begins_each : (longest log : List Change) (logs : List Past) (most : ℕ) (others : List (List Change)) → BeginsWithEach longest (map entries logs) → BeginsWith longest log → most ≤ length log
    → AreUnder logs most others → BeginsWithEach log others
begins_each longest log logs most others each begins long under index default within =
    let here = under index default within in
    longer_begins longest log (slice_index_or others index default) begins (here.0 longest each) (omega (arith, long, here.1))
