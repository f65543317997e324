-- The exchange that adds a log to the history keeps its rule.
use Rattle.std.proofs.{Common.{◌≡◌, ℕ, ◌+◌, ◌<◌, ◌==◌, Bool, true, false, List, [], ◌∷◌, ◌++◌, length, map, refl, ap, sym, subst, arith, inl, None}, lemmas.{List.{append-nil, length-append, map-append, Elements.{All-push}}, Bool.Decides.{nat_tests}}}
use mathlib.Core.List.{IsPrefix}
use prog.Atomic.{either}
use Rattle.logbook.specs.Pages.{Cell, Goes, Moves, cell, keeps, no_nib, step}
use Rattle.endpoint_membership.specs.declared.change.Change.{Change}
use Rattle.published_table.{specs.{History.{Adds, IsKept}, Lists.{BeginsWith, BeginsWithEach}, Logs.{entries}, declared.past.Past.{Past}}, proofs.Beginnings.{begins_itself, prefix_whole}}

abbrev pub shown : List Past → List Past
shown logs = []

abbrev pub moved : List Past → List Past → ℕ → Type 0
moved before after answer = Unit {0}

abbrev words_of : ℕ → List Cell
words_of number = (number, true) ∷ (0, true) ∷ []

adds_goes : (logs before : List Past) (log : Past) (old : ℕ) → length before ≡ old → BeginsWithEach (entries log) (map entries before)
    → (longest : List Change) → BeginsWithEach longest (map entries logs) → IsPrefix before logs
    → (same : Bool) → (length logs == old) ≡ same
    → Goes IsKept shown moved 0 (before, (no_nib, None)) (λ n. either (n == old) (old + 1) n) (Adds (step 0 old (old + 1) log) (before, (no_nib, None))) (words_of (length logs)) logs
adds_goes logs before log old counted begins longest each is true test =
    let here : length logs ≡ old = grind (arith, nat_tests) in
    let whole : before ≡ logs = prefix_whole before logs is (omega arith) in
    let number : either (length logs == old) (old + 1) (length logs) ≡ length (logs ++ log ∷ []) = rw test (omega (arith, length-append logs (log ∷ []))) in
    let all : BeginsWithEach (entries log) (map entries (logs ++ log ∷ [])) =
    subst (BeginsWithEach (entries log)) (sym (map-append entries logs (log ∷ [])))
    (All-push (BeginsWith (entries log)) (map entries logs) (entries log) (subst (λ (known : List Past). BeginsWithEach (entries log) (map entries known)) whole begins) (begins_itself (entries log))) in (
      keeps,
      log ∷ [],
      None,
      tt,
      record { words = ap words_of number; longest = entries log; begins = all },
      inl (refl, refl),
      rw test (ap (λ (known : List Past). known ++ log ∷ []) (sym whole)),
    )
adds_goes logs before log old counted begins longest each is false test =
    let same : logs ++ [] ≡ logs = append-nil logs in
    let number : either (length logs == old) (old + 1) (length logs) ≡ length (logs ++ []) = rw test (ap length (sym same)) in (
      keeps,
      [],
      None,
      tt,
      record { words = ap words_of number; longest = longest; begins = subst (λ (known : List Past). BeginsWithEach longest (map entries known)) (sym same) each },
      inl (refl, refl),
      rw test tt,
    )

-- whatever the book is, the exchange adds the log to all that was seen, or finds another number
pub adds_moves : (before : List Past) (log : Past) (old : ℕ) → length before ≡ old → BeginsWithEach (entries log) (map entries before)
    → Moves IsKept shown moved 0 (before, (no_nib, None)) (λ n. either (n == old) (old + 1) n) (Adds (step 0 old (old + 1) log) (before, (no_nib, None)))
adds_moves before log old counted begins cells logs kept is away =
    let P : List Cell → Type 0 = λ known. (0 < length known) × ((cell known 0).1 ≡ true)
    × Goes IsKept shown moved 0 (before, (no_nib, None)) (λ n. either (n == old) (old + 1) n) (Adds (step 0 old (old + 1) log) (before, (no_nib, None))) known logs in
    subst P (sym kept.words) (omega arith, refl, adds_goes logs before log old counted begins kept.longest kept.begins is (length logs == old) refl)
