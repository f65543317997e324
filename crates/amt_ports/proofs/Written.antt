-- What several writes appended together.
use Rattle.std.{proofs.{Common.{◌≡◌, ℕ, ◌<◌, Option, List, ◌++◌, length, take, drop, arith, length-append, subst, sym, ◌∙◌, ap, append_assoc}, Math.Seq.{take-append_seam}, lemmas.List.{take-append-drop}, KnownBytes.{Appends-kept, Appends-trans}}, specs.Io.KnownBytes.{Appends, Keeps}}

-- what was appended before a call that kept all is a prefix of the whole, and not all of it
pub Appends-prefix : (a b c : Option (List ℕ)) (all done rest : List ℕ) → all ≡ done ++ rest → 0 < length rest → Appends a b done → Keeps b c → (n : ℕ) × (n < length all) × Appends a c (take n all)
Appends-prefix a b c all done rest parts left before kept =
    let prefix : take (length done) all ≡ done = ap (take (length done)) parts ∙ take-append_seam done rest in
    (length done, omega (arith, left, ap length parts, length-append done rest), subst (Appends a c) (sym prefix) (Appends-kept a b c done before kept))

-- n bytes more of what is left
pub Appends-step : (a b c : Option (List ℕ)) (all done rest : List ℕ) (n : ℕ) → all ≡ done ++ rest → Appends a b done → Appends b c (take n rest) → (more : List ℕ) × (all ≡ more ++ drop n rest) × Appends a c more
Appends-step a b c all done rest n parts before written = (
  done ++ take n rest,
  parts ∙ ap (λ l. done ++ l) (sym (take-append-drop n rest)) ∙ sym (append_assoc done (take n rest) (drop n rest)),
  Appends-trans a b c done (take n rest) before written,
)
