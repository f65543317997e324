-- The secrets that are kept, and the slots that they stand in.
use Rattle.std.proofs.{Common.{◌≡◌, ℕ, ◌-◌, ◌≤◌, ◌<◌, suc, List, [], ◌∷◌, ◌++◌, length, take, drop, map, replicate, reverse, Option, Some, None, refl, sym, ap, ◌∙◌, arith, zero}, lemmas.List.{length-reverse, length-take, reverse-append, take-take}}
use Rattle.std.specs.List.{slice_index_or}
use Rattle.response_mac.specs.{declared.secret.Secret.{Secret}, ResponseMac.{AreSlots, SecretsValue, older_in, secrets_after, slots_of}}

none_in : (n : ℕ) → older_in (replicate n None) ≡ []
none_in zero = refl
none_in (suc n) = none_in n

in_slots : (older : List Secret) (n : ℕ) → older_in (map (λ (secret : Secret). Some secret) older ++ replicate n None) ≡ older
in_slots [] n = none_in n
in_slots (one ∷ older) n = ap (λ (rest : List Secret). one ∷ rest) (in_slots older n)

-- slots hold the secrets that they are made of
pub older_in-slots_of : (older : List Secret) → older_in (slots_of older) ≡ older
older_in-slots_of older = in_slots older (3 - length older)

-- with one secret put in before them, the first of them all are kept
pub slots_of-pushed : (used : ℕ) (older : List Secret) (new : Secret) → length older ≤ used → used ≤ 3
    → take used (Some new ∷ slots_of older) ++ drop used (slots_of older) ≡ slots_of (take used (new ∷ older))
slots_of-pushed zero [] new few most = refl
slots_of-pushed (suc zero) [] new few most = refl
slots_of-pushed (suc (suc zero)) [] new few most = refl
slots_of-pushed (suc (suc (suc zero))) [] new few most = refl
slots_of-pushed (suc zero) (a ∷ []) new few most = refl
slots_of-pushed (suc (suc zero)) (a ∷ []) new few most = refl
slots_of-pushed (suc (suc (suc zero))) (a ∷ []) new few most = refl
slots_of-pushed (suc (suc zero)) (a ∷ b ∷ []) new few most = refl
slots_of-pushed (suc (suc (suc zero))) (a ∷ b ∷ []) new few most = refl
slots_of-pushed (suc (suc (suc zero))) (a ∷ b ∷ c ∷ []) new few most = refl
slots_of-pushed used older new few most = absurd (omega arith)

-- so they do after a rotation, and the older ones are the first of them all
pub AreSlots-pushed : (keep : ℕ) (slots after : List (Option Secret)) (new : Secret) → AreSlots keep slots
    → after ≡ take (keep - 1) (Some new ∷ slots) ++ drop (keep - 1) slots → AreSlots keep after × (older_in after ≡ take (keep - 1) (new ∷ older_in slots))
AreSlots-pushed keep slots after new are is =
    let older = older_in slots in
    let used = keep - 1 in
    let pushed : after ≡ slots_of (take used (new ∷ older)) =
    is ∙ (ap (λ (all : List (Option Secret)). take used (Some new ∷ all) ++ drop used all) (sym are.back)
    ∙ slots_of-pushed used older new (omega (arith, are.within)) (omega (arith, are.few))) in
    let held : older_in after ≡ take used (new ∷ older) = ap older_in pushed ∙ older_in-slots_of (take used (new ∷ older)) in
    let size = ap (λ (all : List Secret). length all) held in
    let taken = length-take used (new ∷ older) in (
      record { some = are.some; few = are.few; within = omega (arith, size, taken, are.some); back = ap slots_of held ∙ sym pushed },
      held,
    )

head_and_rest : (secrets : List Secret) (d : Secret) → 0 < length secrets → slice_index_or secrets 0 d ∷ drop 1 secrets ≡ secrets
head_and_rest (one ∷ secrets) d some = refl
head_and_rest [] d some = absurd (omega (arith, some))

-- the newest secrets after one more change
pub secrets_after-more : (old : SecretsValue) (keep : ℕ) (first new : Secret) (changes : List Secret) → 1 ≤ old.keep → old ≡ secrets_after keep first changes
    → record { current = new; older = take (old.keep - 1) (old.current ∷ old.older); keep = old.keep } ≡ secrets_after keep first (changes ++ new ∷ [])
secrets_after-more old keep first new changes some is =
    ap (λ (o : SecretsValue). record { current = new; older = take (o.keep - 1) (o.current ∷ o.older); keep = o.keep }) is
    ∙ by_keep keep (let same = ap (λ (o : SecretsValue). o.keep) is in omega (arith, some, same))
  where
    newest : List Secret
    newest = reverse (first ∷ changes)

    by_keep : (n : ℕ) → 1 ≤ n → record { current = new; older = take (n - 1) ((secrets_after n first changes).current ∷ (secrets_after n first changes).older); keep = n } ≡ secrets_after n first (changes ++ new ∷ [])
    by_keep (suc n) least =
        let some_newest : 0 < length (take (suc n) newest) = let all = length-reverse (first ∷ changes) in let taken = length-take (suc n) newest in omega (arith, all, taken) in
        let fewer : suc n - 1 ≡ n = omega arith in
        let before : take (suc n - 1) (slice_index_or (take (suc n) newest) 0 first ∷ drop 1 (take (suc n) newest)) ≡ take n newest =
        ap (take (suc n - 1)) (head_and_rest (take (suc n) newest) first some_newest)
        ∙ (ap (λ (k : ℕ). take k (take (suc n) newest)) fewer ∙ take-take n (suc n) newest (omega arith)) in
        ap (λ (older : List Secret). record { current = new; older = older; keep = suc n }) before
        ∙ sym (ap (λ (all : List Secret). record { current = slice_index_or (take (suc n) all) 0 first; older = drop 1 (take (suc n) all); keep = suc n }) (reverse-append (first ∷ changes) (new ∷ [])))
    by_keep zero least = absurd (omega (arith, least))
