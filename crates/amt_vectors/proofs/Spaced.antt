-- Words put at the end of a text, each after a space.
use Rattle.std.proofs.Common.{◌≡◌, ℕ, List, [], ◌∷◌, ◌++◌, flat_map, sym, ap, ◌∙◌, append-nil, append_assoc}

abbrev pub spread : List (List ℕ) → List ℕ
spread words = flat_map (λ word. 32 ∷ word) words

-- one more word was put there
pub words_more : (start text with_space with_word word : List ℕ) (values left rest : List (List ℕ)) → left ≡ word ∷ rest → with_space ≡ text ++ 32 ∷ []
    → with_word ≡ with_space ++ word → start ++ spread values ≡ text ++ spread left → start ++ spread values ≡ with_word ++ spread rest
words_more start text with_space with_word word values left rest parts space last before =
    let put : with_word ≡ text ++ 32 ∷ word = last ∙ (ap (λ (t : List ℕ). t ++ word) space ∙ append_assoc text (32 ∷ []) word) in
    before
    ∙ (ap (λ (ls : List (List ℕ)). text ++ spread ls) parts
    ∙ sym (ap (λ (t : List ℕ). t ++ spread rest) put ∙ append_assoc text (32 ∷ word) (spread rest)))

-- no word is left
pub words_end : (start text : List ℕ) (values left : List (List ℕ)) → left ≡ [] → start ++ spread values ≡ text ++ spread left → text ≡ start ++ spread values
words_end start text values left none before = sym (before ∙ (ap (λ (ls : List (List ℕ)). text ++ spread ls) none ∙ append-nil text))
