-- What a loop over a list has seen, one item later.
use Rattle.std.proofs.{Common.{◌≡◌, ℕ, ◌+◌, ◌<◌, List, [], ◌++◌, length, take, get_or, All, flat_map, sym, ap, subst, ◌∙◌}, lemmas.List.{flat_map_more, take_more, Elements.{All-push}}}

pub flat_map-next : {X A : Type 0} (f : X → List A) (xs : List X) (i : ℕ) (d : X) → i < length xs
    → flat_map f (take (i + 1) xs) ≡ flat_map f (take i xs) ++ f (get_or xs i d)
flat_map-next f xs i d inside = ap (flat_map f) (take_more xs i d inside) ∙ sym (flat_map_more f [] (take i xs) (get_or xs i d))

pub All-next : {X : Type 0} (P : X → Type 0) (xs : List X) (i : ℕ) (d : X) → i < length xs → All P (take i xs) → P (get_or xs i d) → All P (take (i + 1) xs)
All-next P xs i d inside before here = subst (All P) (sym (take_more xs i d inside)) (All-push P (take i xs) (get_or xs i d) before here)
