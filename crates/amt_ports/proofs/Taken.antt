-- What several reads took together.
use Rattle.std.proofs.{Common.{◌≡◌, ℕ, ◌+◌, ◌<◌, ◌≤◌, Option, None, Some, List, ◌++◌, length, take, drop, arith, length-append, append_assoc, append-nil, sym, ◌∙◌, ap}, lemmas.List.{take-append-drop, drop-drop}, Math.Seq.{take-append-add, take-append_seam}}
use Rattle.amt_ports.specs.Reading.{TakesAll, TakesMore}

-- the room after the bytes before was read into, and cut after the n bytes that were read
pub read_into : (before room buf more rest resized : List ℕ) (start len n : ℕ) → start ≡ length before → resized ≡ before ++ room
    → len ≡ start + length buf → n ≤ length buf → take (start + n) (take len ((take start resized ++ (buf ++ more)) ++ rest)) ≡ before ++ take n buf
read_into before room buf more rest resized start len n begins is reaches fits =
    let front : take start resized ≡ before = ap (λ (m : ℕ). take m resized) begins ∙ (ap (take (length before)) is ∙ take-append_seam before room) in
    let whole : (take start resized ++ (buf ++ more)) ++ rest ≡ before ++ (buf ++ (more ++ rest)) =
    ap (λ (xs : List ℕ). (xs ++ (buf ++ more)) ++ rest) front
    ∙ (append_assoc before (buf ++ more) rest ∙ ap (λ (xs : List ℕ). before ++ xs) (append_assoc buf more rest)) in
    let inner : take len ((take start resized ++ (buf ++ more)) ++ rest) ≡ before ++ buf =
    ap (take len) whole
    ∙ (ap (λ (m : ℕ). take m (before ++ (buf ++ (more ++ rest)))) (reaches ∙ ap (λ (m : ℕ). m + length buf) begins)
    ∙ (take-append-add before (buf ++ (more ++ rest)) (length buf) ∙ ap (λ (xs : List ℕ). before ++ xs) (take-append_seam buf (more ++ rest)))) in
    ap (take (start + n)) inner ∙ (ap (λ (m : ℕ). take (m + n) (before ++ buf)) begins ∙ take-append-add before buf n)

-- n bytes from a place on are before those from the place n further
pub drop-prefix : (at n : ℕ) (bytes : List ℕ) → drop at bytes ≡ take n (drop at bytes) ++ drop (at + n) bytes
drop-prefix at n bytes = sym (take-append-drop n (drop at bytes)) ∙ ap (λ l. take n (drop at bytes) ++ l) (drop-drop n at bytes)

-- where the source tells its bytes, an input that was read to its end is all of them
pub TakesAll-told : (xs bytes : List ℕ) (new : Option (List ℕ)) → TakesAll (Some xs) new bytes → bytes ≡ xs
TakesAll-told xs bytes None all = absurd all.taken
TakesAll-told xs bytes (Some ys) all =
    sym (all.taken ∙ ap (λ l. bytes ++ l) all.ended ∙ append-nil bytes)

-- and an input that is too long for the limit has more bytes than that
pub TakesMore-told : (limit : ℕ) (xs : List ℕ) (new : Option (List ℕ)) → TakesMore limit (Some xs) new → limit < length xs
TakesMore-told limit xs None more = absurd more.taken
TakesMore-told limit xs (Some ys) more =
    omega (arith, more.more, ap length more.taken, length-append more.bytes ys)
