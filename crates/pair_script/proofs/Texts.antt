-- The text of one more datagram, and of one more part.
use Rattle.std.{proofs.{Common.{◌≡◌, ◌<◌, ℕ, ◌+◌, List, [], ◌∷◌, ◌++◌, length, get_or, take, refl, sym, ap, ◌∙◌, append-nil, append_assoc, arith}, lemmas.List.{length-take-le, take_more, Sums.{sum_by-cons}}}, specs.List.{sum_by}}
use Rattle.amt_pair.specs.declared.step.Part.{Part}
use Rattle.pair_script.specs.Texts.{downs_in, part_text, parts_text, sends_text, ups_in}

sends_push : {X : Type 0} (line : ℕ → X → List ℕ) (sent : ℕ) (sends : List X) (send : X)
    → sends_text line sent (sends ++ send ∷ []) ≡ sends_text line sent sends ++ line (sent + length sends + 1) send
sends_push line sent [] send = append-nil _ ∙ ap (λ (n : ℕ). line (n + 1) send) (omega arith)
sends_push line sent (first ∷ sends) send =
    let number : sent + 1 + length sends + 1 ≡ sent + length (first ∷ sends) + 1 = omega arith in
    ap (λ (text : List ℕ). line (sent + 1) first ++ text) (sends_push line (sent + 1) sends send)
    ∙ (ap (λ (n : ℕ). line (sent + 1) first ++ (sends_text line (sent + 1) sends ++ line n send)) number
    ∙ sym (append_assoc (line (sent + 1) first) (sends_text line (sent + 1) sends) (line (sent + length (first ∷ sends) + 1) send)))

-- the datagrams so far, and the next one
pub sends_more : {X : Type 0} (line : ℕ → X → List ℕ) (sent : ℕ) (sends : List X) (i : ℕ) (d : X) → i < length sends
    → sends_text line sent (take (i + 1) sends) ≡ sends_text line sent (take i sends) ++ line (sent + i + 1) (get_or sends i d)
sends_more line sent sends i d inside =
    ap (sends_text line sent) (take_more sends i d inside)
    ∙ (sends_push line sent (take i sends) (get_or sends i d)
    ∙ ap (λ (n : ℕ). sends_text line sent (take i sends) ++ line (sent + n + 1) (get_or sends i d)) (length-take-le i sends (omega (arith, inside))))

pub same_counts : (number up up' down down' : ℕ) (part : Part) → up ≡ up' → down ≡ down' → part_text number up down part ≡ part_text number up' down' part
same_counts number up up' down down' part same_up same_down = rw (same_up, same_down) refl

parts_push : (number up down : ℕ) (parts : List Part) (part : Part)
    → parts_text number up down (parts ++ part ∷ []) ≡ parts_text number up down parts ++ part_text number (up + sum_by ups_in parts) (down + sum_by downs_in parts) part
parts_push number up down [] part = append-nil _ ∙ same_counts number _ _ _ _ part (omega arith) (omega arith)
parts_push number up down (first ∷ parts) part =
    let text = part_text number up down first in
    let more = parts_text number (up + ups_in first) (down + downs_in first) parts in
    let ups : up + ups_in first + sum_by ups_in parts ≡ up + sum_by ups_in (first ∷ parts) = omega (arith, sum_by-cons ups_in first parts) in
    let downs : down + downs_in first + sum_by downs_in parts ≡ down + sum_by downs_in (first ∷ parts) = omega (arith, sum_by-cons downs_in first parts) in
    ap (λ (t : List ℕ). text ++ t) (parts_push number (up + ups_in first) (down + downs_in first) parts part)
    ∙ (ap (λ (t : List ℕ). text ++ (more ++ t)) (same_counts number _ _ _ _ part ups downs)
    ∙ sym (append_assoc text more (part_text number (up + sum_by ups_in (first ∷ parts)) (down + sum_by downs_in (first ∷ parts)) part)))

-- the parts so far, and the next one
pub parts_more : (number up down : ℕ) (parts : List Part) (i : ℕ) (d : Part) → i < length parts
    → parts_text number up down (take (i + 1) parts)
    ≡ parts_text number up down (take i parts)
    ++ part_text number (up + sum_by ups_in (take i parts)) (down + sum_by downs_in (take i parts)) (get_or parts i d)
parts_more number up down parts i d inside =
    ap (parts_text number up down) (take_more parts i d inside) ∙ parts_push number up down (take i parts) (get_or parts i d)
