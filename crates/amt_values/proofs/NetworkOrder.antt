-- Numbers of any length as octets, the highest first: octets of one length are those of their number.
use Rattle.std.proofs.Common.{◌≡◌, ℕ, zero, suc, ◌+◌, ◌*◌, ◌^◌, ◌%◌, ◌/◌, ◌<◌, ◌≤◌, List, [], ◌∷◌, length, take, drop, refl, sym, ap, ◌∙◌, arith, length-take}
use Rattle.std.{proofs.{Math.Nat.{mod-eq_of_lt, mod-lt, mul-add-mod_self_right}, lemmas.{Nat.{div-mul-add}, List.{append-nil}}}, specs.Int.{byte_at, bytes_high_first}}
use Rattle.byteorder.specs.{Endian.{big_from}, Numbers.{big_from-cons, big_from-take, big_from-lt, big_number-reads_back, length-bytes_high_first}}
use Rattle.amt_values.specs.Octets.{AreOctets}

-- a number in two parts has its low part, below the base, as remainder
same_low : (a b base r s : ℕ) → r < base → s < base → a * base + r ≡ b * base + s → r ≡ s
same_low a b base r s r_small s_small same =
    sym (mul-add-mod_self_right a base r ∙ mod-eq_of_lt r_small)
    ∙ (ap (λ (x : ℕ). x % base) same ∙ (mul-add-mod_self_right b base s ∙ mod-eq_of_lt s_small))

-- and its high part as quotient
same_high : (a b base r s : ℕ) → r < base → s < base → a * base + r ≡ b * base + s → a ≡ b
same_high a b base r s r_small s_small same =
    sym (div-mul-add a base r r_small) ∙ (ap (λ (x : ℕ). x / base) same ∙ div-mul-add b base s s_small)

-- octets of one length that carry one number are the same
pub same_octets : (n : ℕ) (xs ys : List ℕ) → length xs ≡ n → length ys ≡ n → AreOctets xs → AreOctets ys
    → big_from 0 n xs ≡ big_from 0 n ys → xs ≡ ys
same_octets zero [] [] len_x len_y small_x small_y same = refl
same_octets zero [] (y ∷ ys) len_x len_y small_x small_y same = absurd (omega arith)
same_octets zero (x ∷ xs) ys len_x len_y small_x small_y same = absurd (omega arith)
same_octets (suc n) [] ys len_x len_y small_x small_y same = absurd (omega arith)
same_octets (suc n) (x ∷ xs) [] len_x len_y small_x small_y same = absurd (omega arith)
same_octets (suc n) (x ∷ xs) (y ∷ ys) len_x len_y small_x small_y same =
    let rest_x = big_from-lt 0 n xs (λ k. small_x (suc k)) in
    let rest_y = big_from-lt 0 n ys (λ k. small_y (suc k)) in
    let whole : x * 256 ^ n + big_from 0 n xs ≡ y * 256 ^ n + big_from 0 n ys =
    ap (λ (r : ℕ). x * 256 ^ n + r) (sym (big_from-cons 0 n x xs))
    ∙ (same ∙ ap (λ (r : ℕ). y * 256 ^ n + r) (big_from-cons 0 n y ys)) in
    let first = same_high x y (256 ^ n) _ _ rest_x rest_y whole in
    let low = same_low x y (256 ^ n) _ _ rest_x rest_y whole in
    let rest = same_octets n xs ys (omega arith) (omega arith) (λ k. small_x (suc k)) (λ k. small_y (suc k)) low in
    rw (first, rest) refl

byte_at-lt : (k x : ℕ) → byte_at k x < 256
byte_at-lt zero x = mod-lt x (omega arith)
byte_at-lt (suc k) x = mod-lt _ (omega arith)

pub AreOctets-bytes_high_first : (n x : ℕ) → AreOctets (bytes_high_first n x)
AreOctets-bytes_high_first zero x k = omega arith
AreOctets-bytes_high_first (suc n) x zero = byte_at-lt n x
AreOctets-bytes_high_first (suc n) x (suc k) = AreOctets-bytes_high_first n x k

-- writing the number that octets carry gives the octets
pub bytes_high_first-big_from : (n : ℕ) (xs : List ℕ) → length xs ≡ n → AreOctets xs → bytes_high_first n (big_from 0 n xs) ≡ xs
bytes_high_first-big_from n xs len small =
    let number = big_from 0 n xs in
    let back = big_number-reads_back n number [] (big_from-lt 0 n xs small) in
    same_octets n (bytes_high_first n number) xs (length-bytes_high_first n number) len (AreOctets-bytes_high_first n number) small
    (ap (big_from 0 n) (sym (append-nil (bytes_high_first n number))) ∙ back)

-- reading the octets of a number gives the number
pub big_from-bytes_high_first : (n number : ℕ) → number < 256 ^ n → big_from 0 n (bytes_high_first n number) ≡ number
big_from-bytes_high_first n number small =
    ap (big_from 0 n) (sym (append-nil (bytes_high_first n number))) ∙ big_number-reads_back n number [] small

pub AreOctets-take : (n : ℕ) (xs : List ℕ) → AreOctets xs → AreOctets (take n xs)
AreOctets-take zero xs small k = omega arith
AreOctets-take (suc n) [] small k = omega arith
AreOctets-take (suc n) (x ∷ xs) small zero = small 0
AreOctets-take (suc n) (x ∷ xs) small (suc k) = AreOctets-take n xs (λ j. small (suc j)) k

pub AreOctets-drop : (n : ℕ) (xs : List ℕ) → AreOctets xs → AreOctets (drop n xs)
AreOctets-drop zero xs small k = small k
AreOctets-drop (suc n) [] small k = omega arith
AreOctets-drop (suc n) (x ∷ xs) small k = AreOctets-drop n xs (λ j. small (suc j)) k

-- writing the number that a list's first octets carry gives those octets
pub bytes_high_first-take : (n : ℕ) (xs : List ℕ) → n ≤ length xs → AreOctets xs → bytes_high_first n (big_from 0 n xs) ≡ take n xs
bytes_high_first-take n xs enough small =
    let same = big_from-take 0 n n xs (omega arith) in
    let len : length (take n xs) ≡ n = simp length-take (omega arith) in
    ap (bytes_high_first n) (sym same) ∙ bytes_high_first-big_from n (take n xs) len (AreOctets-take n xs small)
