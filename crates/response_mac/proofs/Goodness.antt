-- The test of a response MAC says whether it is good.
use Rattle.std.{proofs.{Common.{◌≡◌, ℕ, Bool, true, false, ◌||◌, ◌⊎◌, inl, inr, ⊎_elim, List, refl, ap}, lemmas.{List.Folds.{Any-from_list_any, list_any-from_Any}, Slice.Eq.{bytes_eq-Decides}}}, specs.{Bool.{Decides}, List.{Any}}}
use Rattle.amt_values.specs.{EndpointValue.{EndpointValue}, declared.mac.Mac48.{Mac48}}
use Rattle.response_mac.specs.{ResponseMac.{IsGood, SecretsValue, gives, is_good, mac_of, same_mac}, declared.secret.Secret.{Secret}}

same_mac-true : (one other : Mac48) → Decides (same_mac one other) (one ≡ other)
same_mac-true one other =
    let test = bytes_eq-Decides one.0 other.0 in
    (λ same. ap (λ (octets : List ℕ). record { 0 = octets }) (test.0 same), λ same. test.1 (ap (λ (mac : Mac48). mac.0) same))

either_true : (one other : Bool) → (one || other) ≡ true → (one ≡ true) ⊎ (other ≡ true)
either_true true other holds = inl refl
either_true false other holds = inr holds

one_true : (one other : Bool) → (one ≡ true) ⊎ (other ≡ true) → (one || other) ≡ true
one_true true other either = refl
one_true false other (inl holds) = cc
one_true false other (inr holds) = holds

any_weaker : {X : Type 0} (P Q : X → Type 0) (xs : List X) → ((x : X) → P x → Q x) → Any P xs → Any Q xs
any_weaker P Q xs weaker some = (some.0, some.1, some.2, some.3, weaker some.1 some.4)

pub is_good-true : (secrets : SecretsValue) (endpoint : EndpointValue) (nonce : ℕ) (mac : Mac48) → Decides (is_good secrets endpoint nonce mac) (IsGood secrets endpoint nonce mac)
is_good-true secrets endpoint nonce mac =
    let current = same_mac-true mac (mac_of secrets.current endpoint nonce) in
    let test : Secret → Bool = λ older. gives older endpoint nonce mac in
    let Given : Secret → Type 0 = λ older. mac ≡ mac_of older endpoint nonce in
    let found = any_weaker (λ older. test older ≡ true) Given secrets.older (λ older. (same_mac-true mac (mac_of older endpoint nonce)).0) in
    let tested = any_weaker Given (λ older. test older ≡ true) secrets.older (λ older. (same_mac-true mac (mac_of older endpoint nonce)).1) in (
      λ good. ⊎_elim (λ given. inl (current.0 given)) (λ given. inr (found (Any-from_list_any test secrets.older given))) (either_true _ _ good),
      λ good. one_true _ _ (⊎_elim (λ given. inl (current.1 given)) (λ given. inr (list_any-from_Any test secrets.older (tested given))) good),
    )
