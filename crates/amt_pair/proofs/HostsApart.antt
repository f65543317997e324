-- Gateways that are apart: one more, and those of one name, of one peer or at one endpoint.
use Rattle.std.{proofs.{Common.{◌≡◌, ◌≢◌, ℕ, ◌<◌, ◌||◌, true, false, List, [], ◌∷◌, ◌++◌, map, length, get_or, All, AllPairs, Contains, Some, None, Option, sym, ap, ◌∙◌, subst, subst₂, arith, true≢false, inl, inr}, lemmas.{Bool.{cases_order, or_left, or_right}, List.{get_or_default, get_or-map, length-map, Folds.{list_any_at}, Quantifiers.{all_pairs_push}}}}, specs.Cmp.{nat_eq_equiv, Lexicographic.{lists_equiv, same_text}}}
use Rattle.amt_values.{specs.{Endpoint.{endpoint_of}, EndpointValue.{EndpointValue}, Order.{endpoint_order}, declared.peer.Peer.{Peer}}, proofs.{AscendingLaws.{Equal-from_test}, Orders.{endpoint_order-exact}}}
use Rattle.gateway_machine.specs.Answers.{same_peer}
use Rattle.socket_merge.specs.History.{same_name}
use Rattle.amt_pair.{specs.{OwnEndpoints.{HasOwnEndpoint}, Schedule.{Member, has_name, is_at, is_endpoint}, Setup.{AreApart, Host, has_taken}}, proofs.{Alone.{PassesOnce}, HeardQueries.{same_peer-is, same_peer-itself}, MembersAt.{host_at}}}

-- with one more whose name and peer are free they are apart still
pub apart_more : (hosts : List Host) (host : Host) → AreApart hosts → has_taken host.name host.peer hosts ≡ false → AreApart (hosts ++ host ∷ [])
apart_more hosts host apart free = record {
  names = all_pairs_push (λ (one : Host) (other : Host). one.name ≢ other.name) hosts host apart.names (λ k d below same.
      let one = get_or hosts k d in
      let is : same_name host.name one.name ≡ true = ap (same_name host.name) same ∙ (lists_equiv nat_eq_equiv).refl host.name in
      not-taken k d below (or_left (same_name host.name one.name) (same_peer one.peer host.peer) is));
  peers = all_pairs_push (λ (one : Host) (other : Host). one.peer ≢ other.peer) hosts host apart.peers (λ k d below same.
      let one = get_or hosts k d in
      let is : same_peer one.peer host.peer ≡ true = ap (λ (peer : Peer). same_peer peer host.peer) same ∙ same_peer-itself host.peer in
      not-taken k d below (or_right (same_name host.name one.name) (same_peer one.peer host.peer) is));
}
  where
    not-taken : (k : ℕ) (d : Host) → k < length hosts → (same_name host.name (get_or hosts k d).name || same_peer (get_or hosts k d).peer host.peer) ≡ true → ⊥
    not-taken k d below is =
        true≢false (sym (list_any_at (λ (one : Host). same_name host.name one.name || same_peer one.peer host.peer) hosts k d below is) ∙ free)

-- none are apart
pub none_apart : AreApart []
none_apart = record { names = λ i j d low within. absurd (omega arith); peers = λ i j d low within. absurd (omega arith) }

found_by : (endpoint : EndpointValue) (found : Option EndpointValue) → is_endpoint endpoint found ≡ true → found ≡ Some endpoint
found_by endpoint None is = cc
found_by endpoint (Some other) is = ap Some (sym (endpoint_order-exact endpoint other (Equal-from_test (endpoint_order endpoint other) is)))

-- two peers that the endpoint is of are one
pub peers_at : (endpoint : EndpointValue) (one other : Peer) → HasOwnEndpoint one → HasOwnEndpoint other
    → is_endpoint endpoint (endpoint_of one) ≡ true → is_endpoint endpoint (endpoint_of other) ≡ true → one ≡ other
peers_at endpoint one other own other_own is other_is =
    sym (own endpoint (found_by endpoint (endpoint_of one) is)) ∙ other_own endpoint (found_by endpoint (endpoint_of other) other_is)

-- what no two items' images are, no two items are
pub apart_back : {X Y : Type 0} (f : X → Y) (R : Y → Y → Type 0) (xs : List X) → AllPairs R (map f xs) → AllPairs (λ one other. R (f one) (f other)) xs
apart_back f R xs apart i j d low high = subst₂ R (get_or-map f xs i d (f d) (omega arith)) (get_or-map f xs j d (f d) high) (apart i j (f d) low (omega (arith, length-map xs f)))

module _ (members : List Member) (apart : AreApart (map host_at members)) where
  -- no two gateways have the name
  pub once_by_name : (name : List ℕ) → PassesOnce (has_name name) members
  once_by_name name i j d low high one other =
      apart_back host_at (λ one other. one.name ≢ other.name) members apart.names i j d low high (sym (same_text name _ (sym one)) ∙ same_text name _ (sym other))

  -- or the peer
  pub once_by_peer : (peer : Peer) → PassesOnce (λ member. same_peer peer member.host.peer) members
  once_by_peer peer i j d low high one other =
      apart_back host_at (λ one other. one.peer ≢ other.peer) members apart.peers i j d low high (sym (same_peer-is peer _ one) ∙ same_peer-is peer _ other)

  -- or are at the endpoint
  pub once_by_endpoint : (endpoint : EndpointValue) → All (λ host. HasOwnEndpoint host.peer) (map host_at members) → PassesOnce (is_at endpoint) members
  once_by_endpoint endpoint own i j d low high one other =
      apart_back host_at (λ one other. one.peer ≢ other.peer) members apart.peers i j d low high
      (peers_at endpoint _ _ (own_at i (omega arith)) (own_at j high) one other)
    where
      own_at : (k : ℕ) → k < length members → HasOwnEndpoint (get_or members k d).host.peer
      own_at k below = subst (λ (host : Host). HasOwnEndpoint host.peer) (get_or-map host_at members k d (host_at d) below) (own k (host_at d) (omega (arith, length-map members host_at)))

-- two gateways of one name are one
pub one-name : (hosts : List Host) (one other : Host) → AreApart hosts → Contains hosts one → Contains hosts other → one.name ≡ other.name → one ≡ other
one-name hosts one other apart (i, low, here) (j, high, there) same =
    let name : Host → List ℕ = λ host. host.name in
    let again : get_or hosts j one ≡ other = get_or_default hosts j one other high ∙ there in
    elim (cases_order i j) [
      | inl place ↦ sym here ∙ ap (λ (k : ℕ). get_or hosts k one) place ∙ again
      | inr (inl before) ↦ absurd (apart.names i j one before high (ap name here ∙ same ∙ ap name (sym again)))
      | inr (inr later) ↦ absurd (apart.names j i one later low (ap name again ∙ sym same ∙ ap name (sym here)))
    ]
