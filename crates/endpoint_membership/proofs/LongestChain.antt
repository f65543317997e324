-- The live chain holds the records of the longest unbroken prefix of a pair's renewals.
use Rattle.std.proofs.{Common.{◌≡◌, ℕ, ◌+◌, ◌≤◌, Bool, true, false, cond, ltb, List, [], ◌∷◌, ◌++◌, length, refl, sym, ap, subst, arith, inl, inr}, lemmas.Bool.{cases_Bool, ltb-true, lt-ltb}}
use Rattle.source_filter.specs.declared.record.Record.{Record}
use Rattle.endpoint_membership.specs.{declared.change.Change.{Change}, Chain.{IsLongestChain, IsUnbroken, Renewal, records_of, renewals}, Log.{concerns, latest, live_chain, records_at}, EndpointGroup.{EndpointGroup}}

-- the renewals up to the first gap of a lifetime, and those after it
abbrev prefix_by : ℕ → ℕ → List Renewal → List Renewal
prefix_by lifetime moment [] = []
prefix_by lifetime moment (newest ∷ older) = cond (ltb moment (newest.moment + lifetime)) (newest ∷ prefix_by lifetime newest.moment older) []

abbrev following : ℕ → ℕ → List Renewal → List Renewal
following lifetime moment [] = []
following lifetime moment (newest ∷ older) = cond (ltb moment (newest.moment + lifetime)) (following lifetime newest.moment older) (newest ∷ older)

parts : (lifetime moment : ℕ) (all : List Renewal) → all ≡ prefix_by lifetime moment all ++ following lifetime moment all
parts lifetime moment [] = refl
parts lifetime moment (newest ∷ older) = elim (cases_Bool (ltb moment (newest.moment + lifetime))) [
  | inl fresh ↦ rw fresh (ap (λ (rest : List Renewal). newest ∷ rest) (parts lifetime newest.moment older))
  | inr stale ↦ rw stale refl
]

unbroken_by : (lifetime moment : ℕ) (all : List Renewal) → IsUnbroken lifetime moment (prefix_by lifetime moment all)
unbroken_by lifetime moment [] = tt
unbroken_by lifetime moment (newest ∷ older) = elim (cases_Bool (ltb moment (newest.moment + lifetime))) [
  | inl fresh ↦ rw fresh (ltb-true _ _ fresh, unbroken_by lifetime newest.moment older)
  | inr stale ↦ rw stale tt
]

-- an unbroken prefix reaches no further
reaches : (lifetime moment : ℕ) (other rest : List Renewal) → IsUnbroken lifetime moment other → length other ≤ length (prefix_by lifetime moment (other ++ rest))
reaches lifetime moment [] rest unbroken = omega arith
reaches lifetime moment (newest ∷ other) rest unbroken =
    let older = reaches lifetime newest.moment other rest unbroken.1 in
    rw (lt-ltb _ _ unbroken.0) (omega (arith, older))

records_by : (fresh : Bool) (newest : Renewal) (older : List Renewal) (chain : List Record) → chain ≡ records_of older
    → cond fresh (newest.records ++ chain) [] ≡ records_of (cond fresh (newest ∷ older) [])
records_by true newest older chain is = ap (λ (records : List Record). newest.records ++ records) is
records_by false newest older chain is = refl

live_chain-is : (lifetime : ℕ) (endpoint_group : EndpointGroup) (moment : ℕ) (past : List Change)
    → live_chain lifetime endpoint_group moment past ≡ records_of (prefix_by lifetime moment (renewals endpoint_group past))
live_chain-is lifetime endpoint_group moment [] = refl
live_chain-is lifetime endpoint_group moment (entry ∷ older) = elim (cases_Bool (concerns endpoint_group entry)) [
  | inl some ↦ rw some (records_by (ltb moment (latest (entry ∷ older) + lifetime)) (record { moment = latest (entry ∷ older); records = records_at endpoint_group entry })
      (prefix_by lifetime (latest (entry ∷ older)) (renewals endpoint_group older)) (live_chain lifetime endpoint_group (latest (entry ∷ older)) older) (live_chain-is lifetime endpoint_group (latest (entry ∷ older)) older))
  | inr none ↦ rw none (live_chain-is lifetime endpoint_group moment older)
]

pub IsLongestChain-live_chain : (lifetime : ℕ) (endpoint_group : EndpointGroup) (moment : ℕ) (past : List Change) → IsLongestChain lifetime endpoint_group moment past (live_chain lifetime endpoint_group moment past)
IsLongestChain-live_chain lifetime endpoint_group moment past =
    let all = renewals endpoint_group past in record {
      prefix = prefix_by lifetime moment all;
      before = following lifetime moment all;
      is_prefix = parts lifetime moment all;
      unbroken = unbroken_by lifetime moment all;
      longest = λ other rest is unbroken. subst (λ (whole : List Renewal). length other ≤ length (prefix_by lifetime moment whole)) (sym is) (reaches lifetime moment other rest unbroken);
      are_its = live_chain-is lifetime endpoint_group moment past;
    }
