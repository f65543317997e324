-- How a pair's live chain goes on as entries come and time passes.
use Rattle.std.proofs.{Common.{◌≡◌, ℕ, ◌+◌, ◌≤◌, ◌<◌, Bool, true, false, cond, ltb, not, List, [], ◌∷◌, ◌++◌, refl, arith, inl, inr}, lemmas.Bool.{cases_Bool, ltb-true, lt-ltb}}
use Rattle.source_filter.specs.declared.record.Record.{Record}
use Rattle.endpoint_membership.specs.{declared.change.Change.{Change}, Log.{latest, records_at, is_empty, concerns, live_chain, renewed_at}, EndpointGroup.{EndpointGroup}}

-- an entry that makes no record on the pair changes nothing there
pub live_chain-other : (lifetime : ℕ) (endpoint_group : EndpointGroup) (moment : ℕ) (entry : Change) (past : List Change) → records_at endpoint_group entry ≡ []
    → live_chain lifetime endpoint_group moment (entry ∷ past) ≡ live_chain lifetime endpoint_group moment past
live_chain-other lifetime endpoint_group moment entry past none = rw none refl

pub renewed_at-other : (endpoint_group : EndpointGroup) (entry : Change) (past : List Change) → records_at endpoint_group entry ≡ []
    → renewed_at endpoint_group (entry ∷ past) ≡ renewed_at endpoint_group past
renewed_at-other endpoint_group entry past none = rw none refl

-- an entry that makes a record renews the pair
pub renewed_at-entry : (endpoint_group : EndpointGroup) (entry : Change) (past : List Change) → concerns endpoint_group entry ≡ true → renewed_at endpoint_group (entry ∷ past) ≡ latest (entry ∷ past)
renewed_at-entry endpoint_group entry past some = rw some refl

entry_by : (records rest : List Record) (live : Bool) → live ≡ true
    → cond (not (is_empty records)) (cond live (records ++ rest) []) rest ≡ records ++ rest
entry_by [] rest live fresh = refl
entry_by (newest ∷ older) rest live fresh = rw fresh refl

-- at its own moment an entry's records stand on top of the chain before it
pub live_chain-entry : (lifetime : ℕ) (endpoint_group : EndpointGroup) (entry : Change) (past : List Change) → 0 < lifetime
    → live_chain lifetime endpoint_group (latest (entry ∷ past)) (entry ∷ past) ≡ records_at endpoint_group entry ++ live_chain lifetime endpoint_group (latest (entry ∷ past)) past
live_chain-entry lifetime endpoint_group entry past some =
    entry_by (records_at endpoint_group entry) (live_chain lifetime endpoint_group (latest (entry ∷ past)) past) (ltb (latest (entry ∷ past)) (latest (entry ∷ past) + lifetime))
    (lt-ltb _ _ (omega arith))

either_way : (records : List Record) (test : Bool) → records ≡ cond test records records
either_way records true = refl
either_way records false = refl

later_by : (records rest : List Record) (then now : Bool) → (then ≡ true → now ≡ true)
    → cond then (records ++ rest) [] ≡ cond then (cond now (records ++ rest) []) []
later_by records rest true now onward = rw (onward refl) refl
later_by records rest false now onward = refl

-- as time passes a chain stays, or breaks off whole once the last renewal is a lifetime ago
pub live_chain-later : (lifetime : ℕ) (endpoint_group : EndpointGroup) (moment later : ℕ) (past : List Change) → moment ≤ later
    → live_chain lifetime endpoint_group later past ≡ cond (ltb later (renewed_at endpoint_group past + lifetime)) (live_chain lifetime endpoint_group moment past) []
live_chain-later lifetime endpoint_group moment later [] onward = either_way [] (ltb later (0 + lifetime))
live_chain-later lifetime endpoint_group moment later (entry ∷ older) onward = elim (cases_Bool (concerns endpoint_group entry)) [
  | inl some ↦ rw some (later_by (records_at endpoint_group entry) (live_chain lifetime endpoint_group (latest (entry ∷ older)) older)
      (ltb later (latest (entry ∷ older) + lifetime)) (ltb moment (latest (entry ∷ older) + lifetime))
      (λ fresh. lt-ltb _ _ (let below = ltb-true _ _ fresh in omega arith)))
  | inr none ↦ rw none (live_chain-later lifetime endpoint_group moment later older onward)
]
