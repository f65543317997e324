-- The first reason why the fields after `set` are bad.
use Rattle.std.proofs.Common.{◌≡◌, ◌↔◌, ◌⊎◌, ℕ, List, [], ◌∷◌, codes, IsSome, inl, inr, sym, ap, ◌∙◌}
use Rattle.script_lines.{specs.declared.reason.Reason.{Reason}, proofs.Firsts.{First-same}}
use Rattle.script_lines.specs.declared.reason.Reason.TheVariants as reasons
use Rattle.amt_values.specs.Conditions.{First}
use Rattle.amt_script.{specs.{declared.{kind.Key.{Key}, setting.Setting.{Setting}}, Fault.{FailsAs, order_of_values, order_of_reasons}, Row.{key_word, BeginsWithNoKey}, SetLine.{FailsInKey, FailsToSet, FailsToSetKey}, Setting.{set_at}}, proofs.Judging.{fails_as, twice_at}}
use Rattle.amt_script.specs.declared.kind.Kind.TheVariants as kinds

-- the line of these fields after `set`
set_with : (texts others : List (List ℕ)) → texts ≡ others → codes "set" ∷ texts ≡ codes "set" ∷ others
set_with texts others parts = ap (λ (ts : List (List ℕ)). codes "set" ∷ ts) parts

key_fails : (key : Key) (values texts : List (List ℕ)) (reason : Reason) → texts ≡ key_word key ∷ values → FailsInKey texts reason → FailsAs (kinds.Set key) values reason
key_fails key values texts reason parts fails =
    fails_as (kinds.Set key) values (codes "set" ∷ texts) reason (set_with texts (key_word key ∷ values) parts)
    (kinds.Set fails.0, fails.1, set_with texts (key_word fails.0 ∷ fails.1) fails.2, fails.3)

in_key : (key : Key) (values texts : List (List ℕ)) (reason : Reason) → texts ≡ key_word key ∷ values → FailsAs (kinds.Set key) values reason ↔ FailsInKey texts reason
in_key key values texts reason parts = (λ h. (key, values, parts, h), key_fails key values texts reason parts)

key_counted : (key : Key) (values texts : List (List ℕ)) → texts ≡ key_word key ∷ values → (texts ≡ []) ⊎ FailsInKey texts reasons.Count → FailsAs (kinds.Set key) values reasons.Count
key_counted key values texts parts (inl alone) = cc (sym alone ∙ parts)
key_counted key values texts parts (inr fails) = key_fails key values texts reasons.Count parts fails

is_key : (key : Key) (values texts : List (List ℕ)) → texts ≡ key_word key ∷ values → BeginsWithNoKey texts → ⊥
is_key key values texts parts none =
    let both = sym none.parts ∙ parts in
    let same : none.word ≡ key_word key = cc in
    none.no_key key same

key_twice : (given : List Setting) (key : Key) (values texts : List (List ℕ)) → texts ≡ key_word key ∷ values
    → (other : Key) (others : List (List ℕ)) → texts ≡ key_word other ∷ others → IsSome (set_at given other) → IsSome (set_at given key)
key_twice given key values texts parts other others twice set =
    twice_at given (codes "set" ∷ texts) key values (set_with texts (key_word key ∷ values) parts) other others (set_with texts (key_word other ∷ others) twice) set

pub key_judged : {I : Type 0} → (given : List Setting) (items : List I) (key : Key) (values texts : List (List ℕ)) (reason : Reason)
    → texts ≡ key_word key ∷ values
    → First (FailsToSetKey given items key values) (reasons.Late ∷ reasons.Twice ∷ order_of_values) reason
    → First (FailsToSet given items texts) order_of_reasons reason
key_judged given items key values texts reason parts first =
    inr (
      is_key key values texts parts,
      First-same (FailsToSetKey given items key values) (FailsToSet given items texts) (reasons.Late ∷ reasons.Twice ∷ order_of_values) reason (
        (λ late. late, λ late. late),
        (
          (λ twice. (key, values, parts, twice), λ twice. key_twice given key values texts parts twice.0 twice.1 twice.2 twice.3),
          (
            (λ h. inr (key, values, parts, h), key_counted key values texts parts),
            (
              in_key key values texts reasons.Number parts,
              (
                in_key key values texts reasons.Hex parts,
                (
                  in_key key values texts reasons.Address parts,
                  (
                    in_key key values texts reasons.Peer parts,
                    (
                      in_key key values texts reasons.Range parts,
                      tt,
                    ),
                  ),
                ),
              ),
            ),
          ),
        ),
      ) first,
    )
