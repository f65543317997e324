-- What the askings of a burst come to: at most 64 answers, and no other device's fault.
use Rattle.std.{proofs.Common.{◌≡◌, ◌≤◌, ◌<◌, List, [], ◌∷◌, ◌++◌, length, ⊎_elim, sym, ap, ◌∙◌, length-append, arith}, specs.Prelude.{Result, Ok, Err, IsErrOf}}
use Rattle.amt_ports.specs.{Bursts.{AnswerKinds, AreAsked, CameAll, IsBegun, IsBurst, IsClosed}, declared.end.End.{End, TheVariants.{Closed}}}

module _ {A : Type 0} (kinds : AnswerKinds A) where
  pub CameAll-push : (came : List A) (one : A) → CameAll kinds came → kinds.Came one → CameAll kinds (came ++ one ∷ [])
  CameAll-push [] one all it = (it, tt)
  CameAll-push (before ∷ came) one all it = (all.0, CameAll-push came one all.1 it)

  -- one answer more than so few
  one_over : (came answers : List A) (one : A) → answers ≡ came ++ one ∷ [] → length came < 64 → length answers ≤ 64
  one_over came answers one is few = omega (arith, ap length is, length-append came (one ∷ []), few)

  burst_few : (answers : List A) → IsBurst kinds answers → length answers ≤ 64
  burst_few answers burst =
      ⊎_elim (λ (all : (answers ≡ burst.0) × (length burst.0 ≡ 64)). omega (arith, ap length all.0, all.1))
      (λ (some : (answers ≡ burst.0 ++ kinds.nothing ∷ []) × (length burst.0 < 64)). one_over burst.0 answers kinds.nothing some.0 some.1) burst.2

  -- a device is asked at most 64 times in a turn
  pub few_asked : (fault : End) (result : Result (Unit {0}) End) (answers : List A) → AreAsked kinds fault result answers → length answers ≤ 64
  few_asked fault (Ok unit) answers asked = burst_few answers asked
  few_asked fault (Err end) answers asked =
      ⊎_elim (λ (closed : (end ≡ Closed) × IsClosed kinds answers). one_over closed.1.0 answers kinds.closed closed.1.2 closed.1.1.1)
      (λ (begun : (end ≡ fault) × IsBegun kinds answers). omega (arith, begun.1.1)) asked

  -- the fault of no other device ends its askings
  pub no_other : (fault : End) (result : Result (Unit {0}) End) (answers : List A) → AreAsked kinds fault result answers → (other : End) → (Closed ≡ other → ⊥) → (fault ≡ other → ⊥)
      → IsErrOf result other → ⊥
  no_other fault (Ok unit) answers asked other unlike apart is = cc is
  no_other fault (Err end) answers asked other unlike apart is =
      let same : end ≡ other = cc is in
      ⊎_elim (λ (closed : (end ≡ Closed) × IsClosed kinds answers). unlike (sym closed.0 ∙ same)) (λ (begun : (end ≡ fault) × IsBegun kinds answers). apart (sym begun.0 ∙ same)) asked
