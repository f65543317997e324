-- The askings of a burst so far.
use Rattle.std.{proofs.Common.{◌≡◌, ◌<◌, ◌+◌, ℕ, List, [], ◌∷◌, ◌++◌, length, inl, inr, ⊎_elim, refl, sym, ap, subst, ◌∙◌, append-nil, length-append, arith}, specs.Prelude.{Ok, Err}}
use Rattle.amt_ports.{specs.{Bursts.{AreAsked, AskedSo, Asking, CameAll, IsBegun, IsNext}, declared.{asked.Asked.{Asked, TheVariants.{Something, Nothing}}, end.End.{End, TheVariants.{Closed}}}}, proofs.{Bursts.{CameAll-push}, EndCauses.{not_cause, same_cause}}}

-- so often the device was asked, and each time something came
pub record SoFar {S A : Type 0} (asking : Asking S A) (before after : S) (count : ℕ) : Type 0 where
  pub answers : List A
  pub goes : asking.Goes before after answers
  pub came : CameAll asking.kinds answers
  pub as_many : length answers ≡ count
  pub calm : asking.faults after ≡ asking.faults before

-- two lots of answers in a row
abbrev pub GoesOn : {S A : Type 0} → (S → S → List A → Type 0) → Type 0
GoesOn {S} {A} Goes = (before now after : S) (answers more : List A) → Goes before now answers → Goes now after more → Goes before after (answers ++ more)

module _ {S A : Type 0} (asking : Asking S A) where
  -- it wasn't asked yet
  pub none_asked : (seen : S) → asking.Goes seen seen [] → SoFar asking seen seen 0
  none_asked seen goes = record { answers = []; goes = goes; came = tt; as_many = refl; calm = refl }

  -- all 64 times something came
  pub all_asked : (before after : S) (count : ℕ) → count ≡ 64 → SoFar asking before after count → AskedSo asking AreAsked before after (Ok tt)
  all_asked before after count full sofar = record {
    answers = sofar.answers;
    goes = sofar.goes;
    ends = (sofar.answers, sofar.came, inl (refl, sofar.as_many ∙ full));
    cause = not_cause _ _ _ _ (λ is. cc) sofar.calm;
  }

  module _ (on : GoesOn asking.Goes) (before now after : S) (count : ℕ) (sofar : SoFar asking before now count) where
    -- something came once more
    pub one_more : (asked : Asked) → asked ≡ Something → AskedSo asking IsNext now after (Ok asked) → SoFar asking before after (count + 1)
    one_more Nothing is next = absurd (cc is)
    one_more Something is next = record {
      answers = sofar.answers ++ next.answers;
      goes = on before now after sofar.answers next.answers sofar.goes next.goes;
      came = subst (λ (list : List A). CameAll asking.kinds (sofar.answers ++ list)) (sym next.ends.2) (CameAll-push asking.kinds sofar.answers next.ends.0 sofar.came next.ends.1);
      as_many = length-append sofar.answers next.answers ∙ (λ i. sofar.as_many i + length (next.ends.2 i));
      calm = next.cause.calm (λ is. cc) ∙ sofar.calm;
    }

    -- there was nothing more
    pub then_nothing : (asked : Asked) → asked ≡ Nothing → count < 64 → AskedSo asking IsNext now after (Ok asked) → AskedSo asking AreAsked before after (Ok tt)
    then_nothing Something is few next = absurd (cc is)
    then_nothing Nothing is few next = record {
      answers = sofar.answers ++ next.answers;
      goes = on before now after sofar.answers next.answers sofar.goes next.goes;
      ends = (sofar.answers, sofar.came, inr (ap (λ (list : List A). sofar.answers ++ list) next.ends, omega (arith, sofar.as_many, few)));
      cause = not_cause _ _ _ _ (λ is. cc) (next.cause.calm (λ is. cc) ∙ sofar.calm);
    }

    -- the run ended
    pub then_ends : (end : End) → count < 64 → AskedSo asking IsNext now after (Err end) → AskedSo asking AreAsked before after (Err end)
    then_ends end few next =
        let begun : IsBegun asking.kinds sofar.answers = (sofar.came, omega (arith, sofar.as_many, few)) in record {
          answers = sofar.answers ++ next.answers;
          goes = on before now after sofar.answers next.answers sofar.goes next.goes;
          ends = ⊎_elim (λ (closed : (end ≡ Closed) × (next.answers ≡ asking.kinds.closed ∷ [])). inl (closed.0, (sofar.answers, begun, ap (λ (list : List A). sofar.answers ++ list) closed.1)))
              (λ (failed : (end ≡ asking.fault) × (next.answers ≡ [])). inr (failed.0, subst (IsBegun asking.kinds) (sym (ap (λ (list : List A). sofar.answers ++ list) failed.1 ∙ append-nil sofar.answers)) begun)) next.ends;
          cause = same_cause end asking.fault _ _ _ sofar.calm next.cause;
        }
