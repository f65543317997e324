-- Octets spell one script of a kind, or have one fault.
use Rattle.std.{proofs.Common.{◌≡◌, ℕ, ◌+◌, ◌⊎◌, List, [], ◌∷◌, ◌++◌, length, inl, inr, refl, sym, ap, subst, ◌∙◌}, specs.Str.Lines.{lines}}
use Rattle.script_lines.{specs.{declared.{fault.ScriptError.{ScriptError}, reason.Reason.{Reason}}, Kind.{Kind, IsLawfulKind}, Lines.{fields}, Script.{Begins, Spells, IsWrong, IsBadLine, IsFaultAt, IsFaultInLine, IsFaultAtEnd, IsErrorOf, RulesOutScripts, HasOneScript, HasOneFault}}, proofs.{Bad.{bad_line_breaks, begun_once}, Firsts.{First-holds, First-unique}}}
use Rattle.script_lines.specs.declared.fault.ScriptError.TheVariants as errors
use Rattle.amt_values.specs.Conditions.{First}

record AreEqual (before before' : List (List ℕ)) (line line' : List ℕ) : Type 0 where
  lists : before ≡ before'
  last : line ≡ line'

-- the first list, with the line after it, is a prefix of the other
abbrev IsPrefix : List (List ℕ) → List ℕ → List (List ℕ) → Type 0
IsPrefix before line other = (more : List (List ℕ)) × (other ≡ before ++ line ∷ more)

deeper : (x y : List ℕ) (before before' : List (List ℕ)) (line line' : List ℕ) → x ≡ y
    → AreEqual before before' line line' ⊎ (IsPrefix before line before' ⊎ IsPrefix before' line' before)
    → AreEqual (x ∷ before) (y ∷ before') line line' ⊎ (IsPrefix (x ∷ before) line (y ∷ before') ⊎ IsPrefix (y ∷ before') line' (x ∷ before))
deeper x y before before' line line' same (inl equal) = inl (record { lists = rw (same, equal.lists) refl; last = equal.last })
deeper x y before before' line line' same (inr (inl prefix)) = inr (inl (prefix.0, rw (same, prefix.1) refl))
deeper x y before before' line line' same (inr (inr prefix)) = inr (inr (prefix.0, rw (same, prefix.1) refl))

meet : (before before' : List (List ℕ)) (line line' : List ℕ) (after after' : List (List ℕ)) → before ++ line ∷ after ≡ before' ++ line' ∷ after'
    → AreEqual before before' line line' ⊎ (IsPrefix before line before' ⊎ IsPrefix before' line' before)
meet [] [] line line' after after' same = inl (record { lists = refl; last = cc })
meet [] (y ∷ before') line line' after after' same = let here : y ≡ line = cc in inr (inl (before', rw here refl))
meet (x ∷ before) [] line line' after after' same = let here : x ≡ line' = cc in inr (inr (before, rw here refl))
meet (x ∷ before) (y ∷ before') line line' after after' same =
    let here : x ≡ y = cc in
    let others : before ++ line ∷ after ≡ before' ++ line' ∷ after' = cc in
    deeper x y before before' line line' here (meet before before' line line' after after' others)

abbrev IsOne : ℕ → ℕ → Reason → Reason → Type 0
IsOne line line' reason reason' = (line ≡ line') × (reason ≡ reason')

module _ {S W : Type 0} (kind : Kind S W) (lawful : IsLawfulKind kind) where
  pub one_script : HasOneScript kind
  one_script bytes one other h k =
      let same = begun_once kind lawful h.said k.said (lines bytes) h.all_lines k.all_lines in
      lawful.one_script k.said one other (subst (λ (said : List S). kind.Makes said one) same h.made) k.made

  fault_rules_out : (bytes : List ℕ) (line : ℕ) (reason : Reason) (script : W) → IsFaultAt kind line reason bytes → Spells kind script bytes → ⊥
  fault_rules_out bytes line reason script (inl fault) spelled =
      bad_line_breaks kind lawful spelled.said fault.said fault.before fault.line fault.after reason
      (subst (Begins kind spelled.said) fault.parts spelled.all_lines) fault.begun fault.bad
  fault_rules_out bytes line reason script (inr fault) spelled =
      let same = begun_once kind lawful spelled.said fault.said (lines bytes) spelled.all_lines fault.begun in
      lawful.no_script fault.said script reason (subst (λ (said : List S). kind.Makes said script) same spelled.made)
      (First-holds (kind.FailsAtEnd fault.said) kind.order_at_end reason fault.first)

  pub error_rules_out : (bytes : List ℕ) (error : ScriptError) → IsErrorOf kind bytes error → RulesOutScripts kind bytes error
  error_rules_out bytes (errors.Fault line reason) fault = λ script spelled. fault_rules_out bytes line reason script fault spelled
  error_rules_out bytes errors.Memory fault = tt

  one_wrong : (past : List S) (line : List ℕ) (r r' : Reason) → IsWrong kind past line r → IsWrong kind past line r' → r ≡ r'
  one_wrong past line r r' (inl h) (inl k) = h.1 ∙ sym k.1
  one_wrong past line r r' (inl h) (inr k) = absurd (h.0 k.0)
  one_wrong past line r r' (inr h) (inl k) = absurd (k.0 h.0)
  one_wrong past line r r' (inr h) (inr k) = First-unique (kind.Fails past (fields line)) kind.order r r' h.1 k.1

  one_reason : (past : List S) (line : List ℕ) (r r' : Reason) → IsBadLine kind past line r → IsBadLine kind past line r' → r ≡ r'
  one_reason past line r r' (inl h) (inl k) = h.1 ∙ sym k.1
  one_reason past line r r' (inl h) (inr k) = absurd (h.0 k.0)
  one_reason past line r r' (inr h) (inl k) = absurd (k.0 h.0)
  one_reason past line r r' (inr h) (inr k) = one_wrong past line r r' h.2 k.2

  faults_meet : (ls : List (List ℕ)) (n n' : ℕ) (r r' : Reason) (f : IsFaultInLine kind n r ls) (g : IsFaultInLine kind n' r' ls)
      → AreEqual f.before g.before f.line g.line ⊎ (IsPrefix f.before f.line g.before ⊎ IsPrefix g.before g.line f.before) → IsOne n n' r r'
  faults_meet ls n n' r r' f g (inl equal) =
      let same = begun_once kind lawful f.said g.said g.before (subst (Begins kind f.said) equal.lists f.begun) g.begun in (
        f.counted ∙ (ap (λ (before : List (List ℕ)). length before + 1) equal.lists ∙ sym g.counted),
        one_reason g.said g.line r r'
            (subst (λ (line : List ℕ). IsBadLine kind g.said line r) equal.last (subst (λ (said : List S). IsBadLine kind said f.line r) same f.bad)) g.bad,
      )
  faults_meet ls n n' r r' f g (inr (inl prefix)) =
      absurd (bad_line_breaks kind lawful g.said f.said f.before f.line prefix.0 r (subst (Begins kind g.said) prefix.1 g.begun) f.begun f.bad)
  faults_meet ls n n' r r' f g (inr (inr prefix)) =
      absurd (bad_line_breaks kind lawful f.said g.said g.before g.line prefix.0 r' (subst (Begins kind f.said) prefix.1 f.begun) g.begun g.bad)

  line_or_end : {P : Type 0} (ls : List (List ℕ)) (n n' : ℕ) (r r' : Reason) → IsFaultInLine kind n r ls → IsFaultAtEnd kind n' r' ls → P
  line_or_end ls n n' r r' f g =
      absurd (bad_line_breaks kind lawful g.said f.said f.before f.line f.after r (subst (Begins kind g.said) f.parts g.begun) f.begun f.bad)

  pub one_fault : HasOneFault kind
  one_fault bytes n n' r r' (inl f) (inl g) =
      faults_meet (lines bytes) n n' r r' f g (meet f.before g.before f.line g.line f.after g.after (sym f.parts ∙ g.parts))
  one_fault bytes n n' r r' (inl f) (inr g) = line_or_end (lines bytes) n n' r r' f g
  one_fault bytes n n' r r' (inr f) (inl g) = line_or_end (lines bytes) n' n r' r g f
  one_fault bytes n n' r r' (inr f) (inr g) =
      let same = begun_once kind lawful f.said g.said (lines bytes) f.begun g.begun in (
        f.counted ∙ sym g.counted,
        First-unique (kind.FailsAtEnd g.said) kind.order_at_end r r'
            (subst (λ (said : List S). First (kind.FailsAtEnd said) kind.order_at_end r) same f.first) g.first,
      )
