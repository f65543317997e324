-- A bad line breaks each script that the lines before it begin; lines say one list of statements.
use Rattle.std.{proofs.Common.{◌≡◌, ℕ, List, [], ◌∷◌, ◌++◌, inl, inr, refl, sym, ap, subst, ◌∙◌, append_assoc, append-nil}, specs.List.{AllByRecursion}}
use Rattle.script_lines.{specs.{declared.reason.Reason.{Reason}, Kind.{Kind, IsLawfulKind}, Lines.{fields, lines_that_say, IsShort, IsPlain}, Script.{Say, Begins, IsWrong, IsBadLine}}, proofs.{Begun.{lines_that_say-append, stated}, Firsts.{First-holds}}}

short_inside : (before : List (List ℕ)) (line : List ℕ) (after : List (List ℕ)) → AllByRecursion IsShort (before ++ line ∷ after) → IsShort line
short_inside [] line after all = all.0
short_inside (l ∷ before) line after all = short_inside before line after all.1

module _ {S W : Type 0} (kind : Kind S W) (lawful : IsLawfulKind kind) where
  say_once : (past one other : List S) (ls : List (List ℕ)) → Say kind past one ls → Say kind past other ls → one ≡ other
  say_once past [] [] [] h k = refl
  say_once past [] (y ∷ ys) [] h k = absurd k
  say_once past (x ∷ xs) other [] h k = absurd h
  say_once past [] other (l ∷ ls) h k = absurd h
  say_once past (x ∷ xs) [] (l ∷ ls) h k = absurd k
  say_once past (x ∷ xs) (y ∷ ys) (l ∷ ls) h k =
      let same = lawful.one_statement past x y (fields l) h.1 k.1 in
      rw (same, say_once (past ++ y ∷ []) xs ys ls (subst (λ (one : S). Say kind (past ++ one ∷ []) xs ls) same h.2) k.2) refl

  pub begun_once : (one other : List S) (ls : List (List ℕ)) → Begins kind one ls → Begins kind other ls → one ≡ other
  begun_once one other ls h k = say_once [] one other (lines_that_say ls) h.says k.says

  -- after these statements the line says something
  record SaysSome (past : List S) (line : List ℕ) : Type 0 where
    one : S
    plain : IsPlain line
    says : kind.Says past one (fields line)

  says_next : (past said said0 : List S) (before : List (List ℕ)) (line : List ℕ) (after : List (List ℕ)) → Say kind past said (before ++ line ∷ after)
      → Say kind past said0 before → SaysSome (past ++ said0) line
  says_next past [] [] [] line after h k = absurd h
  says_next past (x ∷ xs) [] [] line after h k = record {
    one = x;
    plain = h.0;
    says = subst (λ (p : List S). kind.Says p x (fields line)) (sym (append-nil past)) h.1;
  }
  says_next past said (y ∷ ys) [] line after h k = absurd k
  says_next past said [] (l ∷ before) line after h k = absurd k
  says_next past [] (y ∷ ys) (l ∷ before) line after h k = absurd h
  says_next past (x ∷ xs) (y ∷ ys) (l ∷ before) line after h k =
      let same = lawful.one_statement past x y (fields l) h.1 k.1 in
      subst (λ (p : List S). SaysSome p line) (append_assoc past (y ∷ []) ys)
      (says_next (past ++ y ∷ []) xs ys before line after
      (subst (λ (one : S). Say kind (past ++ one ∷ []) xs (before ++ line ∷ after)) same h.2) k.2)

  nothing_wrong : (past : List S) (line : List ℕ) (reason : Reason) → SaysSome past line → IsWrong kind past line reason → ⊥
  nothing_wrong past line reason some (inl octet) = octet.0 some.plain
  nothing_wrong past line reason some (inr fails) =
      lawful.no_statement past some.one (fields line) reason some.says (First-holds (kind.Fails past (fields line)) kind.order reason fails.1)

  pub bad_line_breaks : (said said0 : List S) (before : List (List ℕ)) (line : List ℕ) (after : List (List ℕ)) (reason : Reason)
      → Begins kind said (before ++ line ∷ after) → Begins kind said0 before → IsBadLine kind said0 line reason → ⊥
  bad_line_breaks said said0 before line after reason h k (inl long) = long.0 (short_inside before line after h.short)
  bad_line_breaks said said0 before line after reason h k (inr wrong) =
      let parts = lines_that_say-append before (line ∷ after) ∙ ap (λ (ls : List (List ℕ)). lines_that_say before ++ ls) (stated line after wrong.1) in
      nothing_wrong said0 line reason
      (says_next [] said said0 (lines_that_say before) line (lines_that_say after) (subst (Say kind [] said) parts h.says) k.says) wrong.2
