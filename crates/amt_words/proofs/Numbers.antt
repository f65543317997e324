-- A required number that a parse found, in a command of two arguments.
use Rattle.std.{proofs.{Common.{◌≡◌, ◌∙◌, ◌⊎◌, ◌<◌, ◌≤◌, ◌+◌, ◌++◌, ◌||◌, ℕ, zero, suc, true, false, List, [], ◌∷◌, length, Some, codes, refl, sym, subst, ap, inl, inr, arith}, lemmas.{List.Elements.{All-nil}, Slice.Eq.{bytes_eq-Decides}}}, specs.{Prelude.{pos}, List.{All, slice_index_or}, Str.{bytes_eq}}}
use Rattle.clap.specs.{Words.{AddsArg, IsParsedFrom, IsPlain, IsPlainArg, SameRules, Text, args_of, found_of, groups_of, one_text, without_minus}, Built.{TakesValue}, Facts.{least_values}, declared.builder.action.ArgAction.TheVariants.{Set}}
use Rattle.clap.{specs.declared.{builder.{arg.Arg.{Arg}, command.Command.{Command, TheViews.{out-Command}}, value_parser.ValueParser.TheVariants.{Signed}}, parser.matches.ArgMatches.{ArgMatches}}, proofs.{CallerLemmas.{added_plain}, CallerReads.{required_reads}}}
use Rattle.amt_words.specs.Given.{HasNumber}

pub same_value : (a x : Arg) → SameRules a x → TakesValue a → TakesValue x
same_value a x r t = (r.required ∙ t.0, r.action Set t.1, r.val_delim ∙ t.2, r.least t.1 t.3)

-- of the arguments from place p on, the one at place k alone may have this id
abbrev pub IsOnly : ℕ → Text → ℕ → List Arg → Type 0
IsOnly k id p [] = Unit {0}
IsOnly k id p (x ∷ xs) = ((bytes_eq x.id.now id ≡ false) ⊎ (p ≡ k)) × IsOnly k id (suc p) xs

only_from : (k : ℕ) (id : Text) (p : ℕ) (args : List Arg) → IsOnly k id p args → (j : ℕ) (e : Arg) → j < length args
    → bytes_eq (slice_index_or args j e).id.now id ≡ true → p + j ≡ k
only_from k id p [] only j e lt eq = absurd (omega arith)
only_from k id p (x ∷ xs) only zero e lt eq = elim only.0 [
  | inl differs ↦ let both : false ≡ true = sym differs ∙ eq in absurd (cc both)
  | inr is ↦ omega (arith, is)
]
only_from k id p (x ∷ xs) only (suc j) e lt eq =
    let later = only_from k id (suc p) xs only.1 j e (omega arith) eq in omega (arith, later)

pub only_at : (k : ℕ) (id : Text) (args : List Arg) → IsOnly k id 0 args → (j : ℕ) (e : Arg) → j < length args → bytes_eq (slice_index_or args j e).id.now id ≡ true → j ≡ k
only_at k id args only j e lt eq = omega (arith, only_from k id 0 args only j e lt eq)

-- no argument that every command has is called so
abbrev pub IsOwnId : Text → Type 0
IsOwnId id = (bytes_eq id [] ≡ false) × (bytes_eq id (codes "help") ≡ false) × (bytes_eq id (codes "version") ≡ false)

pub text_differs : (a b : Text) → bytes_eq a b ≡ false → a ≡ b → ⊥
text_differs a b differ same = let no : false ≡ true = sym differ ∙ (bytes_eq-Decides a b).1 same in cc no

-- the required argument at place k has a number
number_at : (cmd : Command) (m : ArgMatches) → IsParsedFrom cmd m → IsPlain cmd
    → (out-Command cmd).has_globals ≡ false → (out-Command cmd).subcommand_negates_reqs ≡ false
    → (k : ℕ) (a : Arg) (id : Text) (least most : ℕ) → k < length (args_of cmd) → slice_index_or (args_of cmd) k a ≡ a
    → TakesValue a → a.value_parser ≡ Some (Signed (pos least) (pos most)) → a.id.now ≡ id
    → IsOnly k id 0 (args_of cmd) → IsOwnId id → HasNumber (found_of m) id least most
number_at cmd m p plain globals negates k a id least most lt at takes parser is only own =
    let same : (slice_index_or (args_of cmd) k a).id.now ≡ id = ap (λ (x : Arg). x.id.now) at ∙ is in
    let read = required_reads cmd m p plain globals negates k a lt
    (ap (λ (x : Arg). x.required) at ∙ takes.0)
    (ap (λ (x : Arg). x.action) at ∙ takes.1)
    (ap (λ (x : Arg). x.val_delim) at ∙ takes.2)
    (subst (λ (x : Arg). 1 ≤ least_values x) (sym at) takes.3)
    (λ j e low eq. only_at k id (args_of cmd) only j e low (subst (λ (t : Text). bytes_eq (slice_index_or (args_of cmd) j e).id.now t ≡ true) same eq))
    (λ empty. text_differs id [] own.0 (sym same ∙ empty))
    (λ auto. elim auto [ inl h ↦ text_differs id _ own.1 (sym same ∙ h) | inr h ↦ text_differs id _ own.2 (sym same ∙ h) ])
    (Signed (pos least) (pos most)) (ap (λ (x : Arg). x.value_parser) at ∙ parser) in
    (read.0, subst (λ (t : Text). one_text (found_of m) t ≡ Some (without_minus read.0)) same read.1, read.2)

-- a command of the two arguments SEED and N has a number of each
pub both_numbers : (start mid cmd : Command) (a b : Arg) (m : ArgMatches) → AddsArg start a mid → AddsArg mid b cmd
    → args_of start ≡ [] → groups_of start ≡ []
    → (out-Command start).has_globals ≡ false → (out-Command start).subcommand_negates_reqs ≡ false
    → IsPlainArg a → a.global ≡ false → TakesValue a → IsPlainArg b → b.global ≡ false → TakesValue b
    → a.id.now ≡ codes "SEED" → a.value_parser ≡ Some (Signed (pos 0) (pos 4294967295))
    → b.id.now ≡ codes "N" → b.value_parser ≡ Some (Signed (pos 1) (pos 65536))
    → IsParsedFrom cmd m
    → HasNumber (found_of m) (codes "SEED") 0 4294967295 × HasNumber (found_of m) (codes "N") 1 65536
both_numbers start mid cmd a b m first second args groups globals negates plain_a local_a takes_a plain_b local_b takes_b id_a parser_a id_b parser_b p =
    let x = first.arg in
    let y = second.arg in
    let list : args_of cmd ≡ x ∷ y ∷ [] =
    second.args ∙ ap (λ (l : List Arg). l ++ y ∷ []) (first.args ∙ ap (λ (l : List Arg). l ++ x ∷ []) args) in
    let plain_start : IsPlain start = (subst (All IsPlainArg) (sym args) (All-nil IsPlainArg), groups) in
    let plain_mid : IsPlain mid = added_plain start mid a first plain_start plain_a in
    let plain : IsPlain cmd = added_plain mid cmd b second plain_mid plain_b in
    let globals_mid = first.globals ∙ (ap (λ g. g || a.global) globals ∙ ap (λ g. false || g) local_a) in
    let globals_cmd = second.globals ∙ (ap (λ g. g || b.global) globals_mid ∙ ap (λ g. false || g) local_b) in
    let negates_cmd = second.negates ∙ (first.negates ∙ negates) in
    let id_x : x.id.now ≡ codes "SEED" = ap (λ i. i.now) first.rules.id ∙ id_a in
    let id_y : y.id.now ≡ codes "N" = ap (λ i. i.now) second.rules.id ∙ id_b in
    let two : length (args_of cmd) ≡ 2 = ap (λ (l : List Arg). length l) list in (
      number_at cmd m p plain globals_cmd negates_cmd 0 x (codes "SEED") 0 4294967295 (omega arith)
          (ap (λ (l : List Arg). slice_index_or l 0 x) list) (same_value a x first.rules takes_a)
          (first.rules.parser _ parser_a) id_x
          (subst (IsOnly 0 (codes "SEED") 0) (sym list) (inr refl, (inl (rw id_y refl), tt))) (refl, refl, refl),
      number_at cmd m p plain globals_cmd negates_cmd 1 y (codes "N") 1 65536 (omega arith)
          (ap (λ (l : List Arg). slice_index_or l 1 y) list) (same_value b y second.rules takes_b)
          (second.rules.parser _ parser_b) id_y
          (subst (IsOnly 1 (codes "N") 0) (sym list) (inl (rw id_x refl), (inr refl, tt))) (refl, refl, refl),
    )
