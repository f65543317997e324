-- What a parse found, in a command of a required word and options.
use Rattle.std.{proofs.{Common.{◌≡◌, ◌∙◌, ◌<◌, ◌≤◌, ◌++◌, ◌||◌, ℕ, suc, true, false, List, [], ◌∷◌, length, Option, Some, None, codes, refl, sym, subst, ap, inl, inr, arith}, lemmas.{List.Elements.{All-get_or, All-nil}, Slice.Eq.{bytes_eq-Decides}}}, specs.{Prelude.{pos}, Borrow.{Bor}, List.{All, slice_index_or}, Str.{bytes_eq}}}
use Rattle.clap.specs.{Words.{Accepts, AddsArg, IsParsedFrom, IsPlain, IsPlainArg, IsSignedIn, Text, args_of, found_of, groups_of, has_subcommand, matched_of, one_text, reading_of, without_minus}, Built.{SameRules, TakesValue}, Facts.{least_values, Entry, EntryPasses, IsParsed, PassesArg, parser_of, parser_of_value}, declared.builder.arg.Arg.{Arg}}
use Rattle.clap.{specs.declared.{builder.{command.Command.{Command, TheViews.{out-Command}}, value_parser.{Reading.TheVariants.{WithoutMinus}, ValueParser.{ValueParser, TheVariants.{Signed}}}}, parser.matches.{ArgMatches.{ArgMatches}, Found.{Found}, MatchedArg.{MatchedArg}}}, proofs.CallerLemmas.{added_plain, entry_by_id, required_has_value, same_rules_by_id}}
use Rattle.amt_words.{specs.Given.{HasNumberIfAny, HasWord}, proofs.Numbers.{IsOnly, IsOwnId, only_at, same_value, text_differs}}

-- the text of an entry with this first value, read without a minus
text_at : (f : Found) (id : Text) (x : MatchedArg) (v : Bor Text) (rest : List (Bor Text)) → matched_of f id ≡ Some x → x.vals.items ≡ v ∷ rest
    → x.reading ≡ WithoutMinus → one_text f id ≡ Some (without_minus v.now)
text_at f id x v rest found vals how = rw (found, vals, how) refl

no_text : (f : Found) (id : Text) (x : MatchedArg) → matched_of f id ≡ Some x → x.vals.items ≡ [] → one_text f id ≡ None
no_text f id x found vals = rw (found, vals) refl

-- the argument at place k, with the parser of a number, has a number if it has a text
pub optional_number_at : (cmd : Command) (m : ArgMatches) → IsParsedFrom cmd m → IsPlain cmd → (out-Command cmd).has_globals ≡ false
    → (k : ℕ) (a : Arg) (id : Text) (least most : ℕ) → k < length (args_of cmd) → slice_index_or (args_of cmd) k a ≡ a
    → a.value_parser ≡ Some (Signed (pos least) (pos most)) → a.id.now ≡ id
    → IsOnly k id 0 (args_of cmd) → IsOwnId id → HasNumberIfAny (found_of m) id least most
optional_number_at cmd m p plain globals k a id least most lt at parser is only own =
    whole (matched_of (found_of m) id) refl
  where
    b : Arg
    b = slice_index_or (args_of cmd) k a

    b_id : b.id.now ≡ id
    b_id = ap (λ (x : Arg). x.id.now) at ∙ is

    b_parser : b.value_parser ≡ Some (Signed (pos least) (pos most))
    b_parser = ap (λ (x : Arg). x.value_parser) at ∙ parser

    parsed : IsParsed p.built (found_of m) (has_subcommand m)
    parsed = p.parsed (p.from.globals ∙ globals)

    rules : (j : ℕ) (x : Arg) → j < length (args_of p.built) → slice_index_or (args_of p.built) j x ≡ x → bytes_eq x.id.now id ≡ true → SameRules b x
    rules j x high there same = same_rules_by_id cmd m p k a lt
        (λ i e low eq. only_at k id (args_of cmd) only i e low (subst (λ (t : Text). bytes_eq (slice_index_or (args_of cmd) i e).id.now t ≡ true) b_id eq))
        (λ auto. elim auto [ inl h ↦ text_differs id _ own.1 (sym b_id ∙ h) | inr h ↦ text_differs id _ own.2 (sym b_id ∙ h) ])
        j x high there (subst (λ (t : Text). bytes_eq x.id.now t ≡ true) (sym b_id) same)

    parser_is : (x : Arg) → SameRules b x → parser_of x ≡ Signed (pos least) (pos most)
    parser_is x s = ap parser_of_value (s.parser _ b_parser)

    no_group : (e : Entry) → e.0.now ≡ id → EntryPasses p.built e → e.1.is_group ≡ true → ⊥
    no_group e key pass g = elim (pass.3 g) [
      | inl empty ↦ text_differs id [] own.0 (sym key ∙ empty)
      | inr lots ↦
          let bad : 0 < 0 = rw (p.from.plain plain).1 at lots in
          absurd (omega arith)
    ]

    reads : (e : Entry) → e.0.now ≡ id → EntryPasses p.built e → e.1.reading ≡ WithoutMinus
    reads e key pass = elim pass.4 [
      | inl g ↦ absurd (no_group e key pass g)
      | inr any ↦
          let s = rules any.0 any.1 any.2 any.3 (subst (λ (t : Text). bytes_eq any.1.id.now t ≡ true) key any.4.0) in
          sym any.4.1 ∙ ap reading_of (parser_is any.1 s)
    ]

    passes : (e : Entry) (v : Bor Text) (rest : List (Bor Text)) → e.0.now ≡ id → e.1.vals.items ≡ v ∷ rest → EntryPasses p.built e
        → IsSignedIn (pos least) (pos most) v.now
    passes e v rest key vals pass = elim pass.0 [
      | inl g ↦ absurd (no_group e key pass g)
      | inr all ↦
          let first : PassesArg p.built e.0.now v.now =
          All-get_or (λ (w : Bor Text). PassesArg p.built e.0.now w.now) (v ∷ rest) 0 v (omega arith)
          (subst (All (λ (w : Bor Text). PassesArg p.built e.0.now w.now)) vals all) in
          let s = rules first.0 first.1 first.2 first.3 (subst (λ (t : Text). bytes_eq first.1.id.now t ≡ true) key first.4.0) in
          subst (λ (q : ValueParser). Accepts first.1.ignore_case q v.now) (parser_is first.1 s) first.4.1
    ]

    entry : (x : MatchedArg) (e : Entry) (vals : List (Bor Text)) → matched_of (found_of m) id ≡ Some x → e.1 ≡ x → e.0.now ≡ id → EntryPasses p.built e
        → x.vals.items ≡ vals → HasNumberIfAny (found_of m) id least most
    entry x e [] found same key pass vals = inl (no_text (found_of m) id x found vals)
    entry x e (v ∷ rest) found same key pass vals = inr (
      v.now,
      text_at (found_of m) id x v rest found vals (ap (λ (y : MatchedArg). y.reading) (sym same) ∙ reads e key pass),
      passes e v rest key (ap (λ (y : MatchedArg). y.vals.items) same ∙ vals) pass,
    )

    whole : (o : Option MatchedArg) → matched_of (found_of m) id ≡ o → HasNumberIfAny (found_of m) id least most
    whole None none = inl (rw none refl)
    whole (Some x) found =
        let got = entry_by_id (EntryPasses p.built) (found_of m).entries.items id x parsed.values found in
        entry x got.0 x.vals.items found got.1 ((bytes_eq-Decides got.0.0.now id).0 got.2) got.3 refl

-- the required argument at place k has a word
word_at : (cmd : Command) (m : ArgMatches) → IsParsedFrom cmd m → IsPlain cmd
    → (out-Command cmd).has_globals ≡ false → (out-Command cmd).subcommand_negates_reqs ≡ false
    → (k : ℕ) (a : Arg) (id : Text) → k < length (args_of cmd) → slice_index_or (args_of cmd) k a ≡ a → TakesValue a → a.id.now ≡ id
    → IsOnly k id 0 (args_of cmd) → IsOwnId id → HasWord (found_of m) id
word_at cmd m p plain globals negates k a id lt at takes is only own =
    let same : (slice_index_or (args_of cmd) k a).id.now ≡ id = ap (λ (x : Arg). x.id.now) at ∙ is in
    subst (HasWord (found_of m)) same (required_has_value cmd m p plain globals negates k a lt
    (ap (λ (x : Arg). x.required) at ∙ takes.0)
    (ap (λ (x : Arg). x.action) at ∙ takes.1)
    (ap (λ (x : Arg). x.val_delim) at ∙ takes.2)
    (subst (λ (x : Arg). 1 ≤ least_values x) (sym at) takes.3)
    (λ j e low eq. only_at k id (args_of cmd) only j e low (subst (λ (t : Text). bytes_eq (slice_index_or (args_of cmd) j e).id.now t ≡ true) same eq))
    (λ empty. text_differs id [] own.0 (sym same ∙ empty))
    (λ auto. elim auto [ inl h ↦ text_differs id _ own.1 (sym same ∙ h) | inr h ↦ text_differs id _ own.2 (sym same ∙ h) ]))

abbrev IsOwn : Arg → Type 0
IsOwn a = IsPlainArg a × (a.global ≡ false)

own_globals : (old new : Command) (a : Arg) → AddsArg old a new → (out-Command old).has_globals ≡ false → a.global ≡ false → (out-Command new).has_globals ≡ false
own_globals old new a added globals local = added.globals ∙ (ap (λ g. g || a.global) globals ∙ ap (λ g. false || g) local)

-- what is found of FILE and of `--turns`
abbrev HasServing : Found → Type 0
HasServing found = HasWord found (codes "FILE") × HasNumberIfAny found (codes "turns") 1 1099511627776

-- a command whose first arguments are FILE and `--turns`, with no flag but its own
record Serves (cmd : Command) (x y : Arg) (rest : List Arg) : Type 0 where
  args : args_of cmd ≡ x ∷ y ∷ rest
  plain : IsPlain cmd
  globals : (out-Command cmd).has_globals ≡ false
  negates : (out-Command cmd).subcommand_negates_reqs ≡ false
  takes : TakesValue x
  file : x.id.now ≡ codes "FILE"
  turns : y.id.now ≡ codes "turns"
  parser : y.value_parser ≡ Some (Signed (pos 1) (pos 1099511627776))

found_serving : (cmd : Command) (x y : Arg) (rest : List Arg) (m : ArgMatches) → Serves cmd x y rest
    → IsOnly 0 (codes "FILE") 2 rest → IsOnly 1 (codes "turns") 2 rest → IsParsedFrom cmd m → HasServing (found_of m)
found_serving cmd x y rest m s no_file no_turns p =
    let count : length (args_of cmd) ≡ suc (suc (length rest)) = ap (λ (l : List Arg). length l) s.args in (
      word_at cmd m p s.plain s.globals s.negates 0 x (codes "FILE") (omega arith)
          (ap (λ (l : List Arg). slice_index_or l 0 x) s.args) s.takes s.file
          (subst (IsOnly 0 (codes "FILE") 0) (sym s.args) (inr refl, (inl (rw s.turns refl), no_file))) (refl, refl, refl),
      optional_number_at cmd m p s.plain s.globals 1 y (codes "turns") 1 1099511627776 (omega arith)
          (ap (λ (l : List Arg). slice_index_or l 1 y) s.args) s.parser s.turns
          (subst (IsOnly 1 (codes "turns") 0) (sym s.args) (inl (rw s.file refl), (inr refl, no_turns))) (refl, refl, refl),
    )

module _ (start one two : Command) (a b : Arg) (first : AddsArg start a one) (second : AddsArg one b two) (empty : args_of start ≡ []) (groups : groups_of start ≡ [])
    (globals : (out-Command start).has_globals ≡ false) (negates : (out-Command start).subcommand_negates_reqs ≡ false)
    (own_a : IsOwn a) (own_b : IsOwn b) (takes : TakesValue a) (file : a.id.now ≡ codes "FILE") (turns : b.id.now ≡ codes "turns")
    (parser : b.value_parser ≡ Some (Signed (pos 1) (pos 1099511627776))) where
  -- a command of the arguments FILE and `--turns`
  serving : Serves two first.arg second.arg []
  serving = record {
    args = second.args ∙ ap (λ (l : List Arg). l ++ second.arg ∷ []) (first.args ∙ ap (λ (l : List Arg). l ++ first.arg ∷ []) empty);
    plain = added_plain one two b second (added_plain start one a first (subst (All IsPlainArg) (sym empty) (All-nil IsPlainArg), groups) own_a.0) own_b.0;
    globals = own_globals one two b second (own_globals start one a first globals own_a.1) own_b.1;
    negates = second.negates ∙ (first.negates ∙ negates);
    takes = same_value a first.arg first.rules takes;
    file = ap (λ i. i.now) first.rules.id ∙ file;
    turns = ap (λ i. i.now) second.rules.id ∙ turns;
    parser = second.rules.parser _ parser;
  }

  pub gateway_given : (m : ArgMatches) → IsParsedFrom two m → HasWord (found_of m) (codes "FILE") × HasNumberIfAny (found_of m) (codes "turns") 1 1099511627776
  gateway_given m p = found_serving two first.arg second.arg [] m serving tt tt p

  -- and one of `--workers` besides
  pub relay_given : (cmd : Command) (c : Arg) (m : ArgMatches) → AddsArg two c cmd → IsOwn c → c.id.now ≡ codes "workers"
      → c.value_parser ≡ Some (Signed (pos 0) (pos 64)) → IsParsedFrom cmd m
      → HasWord (found_of m) (codes "FILE") × HasNumberIfAny (found_of m) (codes "turns") 1 1099511627776 × HasNumberIfAny (found_of m) (codes "workers") 0 64
  relay_given cmd c m third own_c workers parser_c p =
      let x = first.arg in
      let y = second.arg in
      let z = third.arg in
      let named : z.id.now ≡ codes "workers" = ap (λ i. i.now) third.rules.id ∙ workers in
      let serves : Serves cmd x y (z ∷ []) = record {
        args = third.args ∙ ap (λ (l : List Arg). l ++ z ∷ []) serving.args;
        plain = added_plain two cmd c third serving.plain own_c.0;
        globals = own_globals two cmd c third serving.globals own_c.1;
        negates = third.negates ∙ serving.negates;
        takes = serving.takes;
        file = serving.file;
        turns = serving.turns;
        parser = serving.parser;
      } in
      let found = found_serving cmd x y (z ∷ []) m serves (inl (rw named refl), tt) (inl (rw named refl), tt) p in
      let three : length (args_of cmd) ≡ 3 = ap (λ (l : List Arg). length l) serves.args in (
        found.0,
        found.1,
        optional_number_at cmd m p serves.plain serves.globals 2 z (codes "workers") 0 64 (omega arith)
            (ap (λ (l : List Arg). slice_index_or l 2 z) serves.args) (third.rules.parser _ parser_c) named
            (subst (IsOnly 2 (codes "workers") 0) (sym serves.args) (inl (rw serves.file refl), (inl (rw serves.turns refl), (inr refl, tt)))) (refl, refl, refl),
      )
