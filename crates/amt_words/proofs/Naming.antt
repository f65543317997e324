-- The subcommand that `replay` enters has one of its five names.
use Rattle.std.{proofs.Common.{◌≡◌, ◌∙◌, Bool, true, false, List, [], ◌∷◌, Option, Some, None, cond, refl, sym, subst, ap}, specs.{Prelude.{⊤, find, option_map, Box}, Global.{Global}, Box.{box_value}}}
use Rattle.clap.specs.{Words.{App, Row, Shape, Text, subcommand_rows, subcommand_rows_of, subcommand_of}, Matches.{subcommand_name_of}, Simple.{argument_words, built, entered, label_of, names_of, rows_at}, Walk.{answers_to, stop_after}, declared.parser.matches.{ArgMatches.{ArgMatches, TheViews.{out-ArgMatches, out-SubCommand}}, SubCommand.{SubCommand}}}
use Rattle.amt_words.specs.{declared.command.Replayable.{Replayable, TheVariants.{Relay, Gateway, Pair, Dual, Upstream}}, Line.{replayed_name}, Usage.{replay_usage, replayable_name}}

-- every item of a list has a property
abbrev Each : {X : Type 0} → (X → Type 0) → List X → Type 0
Each P [] = ⊤
Each P (x ∷ xs) = P x × Each P xs

same_item : {X : Type 0} (x y : X) → Some x ≡ Some y → x ≡ y
same_item x y e = cc

find_keeps : {X : Type 0} (P : X → Type 0) (p : X → Bool) (xs : List X) (x : X) → Each P xs → find p xs ≡ Some x → P x
find_keeps P p [] x all e = cc
find_keeps {X} P p (y ∷ ys) x all e = go (p y) (find_keeps P p ys x all.1) e
  where
    go : (b : Bool) → (find p ys ≡ Some x → P x) → cond b (Some y) (find p ys) ≡ Some x → P x
    go true later f = subst P (same_item y x f) all.0
    go false later f = later f

-- what can be replayed under this name
abbrev IsKnown : Shape → Type 0
IsKnown shape = (kind : Replayable) × (shape.name ≡ replayable_name kind)

named_row : (x y : Text × List Row) (kind : Replayable) → Some y ≡ Some x → y.0 ≡ replayable_name kind → (k : Replayable) × (x.0 ≡ replayable_name k)
named_row x y kind e is =
    let same : y ≡ x = cc in
    (kind, sym (ap (λ (p : Text × List Row). p.0) same) ∙ is)

named : (stop : Option (Text × List Text)) (x : Text × List Row) → entered (built replay_usage) stop ≡ Some x
    → (kind : Replayable) × (x.0 ≡ replayable_name kind)
named None x e = cc
named (Some p) x e = go (find (λ s. answers_to p.0 (label_of s)) (built replay_usage).subs) refl e
  where
    go : (o : Option Shape) → find (λ s. answers_to p.0 (label_of s)) (built replay_usage).subs ≡ o
        → option_map (λ s. rows_at s p.1) o ≡ Some x → (kind : Replayable) × (x.0 ≡ replayable_name kind)
    go None is f = cc
    go (Some s) is f =
        let known = find_keeps IsKnown (λ t. answers_to p.0 (label_of t)) (built replay_usage).subs s
        ((Relay, refl), ((Gateway, refl), ((Pair, refl), ((Dual, refl), ((Upstream, refl), tt))))) is in
        named_row x (rows_at s p.1) known.0 f known.1

-- the subcommand that the words after `replay` name is one that can be replayed
pub known_name : (words : List Text) (name : Text) → replayed_name words ≡ Some name → (kind : Replayable) × (name ≡ replayable_name kind)
known_name words name e = go (subcommand_of replay_usage words) refl e
  where
    go : (o : Option (Text × List Row)) → subcommand_of replay_usage words ≡ o → option_map (λ found. found.0) o ≡ Some name
        → (kind : Replayable) × (name ≡ replayable_name kind)
    go None is f = cc
    go (Some x) is f =
        let same : x.0 ≡ name = cc in
        let known = named (stop_after (built replay_usage).top.rules (names_of (built replay_usage)) (argument_words replay_usage words)) x is in
        (known.0, sym same ∙ known.1)

-- the name of the subcommand that a parse entered
rows_name : (m : ArgMatches) → option_map (λ p. p.0) (subcommand_rows_of m) ≡ subcommand_name_of m
rows_name m = go (out-ArgMatches m).subcommand
  where
    go : (o : Option (Box SubCommand Global)) → option_map (λ p. p.0) (subcommand_rows o) ≡ option_map (λ b. (out-SubCommand (box_value b)).name.now) o
    go None = refl
    go (Some b) = refl

pub entered_name : (m : ArgMatches) (usage : App) (words : List Text) (name : Text) → usage ≡ replay_usage
    → subcommand_rows_of m ≡ subcommand_of usage words → subcommand_name_of m ≡ Some name → replayed_name words ≡ Some name
entered_name m usage words name is rows named =
    ap (option_map (λ p. p.0)) (ap (λ (a : App). subcommand_of a words) (sym is) ∙ sym rows) ∙ (rows_name m ∙ named)
