-- When a command with no subcommand takes words, by where the walk over them ends.
use Rattle.std.proofs.Common.{◌≡◌, ◌∙◌, is_some, List, [], ◌∷◌, Some, None, refl, ap}
use Rattle.clap.specs.{Words.{App, Row, Text, built, matches_of}, Walk.{Names, Walk, finished, nothing_held, settled, walk, walk_from}, Simple.{argument_words, entered, names_of}, Kinds.{Kinds, or_else}}
use Rattle.clap.specs.{Faults.{built_fault, check_fault, defaults_fault, entered_fault, settle_fault, walk_fault}, declared.{parser.matches.ValueSource.TheVariants.{CommandLine}, builder.value_parser.Reading.{Reading, TheVariants.{WithoutMinus}}}}
use Rattle.amt_words.specs.Usage.{Takes}

-- what was found for an argument that has one value
abbrev pub row : Reading → Text → Text → Row
row how id text = record {
  id = id;
  values = text ∷ [];
  count = None;
  source = Some CommandLine;
  reading = how;
}

abbrev pub number_row : Text → Text → Row
number_row = row WithoutMinus

-- what is refused where the walk ends here
abbrev pub end_kinds : App → Walk → Kinds
end_kinds usage w =
    let top = (built usage).top in
    or_else (entered_fault (built usage) w.stopped)
    (or_else (settle_fault top.rules top.args_override_self w.held)
    (or_else (defaults_fault (settled top.rules w.held).rows top.rules)
    (check_fault top (finished top.rules w.held) (is_some (entered (built usage) w.stopped)))))

module _ (usage : App) (words : List Text) (w : Walk) (own : argument_words usage words ≡ words) (no_names : names_of (built usage) ≡ [])
    (walks : walk (built usage).top.rules [] nothing_held words ≡ w) where
  pub taken : walk_fault (built usage).top [] (walk_from nothing_held) words ≡ [] → end_kinds usage w ≡ [] → Takes usage words
  taken faults ends =
      ap (λ (all : List Text). built_fault (built usage) nothing_held all) own
      ∙ (ap (λ (names : Names). or_else (walk_fault (built usage).top names (walk_from nothing_held) words)
      (end_kinds usage (walk (built usage).top.rules names nothing_held words))) no_names
      ∙ (ap (λ (v : Walk). or_else (walk_fault (built usage).top [] (walk_from nothing_held) words) (end_kinds usage v)) walks
      ∙ rw (faults, ends) refl))

  pub rows_at_end : matches_of usage words ≡ finished (built usage).top.rules w.held
  rows_at_end =
      ap (λ (all : List Text). finished (built usage).top.rules (walk (built usage).top.rules (names_of (built usage)) nothing_held all).held) own
      ∙ (ap (λ (names : Names). finished (built usage).top.rules (walk (built usage).top.rules names nothing_held words).held) no_names
      ∙ ap (λ (v : Walk). finished (built usage).top.rules v.held) walks)
