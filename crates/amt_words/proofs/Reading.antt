-- The rows of a parse, as the words give them.
use Rattle.std.{proofs.Common.{◌≡◌, ◌∙◌, ℕ, List, Option, Some, codes, refl, sym, ap}, specs.Prelude.{option_map}}
use Rattle.clap.{specs.{Words.{App, Row, Text, first_of, first_value, matches_of, one_of, one_text, rows_of}, declared.parser.matches.Found.{Found}}, proofs.WalkLemmas.{first_value-rows, one_text-rows}}
use Rattle.amt_words.specs.Line.{GivesRun, number_in, number_of, turns_or_most, word_in}

module _ (found : Found) (usage known : App) (words : List Text) (rows : rows_of found ≡ matches_of usage words) (is : usage ≡ known) where
  known_rows : rows_of found ≡ matches_of known words
  known_rows = rows ∙ ap (λ (a : App). matches_of a words) is

  pub given_number : (id : Text) (n : Option ℕ) → option_map number_of (one_text found id) ≡ n → number_in known id words ≡ n
  given_number id n number =
      ap (λ (r : List Row). option_map number_of (one_of id r)) (sym known_rows)
      ∙ (ap (option_map number_of) (sym (one_text-rows found id)) ∙ number)

  pub given_word : (id : Text) (word : Option Text) → first_value found id ≡ word → word_in known id words ≡ word
  given_word id word is_word =
      ap (λ (r : List Row). first_of id r) (sym known_rows) ∙ (sym (first_value-rows found id) ∙ is_word)

  pub given_run : (file : Text) (turns : ℕ) → first_value found (codes "FILE") ≡ Some file
      → turns_or_most (option_map number_of (one_text found (codes "turns"))) ≡ turns → GivesRun known file turns words
  given_run file turns is_file are_turns = record {
    file_is = given_word (codes "FILE") _ is_file;
    turns_are = ap turns_or_most (given_number (codes "turns") _ refl) ∙ are_turns;
  }
