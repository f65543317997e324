use Rattle.std.{proofs.{Common.{◌≡◌, ◌++◌, ℕ, Bor, List, get_or, map, length, sym, ap, ◌∙◌, arith, rules}, lemmas.{List.{append-nil, get_or-map, length-map, length_push}, Slice.Zip.{zip_turn, zip_end}}}, specs.{Iterator.Adapters.{zip_first, zip_second}, Slice.Iter.{iter_rest}}}
use Rattle.control_lines.proofs.Counting.{begins_on, line_more, tally_text-end}
use Rattle.control_lines.proofs.tally.append_tally.Goals as goal

abbrev text_of : Bor (List ℕ) → List ℕ
text_of word = word.now

pub loop-word-preserved : goal.loop-word-preserved
loop-word-preserved c =
    let words : iter_rest (zip_first c.into_iter-word-iterator.result) ≡ c.args.words.now = search rules in
    let numbers : iter_rest (zip_second c.into_iter-word-iterator.result) ≡ c.args.tally.now = search rules in
    let turn = zip_turn c.args.words.now c.args.tally.now c.loop-word.yielded c.into_iter-word-iterator.result c.loop-word.word-iterator c.next.new.self c.next.result words numbers c.loop-word.yielded_by (c.in-Some.word, c.in-Some.number) c.in-Some.is c.next.ensures.steps in
    let word : get_or (map text_of c.args.words.now) (length c.loop-word.yielded) c.in-Some.word.now.now ≡ c.in-Some.word.now.now =
    get_or-map text_of c.args.words.now (length c.loop-word.yielded) c.in-Some.word.now c.in-Some.word.now.now turn.0 ∙ ap text_of (sym (turn.2 c.in-Some.word.now)) in
    record {
      lines = line_more (map text_of c.args.words.now) c.args.tally.now (length c.loop-word.yielded) _ c.loop-word.text c.append_word.new.text _ c.in-Some.word.now.now c.in-Some.number.now
          (omega (arith, turn.0, length-map c.args.words.now text_of)) turn.1 word (sym (turn.3 c.in-Some.number.now)) (length_push c.loop-word.yielded (c.in-Some.word, c.in-Some.number))
          c.in_ok-append_word.ensures.text c.loop-word.invariant.lines;
      begun = begins_on _ _ _ _ c.loop-word.invariant.begun c.in_ok-append_word.ensures.text;
    }

pub returns-clause-text : goal.returns-clause-text
returns-clause-text c =
    let words : iter_rest (zip_first c.into_iter-word-iterator.result) ≡ c.args.words.now = search rules in
    let numbers : iter_rest (zip_second c.into_iter-word-iterator.result) ≡ c.args.tally.now = search rules in
    let end = zip_end c.args.words.now c.args.tally.now c.loop-word.yielded c.into_iter-word-iterator.result c.loop-word.word-iterator c.next.new.self c.next.result words numbers c.loop-word.yielded_by c.in-None.is c.next.ensures.steps in
    let over = tally_text-end (map text_of c.args.words.now) c.args.tally.now (length c.loop-word.yielded) (omega (arith, end, length-map c.args.words.now text_of)) in
    sym (append-nil c.loop-word.text) ∙ ap (λ (lines : List ℕ). c.loop-word.text ++ lines) (sym over) ∙ c.loop-word.invariant.lines
