use Rattle.script_lines.specs.Lines.{fields}
use Rattle.amt_vectors.proofs.Spaced.{words_more, words_end}
use Rattle.amt_vectors.proofs.fields.append_words.Goals as goal

pub loop-word-preserved : goal.loop-word-preserved
loop-word-preserved c =
    words_more c.args.text.now c.loop-word.text c.push.new.self c.append.new.self c.in-Some.word.now (fields c.args.values.now) (fields c.loop-word.left.now)
    (fields c.in-Some.rest.now) c.in-Some.ensures.parts c.in_ok-push.ensures.ok c.in_ok-append.ensures.ok c.loop-word.invariant

pub returns : goal.returns
returns c = words_end c.args.text.now c.loop-word.text (fields c.args.values.now) (fields c.loop-word.left.now) c.in_default.ensures.parts c.loop-word.invariant
