use Rattle.std.proofs.Common.{List, [], ◌∷◌, ◌++◌, ap, ◌∙◌}
use Rattle.amt_vectors.specs.declared.row.Row.{Row}
use Rattle.amt_vectors.proofs.reading.VectorLinesScriptKind.take.Goals as goal

pub returns-in-Ok-push-clause-heard : goal.returns-in-Ok-push-clause-heard
returns-in-Ok-push-clause-heard c = λ past heard.
    let row = c.in-Ok.row in (
      row,
      c.in-Ok.ensures.found,
      c.in-Ok-push.ensures.ok ∙ ap (λ (rows : List Row). rows ++ row ∷ []) heard,
    )
