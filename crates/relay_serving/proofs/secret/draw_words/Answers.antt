use Rattle.std.proofs.{Common.{arith}, lemmas.Result.{err_from_is_err_and}}
use Rattle.amt_ports.proofs.Told.{AppendsAll-then}
use Rattle.relay_serving.proofs.Drawing.{HasDrawn-fewer}
use Rattle.relay_serving.proofs.secret.draw_words.Goals as goal

pub returns-in_err-three-clause-drawn : goal.returns-in_err-three-clause-drawn
returns-in_err-three-clause-drawn g c =
    let p = err_from_is_err_and c.from_residual-in_err-three.result c.from_residual-in_err-three.ensures.1 in
    let given = AppendsAll-then _ _ _ _ _ c.in_ok-one.ensures.given c.in_ok-two.ensures.given in
    rw (p.1) (HasDrawn-fewer _ _ _ _ p.0 given c.in_err-three.ensures.kept (omega arith))

pub returns-in_err-four-clause-drawn : goal.returns-in_err-four-clause-drawn
returns-in_err-four-clause-drawn g c =
    let p = err_from_is_err_and c.from_residual-in_err-four.result c.from_residual-in_err-four.ensures.1 in
    let given = AppendsAll-then _ _ _ _ _ c.in_ok-one.ensures.given (AppendsAll-then _ _ _ _ _ c.in_ok-two.ensures.given c.in_ok-three.ensures.given) in
    rw (p.1) (HasDrawn-fewer _ _ _ _ p.0 given c.in_err-four.ensures.kept (omega arith))
