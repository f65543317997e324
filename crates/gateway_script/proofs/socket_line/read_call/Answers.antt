use Rattle.std.proofs.Common.{ℕ, List, ◌∷◌, subst, sym}
use Rattle.script_lines.specs.{Reading.{FailsFirst}, declared.reason.Reason.TheVariants.{Word}}
use Rattle.gateway_script.specs.{Fault.{order_of_values}, SocketLine.{FailsAsCall}}
use Rattle.gateway_script.proofs.socket_line.read_call.Goals as goal

pub returns-in-Err-clause-reason : goal.returns-in-Err-clause-reason
returns-in-Err-clause-reason c =
    subst (λ (line : List (List ℕ)). FailsFirst (FailsAsCall c.args.family line) (Word ∷ order_of_values) c.in-Err.error) (sym c.in-Some.ensures.parts) c.in-Err.ensures.reason
