use Rattle.std.proofs.{Common.{refl}, Math.Logic.{∥∥₁_elim}, Props.{props}}
use mathlib.Core.Sum.{⊎_set}
use Rattle.gateway_serving.specs.Servers.{standing_in}
use Rattle.gateway_serving.proofs.server.Server.reply.Goals as goal

pub returns : goal.returns
returns c =
    ∥∥₁_elim c.args.self.now.at (hlevel (props, ⊎_set))
    (λ at. c.reply.ensures (standing_in c.args.turns c.args.self.now) c.of-numbers.ensures _ _ _ at refl c.args.self.now.tallied)
