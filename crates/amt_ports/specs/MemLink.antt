-- What a link in memory is seen as.
use Rattle.std.specs.Prelude.{List, Option}
use Rattle.amt_ports.specs.{Sends.{TriedSend}, Tally.{Tally}, declared.link.LinkAnswer.{LinkAnswer}}

-- the answers to come, the sends that were tried, if none is missing, and the calls so far
pub record LinkCalls : Type 0 where
  pub coming : List LinkAnswer
  pub tried : Option (List TriedSend)
  pub receivings : Tally
  pub sends : Tally
