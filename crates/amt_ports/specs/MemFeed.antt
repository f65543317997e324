-- What a feed in memory is seen as.
use Rattle.std.specs.Prelude.{List}
use Rattle.amt_ports.specs.{Tally.{Tally}, declared.feed.FeedAnswer.{FeedAnswer}}

-- the answers to come, and the calls so far
pub record FeedCalls : Type 0 where
  pub coming : List FeedAnswer
  pub tally : Tally
