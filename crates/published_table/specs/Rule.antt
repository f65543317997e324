-- The rule of the published table, and what a step tells its holder.
use Rattle.std.specs.Prelude.{◌≡◌, ℕ, ◌<◌, ◌^◌, List, [], ◌∷◌, length, map}
use mathlib.Core.Option.{some}
use lib.ListN.{get_elem?}
use Rattle.published_table.specs.{Copies.{log_of, origin_of}, History.{IsUnder}, Lists.{AreAll, BeginsWith}, Terms.{FitsThroughout}, declared.{rule.Known.{Known}, table_copy.TableCopy.{TableCopy}}}

-- it has seen nothing
abbrev pub newcomer : Known
newcomer = record { seen = []; copies = [] }

-- it has seen what it had, and knows the copies that the other knew
abbrev pub greeted : Known → Known → Known
greeted known other = record { seen = known.seen; copies = other.copies }

-- what the holder has seen is a prefix of the copy's log, and the copies that it knows have its origin
abbrev pub Knows : TableCopy → Known → Type 0
Knows copy known = BeginsWith (log_of copy) known.seen × AreAll (origin_of copy) (map origin_of known.copies)

-- each holder's log is a prefix of the published one
abbrev pub EachKnows : TableCopy → List Known → Type 0
EachKnows copy holders = (seat : ℕ) (known : Known) → get_elem? holders seat ≡ some known → Knows copy known

-- of the copy that is published, and of all who may read it
pub record TableRule (copy : TableCopy) (holders : List Known) : Type 0 where
  pub short : length (log_of copy) < 2 ^ 63
  pub fits : FitsThroughout copy.terms (log_of copy)
  pub under : IsUnder copy.bookmark.seen.log (log_of copy)
  pub each : EachKnows copy holders

-- the holder has seen the copy, which is no older than what it had seen
pub record HasSeen (before : Known) (copy : TableCopy) (after : Known) : Type 0 where
  pub seen : after.seen ≡ log_of copy
  pub begins : BeginsWith after.seen before.seen
  pub origin : map origin_of after.copies ≡ origin_of copy ∷ []
  pub same : AreAll (origin_of copy) (map origin_of before.copies)
  pub short : length after.seen < 2 ^ 63
  pub fits : FitsThroughout copy.terms after.seen
  pub under : IsUnder copy.bookmark.seen.log after.seen
