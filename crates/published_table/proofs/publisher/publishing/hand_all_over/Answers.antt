use Rattle.std.proofs.Common.{List, sym, subst}
use Rattle.published_table.{specs.{History.{IsUnder}, Logs.{entries}, declared.past.Past.{Past}}, proofs.{Beginnings.{IsUnder-last}, Cases.{if_ok_so}}}
use Rattle.published_table.proofs.publisher.publishing.hand_all_over.Goals as goal

pub hand_over-requires-clause-under : goal.hand_over-requires-clause-under
hand_over-requires-clause-under c =
    subst (λ (logs : List Past). IsUnder logs (entries c.args.whole.now)) (sym c.in_ok-record.ensures.log) (IsUnder-last c.args.history.now.bookmark.seen.log c.args.whole.now)

pub returns-clause-under : goal.returns-clause-under
returns-clause-under c = if_ok_so c.hand_over.result
    (subst (λ (logs : List Past). IsUnder logs (entries c.args.whole.now)) (sym c.in_ok-record.ensures.log) (IsUnder-last c.args.history.now.bookmark.seen.log c.args.whole.now))
