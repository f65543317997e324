use Rattle.std.proofs.Common.{subst, arith}
use mathlib.Core.List.{IsPrefix}
use Rattle.published_table.{specs.{Logs.{entries}, Told.{logs_told}, declared.history.Bookmark.{Bookmark}}, proofs.Beginnings.{AreUnder-later, IsUnder-later, begins_each}}
use Rattle.published_table.proofs.history.compare.Goals as goal

pub returns : goal.returns
returns c =
    let logs = c.learn.new.self.seen.log in
    let kept = c.learn.ensures.kept in
    let log = entries c.args.log.now in
    let mine : IsPrefix c.args.bookmark.now.seen.log logs = subst (λ (one : Bookmark). IsPrefix one.seen.log logs) c.again-both.ensures c.learn.ensures.reached.0 in
    let told = AreUnder-later c.args.bookmark.now.seen.log logs c.args.least c.args.least (logs_told c.args.told.now) mine (omega arith) c.requires.told in
    let under = IsUnder-later c.args.other.now.seen.log logs log c.learn.ensures.reached.1 c.requires.under in
    begins_each kept.1.longest log logs c.args.least (logs_told c.args.told.now) kept.1.begins (under kept.1.longest kept.1.begins) c.requires.longer told
