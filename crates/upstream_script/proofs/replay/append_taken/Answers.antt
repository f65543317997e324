use Rattle.std.proofs.{lemmas.Result.{on_ok_weaker}}
use Rattle.upstream_script.proofs.{Runs.{none_taken}}
use Rattle.upstream_script.proofs.replay.append_taken.Goals as goal

pub returns-in_default-clause-text : goal.returns-in_default-clause-text
returns-in_default-clause-text c = λ settings log holds. none_taken settings log c.args.change.now c.args.text.now c.in_default.is

pub returns-clause-next : goal.returns-clause-next
returns-clause-next c = λ settings log holds. on_ok_weaker c.append_changes.result (λ done. rw c.in-Some.is (c.in_ok-records.ensures.stands settings log holds)) c.append_changes.ensures
