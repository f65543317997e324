use Rattle.std.proofs.Common.{◌≡◌, ℕ, ◌≤◌, ◌<◌, ◌^◌, List, length, sym, ap, subst, ◌∙◌, arith}
use Rattle.left_right.specs.Sides.{view}
use Rattle.logbook.specs.Pages.{Book}
use Rattle.amt_ports.specs.Causes.{Rose}
use Rattle.endpoint_membership.specs.{Limits.{live_count}, declared.change.Change.{Change}}
use Rattle.published_table.specs.{Copies.{log_of, origin_of}, Lists.{AreAll, BeginsWith, BeginsWithEach}, Logs.{entries}, Terms.{FitsThroughout}, Told.{logs_told}, declared.{past.Past.{Past}, table_copy.TableCopy.{TableCopy}}}
use Rattle.published_table.{specs.declared.terms.Terms.{Terms}, proofs.{Beginnings.{begins_further}, Cases.{OnSome-less, none_case, some_case}, CopiesFit.{endpoints_fit}, RuleKept.{looks}, view.reading.look.Goals.{in-Ok, in-Err}}}
use Rattle.published_table.proofs.view.reading.look.Goals as goal

pub enter-requires : goal.enter-requires
enter-requires c = looks _ _

pub answer-number-requires-clause-room : goal.answer-number-requires-clause-room
answer-number-requires-clause-room c =
    let reader = c.args.view.reader in
    let copy = c.in-Ok.inside.reading.part.value in
    let seen = c.in-Ok.ensures.2 in
    let fits = subst (FitsThroughout copy.terms) seen.seen seen.fits in
    let origin = (subst (AreAll (origin_of copy)) reader.same seen.same).0 in
    let within : live_count copy.table.rows ≤ reader.terms.limits.endpoints =
    subst (λ (one : Book × Terms). live_count copy.table.rows ≤ one.1.limits.endpoints) origin (endpoints_fit copy fits) in
    OnSome-less c.args.wanted _ reader.terms.limits.endpoints c.args.view.targets.room c.requires.room (subst (λ (one : TableCopy). live_count one.table.rows ≤ reader.terms.limits.endpoints) (sym c.get-copy.ensures) within)

pub returns-clause-number : goal.returns-clause-number
returns-clause-number c = elim c.match-enter.branch [
  | in-Ok w ↦
      let reader = c.args.view.reader in
      let copy = w.in-Ok.inside.reading.part.value in
      let seen = w.in-Ok.ensures.2 in
      let past : w.of-log.result.value ≡ copy.past = w.of-log.ensures ∙ (λ i. (w.get-copy.ensures i).past) in
      let log : entries c.match-enter.door.1.value ≡ log_of copy = (λ i. entries (w.door-is i).1.value) ∙ ap entries past in
      let known : List Change = (view reader.door.reader.place).seen in
      let further = begins_further (log_of copy) known (entries reader.log.value) (subst (λ (one : List Change). BeginsWith one known) seen.seen seen.begins) reader.behind in
      let short : length (log_of copy) < 2 ^ 63 = subst (λ (one : List Change). length one < 2 ^ 63) seen.seen seen.short in
      let counted : copy.count ≡ length (log_of copy) = omega (arith, copy.counted, short) in
      let told_by : w.get-copy.result.now.past ≡ c.match-enter.door.1.value = sym w.of-log.ensures ∙ (λ i. (sym w.door-is i).1.value) in
      some_case _ _ c.match-enter.door.2 w.answer-number.result (λ i. (w.door-is i).2) (record {
        further = subst (λ (one : List Change). BeginsWith one (entries reader.log.value)) (sym log) further;
        each_told = subst (λ (one : Past). BeginsWithEach (entries one) (logs_told reader.told)) told_by w.answer-number.ensures.told;
        counted = w.answer-number.ensures.number ∙ (λ i. (w.get-copy.ensures i).count) ∙ counted ∙ ap length (sym log);
        same_handed = (λ i. (w.door-is i).0.handed) ∙ w.leave.ensures.handed ∙ w.in-Ok.ensures.0;
      })
  | in-Err w ↦
      let reader = c.args.view.reader in
      none_case _ _ c.match-enter.door.2 (λ i. (w.door-is i).2) (record {
        rose = subst (λ (count : ℕ). Rose reader.door.handed count) (λ i. (sym w.door-is i).0.handed) w.in-Err.ensures.0;
        same_seen = λ i. entries (w.door-is i).1.value;
      })
]
