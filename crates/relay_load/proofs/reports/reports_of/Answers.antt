use Rattle.std.{proofs.{Common.{◌≡◌, ◌≤◌, ◌∙◌, ◌++◌, ◌∷◌, [], ℕ, List, All, length, ap, subst, sym, map, arith}, lemmas.List.{Elements.{All-push}, FromFn.{map-range_with_len_more}}}, specs.List.{range_with_len}}
use Rattle.relay_load.specs.Reports.{report_at, reports_of}
use Rattle.relay_load.proofs.reports.reports_of.Goals as goal

pub loop-group_index-preserved : goal.loop-group_index-preserved
loop-group_index-preserved c =
    let kind = report_at c.args.excludes in
    let index = c.loop-group_index.group_index in
    record {
      written =
          c.in_ok-push.ensures.ok
          ∙ (ap (λ (reports : List (List ℕ)). reports ++ c.in_ok-report.report ∷ []) c.loop-group_index.invariant.written
          ∙ (ap (λ (report : List ℕ). map kind (range_with_len 0 index) ++ report ∷ []) c.in_ok-report.ensures.written
          ∙ sym (map-range_with_len_more kind 0 index index (omega arith))));
      short =
          subst (All (λ report. length report ≤ 100)) (sym c.in_ok-push.ensures.ok)
          (All-push (λ report. length report ≤ 100) _ _ c.loop-group_index.invariant.short c.in_ok-report.ensures.short);
    }

pub returns : goal.returns
unfolding reports_of
returns c =
    let end : c.loop-group_index.group_index ≡ 16 = omega (arith, c.loop-group_index-test.false, c.loop-group_index.auto.group_index-end) in
    record {
      written = c.loop-group_index.invariant.written ∙ ap (λ (n : ℕ). map (report_at c.args.excludes) (range_with_len 0 n)) end;
      short = c.loop-group_index.invariant.short;
    }
