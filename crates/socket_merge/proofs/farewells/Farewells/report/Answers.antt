use Rattle.std.{proofs.{Common.{◌≡◌, ◌++◌, ◌∷◌, [], map, sym, ap, ◌∙◌}, lemmas.List.{map-append}}, specs.{List.{flat_map}, Map.Iter.{deref_pair}}}
use Rattle.socket_merge.{specs.Kept.{said_of}, proofs.Reports.{nothing_said}}
use Rattle.socket_merge.proofs.farewells.Farewells.report.Goals as goal

pub loop-group-preserved : goal.loop-group-preserved
loop-group-preserved c =
    let said = said_of c.args.family c.args.named.now c.args.at c.args.keep_ms in
    let done = map deref_pair c.loop-group.yielded in
    let slot = deref_pair (c.in-Some.group, c.in-Some.left) in
    let more : map deref_pair (c.loop-group.yielded ++ (c.in-Some.group, c.in-Some.left) ∷ []) ≡ done ++ slot ∷ [] = map-append deref_pair c.loop-group.yielded ((c.in-Some.group, c.in-Some.left) ∷ []) in
    record {
      can_next = tt;
      is_finite = tt;
      records = c.loop-group.invariant.records
          ∙ nothing_said c.args.family c.args.named.now c.args.at c.args.keep_ms done slot (sym c.is_of_family.ensures ∙ c.if-is_of_family.false)
          ∙ ap (flat_map said) (sym more);
    }
