use Rattle.std.proofs.Common.{◌≡◌, ◌≢◌, true, ◌∷◌, string_bytes, rules, sym, subst, ap, ◌∙◌}
use Rattle.toml.specs.View.{table_view}
use Rattle.amt_config.{specs.{Table.{IsLeastUnknown, is_among}, Words.{words_in}}, proofs.Scanning.{IsScanned, scan_found, scan_more, scan_start}}
use Rattle.amt_config.proofs.table.least_unknown.Goals as goal

pub loop-key-init : goal.loop-key-init
loop-key-init c =
    rw (c.into_iter-key-iterator.ensures.into_iter_gives, c.keys-key-items.ensures.rest)
    (scan_start (words_in c.args.kind) c.args.table.now.entries c.keys-key-items.ensures.ordered)

pub returns-then-not-has_key-clause-found : goal.returns-then-not-has_key-clause-found
returns-then-not-has_key-clause-found c =
    let words = words_in c.args.kind in
    let table = table_view c.args.table.now in
    let parts : c.loop-key.key-iterator ≡ c.in-Some.key.now ∷ c.next.new.self = search rules in
    let unknown : is_among words (string_bytes c.in-Some.key.now) ≢ true = λ known.
    let told = c.has_key.ensures ∙ (ap (is_among words) c.as_str.ensures.value ∙ known) in
    let not_told = c.if-not-has_key.true in cc (told, not_told) in
    subst (IsLeastUnknown words table) (sym c.as_str-then-not-has_key.ensures.value)
    (scan_found words table c.in-Some.key.now c.next.new.self (subst (IsScanned words table) parts c.loop-key.invariant) unknown)

pub loop-key-preserved : goal.loop-key-preserved
loop-key-preserved c =
    let words = words_in c.args.kind in
    let table = table_view c.args.table.now in
    let parts : c.loop-key.key-iterator ≡ c.in-Some.key.now ∷ c.next.new.self = search rules in
    scan_more words table c.in-Some.key.now c.next.new.self (subst (IsScanned words table) parts c.loop-key.invariant)
    (sym (ap (is_among words) c.as_str.ensures.value) ∙ (sym c.has_key.ensures ∙ c.if-not-has_key.false))
