use Rattle.std.proofs.{Common.{◌≡◌, ◌++◌, codes, decimal}, lemmas.Result.{on_ok_weaker}}
use Rattle.group_records.specs.{Code.{code_value}, declared.family.Family.TheVariants.{V4}}
use Rattle.socket_merge.specs.Refusal.{family_of}
use Rattle.amt_dump.proofs.Joining.{joined_six}
use Rattle.amt_dump.proofs.query_text.append_general_words.Goals as goal

pub returns : goal.returns
returns c =
    let query = c.args.query.now in
    let robustness : c.append_numeral.new.text ≡ c.append.new.self ++ decimal query.fields.robustness = rw c.from.ensures at c.in_ok-append_numeral.ensures.ok in
    let interval : c.append_numeral-2.new.text ≡ c.append-2.new.self ++ decimal (code_value V4 query.fields.interval_code) =
    rw (c.from-2.ensures, c.interval_of.ensures) at c.in_ok-append_numeral-2.ensures.ok in
    let ended = rw (c.from-3.ensures, c.response_of.ensures) at c.append_numeral-3.ensures.ok in
    on_ok_weaker c.append_numeral-3.result
    (λ same. joined_six c.args.text.now c.append.new.self c.append_numeral.new.text c.append-2.new.self c.append_numeral-2.new.text c.append-3.new.self c.append_numeral-3.new.text
    (codes "general robustness=") (decimal query.fields.robustness) (codes " interval=") (decimal (code_value V4 query.fields.interval_code)) (codes " response=")
    (decimal (code_value (family_of query.group) query.fields.max_code)) c.in_ok-append.ensures.ok robustness c.in_ok-append-2.ensures.ok interval c.in_ok-append-3.ensures.ok same)
    ended
