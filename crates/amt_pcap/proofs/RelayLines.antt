-- The script of a capture says its events.
use Rattle.std.{proofs.{Common.{◌≡◌, ℕ, ◌+◌, ◌^◌, ◌<◌, ◌≤◌, ◌==◌, false, List, [], ◌∷◌, ◌++◌, length, map, drop, get_or, All, flat_map, codes, decimal, replicate, Option, None, Some, Result, Ok, Err, refl, sym, ap, subst, ◌∙◌, add-one, append_assoc, append-nil, length-append, arith, rules}, Math.Seq.{drop-cons}, lemmas.{Bool.{cond_both}, Fmt.{length-decimal-le}, List.{drop_all, Concat.{flat_map-cons}, Elements.{recursion_from_All}}}}, specs.{List.{AllByRecursion}, Option.{IfSome}}}
use Rattle.amt_values.specs.{declared.address.Ip.{Ip}, Text.{IsIpText, ip_text}}
use Rattle.relay_machine.{specs.{declared.event.Event.{Event}, EventSize.{IsPayload}, Settings.{default_settings}}, proofs.Numbers.{AreLawful-default}}
use Rattle.relay_machine.specs.declared.event.Event.TheVariants as events
use Rattle.script_lines.{specs.Lines.{IsPlain, fields, says_nothing}, proofs.{Glyphs.{AreGlyphs, glyphs_of_digits}, Pieces.{GoesOn, IsPiece, end_goes_on, goes_on_whole, line_goes_on, piece_of_line, silent_goes_on}, Words.{fields-word, fields-two, glyphs_of_literal, plain_glyphs, plain_two}}}
use Rattle.amt_script.specs.{declared.{line.RelayStatement.{RelayStatement}, script.RelayItem.{RelayItem}, setting.Setting.{Setting}}, Printed.{IsLineOf}, Says.{SaysEvent}, Script.{IsRelayScript, MayCome, items_in, relay_kind, settings_in}, Settling.{Settles, limits_given}, Texts.{event_line, event_text}}
use Rattle.amt_script.specs.declared.line.RelayStatement.TheVariants as statements
use Rattle.amt_script.specs.declared.script.RelayItem.TheVariants as items
use Rattle.amt_script.specs.declared.setting.Setting.TheVariants as settings
use Rattle.amt_pcap.specs.{declared.{capture.{Capture.{Capture}, Item.{Item}, Skip.{Skip, TheVariants.{Cut, Frame, Ip as NoIp}}}}, Texts.{AreReadBack, IsReadBack, capture_script_text, captured_script, comment, event_in, events_if, events_of_item, item_lines, lines_of_items, reason_of, relay_line, tail_line}}
use Rattle.amt_pcap.proofs.Addresses.{ip_length, ip_word}

-- after any statements the text says these items
abbrev SaysItems : List RelayItem → List ℕ → Type 0
SaysItems all text = (past : List RelayStatement) → GoesOn relay_kind past (map statements.Item all) text

says_something : (event : Event) (line : List (List ℕ)) → SaysEvent event line → says_nothing line ≡ false
says_something (events.Moment ms) line says = ap says_nothing says.parts
says_something (events.Datagram bytes from) line says = ap says_nothing says.parts
says_something (events.Packet bytes) line says = ap says_nothing says.parts
says_something (events.Rotate secret) line says = ap says_nothing says.parts
says_something (events.Limits limits) line says = ap says_nothing says.parts

payload_may : (event : Event) → IsPayload event → (past : List RelayStatement) → MayCome (limits_given (settings_in past)) (items.Event event)
payload_may (events.Moment ms) is past = absurd is
payload_may (events.Datagram bytes from) is past = tt
payload_may (events.Packet bytes) is past = tt
payload_may (events.Rotate secret) is past = absurd is
payload_may (events.Limits limits) is past = absurd is

event_says : (event : Event) (more : List RelayItem) (rest : List ℕ) → ((past : List RelayStatement) → MayCome (limits_given (settings_in past)) (items.Event event))
    → IsLineOf event (event_text event) → SaysItems more rest → SaysItems (items.Event event ∷ more) (event_text event ++ rest)
unfolding event_text
event_says event more rest may back says = λ past.
    let line = back.line in
    let piece : IsPiece (event_text event) line = record { before = event_line event; ended = refl; only = back.only; short = back.says.short } in
    line_goes_on relay_kind past (statements.Item (items.Event event)) (map statements.Item more) (event_text event) line rest piece
    (says_something event (fields line) back.says.says.1) back.says.says.0 (may past, back.says.says.1) (says _)

comment_goes_on : (past said : List RelayStatement) (text rest : List ℕ) → IsPlain text → length text ≤ 100 → GoesOn relay_kind past said rest
    → GoesOn relay_kind past said (comment text ++ rest)
comment_goes_on past said text rest plain few more =
    let mark = glyphs_of_literal (codes "#") (search rules) in
    let line = codes "# " ++ text in
    silent_goes_on relay_kind past said (line ++ 10 ∷ []) line rest (piece_of_line line (plain_two (codes "#") text mark plain) (omega (arith, few)))
    (ap says_nothing (fields-word (codes "#") text (omega arith) mark)) more

reason_word : (packet : Result (List ℕ) Skip) → AreGlyphs (reason_of packet) × (length (reason_of packet) ≤ 5)
reason_word (Err Cut) = (glyphs_of_literal (codes "cut") (search rules), omega arith)
reason_word (Err Frame) = (glyphs_of_literal (codes "frame") (search rules), omega arith)
reason_word (Err NoIp) = (glyphs_of_literal (codes "ip") (search rules), omega arith)
reason_word (Ok packet) = (glyphs_of_literal (codes "other") (search rules), omega arith)

digits : (number : ℕ) → number < 2 ^ 64 → length (decimal number) ≤ 20
digits number small = length-decimal-le 20 number (omega arith) (omega (arith, small)) small

item_says : (number : ℕ) (item : Item) (event : Option Event) (more : List RelayItem) (rest : List ℕ) → number < 2 ^ 64
    → IfSome event (AreReadBack item.at) → SaysItems more rest → SaysItems (events_if item.at event ++ more) (item_lines number item event ++ rest)
item_says number item None more rest small back says = λ past.
    let reason = reason_of item.packet in
    let word = reason_word item.packet in
    let few : length (decimal number ++ 32 ∷ reason) ≤ 100 = omega (arith, digits number small, word.1, length-append (decimal number) (32 ∷ reason)) in
    comment_goes_on past (map statements.Item more) (decimal number ++ 32 ∷ reason) rest
    (plain_two (decimal number) reason (glyphs_of_digits number small) (plain_glyphs reason word.0)) few (says past)
item_says number item (Some event) more rest small back says =
    let moment = events.Moment item.at in
    subst (SaysItems (items.Event moment ∷ items.Event event ∷ more)) (sym (append_assoc (event_text moment) (event_text event) rest))
    (event_says moment (items.Event event ∷ more) (event_text event ++ rest) (λ past. tt) back.moment
    (event_says event more rest (payload_may event back.payload) back.line says))

items_say : (relay : Ip) (number : ℕ) (all : List Item) (rest : List ℕ) → number + length all < 2 ^ 64 → AllByRecursion (IsReadBack relay) all
    → SaysItems [] rest → SaysItems (flat_map (events_of_item relay) all) (lines_of_items relay number all ++ rest)
unfolding lines_of_items
items_say relay number [] rest small back says = says
items_say relay number (item ∷ all) rest small back says =
    let event = event_in relay item.packet in
    let later = lines_of_items relay (number + 1) all in
    let more = flat_map (events_of_item relay) all in
    let line = item_lines number item event in
    let whole = item_says number item event more (later ++ rest) (omega (arith, small)) back.0 (items_say relay (number + 1) all rest (omega (arith, small)) back.1 says) in
    subst (λ (events : List RelayItem). SaysItems events ((line ++ later) ++ rest)) (sym (flat_map-cons (events_of_item relay) item all))
    (subst (SaysItems (events_of_item relay item ++ more)) (sym (append_assoc line later rest)) whole)

tail_says : (tail : ℕ) → tail < 2 ^ 64 → SaysItems [] (tail_line tail)
tail_says tail small =
    let text = codes "tail " ++ decimal tail in
    let plain = plain_two (codes "tail") (decimal tail) (glyphs_of_literal (codes "tail") (search rules)) (plain_glyphs (decimal tail) (glyphs_of_digits tail small)) in
    cond_both (tail == 0) [] (comment text) (SaysItems []) (λ none. end_goes_on relay_kind) λ some past.
    subst (GoesOn relay_kind past []) (append-nil (comment text))
    (comment_goes_on past [] text [] plain (omega (arith, digits tail small)) (end_goes_on relay_kind past))

relay_says : (relay : Ip) (more : List RelayItem) (rest : List ℕ) → IsIpText relay (ip_text relay) → SaysItems more rest
    → GoesOn relay_kind [] (statements.Setting (settings.Relay relay) ∷ map statements.Item more) (relay_line relay ++ rest)
relay_says relay more rest names says =
    let address = ip_text relay in
    let word = ip_word relay names in
    let set = glyphs_of_literal (codes "set") (search rules) in
    let key = glyphs_of_literal (codes "relay") (search rules) in
    let after = codes "relay " ++ address in
    let line = codes "set " ++ after in
    let parts = fields-word (codes "set") after (omega arith) set
    ∙ ap (λ (texts : List (List ℕ)). codes "set" ∷ texts) (fields-two (codes "relay") address (omega arith) key word.some word.glyphs) in
    let plain = plain_two (codes "set") after set (plain_two (codes "relay") address key (plain_glyphs address word.glyphs)) in
    line_goes_on relay_kind [] (statements.Setting (settings.Relay relay)) (map statements.Item more) (relay_line relay) line rest
    (piece_of_line line plain (omega (arith, ip_length relay))) (ap says_nothing parts) plain
    (record { early = refl; new = refl }, record { text = address; parts = parts; names = names }) (says _)

no_settings : (all : List RelayItem) → settings_in (map statements.Item all) ≡ []
no_settings [] = refl
no_settings (item ∷ all) = no_settings all

all_items : (all : List RelayItem) → items_in (map statements.Item all) ≡ all
all_items [] = refl
all_items (item ∷ all) = ap (λ (more : List RelayItem). item ∷ more) (all_items all)

pub script_spelled : (relay : Ip) (capture : Capture) → IsIpText relay (ip_text relay) → All (IsReadBack relay) capture.items
    → length capture.items < 2 ^ 63 → capture.tail < 2 ^ 32 → IsRelayScript (captured_script relay capture) (capture_script_text relay capture)
unfolding capture_script_text
script_spelled relay capture names back few small =
    let all = flat_map (events_of_item relay) capture.items in
    let tail = tail_says capture.tail (omega (arith, small)) in
    let says = items_say relay 1 capture.items (tail_line capture.tail) (omega (arith, few)) (recursion_from_All (IsReadBack relay) capture.items back) tail in
    let whole = relay_says relay all (lines_of_items relay 1 capture.items ++ tail_line capture.tail) names says in record {
      said = statements.Setting (settings.Relay relay) ∷ map statements.Item all;
      all_lines = goes_on_whole relay_kind _ _ whole;
      made = record {
        settled = subst (λ (given : List Setting). Settles given (default_settings relay) (record { 0 = replicate 32 0 }))
            (sym (ap (λ (given : List Setting). settings.Relay relay ∷ given) (no_settings all)))
            (record { relay = relay; relay_given = refl; values_are = refl; first_secret = refl });
        lawful = AreLawful-default relay;
        items = sym (all_items all);
      };
    }

-- the text so far and the lines of the items that are left, one item later
pub left-next : (relay : Ip) (all : List Item) (i : ℕ) (item : Item) (whole before after : List ℕ) → i < length all → item ≡ get_or all i item
    → before ++ lines_of_items relay (i + 1) (drop i all) ≡ whole → after ≡ before ++ item_lines (i + 1) item (event_in relay item.packet)
    → after ++ lines_of_items relay (i + 1 + 1) (drop (i + 1) all) ≡ whole
unfolding lines_of_items
left-next relay all i item whole before after inside is so_far written =
    let left = drop (i + 1) all in
    let line = item_lines (i + 1) item (event_in relay item.packet) in
    let opened : item ∷ left ≡ drop i all =
    ap (λ (one : Item). one ∷ left) is ∙ sym (rw (add-one i) (drop-cons all i item inside)) in
    ap (λ (text : List ℕ). text ++ lines_of_items relay (i + 1 + 1) left) written
    ∙ (append_assoc before line (lines_of_items relay (i + 1 + 1) left)
    ∙ (ap (λ (items : List Item). before ++ lines_of_items relay (i + 1) items) opened ∙ so_far))

-- and with none left, and the tail
pub left-none : (relay : Ip) (capture : Capture) (i : ℕ) (before after : List ℕ) → length capture.items ≤ i
    → before ++ lines_of_items relay (i + 1) (drop i capture.items) ≡ relay_line relay ++ lines_of_items relay 1 capture.items
    → after ≡ before ++ tail_line capture.tail → after ≡ capture_script_text relay capture
unfolding capture_script_text lines_of_items
left-none relay capture i before after past so_far written =
    let tail = tail_line capture.tail in
    let none = ap (λ (items : List Item). before ++ lines_of_items relay (i + 1) items) (drop_all i capture.items past) in
    written ∙ (ap (λ (text : List ℕ). text ++ tail) (sym (append-nil before) ∙ (sym none ∙ so_far))
    ∙ append_assoc (relay_line relay) (lines_of_items relay 1 capture.items) tail)
