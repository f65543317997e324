-- What is told of a running relay.
use Rattle.std.{proofs.Common.{◌≡◌, ℕ, ◌+◌, ◌-◌, ◌==◌, List, ◌++◌, length, map, sym, ap, subst, ◌∙◌, arith, length-append, if◌then◌else◌}, specs.Prelude.{IfOk, Result, Ok}}
use Rattle.amt_ports.specs.declared.out_link.OutLink.{Ghosts}
use Rattle.control_lines.specs.declared.asking.Asking.{Asking}
use Rattle.endpoint_membership.specs.declared.row.Row.{Row}
use Rattle.script_lines.specs.declared.reason.Reason.{Reason}
use Rattle.relay_machine.specs.Answers.{rows_after}
use Rattle.relay_serving.specs.{AskingServers.{standing_in}, Replies.{Standing, numbers_at, reply_text, sum_within, told_text}, Servers.{counts_in, events_in, first_in, owing_in, published_in, settings_in}, declared.{control.CopyCount.{CopyCount}, numbers.Numbers.{Numbers}, server.Server.{Server}}}

owed_is : (published owing log shown : ℕ) → published + owing ≡ log → published ≡ shown → owing ≡ log - shown
owed_is published owing log shown all same = omega (arith, all, same)

module _ {O : Type 0} {g : Ghosts O} {T : Type 0} (server : Server O T g) (workers turns starved : ℕ) (copied : CopyCount) where
  -- where it stands, and memory refused this number of events and answers
  abbrev stands : Standing
  stands = record (standing_in turns server) { starved = starved }

  pub numbers_are : (sent unsent inline owed published : ℕ) → sent ≡ sum_within (counts_in server).sent copied.sent → unsent ≡ sum_within (counts_in server).unsent copied.unsent
      → inline ≡ (if workers == 0 then (counts_in server).packets else 0) → owed ≡ length (owing_in server) → published ≡ length (published_in server)
      → record {
        turns = turns;
        datagrams = (counts_in server).datagrams;
        packets = (counts_in server).packets;
        updated = (counts_in server).updated;
        torn = (counts_in server).torn;
        sent = sent;
        unsent = unsent;
        inline = inline;
        starved = starved;
        late = (counts_in server).late;
        owed = owed;
        published = published;
      } ≡ numbers_at (settings_in server) (first_in server) workers stands copied
  numbers_are sent unsent inline owed published sent_is unsent_is inline_is owed_is_ published_is =
      let counted = server.counted.events_are in
      let shown = ap length server.shown in
      let all = sym (length-append (published_in server) (owing_in server)) ∙ ap length server.log in
      let left = owed_is_ ∙ owed_is _ _ _ _ all shown in
      λ i. record {
        turns = turns;
        datagrams = counted.datagrams_are i;
        packets = counted.packets_are i;
        updated = counted.updated_are i;
        torn = counted.torn_are i;
        sent = sent_is i;
        unsent = unsent_is i;
        inline = (inline_is ∙ ap (λ (packets : ℕ). if workers == 0 then packets else 0) counted.packets_are) i;
        starved = starved;
        late = (counts_in server).late;
        owed = left i;
        published = (published_is ∙ shown) i;
      }

  -- what is told of it answers the line
  pub told_at : {E : Type 0} (asking : Asking) (reading : Result Asking Reason) (numbers : Numbers) (rows members : List Row) (result : Result (List ℕ) E) → reading ≡ Ok asking → rows ≡ members
      → members ≡ rows_after (settings_in server) (first_in server) (events_in server) → numbers ≡ numbers_at (settings_in server) (first_in server) workers stands copied
      → IfOk result (λ text. text ≡ told_text asking rows numbers server.outcomes.tally)
      → IfOk result (λ text. text ≡ reply_text (settings_in server) (first_in server) workers stands reading copied)
  told_at asking reading numbers rows members result is same are counted told =
      subst (λ (known : List ℕ). IfOk result (λ text. text ≡ known))
      ((λ i. told_text asking ((same ∙ are) i) (counted i) (server.tallied.numbers_are i))
      ∙ ap (λ (one : Result Asking Reason). reply_text (settings_in server) (first_in server) workers stands one copied) (sym is)) told
