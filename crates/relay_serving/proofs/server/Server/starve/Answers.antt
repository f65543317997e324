use Rattle.std.proofs.Common.{[], refl, sym, subst, append-nil, arith}
use Rattle.relay_serving.{specs.{Servers.{counts_in, happenings_in}, declared.counts.Counts.{Counts}}, proofs.{Answering.{no_more}, Traces.{Adds, server_does}}}
use Rattle.relay_serving.proofs.server.Server.starve.Goals as goal

pub returns : goal.returns
returns g c =
    let number = c.args.number in record {
      starves = server_does [] number 0 number 0 (record { same = record { same_settings = refl; same_first = refl; same_starts = refl; same_book = refl; same_mode = refl; same_tasks = λ task_of run. run }; happened = sym (append-nil (happenings_in c.args.self.now)) })
          (subst (λ (counts : Counts). Adds (counts_in c.args.self.now) counts number 0 0) (sym c.count_starved.ensures)
          (record { refused = record { starved_are = refl; late_are = no_more _ }; same_sent = refl; same_unsent = refl; few_packets = omega arith })) refl (omega arith);
    }
