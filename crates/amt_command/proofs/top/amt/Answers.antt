use Rattle.std.{proofs.Common.{◌≡◌, ◌⊎◌, ℕ, List, map, string_bytes, inl, inr, sym, ap, subst, ◌∙◌, rules}, specs.Io.KnownBytes.{Appends}}
use Rattle.script_lines.specs.Writing.{WritesPrefix}
use Rattle.amt_words.specs.{declared.command.Command.{Command, TheVariants.{Gateway, Relay}}, Line.{IsCommandLine}}
use Rattle.amt_command.{specs.{Command.{status_line, work_of}, Ending.{line_of, status_of}, Status.{AnswersFor, IsLineOfStatus}}, proofs.{Answering.{answered, line_told}, Commands.{accepted, one_fault_of, one_value_of, unserved}, Endings.{done_of, usage_line, usage_status, with_status}}}
use Rattle.amt_command.proofs.top.amt.Goals as goal

pub returns-clause-answers : goal.returns-clause-answers
returns-clause-answers g c =
    let result = c.run-ending.result in
    let run = c.run-ending.ensures in
    let words = map string_bytes c.args.words.now in
    let is : status_of result ≡ c.status_of.result = sym c.status_of.ensures in
    record {
      words = elim run.words [
        | inl none ↦ inl (subst (λ (status : ℕ). (status ≡ 2) ⊎ (status ≡ 7)) is (usage_status result none.0))
        | inr line ↦ inr line
      ];
      usage = λ status. run.usage (with_status result 2 (is ∙ status));
      refused = λ none. elim run.words [
        | inl refused ↦ subst (λ (status : ℕ). (status ≡ 2) ⊎ (status ≡ 7)) is (usage_status result refused.0)
        | inr named ↦ absurd (none (accepted named.0 words named.1))
      ];
      of_command = λ command line.
          subst (λ (status : ℕ). AnswersFor (work_of command) g.S.Source.left g.S.Source.faults g.O.Sink.written g.O.Sink.faults c.args.input.now c.run-ending.new.input c.args.out.now c.run-ending.new.out status) is
          (answered g.S.Source.left g.S.Source.faults g.O.Sink.written g.O.Sink.faults c.args.input.now c.run-ending.new.input c.args.out.now c.run-ending.new.out
          result run.devices (λ usage. run.usage usage (accepted command words line)) (work_of command) (one_value_of command) (run.of_command command line));
      write = search rules;
      calm_input = search rules;
      calm_output = search rules;
      within = λ other. run.devices.within (λ long. other (c.status_of.ensures ∙ ap status_of long));
      statuses = search rules;
      untouched = λ none. elim run.words [ inl same ↦ (same.1, same.2) | inr named ↦ absurd (none named.0 named.1) ];
      quiet = search rules;
    }

pub returns-clause-reports : goal.returns-clause-reports
returns-clause-reports g c =
    let result = c.run-ending.result in
    let run = c.run-ending.ensures in
    let words = map string_bytes c.args.words.now in
    let is : status_of result ≡ c.status_of.result = sym c.status_of.ensures in
    let told = c.report.ensures in
    let line_is = λ (command : Command) (line : IsCommandLine command words).
    subst (λ (status : ℕ). IsLineOfStatus (work_of command) (g.S.Source.left c.args.input.now) (g.S.Source.left c.run-ending.new.input) status (line_of result)) is
    (line_told _ _ _ _ _ _ _ _ result (work_of command) (run.of_command command line)) in
    let usage_is : ((command : Command) → IsCommandLine command words → ⊥) → line_of result ≡ status_line c.status_of.result =
    λ none. elim run.words [ inl refused ↦ usage_line result refused.0 ∙ ap status_line is | inr named ↦ absurd (none named.0 named.1) ] in
    record {
      line = λ command line calm. (line_of result, line_is command line, told.line calm);
      prefix = λ command line. (line_of result, line_is command line, told.prefix);
      usage_line = λ none calm.
          subst (λ (text : List ℕ). Appends (g.E.Sink.written c.args.err.now) (g.E.Sink.written c.report.new.err) text) (usage_is none) (told.line calm);
      usage_prefix = λ none. subst (λ (text : List ℕ). WritesPrefix (g.E.Sink.written c.args.err.now) (g.E.Sink.written c.report.new.err) text) (usage_is none) told.prefix;
      silent = λ status. told.silent (done_of result (is ∙ status));
    }

pub returns-clause-relays : goal.returns-clause-relays
returns-clause-relays g c = λ file turns workers line.
    record {
      text = line_of c.run-ending.result;
      shown = rw c.status_of.ensures (c.run-ending.ensures.serves (Relay file turns workers) line);
      line = c.report.ensures.line;
      prefix = c.report.ensures.prefix;
    }

pub returns-clause-gateways : goal.returns-clause-gateways
returns-clause-gateways g c = λ file turns line.
    record {
      text = line_of c.run-ending.result;
      shown = rw c.status_of.ensures (c.run-ending.ensures.serves (Gateway file turns) line);
      line = c.report.ensures.line;
      prefix = c.report.ensures.prefix;
    }

pub returns-clause-unused : goal.returns-clause-unused
returns-clause-unused g c = λ no_relay no_gateway.
    let run = c.run-ending.ensures in
    elim run.words [
      | inl none ↦ (none.3, none.4)
      | inr line ↦ unserved _ _ _ _ _ _ _ _ _ _ _ _ line.0 line.1 (run.serves line.0 line.1) no_relay no_gateway
    ]

pub returns-clause-one_value : goal.returns-clause-one_value
returns-clause-one_value g c = one_value_of

pub returns-clause-one_fault : goal.returns-clause-one_fault
returns-clause-one_fault g c = one_fault_of
