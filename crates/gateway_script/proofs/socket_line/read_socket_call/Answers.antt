use Rattle.std.proofs.Common.{◌≡◌, ◌∷◌, ◌++◌, rules}
use Rattle.script_lines.specs.Lines.{fields}
use Rattle.gateway_script.{specs.{Row.{words_of}, SocketLine.{MakesCall}}, proofs.{Running.{event_of_one_family}, SocketCalls.{call_judged, says_call}}}
use Rattle.gateway_script.proofs.socket_line.read_socket_call.Goals as goal

pub returns-in-Ok-read_event-clause-call : goal.returns-in-Ok-read_event-clause-call
returns-in-Ok-read_event-clause-call c =
    let makes : MakesCall c.in-Ok.kind = search rules in
    says_call c.args.family c.in-Ok-read_event.event c.in-Ok.kind (fields c.in-Ok.values.now) (words_of c.in-Ok.kind ++ fields c.in-Ok.values.now) makes (search rules) c.in-Ok-read_event.ensures.found

pub returns-in-Ok-read_event-clause-may : goal.returns-in-Ok-read_event-clause-may
returns-in-Ok-read_event-clause-may c = λ settings same. event_of_one_family settings c.args.family c.in-Ok-read_event.event same c.in-Ok-read_event.ensures.may

pub returns-in-Err-clause-reason : goal.returns-in-Err-clause-reason
returns-in-Err-clause-reason c =
    let makes : MakesCall c.in-Ok.kind = search rules in
    let line = c.args.word.now ∷ fields c.args.rest.now in
    let parts : line ≡ words_of c.in-Ok.kind ++ fields c.in-Ok.values.now = search rules in
    call_judged c.args.family c.in-Ok.kind (fields c.in-Ok.values.now) line c.in-Err.error makes parts c.in-Err.ensures.reason
