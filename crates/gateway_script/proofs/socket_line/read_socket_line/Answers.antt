use Rattle.std.proofs.Common.{◌≡◌, rules, subst}
use Rattle.group_records.specs.declared.family.Family.{Family}
use Rattle.socket_merge.specs.FullReport.{family_by}
use Rattle.script_lines.specs.{declared.fault.ScriptError.TheVariants.{Fault}, Lines.{IsPlain, IsShort}}
use Rattle.gateway_script.{specs.SocketLine.{IsSocketError}, proofs.{SocketCalls.{IsSocketLine-unique, fault_rules_out, line_fault}, socket_line.read_socket_line.Goals.{then-v6, else-v6}}}
use Rattle.gateway_script.proofs.socket_line.read_socket_line.Goals as goal

pub returns-in-Ok-clause-one : goal.returns-in-Ok-clause-one
returns-in-Ok-clause-one c = λ event other. IsSocketLine-unique (family_by c.args.v6) event other c.args.line.now

bad : (c : goal.After-fault-in-Err-Bad) → IsSocketError (family_by c.args.v6) c.args.line.now c.fault-in-Err-Bad.result
bad c =
    let line = c.control_line-line.result.now in
    let family : c.if-v6.family ≡ family_by c.args.v6 = elim c.if-v6.branch [ then-v6 w ↦ search rules | else-v6 w ↦ search rules ] in
    let short : IsShort line = search rules in
    let plain : IsPlain line = search rules in
    let fault = line_fault c.if-v6.family c.args.line.now line c.in-Err-Bad.reason c.control_line-line.ensures short plain (rw c.in-Err-Bad.field-0-is at c.in-Err-Bad.ensures.reason) in
    rw c.fault-in-Err-Bad.ensures (subst (λ (family : Family). IsSocketError family c.args.line.now (Fault 1 c.in-Err-Bad.reason)) family fault)

pub returns-in-Err-Bad-clause-fault : goal.returns-in-Err-Bad-clause-fault
returns-in-Err-Bad-clause-fault c = bad c

pub returns-in-Err-Bad-clause-none : goal.returns-in-Err-Bad-clause-none
returns-in-Err-Bad-clause-none c = fault_rules_out (family_by c.args.v6) c.args.line.now c.fault-in-Err-Bad.result (bad c)

pub returns-in-Err-Bad-clause-one : goal.returns-in-Err-Bad-clause-one
returns-in-Err-Bad-clause-one c = λ event other. IsSocketLine-unique (family_by c.args.v6) event other c.args.line.now

pub returns-in-Err-Memory-clause-one : goal.returns-in-Err-Memory-clause-one
returns-in-Err-Memory-clause-one c = λ event other. IsSocketLine-unique (family_by c.args.v6) event other c.args.line.now
