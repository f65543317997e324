use Rattle.std.proofs.Common.{Err}
use Rattle.serving_commands.{specs.Reading.{IsFaultIn, IsFaultOfReading}, proofs.Deciding.{configured_by, decided, fault_is, fault_of_reading, fault_told_by, of_file, undecided}}
use Rattle.serving_commands.proofs.reading.read_settings.Goals as goal

pub returns-in-Err-clause-fault : goal.returns-in-Err-clause-fault
returns-in-Err-clause-fault g c = fault_of_reading g.C.FromSettings.kind _ c.in-Err.fault c.in-Err.ensures.fault

pub returns-in-Err-clause-decided : goal.returns-in-Err-clause-decided
returns-in-Err-clause-decided g c = undecided g.C.FromSettings.kind _ c.in-Err.fault c.in-Err.ensures.fault

pub returns-in-Err-clause-opens_none : goal.returns-in-Err-clause-opens_none
returns-in-Err-clause-opens_none g c = fault_is (IsFaultOfReading _) (Err c.in-Err.fault) _ c.in-Err.ensures.fault

pub returns-clause-found : goal.returns-clause-found
returns-clause-found g c =
    let file = of_file _ c.in-Ok.octets c.as_slice.result.now c.as_slice.ensures c.in-Ok.ensures.whole c.in-Ok.ensures.short in
    configured_by g.C.FromSettings.kind _ _ c.settings_in.result file.0 file.1 c.settings_in.ensures.found

pub returns-clause-fault : goal.returns-clause-fault
returns-clause-fault g c =
    let file = of_file _ c.in-Ok.octets c.as_slice.result.now c.as_slice.ensures c.in-Ok.ensures.whole c.in-Ok.ensures.short in
    fault_told_by g.C.FromSettings.kind _ _ c.settings_in.result file.0 file.1 c.settings_in.ensures.fault

pub returns-clause-decided : goal.returns-clause-decided
returns-clause-decided g c =
    let file = of_file _ c.in-Ok.octets c.as_slice.result.now c.as_slice.ensures c.in-Ok.ensures.whole c.in-Ok.ensures.short in
    decided g.C.FromSettings.kind _ _ c.settings_in.result file.0 file.1 c.settings_in.ensures.only c.settings_in.ensures.first

pub returns-clause-opens_none : goal.returns-clause-opens_none
returns-clause-opens_none g c = fault_is (IsFaultIn g.C.FromSettings.kind c.as_slice.result.now) c.settings_in.result _ c.settings_in.ensures.fault

pub returns-clause-failed : goal.returns-clause-failed
returns-clause-failed g c = λ is. absurd (fault_is (IsFaultIn g.C.FromSettings.kind c.as_slice.result.now) c.settings_in.result _ c.settings_in.ensures.fault is)

pub returns-clause-absent : goal.returns-clause-absent
returns-clause-absent g c = λ lacks. absurd (cc (c.read_octets.ensures.absent lacks, c.in-Ok.is))

pub returns-clause-quiet : goal.returns-clause-quiet
returns-clause-quiet g c = λ other. c.in-Ok.ensures.quiet (λ is. cc is)

pub returns-clause-same : goal.returns-clause-same
returns-clause-same g c = c.read_octets.ensures.same
