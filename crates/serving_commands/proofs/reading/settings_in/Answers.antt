use Rattle.std.proofs.Common.{Ok, inl, ap}
use Rattle.serving_commands.proofs.Deciding.{refused_only, taken_faultless, taken_only, told_first, told_is}
use Rattle.serving_commands.proofs.reading.settings_in.Goals as goal

pub returns-in-Ok-clause-only : goal.returns-in-Ok-clause-only
returns-in-Ok-clause-only g c = λ config file.
    inl (ap Ok (taken_only g.C.FromSettings.kind _ _ c.from_settings.ensures.only c.from_settings.ensures.first c.in-Ok.config c.in-Ok.is config file))

pub returns-in-Ok-clause-first : goal.returns-in-Ok-clause-first
returns-in-Ok-clause-first g c = λ fault says.
    absurd (taken_faultless g.C.FromSettings.kind _ _ c.from_settings.ensures.only c.from_settings.ensures.first c.in-Ok.config c.in-Ok.is fault says)

pub returns-in-Err : goal.returns-in-Err
returns-in-Err g c = record {
  found = tt;
  only = refused_only g.C.FromSettings.kind _ _ c.from_settings.ensures.only c.from_settings.ensures.first c.in-Err.fault c.fault_by.result c.in-Err.is c.fault_by.ensures;
  fault = told_is g.C.FromSettings.kind _ c.in-Err.fault c.fault_by.result c.fault_by.ensures c.in-Err.ensures.fault;
  first = told_first g.C.FromSettings.kind _ _ c.from_settings.ensures.only c.from_settings.ensures.first c.in-Err.fault c.fault_by.result c.in-Err.is c.fault_by.ensures;
}
