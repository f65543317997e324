use Rattle.amt_values.specs.declared.address.Ip.TheVariants.{V6}
use Rattle.script_lines.proofs.values.read_address6.Goals as goal

pub returns-in-None-clause-none : goal.returns-in-None-clause-none
returns-in-None-clause-none c = λ number h. let read = c.in-None.ensures.only (V6 number) h in cc read

pub returns-in-Some-V4-clause-none : goal.returns-in-Some-V4-clause-none
returns-in-Some-V4-clause-none c = λ number h. let read = c.in-Some-V4.ensures.only (V6 number) h in cc (read, c.in-Some-V4.field-0-is)
