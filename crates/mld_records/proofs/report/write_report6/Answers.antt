use Rattle.group_records.{specs.declared.family.Family.TheVariants.{V6}, proofs.WrittenReport.{short-few_items}}
use Rattle.mld_records.proofs.report.write_report6.Goals as goal

pub report_length-message_length-requires : goal.report_length-message_length-requires
report_length-message_length-requires c = short-few_items V6 c.args.records.now c.requires.most
