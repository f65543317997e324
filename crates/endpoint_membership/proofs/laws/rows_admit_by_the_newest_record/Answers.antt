use Rattle.endpoint_membership.proofs.{AdmittedRows.{rows_admit-log}, MembershipAt.{admits-none, admits-row}}
use Rattle.endpoint_membership.proofs.laws.rows_admit_by_the_newest_record.Goals as goal

pub returns-clause-row : goal.returns-clause-row
returns-clause-row c = admits-row

pub returns-clause-no_row : goal.returns-clause-no_row
returns-clause-no_row c = admits-none

pub returns-clause-rows : goal.returns-clause-rows
returns-clause-rows c = λ lifetime log endpoint group source moment early. rows_admit-log endpoint group source lifetime log moment early
