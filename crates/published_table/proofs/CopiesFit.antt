-- Logs that fit throughout, and the copies that stand for them.
use Rattle.std.proofs.{Common.{◌≤◌, List, [], ◌∷◌, ◌++◌, length, sym, subst, inl, inr}, Math.{Logic.{∥∥₁_elim}, Seq.{take-length}}, Props.{props}}
use Rattle.endpoint_membership.{specs.{Limits.{IsWithin, live_count}, declared.change.Change.{Change}}, proofs.HoldsAfter.{rows_now}}
use Rattle.published_table.{specs.{Copies.{log_of}, Terms.{Fits, FitsThroughout, settings_by}, declared.{table_copy.TableCopy.{TableCopy}, terms.Terms.{Terms}}}, proofs.Beginnings.{take_last}}

-- one more entry with which the log fits
pub FitsThroughout-next : (terms : Terms) (log : List Change) (change : Change) → FitsThroughout terms log → Fits terms (log ++ change ∷ []) → FitsThroughout terms (log ++ change ∷ [])
FitsThroughout-next terms log change fits more number = elim (take_last number log change) [
  | inl same ↦ subst (Fits terms) (sym same) (fits number)
  | inr whole ↦ subst (Fits terms) (sym whole) more
]

-- what a copy keeps is within the limits
pub endpoints_fit : (copy : TableCopy) → FitsThroughout copy.terms (log_of copy) → live_count copy.table.rows ≤ copy.terms.limits.endpoints
endpoints_fit copy fits =
    let log = log_of copy in
    let all : Fits copy.terms log = subst (Fits copy.terms) (take-length log) (fits (length log)) in
    ∥∥₁_elim copy.stands (hlevel props) (λ holds. (subst (IsWithin copy.terms.limits) (sym (rows_now (settings_by copy.terms) copy.table log holds)) all).endpoints)
