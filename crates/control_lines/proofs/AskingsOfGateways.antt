-- Lines that ask a gateway for something, and lines that don't.
use Rattle.std.proofs.Common.{◌≡◌, ◌≤◌, ◌<◌, ◌+◌, ℕ, List, [], length, get_or, codes, inl, inr, refl, sym, ap, subst, arith}
use Rattle.amt_values.specs.Conditions.{First}
use Rattle.script_lines.{specs.{Lines.{IsPlain, fields}, declared.reason.Reason.{Reason}}, proofs.Firsts.{First-holds}}
use Rattle.script_lines.specs.declared.reason.Reason.TheVariants as reasons
use Rattle.control_lines.specs.{Asking.{BeginsAsking, most_fields}, AskingGateways.{FailsAtGateway, StopsByWord, asking_words, gateway_reasons}, declared.asking_gateway.GatewayAsking.{GatewayAsking, TheVariants.{Counts, Show, Stop, StopLeave}}}

-- the lines are apart by the second letter of their words, and by the number of their fields
abbrev key : List (List ℕ) → ℕ
key line = get_or (get_or line 0 []) 1 0 + length line

other_key : (one other : List (List ℕ)) → one ≡ other → key one < key other → ⊥
other_key one other same less = omega (arith, ap key same, less)

-- a line asks for one thing at most
pub asking_words-unique : (one other : GatewayAsking) → asking_words one ≡ asking_words other → one ≡ other
asking_words-unique Counts Counts same = refl
asking_words-unique Show Show same = refl
asking_words-unique Stop Stop same = refl
asking_words-unique StopLeave StopLeave same = refl
asking_words-unique Counts Show same = absurd (other_key _ _ (sym same) (omega arith))
asking_words-unique Counts Stop same = absurd (other_key _ _ same (omega arith))
asking_words-unique Counts StopLeave same = absurd (other_key _ _ same (omega arith))
asking_words-unique Show Counts same = absurd (other_key _ _ same (omega arith))
asking_words-unique Show Stop same = absurd (other_key _ _ same (omega arith))
asking_words-unique Show StopLeave same = absurd (other_key _ _ same (omega arith))
asking_words-unique Stop Counts same = absurd (other_key _ _ (sym same) (omega arith))
asking_words-unique Stop Show same = absurd (other_key _ _ (sym same) (omega arith))
asking_words-unique Stop StopLeave same = absurd (other_key _ _ same (omega arith))
asking_words-unique StopLeave Counts same = absurd (other_key _ _ (sym same) (omega arith))
asking_words-unique StopLeave Show same = absurd (other_key _ _ (sym same) (omega arith))
asking_words-unique StopLeave Stop same = absurd (other_key _ _ (sym same) (omega arith))

-- nothing is wrong with the words by which something is asked
abbrev IsWorded : List (List ℕ) → Type 0
IsWorded line = BeginsAsking line × StopsByWord line × (length line ≤ most_fields (codes "stop") line)

worded : (asking : GatewayAsking) → IsWorded (asking_words asking)
worded Counts = (inl refl, tt, omega arith)
worded Show = (inr (inl refl), tt, omega arith)
worded Stop = (inr (inr refl), tt, omega arith)
worded StopLeave = (inr (inr refl), (λ _. refl), omega arith)

is_good : (line : List ℕ) (reason : Reason) → IsPlain line → IsWorded (fields line) → FailsAtGateway line reason → ⊥
is_good line reasons.Word plain are fails = fails (plain, are.0, are.1)
is_good line reasons.Count plain are fails = omega (arith, fails, are.2)
is_good line reason plain are fails = absurd fails

-- a line with a reason asks for nothing
pub asks_nothing : (asking : GatewayAsking) (line : List ℕ) (reason : Reason) → IsPlain line → fields line ≡ asking_words asking
    → First (FailsAtGateway line) gateway_reasons reason → ⊥
asks_nothing asking line reason plain says first =
    is_good line reason plain (subst IsWorded (sym says) (worded asking)) (First-holds (FailsAtGateway line) gateway_reasons reason first)
