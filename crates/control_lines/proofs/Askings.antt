-- Lines that ask for something, and lines that don't.
use Rattle.std.proofs.Common.{◌≡◌, ◌≤◌, ℕ, List, [], ◌∷◌, length, get_or, codes, inl, inr, refl, sym, ap, subst, ◌∙◌, arith}
use Rattle.amt_values.{specs.{Conditions.{First}, Text.{IsPeerText}}, proofs.Unique.{IsPeerText-unique}}
use Rattle.script_lines.{specs.{Lines.{IsPlain, fields}, declared.reason.Reason.{Reason}}, proofs.Firsts.{First-holds}}
use Rattle.script_lines.specs.declared.reason.Reason.TheVariants as reasons
use Rattle.control_lines.specs.{Asking.{BeginsAsking, Fails, NamesNoPeer, SaysAsking, most_fields, order_of_reasons}, declared.asking.Asking.{Asking, TheVariants.{Counts, Show, ShowOf, Stop}}}

-- the words are apart by their second letter
show_is_not_stop : (line : List (List ℕ)) → line ≡ codes "show" ∷ [] → line ≡ codes "stop" ∷ [] → ⊥
show_is_not_stop line show stop =
    let letter : 104 ≡ 116 = ap (λ (words : List (List ℕ)). get_or (get_or words 0 []) 1 0) (sym show ∙ stop) in omega (arith, letter)

-- a line asks for one thing at most
pub SaysAsking-unique : (one other : Asking) (line : List (List ℕ)) → SaysAsking one line → SaysAsking other line → one ≡ other
SaysAsking-unique Counts Counts line h k = refl
SaysAsking-unique Show Show line h k = refl
SaysAsking-unique Stop Stop line h k = refl
SaysAsking-unique (ShowOf one) (ShowOf other) line h k =
    let same : h.0 ≡ k.0 = cc (h.1, k.1) in
    ap ShowOf (IsPeerText-unique one other k.0 (subst (IsPeerText one) same h.2) k.2)
SaysAsking-unique Counts Show line h k = cc
SaysAsking-unique Counts Stop line h k = cc
SaysAsking-unique Counts (ShowOf other) line h k = cc (h, k.1)
SaysAsking-unique Show Counts line h k = cc
SaysAsking-unique Show Stop line h k = absurd (show_is_not_stop line h k)
SaysAsking-unique Show (ShowOf other) line h k = cc (h, k.1)
SaysAsking-unique Stop Counts line h k = cc
SaysAsking-unique Stop Show line h k = absurd (show_is_not_stop line k h)
SaysAsking-unique Stop (ShowOf other) line h k = cc (h, k.1)
SaysAsking-unique (ShowOf one) Counts line h k = cc (h.1, k)
SaysAsking-unique (ShowOf one) Show line h k = cc (h.1, k)
SaysAsking-unique (ShowOf one) Stop line h k = cc (h.1, k)

begins : (asking : Asking) (line : List (List ℕ)) → SaysAsking asking line → BeginsAsking line
begins Counts line says = subst BeginsAsking (sym says) (inl refl)
begins Show line says = subst BeginsAsking (sym says) (inr (inl refl))
begins Stop line says = subst BeginsAsking (sym says) (inr (inr refl))
begins (ShowOf peer) line says = subst BeginsAsking (sym says.1) (inr (inl refl))

abbrev HasFew : List (List ℕ) → Type 0
HasFew line = length line ≤ most_fields (codes "show") line

few : (asking : Asking) (line : List (List ℕ)) → SaysAsking asking line → HasFew line
few Counts line says = subst HasFew (sym says) (omega arith)
few Show line says = subst HasFew (sym says) (omega arith)
few Stop line says = subst HasFew (sym says) (omega arith)
few (ShowOf peer) line says = subst HasFew (sym says.1) (omega arith)

names : (asking : Asking) (line : List (List ℕ)) → SaysAsking asking line → NamesNoPeer line → ⊥
names Counts line says none = cc (says, none.1)
names Show line says none = cc (says, none.1)
names Stop line says none = cc (says, none.1)
names (ShowOf peer) line says none =
    let same : says.0 ≡ none.0 = cc (says.1, none.1) in
    none.2 peer (subst (IsPeerText peer) same says.2)

-- nothing is wrong with a line that asks for something
is_good : (asking : Asking) (line : List ℕ) (reason : Reason) → IsPlain line → SaysAsking asking (fields line) → Fails line reason → ⊥
is_good asking line reasons.Word plain says fails = fails (plain, begins asking (fields line) says)
is_good asking line reasons.Count plain says fails = omega (arith, fails, few asking (fields line) says)
is_good asking line reasons.Peer plain says fails = names asking (fields line) says fails
is_good asking line reason plain says fails = absurd fails

-- a line with a reason asks for nothing
pub asks_nothing : (asking : Asking) (line : List ℕ) (reason : Reason) → IsPlain line → SaysAsking asking (fields line)
    → First (Fails line) order_of_reasons reason → ⊥
asks_nothing asking line reason plain says first =
    is_good asking line reason plain says (First-holds (Fails line) order_of_reasons reason first)
