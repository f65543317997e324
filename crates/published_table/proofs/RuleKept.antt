-- Each step keeps the rule of the published table.
use Rattle.std.proofs.Common.{◌≡◌, ℕ, ◌<◌, ◌^◌, ◌≢◌, List, [], ◌∷◌, ◌++◌, set, length, map, refl, sym, subst, ⊎_elim}
use mathlib.Core.Option.{some}
use lib.ListN.{get_elem?}
use Rattle.crossbeam_utils.specs.Register.{Admits, Forks, Merges, TurnsAt}
use Rattle.atomic_table.proofs.Lists.{at_set, at_snoc}
use Rattle.logbook.specs.Pages.{Book}
use Rattle.published_table.{specs.{Copies.{log_of, origin_of}, History.{IsUnder}, Lists.{AreAll, BeginsWith}, Rule.{EachKnows, HasSeen, Knows, TableRule, greeted, newcomer}, Terms.{FitsThroughout}, declared.{rule.Known.{Known}, table_copy.TableCopy.{TableCopy}, terms.Terms.{Terms}}}, proofs.Beginnings.{begins_further, begins_itself}}

abbrev pub Seen : Known → TableCopy → TableCopy → Known → Type 0
Seen before old copy after = HasSeen before copy after

Knows-further : (x y : TableCopy) (known : Known) → origin_of y ≡ origin_of x → BeginsWith (log_of y) (log_of x) → Knows x known → Knows y known
Knows-further x y known same begins knows = (
  begins_further (log_of y) (log_of x) known.seen begins knows.0,
  subst (λ (origin : Book × Terms). AreAll origin (map origin_of known.copies)) (sym same) knows.1,
)

Knows-newcomer : (x : TableCopy) → Knows x newcomer
Knows-newcomer x = (refl, tt)

EachKnows-set : (x : TableCopy) (holders : List Known) (seat : ℕ) (known : Known) → EachKnows x holders → Knows x known → EachKnows x (set holders seat known)
EachKnows-set x holders seat known each knows other one at =
    ⊎_elim (λ (t : (other ≡ seat) × (known ≡ one)). subst (Knows x) t.1 knows) (λ (t : (other ≢ seat) × (get_elem? holders other ≡ some one)). each other one t.1)
    (at_set holders seat other known one at)

EachKnows-last : (x : TableCopy) (holders : List Known) (known : Known) → EachKnows x holders → Knows x known → EachKnows x (holders ++ known ∷ [])
EachKnows-last x holders known each knows seat one at =
    ⊎_elim (each seat one) (λ (same : known ≡ one). subst (Knows x) same knows) (at_snoc holders known one seat at)

with_holders : (x : TableCopy) (before after : List Known) → TableRule x before → EachKnows x after → TableRule x after
with_holders x before after rule each = record { short = rule.short; fits = rule.fits; under = rule.under; each = each }

-- a new holder
pub admits : Admits TableRule newcomer
admits x holders rule = with_holders x holders (holders ++ newcomer ∷ []) rule (EachKnows-last x holders newcomer rule.each (Knows-newcomer x))

-- a copy of the same origin, whose log is as long or longer
pub steps : (seat : ℕ) (known : Known) (x y : TableCopy) → origin_of y ≡ origin_of x → BeginsWith (log_of y) (log_of x)
    → (length (log_of x) < 2 ^ 63 → length (log_of y) < 2 ^ 63)
    → (FitsThroughout x.terms (log_of x) → FitsThroughout y.terms (log_of y))
    → (IsUnder x.bookmark.seen.log (log_of x) → IsUnder y.bookmark.seen.log (log_of y)) → TurnsAt TableRule seat known x y Seen
steps seat known x y same begins short fits under holders rule at =
    let after : Known = record { seen = log_of y; copies = y ∷ [] } in
    let knows : Knows y known = Knows-further x y known same begins (rule.each seat known at) in
    let each : EachKnows y holders = λ other one there. Knows-further x y one same begins (rule.each other one there) in
    let itself : Knows y after = (begins_itself (log_of y), (refl, tt)) in (
      after,
      record { short = short rule.short; fits = fits rule.fits; under = under rule.under; each = EachKnows-set y holders seat after each itself },
      record { seen = refl; begins = knows.0; origin = refl; same = knows.1; short = short rule.short; fits = fits rule.fits; under = under rule.under },
    )

-- a reading
pub looks : (seat : ℕ) (known : Known) (x : TableCopy) → TurnsAt TableRule seat known x x Seen
looks seat known x = steps seat known x x refl (begins_itself (log_of x)) (λ h. h) (λ h. h) (λ h. h)

-- the publisher shares what it knows
pub forks : (seat : ℕ) (known : Known) → Forks TableRule seat known known known
forks seat known x holders rule at =
    let knows = rule.each seat known at in
    with_holders x holders (set holders seat known ++ known ∷ []) rule
    (EachKnows-last x (set holders seat known) known (EachKnows-set x holders seat known rule.each knows) knows)

-- a holder takes that over
pub greets : (seat : ℕ) (known : Known) (other : ℕ) (known_there : Known) → Merges TableRule seat known other known_there (greeted known known_there) newcomer
greets seat known other known_there x holders rule at apart there =
    let mine = rule.each seat known at in
    let theirs : Knows x known_there =
    ⊎_elim (λ (t : (other ≡ seat) × (greeted known known_there ≡ known_there)). absurd (apart t.0))
    (λ (t : (other ≢ seat) × (get_elem? holders other ≡ some known_there)). rule.each other known_there t.1)
    (at_set holders seat other (greeted known known_there) known_there there) in
    with_holders x holders (set (set holders seat (greeted known known_there)) other newcomer) rule
    (EachKnows-set x (set holders seat (greeted known known_there)) other newcomer
    (EachKnows-set x holders seat (greeted known known_there) rule.each (mine.0, theirs.1)) (Knows-newcomer x))
