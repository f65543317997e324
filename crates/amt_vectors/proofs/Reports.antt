-- What a run over rows reports is one report, and that of all rows together.
use Rattle.std.proofs.Common.{◌≡◌, ℕ, ◌+◌, ◌<◌, ◌≤◌, List, [], ◌∷◌, ◌++◌, length, take, drop, get_or, All, MatchOption, Option, None, Some, inl, inr, refl, sym, subst, ap, ◌∙◌, append_assoc, length-append, length-take, add-one, suc, arith}
use Rattle.std.{proofs.{lemmas.List.{take-append-drop, take_more, take_all, Elements.{All-append, All-cons, All-nil, recursion_from_All}}, Math.Seq.{drop-cons}}, specs.List.{AllByRecursion}}
use Rattle.amt_values.{specs.Text.{ip_text}, proofs.Unique.{IsIpText-unique}}
use Rattle.script_lines.proofs.Verdicts.{one_script}
use Rattle.amt_vectors.specs.{declared.{report.{Bad.{Bad}, SuiteReport.{SuiteReport}}, row.{Question.{Question, TheVariants.{Hmac, Sum, Decode, Code4, Code6, Ip}}, Row.{Row}}}, Answer.{IsAnswer, IsCanonicalOf}, BuiltIn.{built_in_text}}
use Rattle.amt_vectors.{specs.{Kind.{vector_kind}, Reading.{IsFirstBadAfter, IsOther, IsReportAfter, ReportsAfter}, Report.{IsBadRow, IsFirstBad, IsReportOf, IsVectorsReport, Passes, Reports}}, proofs.Lawful.{vector_kind_lawful}}

IsCanonicalOf-unique : (address one other : List ℕ) → IsCanonicalOf address one → IsCanonicalOf address other → one ≡ other
IsCanonicalOf-unique address one other (inl h) (inl k) = h.2 ∙ (ap ip_text (IsIpText-unique h.0 k.0 address h.1 k.1) ∙ sym k.2)
IsCanonicalOf-unique address one other (inl h) (inr k) = absurd (k.0 h.0 h.1)
IsCanonicalOf-unique address one other (inr h) (inl k) = absurd (h.0 k.0 k.1)
IsCanonicalOf-unique address one other (inr h) (inr k) = h.1 ∙ sym k.1

-- a question has one answer
pub IsAnswer-unique : (question : Question) (one other : List ℕ) → IsAnswer question one → IsAnswer question other → one ≡ other
IsAnswer-unique (Hmac key message) one other h k = h ∙ sym k
IsAnswer-unique (Sum bytes) one other h k = h ∙ sym k
IsAnswer-unique (Decode bytes) one other h k = h ∙ sym k
IsAnswer-unique (Code4 code) one other h k = h ∙ sym k
IsAnswer-unique (Code6 code) one other h k = h ∙ sym k
IsAnswer-unique (Ip address) one other h k = IsCanonicalOf-unique address one other h k

-- a row whose answer differs doesn't pass
bad_is_bad : (number : ℕ) (row : Row) (bad : Bad) → IsBadRow number row bad → Passes row → ⊥
bad_is_bad number row bad is passes = is.differs (IsAnswer-unique row.question bad.have row.want is.have_is passes ∙ sym is.want_is)

-- what passes before two first rows that don't, and those rows, are the same
record AreOne (before before' : List Row) (row row' : Row) : Type 0 where
  lists : before ≡ before'
  last : row ≡ row'

first_once : (before before' : List Row) (row row' : Row) (after after' : List Row) → before ++ row ∷ after ≡ before' ++ row' ∷ after'
    → AllByRecursion Passes before → AllByRecursion Passes before' → (Passes row → ⊥) → (Passes row' → ⊥) → AreOne before before' row row'
first_once [] [] row row' after after' same h k wrong wrong' = record { lists = refl; last = cc same }
first_once [] (y ∷ ys) row row' after after' same h k wrong wrong' =
    let is : y ≡ row = cc same in absurd (wrong (subst Passes is k.0))
first_once (x ∷ xs) [] row row' after after' same h k wrong wrong' =
    let is : x ≡ row' = cc same in absurd (wrong' (subst Passes is h.0))
first_once (x ∷ xs) (y ∷ ys) row row' after after' same h k wrong wrong' =
    let here : x ≡ y = cc same in
    let rest : xs ++ row ∷ after ≡ ys ++ row' ∷ after' = cc same in
    let later = first_once xs ys row row' after after' rest h.1 k.1 wrong wrong' in
    record { lists = rw (here, later.lists) refl; last = later.last }

pass_here : (before : List Row) (row : Row) (after rows : List Row) → rows ≡ before ++ row ∷ after → AllByRecursion Passes rows → Passes row
pass_here [] row after rows parts all = (subst (AllByRecursion Passes) parts all).0
pass_here (x ∷ xs) row after rows parts all = pass_here xs row after (xs ++ row ∷ after) refl (subst (AllByRecursion Passes) parts all).1

bad_once : (number number' : ℕ) (row row' : Row) (one other : Bad) → number ≡ number' → row ≡ row' → IsBadRow number row one → IsBadRow number' row' other → one ≡ other
bad_once number number' row row' one other same same_row h k =
    let moved = subst (λ (r : Row). IsBadRow number r one) same_row h in
    let number_is = moved.number_is ∙ (same ∙ sym k.number_is) in
    let want_is = moved.want_is ∙ sym k.want_is in
    let have_is = IsAnswer-unique row'.question one.have other.have moved.have_is k.have_is in
    λ i. record { number = number_is i; want = want_is i; have = have_is i }

abbrev told : ℕ → Option Bad → SuiteReport
told passed bad = record { passed = passed; bad = bad }

same_report : (passed passed' : ℕ) (bad bad' : Option Bad) → passed ≡ passed' → bad ≡ bad'
    → told passed bad ≡ told passed' bad'
same_report passed passed' bad bad' h k = λ i. record { passed = h i; bad = k i }

report_once : (rows : List Row) (passed passed' : ℕ) (bad bad' : Option Bad) → Reports rows passed bad
    → Reports rows passed' bad' → told passed bad ≡ told passed' bad'
report_once rows passed passed' None None h k = same_report passed passed' None None (h.1 ∙ sym k.1) refl
report_once rows passed passed' None (Some bad') h k =
    absurd (bad_is_bad _ k.row bad' k.is_bad (pass_here k.before k.row k.after rows k.parts (recursion_from_All Passes rows h.0)))
report_once rows passed passed' (Some bad) None h k =
    absurd (bad_is_bad _ h.row bad h.is_bad (pass_here h.before h.row h.after rows h.parts (recursion_from_All Passes rows k.0)))
report_once rows passed passed' (Some bad) (Some bad') h k =
    let one = first_once h.before k.before h.row k.row h.after k.after (sym h.parts ∙ k.parts) (recursion_from_All Passes h.before h.pass) (recursion_from_All Passes k.before k.pass) (bad_is_bad _ h.row bad h.is_bad) (bad_is_bad _ k.row bad' k.is_bad) in
    let count = ap (λ (rs : List Row). length rs) one.lists in
    let bads = bad_once (length h.before + 1) (length k.before + 1) h.row k.row bad bad' (ap (λ (n : ℕ). n + 1) count) one.last h.is_bad k.is_bad in
    same_report passed passed' (Some bad) (Some bad') (h.counted ∙ (count ∙ sym k.counted)) (ap (λ (b : Bad). Some b) bads)

pub report_unique : (bytes : List ℕ) (one other : SuiteReport) → IsVectorsReport one bytes → IsVectorsReport other bytes → one ≡ other
report_unique bytes one other h k =
    let given = one_script vector_kind vector_kind_lawful built_in_text h.suite.built_in k.suite.built_in h.suite.spells_built_in k.suite.spells_built_in in
    let rows = one_script vector_kind vector_kind_lawful bytes h.rows k.rows h.spells k.spells in
    report_once (k.suite.built_in ++ k.rows) one.passed other.passed one.bad other.bad
    (subst (λ (rs : List Row). IsReportOf (k.suite.built_in ++ rs) one) rows (subst (λ (rs : List Row). IsReportOf (rs ++ h.rows) one) given h.suite.report_of)) k.suite.report_of

-- all the first rows pass, and this is the report of the others after them
pub after_all : (given rows : List Row) (count passed : ℕ) (bad : Option Bad) → All Passes given → count ≡ length given
    → ReportsAfter count rows passed bad → Reports (given ++ rows) passed bad
after_all given rows count passed None pass counted after =
    (All-append Passes given rows pass after.0, omega (arith, after.1, counted, length-append given rows))
after_all given rows count passed (Some bad) pass counted after = record {
  before = given ++ after.before;
  row = after.row;
  after = after.after;
  parts = ap (λ (rs : List Row). given ++ rs) after.parts ∙ sym (append_assoc given after.before (after.row ∷ after.after));
  pass = All-append Passes given after.before pass after.pass;
  counted = omega (arith, after.counted, counted, length-append given after.before);
  is_bad = subst (λ (n : ℕ). IsBadRow n after.row bad) (omega (arith, after.counted, counted, length-append given after.before)) after.is_bad;
}

-- one of the first rows doesn't pass
pub among_first : (given rows : List Row) (passed : ℕ) (bad : Bad) → IsFirstBadAfter 0 given passed bad → IsFirstBad (given ++ rows) passed bad
among_first given rows passed bad first = record {
  before = first.before;
  row = first.row;
  after = first.after ++ rows;
  parts = ap (λ (rs : List Row). rs ++ rows) first.parts ∙ append_assoc first.before (first.row ∷ first.after) rows;
  pass = first.pass;
  counted = omega (arith, first.counted);
  is_bad = subst (λ (n : ℕ). IsBadRow n first.row bad) (omega (arith, first.counted)) first.is_bad;
}

-- the rows before this one pass, and so many rows have passed with them
pub record ArePassed (count : ℕ) (rows : List Row) (i passed : ℕ) : Type 0 where
  pub pass : All Passes (take i rows)
  pub counted : passed ≡ count + i

pub passed_more : (count : ℕ) (rows : List Row) (i passed : ℕ) (row : Row) → i < length rows → row ≡ get_or rows i row → ArePassed count rows i passed → Passes row
    → ArePassed count rows (i + 1) (passed + 1)
passed_more count rows i passed row within is before passes = record {
  pass = subst (All Passes) (sym (take_more rows i row within ∙ ap (λ (r : Row). take i rows ++ r ∷ []) (sym is)))
      (All-append Passes (take i rows) (row ∷ []) before.pass (All-cons Passes row [] passes (All-nil Passes)));
  counted = omega (arith, before.counted);
}

pub passed_all : (count : ℕ) (rows : List Row) (i passed : ℕ) → length rows ≤ i → i ≤ length rows → ArePassed count rows i passed
    → ReportsAfter count rows passed None
passed_all count rows i passed end within before =
    (subst (All Passes) (take_all i rows end) before.pass, omega (arith, end, within, before.counted))

-- where no other answer was found, the row passes
pub passes_of : (row : Row) (other : Option (List ℕ)) → other ≡ None → MatchOption other (Passes row) (IsOther row) → Passes row
passes_of row other none found = subst (λ (o : Option (List ℕ)). MatchOption o (Passes row) (IsOther row)) none found

-- the rows around one of them
around : (rows : List Row) (i : ℕ) (row : Row) → i < length rows → row ≡ get_or rows i row → rows ≡ take i rows ++ row ∷ drop (i + 1) rows
around rows i row within is =
    sym (take-append-drop i rows)
    ∙ (ap (λ (rest : List Row). take i rows ++ rest) (drop-cons rows i row within)
    ∙ (ap (λ (r : Row). take i rows ++ r ∷ drop (suc i) rows) (sym is)
    ∙ ap (λ (k : ℕ). take i rows ++ row ∷ drop k rows) (sym (add-one i))))

pub bad_after : (count : ℕ) (rows : List Row) (i passed : ℕ) (row : Row) (bad : Bad) → i < length rows → row ≡ get_or rows i row → ArePassed count rows i passed
    → IsBadRow (passed + 1) row bad → IsFirstBadAfter count rows passed bad
bad_after count rows i passed row bad within is before is_bad = record {
  before = take i rows;
  row = row;
  after = drop (i + 1) rows;
  parts = around rows i row within is;
  pass = before.pass;
  counted = omega (arith, before.counted, within, length-take i rows);
  is_bad = is_bad;
}

-- the report of rows that are given first and of others, by that of the first ones
pub both_pass : (given rows : List Row) (first report : SuiteReport) → first.bad ≡ None → IsReportAfter 0 given first
    → IsReportAfter first.passed rows report → IsReportOf (given ++ rows) report
both_pass given rows first report none before after =
    let all = subst (ReportsAfter 0 given first.passed) none before in
    after_all given rows first.passed report.passed report.bad all.0 (omega (arith, all.1)) after

pub first_fails : (given rows : List Row) (report : SuiteReport) (bad : Bad) → report.bad ≡ Some bad → IsReportAfter 0 given report
    → IsReportOf (given ++ rows) report
first_fails given rows report bad some first =
    subst (Reports (given ++ rows) report.passed) (sym some)
    (among_first given rows report.passed bad (subst (ReportsAfter 0 given report.passed) some first))

pub first_passed : (given : List Row) (report : SuiteReport) → report.bad ≡ None → IsReportAfter 0 given report → report.passed ≡ length given
first_passed given report none first =
    let all = subst (ReportsAfter 0 given report.passed) none first in omega (arith, all.1)
