-- What holds of a result or an option in each case.
use Rattle.std.{proofs.Common.{◌≡◌, ℕ, ◌≤◌, false, IfOk, MatchResult, Result, Ok, Err, is_err, sym, subst, arith}, specs.Prelude.{MatchOption, Option, Some, None, OnSome}}

pub ok_case : {X E A : Type 0} (B : E → Type 0) (result : Result X E) → MatchResult result (λ _. A) B → is_err result ≡ false → A
ok_case B (Ok x) one fine = one
ok_case B (Err e) one fine = cc

pub err_case : {X E : Type 0} (A B : Type 0) (result : Result X E) (error : E) → result ≡ Err error → MatchResult result (λ _. A) (λ _. B) → B
err_case {X} {E} A B result error is one = subst (λ (one : Result X E). MatchResult one (λ _. A) (λ _. B)) is one

pub some_case : {X : Type 0} (A : Type 0) (B : X → Type 0) (found : Option X) (x : X) → found ≡ Some x → B x → MatchOption found A B
some_case {X} A B found x is one = subst (λ (one : Option X). MatchOption one A B) (sym is) one

pub none_case : {X : Type 0} (A : Type 0) (B : X → Type 0) (found : Option X) → found ≡ None → A → MatchOption found A B
none_case {X} A B found is one = subst (λ (one : Option X). MatchOption one A B) (sym is) one

pub OnSome-less : {X : Type 0} (found : Option X) (least most room : ℕ) → OnSome found (most ≤ room) → least ≤ most → OnSome found (least ≤ room)
OnSome-less None least most room enough less = tt
OnSome-less (Some x) least most room enough less = omega (arith, enough, less)

pub if_ok_so : {X E P : Type 0} (result : Result X E) → P → IfOk result (λ _. P)
if_ok_so (Ok x) one = one
if_ok_so (Err e) one = tt
