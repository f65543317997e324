-- Lists of items and their jobs.
use Rattle.std.{proofs.{Common.{◌≡◌, ◌≤◌, ◌<◌, ◌^◌, List, [], ◌∷◌, ◌++◌, inl, inr, length, refl, sym, ap, subst, ◌∙◌, arith, length-append, false, true≢false}, lemmas.List.{append-nil}}, specs.declared.snapshot.Snapshot.{Snapshot}}
use Rattle.published_table.specs.declared.view.View.{View}
use Rattle.replication_workers.specs.{Queue.{AreOfHome, HasEnded, HasStopped, IsOfHome, IsPutting, MayPut, StopIsLast, has_stop, jobs_of, whole_end, with_put}, declared.{job.Job.{Job}, queue.{End.{End}, Item.{Item, TheVariants.{Home, Work, Stop}}}}}

pub jobs_of-append : (xs ys : List Item) → jobs_of (xs ++ ys) ≡ jobs_of xs ++ jobs_of ys
jobs_of-append [] ys = refl
jobs_of-append (Home view ∷ xs) ys = jobs_of-append xs ys
jobs_of-append (Work job ∷ xs) ys = ap (λ (jobs : List Job). job ∷ jobs) (jobs_of-append xs ys)
jobs_of-append (Stop ∷ xs) ys = jobs_of-append xs ys

-- an open list takes one item more, whatever it is
pub open-then : (xs : List Item) (item : Item) → has_stop xs ≡ false → StopIsLast (xs ++ item ∷ [])
open-then [] (Home view) opened = tt
open-then [] (Work job) opened = tt
open-then [] Stop opened = refl
open-then (Home view ∷ xs) item opened = open-then xs item opened
open-then (Work job ∷ xs) item opened = open-then xs item opened
open-then (Stop ∷ xs) item opened = absurd (true≢false opened)

-- and stays open after a job
pub open-job : (xs : List Item) (job : Job) → has_stop xs ≡ false → has_stop (xs ++ Work job ∷ []) ≡ false
open-job [] job opened = refl
open-job (Home view ∷ xs) job opened = open-job xs job opened
open-job (Work one ∷ xs) job opened = open-job xs job opened
open-job (Stop ∷ xs) job opened = absurd (true≢false opened)

-- what stands after Stop is nothing
pub none_after : (earlier later : List Item) → StopIsLast ((earlier ++ Stop ∷ []) ++ later) → later ≡ []
none_after [] later last = last
none_after (Home view ∷ earlier) later last = none_after earlier later last
none_after (Work job ∷ earlier) later last = none_after earlier later last
none_after (Stop ∷ earlier) later last = absurd (no_cons earlier later last)
  where
    no_cons : (xs ys : List Item) → (xs ++ Stop ∷ []) ++ ys ≡ [] → ⊥
    no_cons [] ys e = cc
    no_cons (x ∷ xs) ys e = cc

-- jobs of one publisher, and the same of their parts
pub of_home-append : (home : List View) (xs ys : List Job) → AreOfHome home xs → AreOfHome home ys → AreOfHome home (xs ++ ys)
of_home-append home [] ys first second = second
of_home-append home (x ∷ xs) ys first second = (first.0, of_home-append home xs ys first.1 second)

pub of_home-later : (home : List View) (xs ys : List Job) → AreOfHome home (xs ++ ys) → AreOfHome home ys
of_home-later home [] ys all = all
of_home-later home (x ∷ xs) ys all = of_home-later home xs ys all.1

pub of_home-first : (home : List View) (xs ys : List Job) → AreOfHome home (xs ++ ys) → AreOfHome home xs
of_home-first home [] ys all = tt
of_home-first home (x ∷ xs) ys all = (all.0, of_home-first home xs ys all.1)

-- a new queue may be told whose jobs it is for
pub may_settle : (home : Snapshot View) → MayPut whole_end (Home home)
may_settle home = record { puts = refl; alone = inr refl; lawful = λ _. record { few = omega arith; last = tt; of_home = tt } }

-- a job may be put where no Stop was
pub may_put_job : (known : End) (job : Job) → IsPutting known → length (jobs_of known.put) < 2 ^ 46 → IsOfHome known.home job → MayPut known (Work job)
may_put_job known job putting few of_home =
    let jobs = jobs_of-append known.put (Work job ∷ []) in record {
      puts = putting.puts;
      alone = inl refl;
      lawful = λ lawful. record {
        few = omega (arith, few, ap (λ (jobs : List Job). length jobs) jobs, length-append (jobs_of known.put) (job ∷ []));
        last = open-then known.put (Work job) putting.opened;
        of_home = subst (AreOfHome known.home) (sym jobs) (of_home-append known.home (jobs_of known.put) (job ∷ []) lawful.of_home (of_home, tt));
      };
    }

pub job_was_put : (known after : End) (job : Job) → after ≡ with_put known (Work job) → jobs_of after.put ≡ jobs_of known.put ++ job ∷ []
job_was_put known after job is = ap (λ (end : End). jobs_of end.put) is ∙ jobs_of-append known.put (Work job ∷ [])

pub still_putting : (known after : End) (job : Job) → IsPutting known → after ≡ with_put known (Work job) → IsPutting after
still_putting known after job putting is =
    subst IsPutting (sym is) (record { puts = putting.puts; takes = putting.takes; opened = open-job known.put job putting.opened })

-- so may Stop
pub may_put_stop : (known : End) → IsPutting known → MayPut known Stop
may_put_stop known putting =
    let jobs = jobs_of-append known.put (Stop ∷ []) ∙ append-nil (jobs_of known.put) in record {
      puts = putting.puts;
      alone = inl refl;
      lawful = λ lawful. record {
        few = subst (λ (jobs : List Job). length jobs ≤ 2 ^ 46) (sym jobs) lawful.few;
        last = open-then known.put Stop putting.opened;
        of_home = subst (AreOfHome known.home) (sym jobs) lawful.of_home;
      };
    }

pub stop_was_put : (known after : End) → IsPutting known → after ≡ with_put known Stop → HasStopped after × (jobs_of after.put ≡ jobs_of known.put)
stop_was_put known after putting is = (
  subst HasStopped (sym is) (record { puts = putting.puts; stopped = (known.put, refl) }),
  ap (λ (end : End). jobs_of end.put) is ∙ jobs_of-append known.put (Stop ∷ []) ∙ append-nil (jobs_of known.put),
)

-- who took Stop took all that was put
pub took_all : (known ended : End) (items : List Item) → HasEnded ended → known.put ≡ ended.taken ++ items → StopIsLast known.put → jobs_of ended.taken ≡ jobs_of known.put
took_all known ended items end all last =
    let none : items ≡ [] = none_after end.ended.0 items (subst (λ (list : List Item). StopIsLast (list ++ items)) end.ended.1 (subst StopIsLast all last)) in
    ap jobs_of (sym (append-nil ended.taken) ∙ ap (λ (later : List Item). ended.taken ++ later) (sym none) ∙ sym all)
