-- Databases that are open stay databases of the directory when one is made or opened, and no replies are left where none were: a run that is alone stays so.
use Rattle.std.proofs.Common.{◌≡◌, ℕ, suc, ◌+◌, ◌≤◌, Bool, true, false, List, [], ◌∷◌, ◌++◌, length, Option, Some, None, refl, sym, ap, subst, arith, if◌then◌else◌}
use Rattle.std.specs.List.{AllByRecursion}
use Rattle.std.proofs.lemmas.List.{length-append}
use Rattle.ps_heap.specs.Calls.{Answer, reply_in, replies_after, by_reply, if_replied, refused, created_database, create_unless, create_answer, opened_database, open_as, open_by, open_answer, commit_by, commit_call, asks_to_create, asks_to_open}
use Rattle.ps_heap.specs.Commit.{Decision, NotWritable, NothingToDo, Saves, decision, is_empty}
use Rattle.ps_heap.specs.Databases.{Database, Directory, Numbered, named_from, Mode, Reading, Writing, Opening, WrongPassword, with_writing, numbers_for_writing, each_once, open_for_writing, Fault, BusyWriter, StaleStart, create_fault, Admission, Admits, Refuses, admitted_as, admitted_to, mode_named, admission, directory_weight}
use Rattle.ps_heap.specs.Databases as database
use Rattle.ps_heap.specs.Held.{Reply, Free, Busy, Stale, Held, counting, touching}
use Rattle.ps_heap.specs.Library.{HeapProcedure, CreateDatabase, OpenDatabase, Commit, text_argument, heap_call}
use Rattle.ps_heap.specs.Texts.{is_same_text}
use Rattle.std.specs.Prelude.{codes}
use Rattle.database_steps.specs.Databases.{IsNumber, IsAlone}
use Rattle.database_steps.proofs.Going.{Quietly}
use Rattle.database_steps.proofs.LibrarySteps.{Answers, plain_answers}

-- Numbers of the directory.

and_one : (count more : ℕ) (openings : List Opening) (opening : Opening) → count ≤ more → AllByRecursion (λ o. IsNumber count o.number) openings →
    IsNumber more opening.number → AllByRecursion (λ o. IsNumber more o.number) (openings ++ opening ∷ [])
and_one count more [] opening le named is = (is, tt)
and_one count more (first ∷ openings) opening le named is =
    (record { first = named.0.first; last = omega (arith, le, named.0.last) }, and_one count more openings opening le named.1 is)

-- what is found under a name has a number from this one on, and one of the directory's
abbrev IsFound : ℕ → ℕ → Option Numbered → Type 0
IsFound from count None = Unit {0}
IsFound from count (Some to) = (from ≤ to.number) × (suc to.number ≤ from + count)

one_later : (from count : ℕ) (found : Option Numbered) → IsFound (suc from) count found → IsFound from (suc count) found
one_later from count None is = tt
one_later from count (Some to) is = (omega (arith, is.0), omega (arith, is.1))

is_found : (from : ℕ) (directory : Directory) (name : List ℕ) → IsFound from (length directory) (named_from from directory name)
is_found from [] name = tt
is_found from (d ∷ ds) name =
    if_same (is_same_text d.name name) (named_from (suc from) ds name) (one_later from (length ds) (named_from (suc from) ds name) (is_found (suc from) ds name))
  where
    if_same : (b : Bool) (found : Option Numbered) → IsFound from (suc (length ds)) found →
        IsFound from (suc (length ds)) (if b then Some (record { number = from; database = d }) else found)
    if_same true found is = (omega arith, omega arith)
    if_same false found is = is

-- what is admitted is one of the directory
abbrev IsAdmitted : ℕ → Admission → Type 0
IsAdmitted count (Admits to mode) = IsNumber count to.number
IsAdmitted count (Refuses fault) = Unit {0}

as_named : (count : ℕ) (to : Numbered) (mode : Option Mode) → IsNumber count to.number → IsAdmitted count (admitted_as to mode)
as_named count to None is = tt
as_named count to (Some mode) is = is

is_admitted : (count : ℕ) (found : Option Numbered) (password mode : List ℕ) → IsFound 1 count found → IsAdmitted count (admitted_to found password mode)
is_admitted count None password mode is = tt
is_admitted count (Some to) password mode is = if_same (is_same_text to.database.password password)
  where
    if_same : (b : Bool) → IsAdmitted count (if b then admitted_as to (mode_named mode) else Refuses WrongPassword)
    if_same true = as_named count to (mode_named mode) (record { first = is.0; last = omega (arith, is.1) })
    if_same false = tt

-- Calls.

-- whatever else is changed quietly
pub quietly_alone : (h : Held) → IsAlone h → Quietly (λ events d. IsAlone d) h
quietly_alone h alone objects assigned touched counted events quiet = record { named = alone.named; replies = alone.replies }

-- an error record changes neither databases nor replies
refused_alone : (context : List ℕ) (fault : Fault) (h : Held) → IsAlone h → IsAlone (refused context fault h).held
refused_alone context fault h alone = record { named = alone.named; replies = alone.replies }

replied_alone : (context : List ℕ) (reply : Reply) (grant : Held → Answer) (h : Held) → IsAlone h → IsAlone (grant h).held → IsAlone (by_reply context reply grant h).held
replied_alone context Free grant h alone granted = granted
replied_alone context Busy grant h alone granted = refused_alone context BusyWriter h alone
replied_alone context Stale grant h alone granted = refused_alone context StaleStart h alone

-- with a reply taken
abbrev taken : Held → Held
taken h = record h { replies = replies_after h.replies }

asked_alone : (context : List ℕ) (grant : Held → Answer) (h : Held) → ((d : Held) → d.directory ≡ h.directory → IsAlone d → IsAlone (grant d).held) → IsAlone h →
    IsAlone (if_replied context grant h).held
asked_alone context grant h granted alone = if_none (is_empty (open_for_writing h.openings))
  where
    taken_alone : IsAlone (taken h)
    taken_alone = record { named = alone.named; replies = ap replies_after alone.replies }

    if_none : (b : Bool) → IsAlone (if b then by_reply context (reply_in h.replies) grant (taken h) else grant h).held
    if_none true = replied_alone context (reply_in h.replies) grant (taken h) taken_alone (granted (taken h) refl taken_alone)
    if_none false = granted h refl alone

made_alone : (name password : List ℕ) (h : Held) → IsAlone h → IsAlone (created_database name password h).held
made_alone name password h alone =
    let new : Database = record { name = name; password = password; root = length h.objects } in
    let long : length (h.directory ++ new ∷ []) ≡ length h.directory + 1 = length-append h.directory (new ∷ []) in
    record {
      named = and_one (length h.directory) _ h.openings _ (omega (arith, long)) alone.named (record { first = omega arith; last = omega (arith, long) });
      replies = alone.replies;
    }

opened_alone : (to : Numbered) (mode : Mode) (h : Held) → IsNumber (length h.directory) to.number → IsAlone h → IsAlone (opened_database to mode h).held
opened_alone to mode h is alone =
    record { named = and_one (length h.directory) (length h.directory) h.openings _ (omega arith) alone.named is; replies = alone.replies }

created_alone : (name password : List ℕ) (h : Held) → IsAlone h → IsAlone (create_answer name password h).held
unfolding create_answer
created_alone name password h alone = by (create_fault h.directory name password)
  where
    by : (fault : Option Fault) → IsAlone (create_unless fault name password h).held
    by (Some fault) = refused_alone (codes "create.database") fault h alone
    by None =
        asked_alone (codes "create.database") (created_database name password) (counting (directory_weight (suc (length h.directory))) h)
        (λ d same is. made_alone name password d is) (record { named = alone.named; replies = alone.replies })

admitted_alone : (to : Numbered) (mode : Mode) (h : Held) → IsNumber (length h.directory) to.number → IsAlone h → IsAlone (open_as mode to h).held
admitted_alone to Reading h is alone = opened_alone to Reading h is alone
admitted_alone to Writing h is alone =
    asked_alone (codes "open.database") (opened_database to Writing) h
    (λ d same now. opened_alone to Writing d (subst (λ (ds : Directory). IsNumber (length ds) to.number) (sym same) is) now) alone

answered_alone : (found : Admission) (h : Held) → IsAdmitted (length h.directory) found → IsAlone h → IsAlone (open_by found h).held
answered_alone (Refuses fault) h is alone = refused_alone (codes "open.database") fault h alone
answered_alone (Admits to mode) h is alone =
    admitted_alone to mode (touching (to.database.root ∷ []) h) is (record { named = alone.named; replies = alone.replies })

open_alone : (name password mode : List ℕ) (h : Held) → IsAlone h → IsAlone (open_answer name password mode h).held
unfolding open_answer admission
open_alone name password mode h alone =
    answered_alone (admission h.directory name password mode) h
    (is_admitted (length h.directory) (named_from 1 h.directory name) password mode (is_found 1 h.directory name)) alone

decided_alone : (what : Decision) (h : Held) → IsAlone h → IsAlone (commit_by what h).held
decided_alone NotWritable h alone = refused_alone (codes "commit") database.NotWritable h alone
decided_alone NothingToDo h alone = alone
decided_alone (Saves heap) h alone = record { named = alone.named; replies = alone.replies }

commit_alone : (h : Held) → IsAlone h → IsAlone (commit_call h).held
unfolding commit_call
commit_alone h alone = decided_alone (decision h) h alone

-- Each procedure of the library leaves a run alone.
pub answers_alone : (of : HeapProcedure) (h : Held) → IsAlone h → Answers (λ events d. IsAlone d) of h
unfolding heap_call asks_to_create asks_to_open
answers_alone CreateDatabase h alone args =
    created_alone (text_argument args 0) (text_argument args 1) (asks_to_create (text_argument args 0) h).held
    (record { named = alone.named; replies = alone.replies })
answers_alone OpenDatabase h alone args =
    open_alone (text_argument args 0) (text_argument args 1) (text_argument args 2) (asks_to_open (text_argument args 0) (text_argument args 2) h).held
    (record { named = alone.named; replies = alone.replies })
answers_alone Commit h alone args = commit_alone h alone
answers_alone of h alone args = plain_answers (λ events d. IsAlone d) of h refl (quietly_alone h alone) args
