-- What a run keeps of its databases where they are made and opened, and what a commit saves.
use Rattle.std.proofs.Common.{Bool, true, false, inl, inr, ◌⊎◌, ◌≡◌, ◌≢◌, ℕ, zero, suc, ◌+◌, ◌<◌, ◌≤◌, List, [], ◌∷◌, ◌++◌, length, refl, sym, ap, ◌∙◌, subst, arith, Option, Some, None, if◌then◌else◌, nat_eq}
use Rattle.std.specs.Prelude.{◌||◌, nat_lt, codes}
use Rattle.std.specs.List.{AllByRecursion}
use Rattle.std.proofs.lemmas.Bool.{cases_Bool, true≢false, cases_order, eq-eqb, ne_eqb, eqb-false, ltb-false}
use Rattle.std.proofs.lemmas.List.{length-append}
use Rattle.std.proofs.lemmas.Slice.Eq.{bytes_eq-Decides}
use Rattle.std.proofs.lemmas.Map.Text.{is_eq-slice_cmp}
use Rattle.ps_heap.specs.ps_base.Limits.{most_databases, most_database_name_bytes, most_password_bytes}
use Rattle.reaching.proofs.Lists.{then_is, else_is, in-is_in, in-front, in-behind}
use Rattle.ps_heap.specs.Texts.{is_same_text}
use Rattle.ps_heap.specs.Tables.{without_keys}
use Rattle.ps_heap.specs.Objects.{Keyed, object_at}
use Rattle.ps_heap.specs.References.{next_in}
use Rattle.ps_heap.specs.Weights.{whole_weight}
use Rattle.ps_heap.specs.Databases.{Database, Directory, Numbered, named_from, named, database_from, database_at, root_of, every_root, Mode, Reading, Writing, with_writing, numbers_for_writing, open_for_writing, Opening, Fault, BadName, BadPassword, Exists, TooMany, BusyWriter, StaleStart, create_fault, mode_named, Admission, Admits, Refuses, admitted_as, admitted_to, admission, is_there, directory_weight}
use Rattle.ps_heap.specs.Databases as database
use Rattle.ps_heap.specs.Held.{Held, Reply, Free, Busy, Stale, StoredHeap, home_at, counting, new_id, with_object, touching}
use Rattle.ps_heap.specs.Commit.{created_with, first_database, sources, source_of, or_else, home_after, homes_after, loose, Decision, NotWritable, NothingToDo, Saves, decision, saved, after_decision, are_writable, is_empty}
use Rattle.ps_heap.specs.Calls.{Answer, error_record, refused, reply_in, replies_after, by_reply, if_replied, created_database, create_unless, create_answer, opened_database, open_by, open_answer, commit_by, commit_call}
use Rattle.ps_heap.specs.reaching.Reaching.{IsIn, is_in, at_start, by_step, reach, first_source}
use Rattle.database_meaning.specs.Same.{IsInHeap}
use Rattle.database_meaning.specs.Sound.{IsCommitted}
use Rattle.database_meaning.proofs.CommitLaws.{cases_Option, none≢some, after-is, after-below, stays, closed, saved-is}
use Rattle.database_meaning.proofs.KeptLaws.{object-last, saved-right}
use Rattle.database_meaning.proofs.CallLaws.{created-right, opened-right, replied-right, each-in}
use Rattle.database_meaning.proofs.GrownPairs.{there-object}
use Rattle.heap_fit.specs.Heaps.{IsFitDatabase, AreNamedOnce}
use Rattle.heap_fit.specs.Kept.{IsNumber, AreFitDatabases, IsNewRoot, KeepsDatabases}
use Rattle.heap_fit.proofs.KeptDatabases.{keeps-on, makes-keeps, counts-keeps, touches-keeps, databases-stay, stay-self, low-stay}

-- Lists with one more.

all_more : {A : Type 0} (P : A → Type 0) (xs : List A) (x : A) → AllByRecursion P xs → P x → AllByRecursion P (xs ++ x ∷ [])
all_more P [] x are is = (is, tt)
all_more P (y ∷ ys) x are is = (are.0, all_more P ys x are.1 is)

all_as : {A : Type 0} (P Q : A → Type 0) → ((x : A) → P x → Q x) → (xs : List A) → AllByRecursion P xs → AllByRecursion Q xs
all_as P Q f [] are = tt
all_as P Q f (x ∷ xs) are = (f x are.0, all_as P Q f xs are.1)

all_in : (P : ℕ → Type 0) (xs : List ℕ) (x : ℕ) → AllByRecursion P xs → IsIn x xs → P x
all_in P [] x are l = absurd l
all_in P (y ∷ ys) x are (inl e) = subst P (sym e) are.0
all_in P (y ∷ ys) x are (inr l) = all_in P ys x are.1 l

number-more : (ds : Directory) (d : Database) (n : ℕ) → IsNumber ds n → IsNumber (ds ++ d ∷ []) n
number-more ds d n is = (is.0, omega (arith, is.1, length-append ds (d ∷ [])))

-- Names.

named-other : (n : ℕ) (ds : Directory) (name : List ℕ) → is_there (named_from n ds name) ≡ false → AllByRecursion (λ d. name ≢ d.name) ds
named-other n [] name e = tt
named-other n (d ∷ ds) name e = go (is_same_text d.name name) refl e (λ rest. named-other (suc n) ds name rest)
  where
    go : (t : Bool) → is_same_text d.name name ≡ t → is_there (if t then Some (record { number = n; database = d }) else named_from (suc n) ds name) ≡ false
        → (is_there (named_from (suc n) ds name) ≡ false → AllByRecursion (λ x. name ≢ x.name) ds) → AllByRecursion (λ x. name ≢ x.name) (d ∷ ds)
    go true is e rest = absurd (true≢false e)
    go false is e rest = (λ same. true≢false (sym (ap (λ k. is_same_text d.name k) same ∙ (is_eq-slice_cmp d.name d.name ∙ (bytes_eq-Decides d.name d.name).1 refl)) ∙ is), rest e)

once_more : (ds : Directory) (d : Database) → AreNamedOnce ds → AllByRecursion (λ other. d.name ≢ other.name) ds → AreNamedOnce (ds ++ d ∷ [])
once_more [] d once apart = (tt, tt)
once_more (first ∷ ds) d once apart = (all_more (λ other. other.name ≢ first.name) ds d once.0 apart.0, once_more ds d once.1 apart.1)

-- the tests that a name and a password pass
record Passes (directory : Directory) (name password : List ℕ) : Type 0 where
  named_some : 1 ≤ length name
  name_long : length name ≤ most_database_name_bytes
  password_long : length password ≤ most_password_bytes
  other : is_there (named directory name) ≡ false
  room : length directory ≢ most_databases

passes : (directory : Directory) (name password : List ℕ) → create_fault directory name password ≡ None → Passes directory name password
unfolding create_fault
passes directory name password e =
    first (nat_eq (length name) 0) refl (nat_lt most_database_name_bytes (length name)) refl (nat_lt most_password_bytes (length password)) refl (is_there (named directory name)) refl
    (nat_eq (length directory) most_databases) refl e
  where
    first : (a : Bool) → nat_eq (length name) 0 ≡ a → (b : Bool) → nat_lt most_database_name_bytes (length name) ≡ b → (c : Bool) → nat_lt most_password_bytes (length password) ≡ c
        → (d : Bool) → is_there (named directory name) ≡ d → (f : Bool) → nat_eq (length directory) most_databases ≡ f
        → (if a || b then Some BadName else if c then Some BadPassword else if d then Some Exists else if f then Some TooMany else None) ≡ None → Passes directory name password
    first true ea b eb c ec d ed f ef e = absurd cc
    first false ea true eb c ec d ed f ef e = absurd cc
    first false ea false eb true ec d ed f ef e = absurd cc
    first false ea false eb false ec true ed f ef e = absurd cc
    first false ea false eb false ec false ed true ef e = absurd cc
    first false ea false eb false ec false ed false ef e = record {
      named_some = positive (length name) (eqb-false (length name) 0 ea);
      name_long = ltb-false most_database_name_bytes (length name) eb;
      password_long = ltb-false most_password_bytes (length password) ec;
      other = ed;
      room = eqb-false (length directory) most_databases ef;
    }
      where
        positive : (n : ℕ) → n ≢ 0 → 1 ≤ n
        positive zero ne = absurd (ne refl)
        positive (suc n) ne = omega arith

-- Roots.

from-more : (n : ℕ) (ds : Directory) (d : Database) (k : ℕ) (x : ℕ) → IsIn x (root_of (database_from n ds k)) → IsIn x (root_of (database_from n (ds ++ d ∷ []) k))
unfolding database_from
from-more n [] d k x l = absurd l
from-more n (e ∷ ds) d k x l = go (nat_eq n k) l (λ m. from-more (suc n) ds d k x m)
  where
    go : (b : Bool) → IsIn x (root_of (if b then Some e else database_from (suc n) ds k)) → (IsIn x (root_of (database_from (suc n) ds k)) → IsIn x (root_of (database_from (suc n) (ds ++ d ∷ []) k)))
        → IsIn x (root_of (if b then Some e else database_from (suc n) (ds ++ d ∷ []) k))
    go true m rest = m
    go false m rest = rest m

from-last : (n : ℕ) (ds : Directory) (d : Database) → database_from n (ds ++ d ∷ []) (n + length ds) ≡ Some d
unfolding database_from
from-last n [] d = then_is (nat_eq n (n + 0)) (Some d) None (eq-eqb n (n + 0) (omega arith))
from-last n (e ∷ ds) d =
    else_is (nat_eq n (n + suc (length ds))) (Some e) (database_from (suc n) (ds ++ d ∷ []) (n + suc (length ds))) (ne_eqb n (n + suc (length ds)) (λ same. absurd (omega (arith, same))))
    ∙ (ap (database_from (suc n) (ds ++ d ∷ [])) (omega arith) ∙ from-last (suc n) ds d)

roots-last : (ds : Directory) (d : Database) (x : ℕ) → IsIn x (every_root (ds ++ d ∷ [])) → IsIn x (every_root ds) ⊎ (x ≡ d.root)
unfolding every_root
roots-last [] d x (inl e) = inr e
roots-last [] d x (inr no_more) = absurd no_more
roots-last (e ∷ ds) d x (inl is) = inl (inl is)
roots-last (e ∷ ds) d x (inr l) = elim (roots-last ds d x l) [ inl old ↦ inl (inr old) | inr new ↦ inr new ]

-- Refused.

refused-keeps : (context : List ℕ) (fault : Fault) (h : Held) → KeepsDatabases h → KeepsDatabases (refused context fault h).held
refused-keeps context fault h k =
    counts-keeps (whole_weight h.weigh (error_record context fault)) (with_object (error_record context fault) h) (makes-keeps (error_record context fault) h k (λ y l. absurd l))

abbrev Keeps : (Held → Answer) → Held → Type 0
Keeps grant h = KeepsDatabases h → KeepsDatabases (grant h).held

replied-keeps : (h : Held) → KeepsDatabases h → KeepsDatabases (record h { replies = replies_after h.replies })
replied-keeps h k = keeps-on h (record h { replies = replies_after h.replies }) k (replied-right (replies_after h.replies) h k.right) (stay-self h.objects) refl refl refl refl

by_reply-keeps : (context : List ℕ) (reply : Reply) (grant : Held → Answer) (h : Held) → Keeps grant h → KeepsDatabases h → KeepsDatabases (by_reply context reply grant h).held
by_reply-keeps context Free grant h keeps k = keeps k
by_reply-keeps context Busy grant h keeps k = refused-keeps context BusyWriter h k
by_reply-keeps context Stale grant h keeps k = refused-keeps context StaleStart h k

if_replied-keeps : (context : List ℕ) (grant : Held → Answer) (h : Held) → Keeps grant h → Keeps grant (record h { replies = replies_after h.replies }) → KeepsDatabases h
    → KeepsDatabases (if_replied context grant h).held
if_replied-keeps context grant h keeps also k = go (is_empty (open_for_writing h.openings))
  where
    go : (b : Bool) → KeepsDatabases (if b then by_reply context (reply_in h.replies) grant (record h { replies = replies_after h.replies }) else grant h).held
    go true = by_reply-keeps context (reply_in h.replies) grant (record h { replies = replies_after h.replies }) also (replied-keeps h k)
    go false = keeps k

-- Creating.

created-keeps : (name password : List ℕ) (h : Held) → Passes h.directory name password → Keeps (created_database name password) h
unfolding database_at
created-keeps name password h pass k = record {
  right = created-right name password h k.right;
  few = omega (arith, longer, at_most);
  databases = all_more (IsFitDatabase (h.objects ++ Keyed without_keys ∷ [])) h.directory new
      (databases-stay h.objects (h.objects ++ Keyed without_keys ∷ []) (low-stay h.objects (Keyed without_keys)) h.directory k.databases)
      (record { named = pass.named_some; name = pass.name_long; password = pass.password_long; table = without_keys; root = object-last h.objects (Keyed without_keys) });
  once = once_more h.directory new k.once (named-other 1 h.directory name pass.other);
  homes = λ id n e. number-more h.directory new n (k.homes id n e);
  openings = all_more (λ opening. IsNumber (h.directory ++ new ∷ []) opening.number) h.openings (record { number = number; mode = Writing })
      (all_as (λ opening. IsNumber h.directory opening.number) (λ opening. IsNumber (h.directory ++ new ∷ []) opening.number) (λ opening is. number-more h.directory new opening.number is) h.openings k.openings)
      own;
  created = all_more (IsNumber (h.directory ++ new ∷ [])) h.created number (all_as (IsNumber h.directory) (IsNumber (h.directory ++ new ∷ [])) (λ n is. number-more h.directory new n is) h.created k.created) own;
  roots = roots;
}
  where
    new : Database
    new = record { name = name; password = password; root = new_id h }

    number : ℕ
    number = suc (length h.directory)

    longer : length (h.directory ++ record { name = name; password = password; root = new_id h } ∷ []) ≡ length h.directory + 1
    longer = length-append h.directory (record { name = name; password = password; root = new_id h } ∷ [])

    at_most : length h.directory + 1 ≤ most_databases
    at_most = less (length h.directory) most_databases k.few pass.room
      where
        less : (n m : ℕ) → n ≤ m → n ≢ m → n + 1 ≤ m
        less n m l ne = elim (cases_order n m) [ inl e ↦ absurd (ne e) | inr (inl low) ↦ omega (arith, low) | inr (inr high) ↦ absurd (omega (arith, l, high)) ]

    own : IsNumber (h.directory ++ record { name = name; password = password; root = new_id h } ∷ []) (suc (length h.directory))
    own = (omega arith, omega (arith, longer))

    roots : (root : ℕ) → IsIn root (every_root (h.directory ++ record { name = name; password = password; root = new_id h } ∷ []))
        → IsCommitted h.homes root ⊎ IsNewRoot (created_database name password h).held root
    roots root l = elim (roots-last h.directory (record { name = name; password = password; root = new_id h }) root l) [
      | inl old ↦ elim (k.roots root old) [
        | inl c ↦ inl c
        | inr n ↦ inr (n.0, in-front n.0 h.created (suc (length h.directory) ∷ []) n.1, from-more 1 h.directory (record { name = name; password = password; root = new_id h }) n.0 root n.2)
      ]
      | inr e ↦ inr (
        suc (length h.directory),
        in-behind (suc (length h.directory)) h.created (suc (length h.directory) ∷ []) (inl refl),
        subst (λ o. IsIn root (root_of o)) (sym (ap (database_from 1 (h.directory ++ record { name = name; password = password; root = new_id h } ∷ [])) (omega arith)
            ∙ from-last 1 h.directory (record { name = name; password = password; root = new_id h }))) (inl e),
      )
    ]

pub creates-keeps : (name password : List ℕ) (h : Held) → KeepsDatabases h → KeepsDatabases (create_answer name password h).held
unfolding create_answer
creates-keeps name password h k = go (create_fault h.directory name password) refl
  where
    go : (fault : Option Fault) → create_fault h.directory name password ≡ fault → KeepsDatabases (create_unless fault name password h).held
    go (Some fault) e = refused-keeps (codes "create.database") fault h k
    go None e =
        let pass = passes h.directory name password e in
        let now = counting (directory_weight (suc (length h.directory))) h in
        if_replied-keeps (codes "create.database") (created_database name password) now (created-keeps name password now pass) (created-keeps name password (record now { replies = replies_after now.replies }) pass)
        (counts-keeps (directory_weight (suc (length h.directory))) h k)

-- Opening.

named-number : (n : ℕ) (ds : Directory) (name : List ℕ) (to : Numbered) → named_from n ds name ≡ Some to → (n ≤ to.number) × (to.number < n + length ds)
named-number n [] name to e = absurd (cc)
named-number n (d ∷ ds) name to e = go (is_same_text d.name name) e (λ is. named-number (suc n) ds name to is)
  where
    go : (t : Bool) → (if t then Some (record { number = n; database = d }) else named_from (suc n) ds name) ≡ Some to
        → (named_from (suc n) ds name ≡ Some to → (suc n ≤ to.number) × (to.number < suc n + length ds)) → (n ≤ to.number) × (to.number < n + suc (length ds))
    go true is rest = let same : n ≡ to.number = ap (λ x. x.number) (some_same is) in (omega (arith, same), omega (arith, same))
      where
        some_same : {a b : Numbered} → Some a ≡ Some b → a ≡ b
        some_same e = cc
    go false is rest = let r = rest is in (omega (arith, r.0), omega (arith, r.1))

opened-keeps : (to : Numbered) (mode : Mode) (h : Held) → IsNumber h.directory to.number → Keeps (opened_database to mode) h
opened-keeps to mode h is k = record {
  right = opened-right h.openings (record { number = to.number; mode = mode } ∷ []) h refl k.right;
  few = k.few;
  databases = k.databases;
  once = k.once;
  homes = k.homes;
  openings = all_more (λ opening. IsNumber h.directory opening.number) h.openings (record { number = to.number; mode = mode }) k.openings is;
  created = k.created;
  roots = k.roots;
}

pub opens-keeps : (name password mode : List ℕ) (h : Held) → KeepsDatabases h → KeepsDatabases (open_answer name password mode h).held
unfolding open_answer admission
opens-keeps name password mode h k = go (named h.directory name) refl
  where
    as_mode : (to : Numbered) → IsNumber h.directory to.number → (m : Mode) → KeepsDatabases (open_by (Admits to m) h).held
    as_mode to is Reading = opened-keeps to Reading (touching (to.database.root ∷ []) h) is (touches-keeps (to.database.root ∷ []) h k)
    as_mode to is Writing =
        let now = touching (to.database.root ∷ []) h in
        if_replied-keeps (codes "open.database") (opened_database to Writing) now (opened-keeps to Writing now is) (opened-keeps to Writing (record now { replies = replies_after now.replies }) is)
        (touches-keeps (to.database.root ∷ []) h k)

    admitted : (to : Numbered) → IsNumber h.directory to.number → (m : Option Mode) → KeepsDatabases (open_by (admitted_as to m) h).held
    admitted to is None = refused-keeps (codes "open.database") database.BadMode h k
    admitted to is (Some m) = as_mode to is m

    pass : (to : Numbered) → IsNumber h.directory to.number → (t : Bool) → KeepsDatabases (open_by (if t then admitted_as to (mode_named mode) else Refuses database.WrongPassword) h).held
    pass to is true = admitted to is (mode_named mode)
    pass to is false = refused-keeps (codes "open.database") database.WrongPassword h k

    go : (found : Option Numbered) → named h.directory name ≡ found → KeepsDatabases (open_by (admitted_to found password mode) h).held
    go None e = refused-keeps (codes "open.database") database.NoSuchDatabase h k
    go (Some to) e = let n = named-number 1 h.directory name to e in pass to (n.0, omega (arith, n.1)) (is_same_text to.database.password password)

-- Committing.

created-number : (directory : Directory) (ns : List ℕ) (id m : ℕ) → created_with directory ns id ≡ Some m → IsIn m ns
unfolding created_with
created-number directory [] id m e = absurd (none≢some e)
created-number directory (n ∷ ns) id m e = elim (cases_Bool (is_in id (root_of (database_at directory n)))) [
  | inl here ↦ inl (some_same (sym (sym (then_is (is_in id (root_of (database_at directory n))) (Some n) (created_with directory ns id) here) ∙ e)))
  | inr away ↦ inr (created-number directory ns id m (sym (else_is (is_in id (root_of (database_at directory n))) (Some n) (created_with directory ns id) away) ∙ e))
]
  where
    some_same : {x y : ℕ} → Some x ≡ Some y → x ≡ y
    some_same e = cc

-- a root that was made has a database that was made
created-some : (directory : Directory) (ns : List ℕ) (n id : ℕ) → IsIn n ns → IsIn id (root_of (database_at directory n)) → (m : ℕ) × (created_with directory ns id ≡ Some m)
unfolding created_with
created-some directory [] n id l root = absurd l
created-some directory (k ∷ ks) n id l root = elim (cases_Bool (is_in id (root_of (database_at directory k)))) [
  | inl here ↦ (k, then_is (is_in id (root_of (database_at directory k))) (Some k) (created_with directory ks id) here)
  | inr away ↦ elim l [
    | inl e ↦ absurd (true≢false (sym (in-is_in id (root_of (database_at directory k)) (subst (λ m. IsIn id (root_of (database_at directory m))) e root)) ∙ away))
    | inr m ↦
        let rest = created-some directory ks n id m root in
        (rest.0, else_is (is_in id (root_of (database_at directory k))) (Some k) (created_with directory ks id) away ∙ rest.1)
  ]
]

source-number : (h : Held) (ns : List ℕ) (id m : ℕ) → first_source (next_in h.objects) (loose h) (sources h ns) id ≡ Some m → IsIn m ns
unfolding first_source sources source_of
source-number h [] id m e = absurd (none≢some e)
source-number h (n ∷ ns) id m e =
    let found = is_in id (reach (next_in h.objects) (loose h) (source_of h n).starts) in
    let rest = first_source (next_in h.objects) (loose h) (sources h ns) id in
    elim (cases_Bool found) [
      | inl here ↦ inl (some_same (sym (sym (then_is found (Some n) rest here) ∙ e)))
      | inr away ↦ inr (source-number h ns id m (sym (else_is found (Some n) rest away) ∙ e))
    ]
  where
    some_same : {x y : ℕ} → Some x ≡ Some y → x ≡ y
    some_same e = cc

writing-number : (P : ℕ → Type 0) (openings : List Opening) (n : ℕ) → AllByRecursion (λ opening. P opening.number) openings → IsIn n (numbers_for_writing openings) → P n
writing-number P [] n are l = absurd l
writing-number P (o ∷ os) n are l = go o.mode l (λ m. writing-number P os n are.1 m)
  where
    go : (m : Mode) → IsIn n (with_writing m o.number (numbers_for_writing os)) → (IsIn n (numbers_for_writing os) → P n) → P n
    go Reading k rest = rest k
    go Writing (inl e) rest = subst P (sym e) are.0
    go Writing (inr k) rest = rest k

module _ (h : Held) (k : KeepsDatabases h) where
  after-number : (id n : ℕ) → home_at (homes_after h) id ≡ Some n → IsNumber h.directory n
  unfolding home_after first_database
  after-number id n e =
      let here : or_else (home_at h.homes id) (or_else (created_with h.directory h.created id) (first_source (next_in h.objects) (loose h) (sources h (open_for_writing h.openings)) id)) ≡ Some n
      = sym (after-is h id (after-below h id n e)) ∙ e in
      home (home_at h.homes id) refl here
    where
      first : (f : Option ℕ) → first_source (next_in h.objects) (loose h) (sources h (open_for_writing h.openings)) id ≡ f → f ≡ Some n → IsNumber h.directory n
      first f is e =
          writing-number (IsNumber h.directory) h.openings n k.openings (each-in [] (numbers_for_writing h.openings) n (source-number h (open_for_writing h.openings) id n (is ∙ e)))

      made : (c : Option ℕ) → created_with h.directory h.created id ≡ c → or_else c (first_source (next_in h.objects) (loose h) (sources h (open_for_writing h.openings)) id) ≡ Some n → IsNumber h.directory n
      made (Some m) is e = all_in (IsNumber h.directory) h.created n k.created (created-number h.directory h.created id n (is ∙ e))
      made None is e = first (first_source (next_in h.objects) (loose h) (sources h (open_for_writing h.openings)) id) refl e

      home : (o : Option ℕ) → home_at h.homes id ≡ o → or_else o (or_else (created_with h.directory h.created id) (first_source (next_in h.objects) (loose h) (sources h (open_for_writing h.openings)) id)) ≡ Some n
          → IsNumber h.directory n
      home (Some m) is e = k.homes id n (is ∙ e)
      home None is e = made (created_with h.directory h.created id) refl e

  -- each root is committed then
  root-committed : (root : ℕ) → IsIn root (every_root h.directory) → root < length h.objects → IsCommitted (homes_after h) root
  unfolding home_after
  root-committed root l low = elim (k.roots root l) [
    | inl c ↦ (c.0, stays h root c.0 low c.1)
    | inr n ↦
        let made = created-some h.directory h.created n.0 root n.1 n.2 in
        elim (cases_Option (home_at h.homes root)) [
          | inr home ↦ (home.0, stays h root home.0 low home.1)
          | inl none ↦
              (made.0, after-is h root low ∙ (ap (λ o. or_else o (or_else (created_with h.directory h.created root) (first_database h root))) none ∙ ap (λ o. or_else o (first_database h root)) made.1))
        ]
  ]

  pub root-there : (ds : Directory) → AllByRecursion (IsFitDatabase h.objects) ds → (root : ℕ) → IsIn root (every_root ds) → root < length h.objects
  unfolding every_root
  root-there [] are root l = absurd l
  root-there (d ∷ ds) are root (inl e) = there-object h.objects root (Keyed are.0.table) (ap (object_at h.objects) e ∙ are.0.root)
  root-there (d ∷ ds) are root (inr l) = root-there ds are.1 root l

  module _ (writable : are_writable h.homes (open_for_writing h.openings) h.assigned ≡ true) where
    all-committed : (id : ℕ) → IsInHeap (saved h) id → IsCommitted (homes_after h) id
    unfolding saved
    all-committed id (at_start x l u) = root-committed id l (root-there h.directory k.databases id l)
    all-committed id (by_step x y before goes u) = closed h k.right.sound k.right.there k.right.closed writable x id (all-committed x before) goes

    saved-fit : AreFitDatabases (saved h)
    unfolding saved
    saved-fit = record {
      few = k.few;
      databases = k.databases;
      once = k.once;
      homed = λ id r.
          let c = all-committed id r in
          record { there = after-below h id c.0 c.1; home = c.0; home_is = c.1; number = after-number id c.0 c.1 };
    }

pub saves-fit : (h : Held) (heap : StoredHeap) → KeepsDatabases h → decision h ≡ Saves heap → AreFitDatabases heap
saves-fit h heap k e = let s = saved-is h heap e in subst AreFitDatabases (sym s.1) (saved-fit h k s.0)

pub commits-keeps : (h : Held) → KeepsDatabases h → KeepsDatabases (commit_call h).held
unfolding commit_call saved
commits-keeps h k = go (decision h) refl
  where
    done : (heap : StoredHeap) → decision h ≡ Saves heap → heap ≡ saved h → KeepsDatabases (after_decision (Saves heap) h)
    done heap e is = record {
      right = saved-right h heap k.right e;
      few = k.few;
      databases = k.databases;
      once = k.once;
      homes = λ id n home. after-number h k id n (sym (ap (λ x. home_at x.homes id) is) ∙ home);
      openings = k.openings;
      created = tt;
      roots = λ root l.
          let c = root-committed h k root l (root-there h k h.directory k.databases root l) in
          inl (c.0, ap (λ x. home_at x.homes root) is ∙ c.1);
    }

    go : (d : Decision) → decision h ≡ d → KeepsDatabases (commit_by d h).held
    go NotWritable e = refused-keeps (codes "commit") database.NotWritable h k
    go NothingToDo e = k
    go (Saves heap) e = done heap e (saved-is h heap e).1
