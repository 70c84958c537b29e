-- Calls over databases, and commits, answer the same but for ids.
use Rattle.std.proofs.Common.{Bool, true, false, inl, inr, ◌≡◌, ℕ, suc, ◌+◌, List, [], ◌∷◌, ◌++◌, map, length, refl, sym, ap, ◌∙◌, subst, Option, Some, None, if◌then◌else◌, nat_eq}
use Rattle.std.specs.Prelude.{◌||◌, ◌&&◌, not, nat_lt}
use Rattle.std.specs.Option.{option_map}
use Rattle.std.proofs.lemmas.List.{map-append, length-map}
use Rattle.reaching.specs.Reaching.{IsIn}
use Rattle.reaching.proofs.Lists.{in-append}
use Rattle.ps_heap.specs.ps_base.Limits.{most_databases, most_database_name_bytes, most_password_bytes}
use Rattle.ps_heap.specs.Values.{Value, Nil, Pointer}
use Rattle.ps_heap.specs.Texts.{is_same_text}
use Rattle.ps_heap.specs.Tables.{without_keys}
use Rattle.ps_heap.specs.Objects.{Object, Keyed}
use Rattle.ps_heap.specs.References.{value_ids, object_ids}
use Rattle.ps_heap.specs.Weights.{text_weight, own_weight, whole_weight}
use Rattle.ps_heap.specs.Databases.{Database, Directory, Numbered, named_from, named, Mode, Reading, Writing, Fault, BusyWriter, StaleStart, BadName, BadPassword, Exists, TooMany, NoSuchDatabase, WrongPassword, BadMode, create_fault, mode_named, Admission, Admits, Refuses, admitted_as, admitted_to, admission, is_there, every_root, open_for_writing, names_weight, directory_weight, full_directory_weight}
use Rattle.ps_heap.specs.Databases as database
use Rattle.ps_heap.specs.Held.{Held, Reply, Free, Busy, Stale, counting, new_id, with_object, touching}
use Rattle.ps_heap.specs.Commit.{NotWritable, NothingToDo, Saves, decision, saved, after_decision, are_writable, is_empty}
use Rattle.ps_heap.specs.Events.{Ask, ToCreate, ToOpen}
use Rattle.ps_heap.specs.Calls.{Answer, answer_of, new_table, error_record, refused, directory_known, asks_to_create, asks_to_open, reply_in, replies_after, by_reply, if_replied, created_database, create_unless, create_answer, opened_database, open_by, open_answer, commit_by, commit_call}
use Rattle.ps_heap.specs.Library.{then_answered}
use Rattle.database_meaning.specs.Same.{renamed_value, renamed, renamed_database}
use Rattle.database_meaning.specs.SameRuns.{Pairing, AreAmong, IsSameHeld, IsSameAnswer}
use Rattle.database_meaning.proofs.GrownPairs.{goes_same, told-same, counting-same, grown, new-last, grown-goes, made-same}
use Rattle.database_meaning.proofs.SameTouches.{touching-same}
use Rattle.database_meaning.proofs.SameCommits.{after-same, saved-same, writable-same, empty-same}

module _ {p : Pairing} {a b : Held} (s : IsSameHeld p a b) where
  -- a value without ids is answered, with what is held
  pub plain-same : (v : Value) → renamed_value p.new v ≡ v → AreAmong (value_ids v) p.ids → IsSameAnswer p (answer_of v a) (answer_of v b)
  plain-same v is known = record { pairs = p; goes_on = goes_same p; held = s; value = sym is; denoted = known; events = tt }

  -- an object is made, counted and answered
  pub new-same : (o : Object) → AreAmong (object_ids (Some o)) p.ids → (bytes other : ℕ) → other ≡ bytes
      → IsSameAnswer p (answer_of (Pointer (new_id a)) (counting bytes (with_object o a))) (answer_of (Pointer (new_id b)) (counting other (with_object (renamed p.new o) b)))
  new-same o known bytes other is = record {
    pairs = grown s;
    goes_on = grown-goes s;
    held = counting-same bytes other is (made-same s o known);
    value = ap Pointer (sym (new-last s));
    denoted = λ x l. elim l [ inl e ↦ inl e | inr no_more ↦ absurd no_more ];
    events = tt;
  }

  pub table-same : IsSameAnswer p (new_table a) (new_table b)
  table-same = new-same (Keyed without_keys) (λ x l. absurd l) (own_weight (Keyed without_keys)) (own_weight (Keyed without_keys)) refl

  refused-same : (context : List ℕ) (fault : Fault) → IsSameAnswer p (refused context fault a) (refused context fault b)
  refused-same context fault =
      new-same (error_record context fault) (λ x l. absurd l) (whole_weight a.weigh (error_record context fault)) (whole_weight b.weigh (error_record context fault))
      (ap (λ weigh. whole_weight weigh (error_record context fault)) s.weigh)

-- Asking.

names-weigh : (f : ℕ → ℕ) (ds : Directory) → names_weight (map (renamed_database f) ds) ≡ names_weight ds
names-weigh f [] = refl
names-weigh f (d ∷ ds) = ap (λ n. text_weight d.name + text_weight d.password + n) (names-weigh f ds)

directory-weighs : (f : ℕ → ℕ) (ds : Directory) → full_directory_weight (map (renamed_database f) ds) ≡ full_directory_weight ds
directory-weighs f ds =
    ap (λ n. directory_weight n + names_weight (map (renamed_database f) ds)) (length-map ds (renamed_database f)) ∙ ap (λ n. directory_weight (length ds) + n) (names-weigh f ds)

known-same : {p : Pairing} {a b : Held} → IsSameHeld p a b → IsSameHeld p (directory_known a) (directory_known b)
known-same {p = p} {a = a} {b = b} s =
    told-same s s.openings s.created refl s.replies
    (ap (λ n. n + (if b.asked then 0 else full_directory_weight b.directory)) s.counted
    ∙ (ap (λ asked. a.counted + (if asked then 0 else full_directory_weight b.directory)) s.asked
    ∙ ap (λ n. a.counted + (if a.asked then 0 else n)) (ap full_directory_weight s.directory.is ∙ directory-weighs p.new a.directory)))

-- Names in a directory.

renamed_numbered : (ℕ → ℕ) → Numbered → Numbered
renamed_numbered f to = record { number = to.number; database = renamed_database f to.database }

named-renamed : (f : ℕ → ℕ) (n : ℕ) (ds : Directory) (name : List ℕ) → named_from n (map (renamed_database f) ds) name ≡ option_map (renamed_numbered f) (named_from n ds name)
unfolding renamed_numbered
named-renamed f n [] name = refl
named-renamed f n (d ∷ ds) name =
    ap (λ rest. if is_same_text d.name name then Some (record { number = n; database = renamed_database f d }) else rest) (named-renamed f (suc n) ds name) ∙ go (is_same_text d.name name)
  where
    go : (t : Bool) → (if t then Some (record { number = n; database = renamed_database f d }) else option_map (renamed_numbered f) (named_from (suc n) ds name))
        ≡ option_map (renamed_numbered f) (if t then Some (record { number = n; database = d }) else named_from (suc n) ds name)
    go true = refl
    go false = refl

pub named-root : (n : ℕ) (ds : Directory) (name : List ℕ) (to : Numbered) → named_from n ds name ≡ Some to → IsIn to.database.root (every_root ds)
unfolding every_root
named-root n [] name to e = absurd (cc)
named-root n (d ∷ ds) name to e = go (is_same_text d.name name) e (λ is. named-root (suc n) ds name to is)
  where
    go : (t : Bool) → (if t then Some (record { number = n; database = d }) else named_from (suc n) ds name) ≡ Some to
        → (named_from (suc n) ds name ≡ Some to → IsIn to.database.root (every_root ds)) → IsIn to.database.root (d.root ∷ every_root ds)
    go true is rest = let same : record { number = n; database = d } ≡ to = cc in inl (sym (ap (λ x. x.database.root) same))
    go false is rest = inr (rest is)

there-mapped : {A B : Type 0} (f : A → B) (o : Option A) → is_there (option_map f o) ≡ is_there o
there-mapped f None = refl
there-mapped f (Some x) = refl

roots-more : (ds : Directory) (d : Database) (x : ℕ) → IsIn x (every_root (ds ++ d ∷ [])) → IsIn x (every_root ds ++ d.root ∷ [])
unfolding every_root
roots-more [] d x l = l
roots-more (e ∷ ds) d x (inl is) = inl is
roots-more (e ∷ ds) d x (inr l) = inr (roots-more ds d x l)

module _ (p : Pairing) where
  -- two ways to go on answer the same over what is held by both
  abbrev Grants : (Held → Answer) → (Held → Answer) → Type 0
  Grants grant also = (a b : Held) → IsSameHeld p a b → IsSameAnswer p (grant a) (also b)

  by_reply-same : (context : List ℕ) (reply : Reply) (grant also : Held → Answer) → Grants grant also → {a b : Held} → IsSameHeld p a b
      → IsSameAnswer p (by_reply context reply grant a) (by_reply context reply also b)
  by_reply-same context Free grant also goes {a = a} {b = b} s = goes a b s
  by_reply-same context Busy grant also goes s = refused-same s context BusyWriter
  by_reply-same context Stale grant also goes s = refused-same s context StaleStart

  if_replied-same : (context : List ℕ) (grant also : Held → Answer) → Grants grant also → (a b : Held) → IsSameHeld p a b
      → IsSameAnswer p (if_replied context grant a) (if_replied context also b)
  if_replied-same context grant also goes a b s =
      subst (λ os. IsSameAnswer p (if_replied context grant a) (if is_empty (open_for_writing os) then by_reply context (reply_in b.replies) also (record b { replies = replies_after b.replies }) else also b))
      (sym s.openings) (go (is_empty (open_for_writing a.openings)))
    where
      replied : IsSameHeld p (record a { replies = replies_after a.replies }) (record b { replies = replies_after b.replies })
      replied = told-same s s.openings s.created s.asked (ap replies_after s.replies) s.counted

      go : (e : Bool) → IsSameAnswer p (if e then by_reply context (reply_in a.replies) grant (record a { replies = replies_after a.replies }) else grant a)
          (if e then by_reply context (reply_in b.replies) also (record b { replies = replies_after b.replies }) else also b)
      go true =
          subst (λ r. IsSameAnswer p (by_reply context (reply_in a.replies) grant (record a { replies = replies_after a.replies })) (by_reply context r also (record b { replies = replies_after b.replies })))
          (ap reply_in (sym s.replies)) (by_reply-same context (reply_in a.replies) grant also goes replied)
      go false = goes a b s

  -- Creating.

  many-same : (a b : Held) → IsSameHeld p a b → length b.directory ≡ length a.directory
  many-same a b s = ap length s.directory.is ∙ length-map a.directory (renamed_database p.new)

  created-same : (name password : List ℕ) → Grants (created_database name password) (created_database name password)
  created-same name password a b s = record {
    pairs = grown s;
    goes_on = grown-goes s;
    held = record {
      objects = m.objects;
      homes = m.homes;
      directory = record { is = directory; roots = roots };
      openings = ap (λ os. os ++ record { number = suc (length b.directory); mode = Writing } ∷ []) s.openings
          ∙ ap (λ n. a.openings ++ record { number = suc n; mode = Writing } ∷ []) (many-same a b s);
      created = ap (λ ns. ns ++ suc (length b.directory) ∷ []) s.created ∙ ap (λ n. a.created ++ suc n ∷ []) (many-same a b s);
      assigned = m.assigned;
      touched = m.touched;
      asked = m.asked;
      replies = m.replies;
      counted = m.counted;
      weigh = m.weigh;
    };
    value = ap Pointer (sym (new-last s));
    denoted = λ x l. elim l [ inl e ↦ inl e | inr no_more ↦ absurd no_more ];
    events = tt;
  }
    where
      m : IsSameHeld (grown s) (with_object (Keyed without_keys) a) (with_object (Keyed without_keys) b)
      m = made-same s (Keyed without_keys) (λ x l. absurd l)

      directory : b.directory ++ record { name = name; password = password; root = new_id b } ∷ []
          ≡ map (renamed_database (grown s).new) (a.directory ++ record { name = name; password = password; root = new_id a } ∷ [])
      directory =
          ap (λ ds. ds ++ record { name = name; password = password; root = new_id b } ∷ []) m.directory.is
          ∙ (ap (λ root. map (renamed_database (grown s).new) a.directory ++ record { name = name; password = password; root = root } ∷ []) (sym (new-last s))
          ∙ sym (map-append (renamed_database (grown s).new) a.directory (record { name = name; password = password; root = new_id a } ∷ [])))

      roots : AreAmong (every_root (a.directory ++ record { name = name; password = password; root = new_id a } ∷ [])) (grown s).ids
      roots x l = elim (in-append x (every_root a.directory) (new_id a ∷ []) (roots-more a.directory (record { name = name; password = password; root = new_id a }) x l)) [
        | inl old ↦ m.directory.roots x old
        | inr (inl e) ↦ inl e
        | inr (inr no_more) ↦ absurd no_more
      ]

  fault-same : (name password : List ℕ) (a b : Held) → IsSameHeld p a b → create_fault b.directory name password ≡ create_fault a.directory name password
  unfolding create_fault
  fault-same name password a b s =
      ap (λ found. if nat_eq (length name) 0 || nat_lt most_database_name_bytes (length name) then Some BadName else
      if nat_lt most_password_bytes (length password) then Some BadPassword else
      if found then Some Exists else if nat_eq (length b.directory) most_databases then Some TooMany else None)
      (ap (λ ds. is_there (named ds name)) s.directory.is ∙ (ap is_there (named-renamed p.new 1 a.directory name) ∙ there-mapped (renamed_numbered p.new) (named a.directory name)))
      ∙ ap (λ n. if nat_eq (length name) 0 || nat_lt most_database_name_bytes (length name) then Some BadName else
      if nat_lt most_password_bytes (length password) then Some BadPassword else
      if is_there (named a.directory name) then Some Exists else if nat_eq n most_databases then Some TooMany else None) (many-same a b s)

  create-same : (name password : List ℕ) → Grants (create_answer name password) (create_answer name password)
  unfolding create_answer
  create-same name password a b s =
      subst (λ fault. IsSameAnswer p (create_unless (create_fault a.directory name password) name password a) (create_unless fault name password b))
      (sym (fault-same name password a b s)) (go (create_fault a.directory name password))
    where
      go : (fault : Option Fault) → IsSameAnswer p (create_unless fault name password a) (create_unless fault name password b)
      go (Some fault) = refused-same s _ fault
      go None =
          if_replied-same _ (created_database name password) (created_database name password) (created-same name password) _ _
          (counting-same (directory_weight (suc (length a.directory))) (directory_weight (suc (length b.directory))) (ap (λ n. directory_weight (suc n)) (many-same a b s)) s)

  -- Opening.

  opened-same : (to : Numbered) (mode : Mode) → IsIn to.database.root p.ids → Grants (opened_database to mode) (opened_database (renamed_numbered p.new to) mode)
  unfolding renamed_numbered
  opened-same to mode known a b s = record {
    pairs = p;
    goes_on = goes_same p;
    held = told-same s (ap (λ os. os ++ record { number = to.number; mode = mode } ∷ []) s.openings) s.created s.asked s.replies s.counted;
    value = refl;
    denoted = λ x l. elim l [ inl e ↦ subst (λ k. IsIn k p.ids) (sym e) known | inr no_more ↦ absurd no_more ];
    events = tt;
  }

  open_as-same : (to : Numbered) (mode : Mode) → IsIn to.database.root p.ids → (a b : Held) → IsSameHeld p a b
      → IsSameAnswer p (open_by (Admits to mode) a) (open_by (Admits (renamed_numbered p.new to) mode) b)
  unfolding renamed_numbered
  open_as-same to mode known a b s = go mode
    where
      touched : IsSameHeld p (touching (to.database.root ∷ []) a) (touching (p.new to.database.root ∷ []) b)
      touched = touching-same s (to.database.root ∷ []) (λ x l. elim l [ inl e ↦ subst (λ k. IsIn k p.ids) (sym e) known | inr no_more ↦ absurd no_more ])

      go : (m : Mode) → IsSameAnswer p (open_by (Admits to m) a) (open_by (Admits (renamed_numbered p.new to) m) b)
      go Reading = opened-same to Reading known _ _ touched
      go Writing = if_replied-same _ (opened_database to Writing) (opened_database (renamed_numbered p.new to) Writing) (opened-same to Writing known) _ _ touched

  open-same : (name password mode : List ℕ) → Grants (open_answer name password mode) (open_answer name password mode)
  unfolding open_answer admission renamed_numbered
  open-same name password mode a b s =
      subst (λ found. IsSameAnswer p (open_by (admitted_to (named a.directory name) password mode) a) (open_by (admitted_to found password mode) b))
      (sym (ap (λ ds. named ds name) s.directory.is ∙ named-renamed p.new 1 a.directory name)) (go (named a.directory name) refl)
    where
      as_mode : (to : Numbered) → IsIn to.database.root p.ids → (m : Option Mode) → IsSameAnswer p (open_by (admitted_as to m) a) (open_by (admitted_as (renamed_numbered p.new to) m) b)
      as_mode to known None = refused-same s _ BadMode
      as_mode to known (Some m) = open_as-same to m known a b s

      pass : (to : Numbered) → IsIn to.database.root p.ids → (t : Bool)
          → IsSameAnswer p (open_by (if t then admitted_as to (mode_named mode) else Refuses WrongPassword) a)
          (open_by (if t then admitted_as (renamed_numbered p.new to) (mode_named mode) else Refuses WrongPassword) b)
      pass to known true = as_mode to known (mode_named mode)
      pass to known false = refused-same s _ WrongPassword

      go : (found : Option Numbered) → named a.directory name ≡ found
          → IsSameAnswer p (open_by (admitted_to found password mode) a) (open_by (admitted_to (option_map (renamed_numbered p.new) found) password mode) b)
      go None e = refused-same s _ NoSuchDatabase
      go (Some to) e = pass to (s.directory.roots to.database.root (named-root 1 a.directory name to e)) (is_same_text to.database.password password)

  -- Asked, and answered afterwards.

  pub create_call-same : (name password : List ℕ) → Grants (λ h. then_answered (asks_to_create name h) (create_answer name password)) (λ h. then_answered (asks_to_create name h) (create_answer name password))
  unfolding asks_to_create
  create_call-same name password a b s =
      let known : IsSameHeld p (counting 64 (directory_known a)) (counting 64 (directory_known b)) = counting-same 64 64 refl (known-same s) in
      let r = create-same name password _ _ known in
      record { pairs = r.pairs; goes_on = r.goes_on; held = r.held; value = r.value; denoted = r.denoted; events = (ap (Ask (ToCreate name)) known.counted, r.events) }

  pub open_call-same : (name password mode : List ℕ) → Grants (λ h. then_answered (asks_to_open name mode h) (open_answer name password mode)) (λ h. then_answered (asks_to_open name mode h) (open_answer name password mode))
  unfolding asks_to_open
  open_call-same name password mode a b s =
      let known = known-same s in
      let r = open-same name password mode _ _ known in
      record { pairs = r.pairs; goes_on = r.goes_on; held = r.held; value = r.value; denoted = r.denoted; events = (ap (Ask (ToOpen name mode)) known.counted, r.events) }

  -- Committing.

  committed-same : (a b : Held) → IsSameHeld p a b → IsSameHeld p (after_decision (Saves (saved a)) a) (after_decision (Saves (saved b)) b)
  unfolding saved
  committed-same a b s = record {
    objects = s.objects;
    homes = after-same s;
    directory = s.directory;
    openings = s.openings;
    created = refl;
    assigned = record { are = refl; objects = λ place h. absurd h };
    touched = s.touched;
    asked = s.asked;
    replies = s.replies;
    counted = s.counted;
    weigh = s.weigh;
  }

  pub commit-same : Grants commit_call commit_call
  unfolding commit_call decision
  commit-same a b s =
      subst (λ w. IsSameAnswer p (commit_call a) (by_tests b w (is_empty b.assigned && is_empty b.created))) (sym (writable-same s))
      (subst (λ e. IsSameAnswer p (commit_call a) (by_tests b (are_writable a.homes (open_for_writing a.openings) a.assigned) (e && is_empty b.created))) (sym (empty-same s))
      (subst (λ ns. IsSameAnswer p (commit_call a) (by_tests b (are_writable a.homes (open_for_writing a.openings) a.assigned) (is_empty a.assigned && is_empty ns))) (sym s.created)
      (go (are_writable a.homes (open_for_writing a.openings) a.assigned) (is_empty a.assigned && is_empty a.created))))
    where
      by_tests : Held → Bool → Bool → Answer
      by_tests h w e = commit_by (if not w then NotWritable else if e then NothingToDo else Saves (saved h)) h

      go : (w e : Bool) → IsSameAnswer p (by_tests a w e) (by_tests b w e)
      go false e = refused-same s _ database.NotWritable
      go true true = plain-same s Nil refl (λ x l. absurd l)
      go true false = record {
        pairs = p;
        goes_on = goes_same p;
        held = committed-same a b s;
        value = refl;
        denoted = λ x l. absurd l;
        events = ((saved-same s, s.counted), tt);
      }
