-- Area and vault hold the run after a commit that saved.
use Rattle.std.proofs.Common.{true, false, Bool, inl, inr, ◌≡◌, ℕ, zero, suc, List, [], ◌∷◌, length, map, arith, refl, sym, ap, ◌∙◌, subst, Option, Some, None}
use Rattle.std.specs.Prelude.{◌&&◌, not, if◌then◌else◌, nat_eq}
use Rattle.std.proofs.lemmas.Bool.{cases_Bool}
use Rattle.swizzle.specs.obj_layout.ps_outside.Outside.{Outside}
use Rattle.swizzle.specs.obj_layout.declared.reference.Reference.{Reference}
use Rattle.swizzle.specs.obj_layout.Stored.{Space}
use Rattle.swizzle.specs.obj_layout.declared.reference.Reference.TheVariants.{Pid}
use Rattle.swizzle.specs.Heap.{Heap, IsHeld, IsListed, header_at}
use Rattle.swizzle.proofs.NameLaws.{name-pid}
use Rattle.reaching.specs.Reaching.{IsIn, is_in}
use Rattle.reaching.proofs.Lists.{is_in-in, in-is_in}
use Rattle.commit_walk.specs.declared.homes.Source.{Source}
use Rattle.commit_walk.specs.Homes.{source_at}
use Rattle.heap_meaning.specs.Standing.{Seen, Pairing}
use Rattle.heap_meaning.specs.Paired.{paired}
use Rattle.heap_meaning.specs.ps_heap.Databases.{Database, Directory, database_from, database_at, root_of, each_once, open_for_writing, is_there}
use Rattle.heap_meaning.specs.ps_heap.Held.{Place, object_of, Held, home_at, row}
use Rattle.heap_meaning.specs.ps_heap.Commit.{created_with, or_else, first_database, home_after, homes_after, is_writable, are_writable, is_empty, decision, NotWritable, NothingToDo, Saves, saved}
use Rattle.joint_ops.specs.World.{seen, IsWorld}
use Rattle.db_dir.specs.Directories as area
use Rattle.db_dir.specs.Directories.{IsDirectoryAt}
use Rattle.joint_held.specs.Held.{IsOfHeap, AreAssigned, IsCurrent, AreSources, IsAtHome, HasPlace, IsOneStore, HoldsRun}
use Rattle.joint_reach.specs.Meets.{MeetsHomes}
use Rattle.joint_commit.specs.Saving.{none_made}
use Rattle.joint_commit.proofs.StoredLaws.{Setting, named-before, among-back, stored-now}
use Rattle.joint_commit.proofs.HomeLaws.{homes-hold, homes-at}
use Rattle.joint_commit.proofs.TreeLaws.{trees-hold}
use Rattle.joint_commit.proofs.DirectoryLaws.{directory-holds}

-- what is held after a commit that saved
abbrev pub held_after : Held → Held
held_after h = record h { homes = homes_after h; created = []; assigned = [] }

-- The databases that are open for writing.

numbers-same : (writing : List Source) → map (λ (s : Source). s.number) (none_made writing) ≡ map (λ (s : Source). s.number) writing
numbers-same [] = refl
numbers-same (w ∷ ws) = ap (λ (ns : List ℕ). w.number ∷ ns) (numbers-same ws)

no-root : (writing : List Source) (place : ℕ) → (source_at (none_made writing) place).root ≡ None
no-root [] place = refl
no-root (w ∷ ws) zero = refl
no-root (w ∷ ws) (suc place) = no-root ws place

-- The root of each database is paired.

named-paired : (seen : Seen) (pair : Pairing) (refs : List Reference) (ds : Directory) (from number : ℕ) (d : Database) → area.AreNamed seen pair refs ds → database_from from ds number ≡ Some d
    → (n : Reference) × pair n d.root
unfolding database_from
named-paired seen pair (name ∷ password ∷ root ∷ more) (e ∷ ds) from number d a is = by (nat_eq from number) is (named-paired seen pair more ds (suc from) number d a.3)
  where
    by : (b : Bool) → (if b then Some e else database_from (suc from) ds number) ≡ Some d → (database_from (suc from) ds number ≡ Some d → (n : Reference) × pair n d.root)
        → (n : Reference) × pair n d.root
    by true x rest = let same : e ≡ d = cc in (root, subst (λ (k : Database). pair root k.root) same a.2.paired)
    by false x rest = rest x
named-paired seen pair [] [] from number d a is = absurd (cc)
named-paired seen pair [] (e ∷ ds) from number d a is = absurd a
named-paired seen pair (name ∷ []) ds from number d a is = absurd a
named-paired seen pair (name ∷ password ∷ []) ds from number d a is = absurd a
named-paired seen pair (name ∷ password ∷ root ∷ more) [] from number d a is = absurd a

-- A database that was made has its root.

created-there : (directory : Directory) (ns : List ℕ) (number : ℕ) (d : Database) → IsIn number ns → database_at directory number ≡ Some d → is_there (created_with directory ns d.root) ≡ true
unfolding created_with
created-there directory [] number d l is = absurd l
created-there directory (n ∷ ns) number d (inr l) is = by (is_in d.root (root_of (database_at directory n))) (created-there directory ns number d l is)
  where
    by : (b : Bool) → is_there (created_with directory ns d.root) ≡ true → is_there (if b then Some n else created_with directory ns d.root) ≡ true
    by true rest = refl
    by false rest = rest
created-there directory (n ∷ ns) number d (inl e) is =
    let here : is_in d.root (root_of (database_at directory n)) ≡ true =
    in-is_in d.root (root_of (database_at directory n)) (subst (λ (o : Option Database). IsIn d.root (root_of o)) (sym (ap (database_at directory) (sym e) ∙ is)) (inl refl)) in
    ap (λ (b : Bool). is_there (if b then Some n else created_with directory ns d.root)) here

there-first : (a b : Option ℕ) → is_there a ≡ true → is_there (or_else a b) ≡ true
there-first None b e = absurd (cc)
there-first (Some x) b e = refl

there-second : (a b : Option ℕ) → is_there b ≡ true → is_there (or_else a b) ≡ true
there-second None b e = e
there-second (Some x) b e = refl

-- A commit that saves comes after a call on databases.

-- each object with an assigned place has a home
placed-home : (here : Heap) (outside : Outside Space) (names : List Reference) (writing : List Source) (directory : Option ℕ) (h : Held) (id : ℕ) → HoldsRun here outside names writing directory h
    → HasPlace h.assigned id → is_there (home_at h.homes id) ≡ true
placed-home here outside names writing directory h id run k =
    let n = run.assigned.noted id k in
    let named = name-pid (header_at here n.0) n.0 n.2.stored in
    by (header_at here n.0).pid (home_at h.homes id) (run.homes (Pid (header_at here n.0).pid) id (subst (λ (m : Reference). paired names m id) named n.1.named))
  where
    by : (pid : ℕ) (home : Option ℕ) → IsAtHome (seen here outside) (Pid pid) home → is_there home ≡ true
    by pid None at = absurd at
    by pid (Some number) at = refl

-- so none is writable where no database is open for writing
none-assigned : (homes : List (Option ℕ)) (places : List Place) → ((id : ℕ) → HasPlace places id → is_there (home_at homes id) ≡ true) → are_writable homes [] places ≡ true → places ≡ []
unfolding are_writable is_in
none-assigned homes [] there e = refl
none-assigned homes (place ∷ places) there e = by (home_at homes (object_of place)) (there (object_of place) (inl refl)) e
  where
    by : (home : Option ℕ) → is_there home ≡ true → (if is_writable [] home then are_writable homes [] places else false) ≡ true → place ∷ places ≡ []
    by None t e = absurd (cc)
    by (Some n) t e = absurd (cc)

empty-nothing : (refuses : Bool) (h : Held) → h.assigned ≡ [] → h.created ≡ []
    → (if refuses then NotWritable else if is_empty h.assigned && is_empty h.created then NothingToDo else Saves (saved h)) ≡ Saves (saved h) → ⊥
empty-nothing refuses h a c e = by refuses (is_empty h.assigned && is_empty h.created) (both h.assigned h.created a c) e
  where
    both : {A B : Type 0} (xs : List A) (ys : List B) → xs ≡ [] → ys ≡ [] → (is_empty xs && is_empty ys) ≡ true
    both [] [] p q = refl
    both (x ∷ xs) ys p q = absurd (cc)
    both [] (y ∷ ys) p q = absurd (cc)

    by : (r n : Bool) → n ≡ true → (if r then NotWritable else if n then NothingToDo else Saves (saved h)) ≡ Saves (saved h) → ⊥
    by true n p q = cc
    by false true p q = cc
    by false false p q = cc

refused-saves : (writable : Bool) (h : Held) → writable ≡ false
    → (if not writable then NotWritable else if is_empty h.assigned && is_empty h.created then NothingToDo else Saves (saved h)) ≡ Saves (saved h) → ⊥
refused-saves true h r e = cc
refused-saves false h r e = cc

pub saves-asked : (here : Heap) (outside : Outside Space) (names : List Reference) (writing : List Source) (directory : Option ℕ) (h : Held) → decision h ≡ Saves (saved h)
    → HoldsRun here outside names writing directory h → h.asked ≡ true
unfolding decision each_once
saves-asked here outside names writing directory h e run = elim (cases_Bool h.asked) [
  | inl asked ↦ asked
  | inr un ↦
      let u = run.unasked un in
      let none_open = ap open_for_writing u.openings in
      absurd (elim (cases_Bool (are_writable h.homes (open_for_writing h.openings) h.assigned)) [
        | inl writable ↦
            let none = none-assigned h.homes h.assigned (λ id k. placed-home here outside names writing directory h id run k)
            (subst (λ (ns : List ℕ). are_writable h.homes ns h.assigned ≡ true) none_open writable) in
            empty-nothing (not (are_writable h.homes (open_for_writing h.openings) h.assigned)) h none u.created e
        | inr refused ↦ refused-saves (are_writable h.homes (open_for_writing h.openings) h.assigned) h refused e
      ])
]

row-long : (f : ℕ → Option ℕ) (from n : ℕ) → length (row f from n) ≡ n
unfolding row
row-long f from zero = refl
row-long f from (suc n) = let rest = row-long f (suc from) n in omega (arith, rest)

homes-long : (h : Held) → length (homes_after h) ≡ length h.objects
unfolding homes_after
homes-long h = row-long (home_after h) 0 (length h.objects)

module _ (old new : Heap) (before after : Outside Space) (names : List Reference) (writing : List Source) (directory : Option ℕ) (h : Held)
    (s : Setting old new before after names writing directory h)
    (unassigned : new.assigned ≡ [])
    (meets : MeetsHomes old new names writing directory h)
    (asked : h.asked ≡ true)
    (store : IsOneStore after) where
  abbrev ρ : Reference → Reference
  ρ = (s.tells.moved s.holds.current.told).to

  abbrev pub world-after : IsWorld new after h.objects (map ρ names)
  world-after = (s.tells.moved s.holds.current.told).world h.objects names s.holds.world

  none-listed : (x : ℕ) → IsListed x new.assigned → ⊥
  none-listed x l = subst (IsListed x) unassigned l

  assigned-after : AreAssigned new (map ρ names) []
  assigned-after = record {
    noted = λ id p. absurd p;
    placed = λ x id of n. absurd (none-listed x n.listed);
    known = λ x n home. absurd (none-listed x n.listed);
  }

  of-heap : (x : ℕ) → IsHeld new x → IsOfHeap new h.objects (map ρ names) world-after.row.stands.tables.nodes x → IsOfHeap old h.objects names s.holds.world.row.stands.tables.nodes x
  of-heap x held (inl other) = inl (λ e. other (s.commits.remains.kind x ∙ e))
  of-heap x held (inr node) =
      let b = named-before ρ names node.name node.id node.named in
      inr (record {
        name = b.before;
        id = node.id;
        named = b.is;
        table = node.table;
        table_is = node.table_is;
        among = among-back old new before after names writing directory h s x held b.before node.id node.table b.is node.table_is node.among;
      })

  current-after : IsCurrent new after h.objects (map ρ names) world-after.row.stands.tables.nodes
  current-after = record {
    told = s.tells.told s.holds.current.told;
    stored = λ x held low free of. stored-now old new before after names writing directory h s x held low (of-heap x held of);
    noted = λ x l. absurd (none-listed x l);
  }

  -- each database's root is at home after the commit
  roots-home : (number : ℕ) (d : Database) → database_at h.directory number ≡ Some d → is_there (home_at (homes_after h) d.root) ≡ true
  unfolding home_after database_at database_from
  roots-home number d is =
      let p = paired-root directory (s.holds.asked asked) in
      let b = s.holds.world.row.stands.both p.0 d.root p.1 in
      subst (λ (home : Option ℕ). is_there home ≡ true) (sym (homes-at h d.root b.object b.means)) (elim (cases_Bool (is_in number h.created)) [
        | inl made ↦
            there-second (home_at h.homes d.root) (or_else (created_with h.directory h.created d.root) (first_database h d.root))
            (there-first (created_with h.directory h.created d.root) (first_database h d.root) (created-there h.directory h.created number d (is_in-in number h.created made) is))
        | inr other ↦
            there-first (home_at h.homes d.root) (or_else (created_with h.directory h.created d.root) (first_database h d.root))
            (s.holds.sources.others number d is (λ l. let bad : true ≡ false = sym (in-is_in number h.created l) ∙ other in cc))
      ])
    where
      paired-root : (at : Option ℕ) → IsDirectoryAt old (seen old before) (paired names) at h.directory → (n : Reference) × paired names n d.root
      paired-root None k = let bad : database_from 1 [] number ≡ Some d = sym (ap (λ (ds : Directory). database_from 1 ds number) k) ∙ is in absurd (cc)
      paired-root (Some at) k = named-paired (seen old before) (paired names) _ h.directory 1 number d k.names is

  sources-after : AreSources new (map ρ names) (held_after h) (none_made writing)
  sources-after = record {
    numbers = numbers-same writing ∙ s.holds.sources.numbers;
    each = λ place below. record { made = λ at e. let bad : None ≡ Some at = sym (no-root writing place) ∙ e in absurd (cc); other = λ e l. absurd l };
    made = λ number l. absurd l;
    roots = λ place at below e. let bad : None ≡ Some at = sym (no-root writing place) ∙ e in absurd (cc);
    others = λ number d is away. roots-home number d is;
  }

  pub run-after : HoldsRun new after (map ρ names) (none_made writing) directory (held_after h)
  run-after = record {
    store = store;
    world = world-after;
    homes = homes-hold old new before after names writing directory h s meets;
    homed = omega (arith, homes-long h);
    assigned = assigned-after;
    trees = trees-hold old new before after names writing directory h s unassigned;
    current = current-after;
    sources = sources-after;
    asked = λ e. directory-holds old new before after names writing directory h s e;
    unasked = λ e. let bad : true ≡ false = sym asked ∙ e in absurd (cc);
  }
