-- What the calls answer, by the meaning's faults in their order.
use Rattle.std.proofs.Common.{arith, inl, inr, ◌≡◌, ◌⊎◌, ℕ, suc, ◌+◌, ◌*◌, ◌<◌, Bool, true, false, List, [], length, Option, Some, None, Result, Ok, Err, IfErr, OnOk, refl, sym, ap, ◌∙◌, subst}
use Rattle.std.specs.Prelude.{◌||◌, nat_eq, nat_lt, if◌then◌else◌}
use Rattle.std.proofs.lemmas.Bool.{eq-eqb, ne_eqb, lt-ltb, le-ltb}
use Rattle.joint_ops.specs.ps_outside.Outside.{Outside}
use Rattle.joint_ops.specs.obj_layout.Stored.{Space}
use Rattle.joint_ops.specs.obj_layout.declared.reference.Reference.{Reference}
use Rattle.joint_ops.specs.swizzle.declared.fault.SwizzleFault.{SwizzleFault}
use Rattle.joint_ops.specs.swizzle.Heap.{Heap, IsHeap, IsHeld}
use Rattle.joint_ops.specs.swizzle.Joint.{shown_at}
use Rattle.joint_ops.specs.swizzle.Changes.{Within}
use Rattle.joint_ops.specs.swizzle.Reading.{joint, FailsReading}
use Rattle.joint_ops.specs.heap_meaning.Paired.{paired}
use Rattle.joint_ops.specs.Seeing.{Gains}
use Rattle.joint_ops.specs.World.{seen}
use Rattle.joint_ops.specs.ps_heap.Texts.{is_same_text}
use Rattle.joint_ops.specs.ps_heap.Databases.{Database, Directory, Numbered, Mode, Fault, Admits, Refuses, BadName, BadPassword, Exists, TooMany, NoSuchDatabase, WrongPassword, BadMode, named, create_fault, admission, admitted_to, admitted_as, mode_named, is_there}
use Rattle.db_dir.specs.declared.fault.DirFault.TheVariants as dir
use Rattle.db_dir.specs.declared.admit.Admitted.{Admitted}
use Rattle.db_dir.specs.declared.admit.Admitted.TheVariants as admitted
use Rattle.db_dir.specs.Directories.{IsDirectory}
use Rattle.db_dir.specs.Entries.{GainsBy, ReadsSome}
use Rattle.db_dir.specs.Found.{IsName, AreFit, IsFirst, HasPassword, Opens, OpensAs, OpensAt, is_writing}
use Rattle.db_dir.specs.Answers.{Admit}
use Rattle.db_dir.proofs.EntryLaws.{compares-is}
use Rattle.db_dir.proofs.ListLaws.{numbered, in_place}
use Rattle.db_dir.proofs.GainLaws.{directory-known}
use Rattle.db_dir.proofs.DirLaws.{in-its-place, named-there, named-nowhere, spoilt-breaks}

-- Creating.

or-left : (a b : Bool) → a ≡ true → (a || b) ≡ true
or-left true b e = refl
or-left false b e = absurd (cc)

or-right : (a b : Bool) → b ≡ true → (a || b) ≡ true
or-right true b e = refl
or-right false b e = e

or-neither : (a b : Bool) → a ≡ false → b ≡ false → (a || b) ≡ false
or-neither true b e f = absurd (cc)
or-neither false b e f = f

-- the faults by what their tests answer
abbrev faults_by : Bool → Bool → Bool → Bool → Option Fault
faults_by a b c d = if a then Some BadName else if b then Some BadPassword else if c then Some Exists else if d then Some TooMany else None

create-by : (databases : Directory) (name password : List ℕ) (a b c d : Bool) → (nat_eq (length name) 0 || nat_lt 64 (length name)) ≡ a → nat_lt 64 (length password) ≡ b
    → is_there (named databases name) ≡ c → nat_eq (length databases) 256 ≡ d → create_fault databases name password ≡ faults_by a b c d
unfolding create_fault
create-by databases name password a b c d p q r s =
    ap (λ (x : Bool). faults_by x (nat_lt 64 (length password)) (is_there (named databases name)) (nat_eq (length databases) 256)) p
    ∙ ap (λ (x : Bool). faults_by a x (is_there (named databases name)) (nat_eq (length databases) 256)) q
    ∙ ap (λ (x : Bool). faults_by a b x (nat_eq (length databases) 256)) r
    ∙ ap (λ (x : Bool). faults_by a b c x) s

name-fits : (name : List ℕ) → IsName name → (nat_eq (length name) 0 || nat_lt 64 (length name)) ≡ false
name-fits name n = or-neither (nat_eq (length name) 0) (nat_lt 64 (length name)) (ne_eqb (length name) 0 (λ e. omega (arith, e, n.some))) (le-ltb 64 (length name) n.short)

pub fault-name : (databases : Directory) (name password : List ℕ) → (length name ≡ 0) ⊎ (64 < length name) → create_fault databases name password ≡ Some BadName
fault-name databases name password (inl e) =
    create-by databases name password true _ _ _ (or-left (nat_eq (length name) 0) (nat_lt 64 (length name)) (eq-eqb (length name) 0 e)) refl refl refl
fault-name databases name password (inr lt) =
    create-by databases name password true _ _ _ (or-right (nat_eq (length name) 0) (nat_lt 64 (length name)) (lt-ltb 64 (length name) lt)) refl refl refl

pub fault-password : (databases : Directory) (name password : List ℕ) → IsName name → 64 < length password → create_fault databases name password ≡ Some BadPassword
fault-password databases name password n lt = create-by databases name password false true _ _ (name-fits name n) (lt-ltb 64 (length password) lt) refl refl

pub fault-exists : (databases : Directory) (name password : List ℕ) (d : Numbered) → AreFit name password → named databases name ≡ Some d
    → create_fault databases name password ≡ Some Exists
fault-exists databases name password d f e =
    create-by databases name password false false true _ (name-fits name f.name_fits) (le-ltb 64 (length password) f.password_fits) (ap is_there e) refl

pub fault-many : (databases : Directory) (name password : List ℕ) → AreFit name password → named databases name ≡ None → length databases ≡ 256
    → create_fault databases name password ≡ Some TooMany
fault-many databases name password f e long =
    create-by databases name password false false false true (name-fits name f.name_fits) (le-ltb 64 (length password) f.password_fits) (ap is_there e) (eq-eqb (length databases) 256 long)

pub fault-none : (databases : Directory) (name password : List ℕ) → AreFit name password → named databases name ≡ None → length databases < 256
    → create_fault databases name password ≡ None
fault-none databases name password f e few =
    create-by databases name password false false false false (name-fits name f.name_fits) (le-ltb 64 (length password) f.password_fits) (ap is_there e)
    (ne_eqb (length databases) 256 (λ long. omega (arith, long, few)))

-- Opening.

admits : (databases : Directory) (name password mode : List ℕ) (to : Numbered) (as_mode : Mode) → named databases name ≡ Some to
    → is_same_text to.database.password password ≡ true → mode_named mode ≡ Some as_mode → admission databases name password mode ≡ Admits to as_mode
unfolding admission
admits databases name password mode to as_mode n p m =
    ap (λ (o : Option Numbered). admitted_to o password mode) n
    ∙ ap (λ (b : Bool). if b then admitted_as to (mode_named mode) else Refuses WrongPassword) p
    ∙ ap (admitted_as to) m

refuses-mode : (databases : Directory) (name password mode : List ℕ) (to : Numbered) → named databases name ≡ Some to
    → is_same_text to.database.password password ≡ true → mode_named mode ≡ None → admission databases name password mode ≡ Refuses BadMode
unfolding admission
refuses-mode databases name password mode to n p m =
    ap (λ (o : Option Numbered). admitted_to o password mode) n
    ∙ ap (λ (b : Bool). if b then admitted_as to (mode_named mode) else Refuses WrongPassword) p
    ∙ ap (admitted_as to) m

refuses-password : (databases : Directory) (name password mode : List ℕ) (to : Numbered) → named databases name ≡ Some to
    → is_same_text to.database.password password ≡ false → admission databases name password mode ≡ Refuses WrongPassword
unfolding admission
refuses-password databases name password mode to n p =
    ap (λ (o : Option Numbered). admitted_to o password mode) n
    ∙ ap (λ (b : Bool). if b then admitted_as to (mode_named mode) else Refuses WrongPassword) p

refuses-name : (databases : Directory) (name password mode : List ℕ) → named databases name ≡ None → admission databases name password mode ≡ Refuses NoSuchDatabase
unfolding admission
refuses-name databases name password mode n = ap (λ (o : Option Numbered). admitted_to o password mode) n

pub none-refuses : (databases : Directory) (name password mode : List ℕ) → databases ≡ [] → admission databases name password mode ≡ Refuses NoSuchDatabase
none-refuses databases name password mode e = refuses-name databases name password mode (ap (λ (ds : Directory). named ds name) e)

mode-is : (m : Option Mode) (writing : Bool) → OpensAs m (Some writing) → (as_mode : Mode) × (m ≡ Some as_mode) × (writing ≡ is_writing as_mode)
mode-is None writing o = absurd o
mode-is (Some as_mode) writing o = (as_mode, refl, o)

module _ (old new : Heap) (a b : Outside Space) (row : List Reference) (directory : ℕ) (databases : Directory) (name password mode : List ℕ) (h : IsHeap old)
    (later : IsHeap new) (held : IsHeld old directory)
    (is : IsDirectory (seen old a) (paired row) (shown_at old directory) databases) where
  -- the first database of the name, and whether it has the password
  record Found (place : ℕ) (same : Bool) : Type 0 where
    pub database : Database
    pub there : in_place databases place ≡ Some database
    pub first : named databases name ≡ Some (numbered (suc place) database)
    pub password_is : is_same_text database.password password ≡ same

  found : (place : ℕ) (same : Bool) → Within (joint old a) (joint new b) → IsFirst old new directory name place → HasPassword old new directory place password same → Found place same
  found place same grows f p =
      let n = named-there old new a b row directory databases h later held is name place grows f in
      record {
        database = n.0;
        there = n.1;
        first = n.2;
        password_is = compares-is old new a b directory (3 * place + 1) 0 64 (n.0).password password same later grows
            (in-its-place old new a b row directory databases h later held is place n.0 n.1).password p;
      }

  opened : (place number root : ℕ) (writing : Bool) → Gains old new a b → Within (joint old a) (joint new b) → IsFirst old new directory name place → OpensAt old new a b password mode directory place (Ok (admitted.Root number root writing))
      → Admit old new a b row databases name password mode (Ok (admitted.Root number root writing))
  opened place number root writing gained grows f o =
      let x = found place true grows f o.0 in
      let m = mode-is (mode_named mode) writing o.1.2 in
      let named = in-its-place old new a b row directory databases h later held is place x.database x.there in (
        numbered (suc place) x.database,
        m.0,
        admits databases name password mode (numbered (suc place) x.database) m.0 x.first x.password_is m.1,
        record {
          number_is = o.1.0;
          root_is = subst (λ (n : Reference). paired row n x.database.root) (sym o.1.1.denotes.1) named.root.paired;
          writing_is = m.2;
          gains = gained;
        },
      )

  -- the area only gained objects
  gained-all : GainsBy old new a b (shown_at old directory).refs → Gains old new a b
  gained-all w = w.gains (directory-known old (seen old a) (paired row) (Some directory) databases is)

  pub opens-admit : (result : Result Admitted SwizzleFault) → IfErr result (FailsReading a b) → OnOk result (ReadsSome old new a b)
      → OnOk result (GainsBy old new a b (shown_at old directory).refs) → Opens old new a b name password mode (Some directory) result
      → Admit old new a b row databases name password mode result
  opens-admit (Ok (admitted.Root number root writing)) f r w o = opened o.0 number root writing (gained-all w) r.reads.grows o.1 o.2
  opens-admit (Ok (admitted.Fault dir.NoSuchDatabase)) f r w o =
      (refuses-name databases name password mode (named-nowhere old new a b row directory databases h later held is name r.reads.grows o), gained-all w)
  opens-admit (Ok (admitted.Fault dir.Password)) f r w o =
      let x = found o.0 false r.reads.grows o.1 o.2 in (refuses-password databases name password mode (numbered (suc o.0) x.database) x.first x.password_is, gained-all w)
  opens-admit (Ok (admitted.Fault dir.BadMode)) f r w o =
      let x = found o.0 true r.reads.grows o.1 o.2.0 in (refuses-mode databases name password mode (numbered (suc o.0) x.database) x.first x.password_is o.2.1, gained-all w)
  opens-admit (Ok (admitted.Fault dir.BadName)) f r w o = absurd o.2.1
  opens-admit (Ok (admitted.Fault dir.BadPassword)) f r w o = absurd o.2.1
  opens-admit (Ok (admitted.Fault dir.Exists)) f r w o = absurd o.2.1
  opens-admit (Ok (admitted.Fault dir.TooMany)) f r w o = absurd o.2.1
  opens-admit (Err fault) f r w o = spoilt-breaks old new a b row directory databases h later held is fault f o
