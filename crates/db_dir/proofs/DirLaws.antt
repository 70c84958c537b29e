-- What is found in a directory, by what is seen of it.
use Rattle.std.proofs.Common.{arith, inl, inr, ◌≡◌, ℕ, suc, ◌+◌, ◌*◌, true, false, List, [], length, Option, Some, None, Result, Ok, Err, IfErr, OnOk, MatchResult, sym, ap, ◌∙◌, subst}
use Rattle.joint_ops.specs.ps_outside.Outside.{Outside}
use Rattle.joint_ops.specs.obj_layout.Stored.{Space}
use Rattle.joint_ops.specs.obj_layout.declared.reference.Reference.{Reference}
use Rattle.joint_ops.specs.swizzle.declared.fault.SwizzleFault.{SwizzleFault}
use Rattle.joint_ops.specs.swizzle.Heap.{Heap, IsHeap, IsHeld, header_at}
use Rattle.joint_ops.specs.swizzle.Joint.{shown_at}
use Rattle.joint_ops.specs.swizzle.Changes.{Within}
use Rattle.joint_ops.specs.swizzle.Reading.{joint, FailsReading}
use Rattle.joint_ops.specs.heap_meaning.Standing.{Seen, Pairing}
use Rattle.joint_ops.specs.heap_meaning.Paired.{paired}
use Rattle.joint_ops.specs.Seeing.{Gains}
use Rattle.joint_ops.specs.World.{seen, BreaksOff}
use Rattle.joint_ops.proofs.of_swizzle.NameLaws.{shown-counts}
use Rattle.joint_ops.specs.ps_heap.Databases.{Database, Directory, named}
use Rattle.db_dir.specs.Directories.{IsDirectory, IsDirectoryAt}
use Rattle.db_dir.specs.Entries.{GainsBy, ReadsSome}
use Rattle.db_dir.specs.Found.{IsFirst, HasNone, IsSpoilt, Finds}
use Rattle.db_dir.specs.Answers.{number_in}
use Rattle.db_dir.proofs.EntryLaws.{compares-is, misses-breaks, misses-text-breaks}
use Rattle.db_dir.proofs.GainLaws.{directory-known}
use Rattle.db_dir.proofs.ListLaws.{numbered, in_place, place-below, place-there, fit-in_place, IsNamed, named-in_place, named-length, named-none, named-first}

module _ (old new : Heap) (a b : Outside Space) (row : List Reference) (directory : ℕ) (databases : Directory) (h : IsHeap old) (later : IsHeap new)
    (held : IsHeld old directory) (is : IsDirectory (seen old a) (paired row) (shown_at old directory) databases) where
  -- it refers to three objects for each database
  pub three-each : (header_at old directory).refs ≡ 3 * length databases
  three-each = sym (shown-counts old directory h held).0 ∙ named-length (seen old a) (paired row) (shown_at old directory).refs databases is.names

  pub in-its-place : (k : ℕ) (d : Database) → in_place databases k ≡ Some d → IsNamed (seen old a) (paired row) (shown_at old directory).refs k d
  in-its-place k d e = named-in_place (seen old a) (paired row) (shown_at old directory).refs databases k d is.names e

  pub named-there : (name : List ℕ) (place : ℕ) → Within (joint old a) (joint new b) → IsFirst old new directory name place
      → (d : Database) × (in_place databases place ≡ Some d) × (named databases name ≡ Some (numbered (suc place) d))
  named-there name place grows f =
      let there = place-there databases place (omega (arith, three-each, f.below)) in
      let d = there.0 in (
        d,
        there.1,
        named-first 1 databases name place (suc place) d there.1
            (λ j e lt y. compares-is old new a b directory (3 * j) 1 64 e.name name false later grows (in-its-place j e y).name (f.others j lt))
            (compares-is old new a b directory (3 * place) 1 64 d.name name true later grows (in-its-place place d there.1).name f.has) (omega arith),
      )

  pub named-nowhere : (name : List ℕ) → Within (joint old a) (joint new b) → HasNone old new directory name → named databases name ≡ None
  named-nowhere name grows f =
      named-none 1 databases name (λ k d e.
      compares-is old new a b directory (3 * k) 1 64 d.name name false later grows (in-its-place k d e).name
      (f.others k (omega (arith, three-each, f.places.is, place-below databases k d e))))

  pub spoilt-breaks : (fault : SwizzleFault) → FailsReading a b fault → IsSpoilt old new a b directory fault → BreaksOff old new a b fault
  spoilt-breaks fault f s =
      let there = place-there databases s.place (omega (arith, three-each, s.below)) in
      let d = there.0 in
      let named = in-its-place s.place d there.1 in
      let fit = fit-in_place databases s.place d is.fit there.1 in
      elim (s.why) [
        | inl name ↦ misses-text-breaks old new a b directory (3 * s.place) 1 64 d.name fault h later f named.name fit.some fit.short name
        | inr more ↦ elim more [
          | inl password ↦ misses-text-breaks old new a b directory (3 * s.place + 1) 0 64 d.password fault h later f named.password (omega arith) fit.password password
          | inr root ↦ misses-breaks old new a b directory (3 * s.place + 2) _ fault h later f named.root.kind root
        ]
      ]

-- An object that is the directory, or none.

pub directory-at : (heap : Heap) (s : Seen) (pair : Pairing) (directory : Option ℕ) (at : ℕ) (databases : Directory) → directory ≡ Some at
    → IsDirectoryAt heap s pair directory databases → IsDirectory s pair (shown_at heap at) databases
directory-at heap s pair directory at databases e is = subst (λ (d : Option ℕ). IsDirectoryAt heap s pair d databases) e is

pub directory-none : (heap : Heap) (s : Seen) (pair : Pairing) (directory : Option ℕ) (databases : Directory) → directory ≡ None
    → IsDirectoryAt heap s pair directory databases → databases ≡ []
directory-none heap s pair directory databases e is = subst (λ (d : Option ℕ). IsDirectoryAt heap s pair d databases) e is

-- What finding answers.

pub finds-number : (old new : Heap) (a b : Outside Space) (row : List Reference) (directory : ℕ) (databases : Directory) (name : List ℕ) (found : Option ℕ) → IsHeap old
    → IsHeap new → IsHeld old directory → Within (joint old a) (joint new b) → IsDirectory (seen old a) (paired row) (shown_at old directory) databases
    → Finds old new a b (Some directory) name (Ok found) → found ≡ number_in (named databases name)
finds-number old new a b row directory databases name None h later held grows is f =
    ap number_in (sym (named-nowhere old new a b row directory databases h later held is name grows f))
finds-number old new a b row directory databases name (Some number) h later held grows is f =
    let there = named-there old new a b row directory databases h later held is name f.0 grows f.2 in
    let n : number ≡ suc f.0 = f.1 in
    ap (λ (i : ℕ). Some i) n ∙ ap number_in (sym there.2)

pub finds-answers : (old new : Heap) (a b : Outside Space) (row : List Reference) (directory : ℕ) (databases : Directory) (name : List ℕ)
    (result : Result (Option ℕ) SwizzleFault) → IsHeap old → IsHeap new → IsHeld old directory → OnOk result (ReadsSome old new a b)
    → OnOk result (GainsBy old new a b (shown_at old directory).refs) → IfErr result (FailsReading a b)
    → IsDirectory (seen old a) (paired row) (shown_at old directory) databases → Finds old new a b (Some directory) name result
    → MatchResult result (λ (number : Option ℕ). (number ≡ number_in (named databases name)) × Gains old new a b) (BreaksOff old new a b)
finds-answers old new a b row directory databases name (Ok found) h later held r w f is finds =
    (finds-number old new a b row directory databases name found h later held r.reads.grows is finds, w.gains (directory-known old (seen old a) (paired row) (Some directory) databases is))
finds-answers old new a b row directory databases name (Err fault) h later held r w f is finds =
    spoilt-breaks old new a b row directory databases h later held is fault f finds

pub none-named : (databases : Directory) (name : List ℕ) → databases ≡ [] → None ≡ number_in (named databases name)
none-named databases name e = ap (λ (ds : Directory). number_in (named ds name)) (sym e)
