-- A database is created, with a table that was made for it.
use Rattle.std.proofs.Common.{inl, inr, ◌≡◌, ℕ, suc, arith, true, List, length, Option, Some, Result, Ok, Err, IfOk, IfErr, IfSome, None, OnOk, refl, sym, ap, ◌∙◌, subst}
use Rattle.joint_held.specs.joint_ops.ps_outside.Outside.{Outside}
use Rattle.joint_held.specs.joint_ops.obj_layout.Stored.{Space}
use Rattle.joint_held.specs.joint_ops.obj_layout.Objects as layout
use Rattle.joint_held.specs.joint_ops.obj_layout.declared.kind.Kind.TheVariants as kind
use Rattle.joint_held.specs.joint_ops.obj_layout.declared.reference.Reference.{Reference}
use Rattle.joint_held.specs.joint_ops.swizzle.declared.fault.SwizzleFault.{SwizzleFault}
use Rattle.joint_held.specs.joint_ops.swizzle.Objects.{Object}
use Rattle.joint_held.specs.joint_ops.swizzle.Heap.{Heap, IsHeap, IsHeld, IsMade, blank, header_at, top_of}
use Rattle.joint_held.specs.joint_ops.swizzle.Joint.{Shown, name_at, shown_at}
use Rattle.joint_held.specs.joint_ops.swizzle.Text.{text_at}
use Rattle.joint_held.specs.joint_ops.swizzle.Reading.{FailsReading}
use Rattle.joint_held.specs.joint_ops.swizzle.Touch.{Keeps}
use Rattle.joint_ops.proofs.of_swizzle.MadeLaws.{made-held, made-object}
use Rattle.joint_ops.proofs.of_swizzle.JointLaws.{held-lt}
use Rattle.joint_ops.proofs.of_swizzle.KeptLaws.{inside_nil}
use Rattle.joint_ops.proofs.of_swizzle.ReadingLaws.{leaves-none, texts-kept}
use Rattle.joint_ops.proofs.of_swizzle.TouchLaws.{keeps-trans}
use Rattle.joint_ops.proofs.of_heap_ops.ClassLaws.{pid-kept}
use Rattle.joint_held.specs.joint_ops.heap_meaning.Paired.{and_name, name_in, paired}
use Rattle.heap_meaning.proofs.PairedLaws.{name-before, name-last}
use Rattle.joint_held.specs.joint_ops.Seeing.{Gains}
use Rattle.joint_held.specs.joint_ops.World.{seen, BreaksOff, DenotesIn, FailsAsReading}
use Rattle.db_dir.proofs.DirLaws.{spoilt-breaks}
use Rattle.joint_ops.proofs.GrowthLaws.{made-keeps}
use Rattle.joint_ops.proofs.GainLaws.{made-gains, gains-then}
use Rattle.joint_ops.proofs.SeenLaws.{seen-held, text-denoted, keeps-carries, breaks-earlier}
use Rattle.joint_held.specs.joint_ops.ps_heap.Tables.{without_keys}
use Rattle.joint_held.specs.joint_ops.ps_heap.Objects.{Keyed}
use Rattle.joint_held.specs.joint_ops.ps_heap.Databases.{Database, Directory}
use Rattle.joint_held.specs.joint_ops.ps_heap.Held as meant
use Rattle.joint_held.specs.joint_ops.ps_heap.Held.{Held, new_id}
use Rattle.joint_held.specs.joint_ops.ps_heap.Values.{Text, Pointer}
use Rattle.commit_walk.specs.declared.homes.Source.{Source}
use Rattle.joint_held.specs.db_dir.declared.create.Created.{Created}
use Rattle.joint_held.specs.db_dir.declared.create.Created.TheVariants as created
use Rattle.joint_held.specs.db_dir.Directories.{IsDirectoryAt, IsShaped}
use Rattle.joint_held.specs.db_dir.Found.{Finds, Tries}
use Rattle.joint_held.specs.db_dir.Answers as dir
use Rattle.joint_held.specs.db_dir.Answers.{IsShort, IsShapedIfMade}
use Rattle.joint_held.specs.Held.{HoldsRun}
use Rattle.joint_held.specs.Opening.{and_source, with_database, CreatesDatabase}
use Rattle.joint_held.proofs.GainLaws.{holds}
use Rattle.joint_held.proofs.NewTableLaws.{table-made}
use Rattle.joint_held.proofs.OpenLaws.{created-run}
use Rattle.joint_held.proofs.ValueLaws.{counted-run}
use Rattle.joint_databases.specs.Calls.{Creates, Creating, HasNoNext, Holds, IsCreatedIfMade, creation_of}
use Rattle.joint_databases.specs.declared.calls.Creation.{Creation}
use Rattle.joint_databases.proofs.KnowLaws.{gains-carry}

abbrev new_table : Object
new_table = blank kind.Table 1 3 0

-- What the call answers that made the root before.

pub answer-ok : (P : Type 0) (root : ℕ) (result : Result Created SwizzleFault) (answer : Result Creation SwizzleFault) → answer ≡ creation_of root result → OnOk result P
    → OnOk answer P
answer-ok P root result answer e ok = subst (λ (r : Result Creation SwizzleFault). OnOk r P) (sym e) (of result ok)
  where
    of : (r : Result Created SwizzleFault) → OnOk r P → OnOk (creation_of root r) P
    of (Ok (created.Made directory number)) ok = ok
    of (Ok (created.Fault fault)) ok = ok
    of (Err fault) ok = tt

pub answer-err : (before after : Outside Space) (root : ℕ) (result : Result Created SwizzleFault) (answer : Result Creation SwizzleFault) → answer ≡ creation_of root result
    → FailsAsReading before after result → IfErr answer (FailsReading before after)
answer-err before after root result answer e fails = subst (λ (r : Result Creation SwizzleFault). IfErr r (FailsReading before after)) (sym e) (of result fails)
  where
    of : (r : Result Created SwizzleFault) → FailsAsReading before after r → IfErr (creation_of root r) (FailsReading before after)
    of (Ok (created.Made directory number)) fails = tt
    of (Ok (created.Fault fault)) fails = tt
    of (Err fault) fails = fails

pub answer-is : (old new : Heap) (answer given : Result Creation SwizzleFault) → answer ≡ given → IfOk given (IsCreatedIfMade old new) → IfOk answer (IsCreatedIfMade old new)
answer-is old new answer given e is = subst (λ (r : Result Creation SwizzleFault). IfOk r (IsCreatedIfMade old new)) (sym e) is

-- A table is made before.

pub table-keeps : (old mid : Heap) (root : ℕ) → IsHeap old → IsMade old mid root new_table → Keeps old mid
table-keeps old mid root sound m = made-keeps old mid root new_table sound m

pub table-there : (old mid : Heap) (root : ℕ) → IsMade old mid root new_table → IsHeld mid root × ((header_at mid root).kind ≡ kind.Table)
table-there old mid root m = (made-held old mid root new_table m, ap (λ (o : Object). o.header.kind) (made-object old mid root new_table m))

module _ (old mid new : Heap) (before after : Outside Space) (root : ℕ) (was_sound : IsHeap old) (mid_sound : IsHeap mid) (m : IsMade old mid root new_table) where
  -- The table.

  root-held : IsHeld mid root
  root-held = made-held old mid root new_table m

  root-object : Rattle.joint_held.specs.joint_ops.swizzle.Heap.object_at mid root ≡ new_table
  root-object = made-object old mid root new_table m

  root-free : IsHeld old root → ⊥
  root-free held = omega (arith, held-lt old root was_sound held, m.place)

  table-gains : Gains old mid before before
  table-gains =
      made-gains old mid before root new_table layout.table was_sound mid_sound (λ slot to e. inside_nil old 1 slot to e) refl
      (record { kind = refl; counted = refl; allowed = tt }) m

  all-gains : Gains mid new before after → Gains old new before after
  all-gains g = gains-then old mid new before before after table-gains g

  -- Whatever the vault holds.

  pub created-shape : (result : Result Created SwizzleFault) → OnOk result (Keeps mid new) → IfOk result (IsShapedIfMade new) → IfOk (creation_of root result) (IsCreatedIfMade old new)
  created-shape (Ok (created.Made directory number)) keeps is =
      let stays = keeps.objects root root-held in
      record {
        held = stays.held;
        table = ap (λ (it : Shown). it.kind) stays.shown_as ∙ ap (λ (o : Object). o.header.kind) root-object;
        unstored = pid-kept mid new root keeps root-held ∙ ap (λ (o : Object). o.header.pid) root-object;
        fresh = root-free;
        shaped = is.0;
        places = is.1;
      }
  created-shape (Ok (created.Fault fault)) keeps is = tt
  created-shape (Err fault) keeps is = tt

  pub all-keeps : {A : Type 0} (first : Result A SwizzleFault) → OnOk first (Keeps mid new) → OnOk first (Keeps old new)
  all-keeps (Ok x) keeps = keeps-trans old mid new table-gains.keeps keeps
  all-keeps (Err fault) keeps = tt

  -- Beside what a run holds.

  module _ (names : List Reference) (writing : List Source) (directory : Option ℕ) (h : Held) (asked : h.asked ≡ true) (none : HasNoNext h)
      (run : HoldsRun old before names writing directory h) where
    abbrev more : List Reference
    more = and_name names (name_at mid root)

    pair : paired more (name_at mid root) (new_id h)
    pair = subst (λ (id : ℕ). name_in more id ≡ Some (name_at mid root)) run.world.row.long (name-last names (name_at mid root))

    abbrev with_table : Held
    with_table = meant.made (Keyed without_keys) h

    made-run : HoldsRun mid before more writing directory with_table
    made-run = table-made old mid before names writing directory h root was_sound mid_sound m run

    module _ (n p : List ℕ) where
      -- the new database
      abbrev made : Database
      made = record { name = n; password = p; root = new_id h }

      creates : (number now : ℕ) → dir.Makes mid new before after more h.directory n p root now number → CreatesDatabase new after more writing (Some now) with_table made root
      creates number now makes =
          let stays = (makes.gains).keeps.objects root root-held in
          record {
            asked = asked;
            root = record { held = stays.held; named = subst (λ (k : Reference). paired more k (new_id h)) (sym stays.name) pair };
            unstored = pid-kept mid new root (makes.gains).keeps root-held ∙ ap (λ (o : Object). o.header.pid) root-object;
            table = ap (λ (it : Shown). it.kind) stays.shown_as ∙ ap (λ (o : Object). o.header.kind) root-object;
            only = λ place lt e. root-free ((run.sources.roots place root lt e).held);
            named = makes.is (new_id h) pair;
            fresh = none;
          }

      database-made : (number now : ℕ) → dir.Makes mid new before after more h.directory n p root now number → Creates old new before after names writing h n p number root now
      database-made number now makes =
          let g = makes.gains in
          let c = creates number now makes in
          let stays = g.keeps.objects root root-held in
          let all = all-gains g in
          let later = holds mid new before after more writing directory with_table g made-run in
          let now_held = created-run new after more writing with_table directory later (Some now) made root c in
          let counted = counted-run new after more (and_source writing (suc (length h.directory)) (Some root)) (Some now) (with_database made with_table) h.touched h.counted now_held in
          record {
            none = makes.none;
            number_is = makes.number_is;
            holds = subst (λ (k : Reference). Holds old new before after names (and_name names k) (and_source writing number (Some root)) (Some now)
                (Rattle.joint_held.specs.joint_ops.ps_heap.Calls.created_database n p h).held) (sym stays.name) (record {
                  run = subst (λ (i : ℕ). HoldsRun new after more (and_source writing i (Some root)) (Some now)
                      (Rattle.joint_held.specs.joint_ops.ps_heap.Calls.created_database n p h).held) (sym makes.number_is) counted;
                  carries = keeps-carries old new before after names more all.keeps all.grows (λ k id q. name-before names k (name_at mid root) id q);
                });
            denotes = subst (λ (k : Reference). DenotesIn new after (and_name names k) (Some root) (Pointer (new_id h))) (sym stays.name) (record {
              name = name_at new root;
              denotes = (c.root.held, refl);
              stands = (c.root.named, inr (record { it = shown_at new root; there = seen-held new after root c.root.held; kind_is = c.table }));
            });
          }

      -- a directory that was spoilt where there was one
      spoilt-off : (d : Option ℕ) (name : List ℕ) (fault : SwizzleFault) → IsHeap new → IfSome d (IsShaped mid)
          → IsDirectoryAt mid (seen mid before) (paired more) d h.directory → FailsReading before after fault → Finds mid new before after d name (Err fault)
          → BreaksOff mid new before after fault
      spoilt-off None name fault later shaped is fails finds = absurd finds
      spoilt-off (Some at) name fault later shaped is fails finds =
          spoilt-breaks mid new before after more at h.directory mid_sound later shaped.held is fault fails finds

      -- there was no room for the directory, and the area kept its size; or it broke off
      short-by : (name password : ℕ) (fault : SwizzleFault) → IsHeap new → IfSome directory (IsShaped mid) → FailsReading before after fault
          → Tries mid new before after directory name password root (Err fault) → IsShort mid new before after more h.directory n p fault
          → Creating old new before after names writing directory h n p (Err fault)
      short-by name password fault later shaped fails (inl finds) short =
          inl (breaks-earlier old mid new before before after fault mid_sound table-gains.keeps (leaves-none before)
          (spoilt-off directory (text_at mid name) fault later shaped (made-run.asked asked) fails finds))
      short-by name password fault later shaped fails (inr goes) short =
          inr (inr (
            record { none = short.none; wanted = short.wanted; words = short.words; fault_is = short.fault_is; full = short.full },
            ap (λ (x : Heap). x.size) goes.adds.full.stays ∙ (goes.reads.reads.keeps.size ∙ table-gains.keeps.size),
          ))

      creating-by : (name password : ℕ) (result : Result Created SwizzleFault) → IsHeap new → IfSome directory (IsShaped mid) → FailsAsReading before after result
          → Tries mid new before after directory name password root result → dir.Creates mid new before after more h.directory n p root result
          → Creating old new before after names writing directory h n p (creation_of root result)
      creating-by name password (Ok (created.Made now number)) later shaped fails tries makes = database-made number now makes
      creating-by name password (Ok (created.Fault fault)) later shaped fails tries told = (
        told.0,
        record {
          run = holds old new before after names writing directory h (all-gains told.1) run;
          carries = gains-carry old new before after names (all-gains told.1);
        },
      )
      creating-by name password (Err fault) later shaped fails tries (inl broke) = inl (breaks-earlier old mid new before before after fault mid_sound table-gains.keeps (leaves-none before) broke)
      creating-by name password (Err fault) later shaped fails tries (inr short) = short-by name password fault later shaped fails tries short

    -- a text of the area has its bytes still
    text-still : (at : ℕ) (bytes : List ℕ) → DenotesIn old before names (Some at) (Text bytes) → text_at mid at ≡ bytes
    text-still at bytes d =
        let t = text-denoted old before names at bytes was_sound d in (texts-kept old mid table-gains.keeps at t.held t.kind).bytes ∙ t.bytes_are

    pub creating : (name password : ℕ) (n p : List ℕ) (result : Result Created SwizzleFault) → IsHeap new → IfSome directory (IsShaped mid)
        → FailsAsReading before after result → Tries mid new before after directory name password root result → DenotesIn old before names (Some name) (Text n)
        → DenotesIn old before names (Some password) (Text p)
        → ((databases : Directory) (row : List Reference) → IsDirectoryAt mid (seen mid before) (paired row) directory databases
        → dir.Creates mid new before after row databases (text_at mid name) (text_at mid password) root result)
        → Creating old new before after names writing directory h n p (creation_of root result)
    creating name password n p result later shaped fails tries name_is password_is told =
        let all = told h.directory more (made-run.asked asked) in
        creating-by n p name password result later shaped fails tries
        (subst (λ (x : List ℕ). dir.Creates mid new before after more h.directory n x root result) (text-still password p password_is)
        (subst (λ (x : List ℕ). dir.Creates mid new before after more h.directory x (text_at mid password) root result) (text-still name n name_is) all))
