-- A directory that names one database more.
use Rattle.std.proofs.Common.{arith, inl, inr, ◌≡◌, ℕ, zero, suc, ◌+◌, ◌*◌, ◌<◌, List, [], ◌∷◌, ◌++◌, length, get_or, replicate, Option, Some, None, Result, Ok, Err, IfOk, OnOk, refl, sym, ap, ◌∙◌, subst}
use Rattle.std.specs.Prelude.{map}
use Rattle.std.specs.List.{AllByRecursion}
use Rattle.std.proofs.lemmas.List.{map-append, length-append}
use Rattle.joint_ops.specs.ps_outside.Outside.{Outside}
use Rattle.joint_ops.specs.obj_layout.Stored.{Space}
use Rattle.joint_ops.specs.obj_layout.Objects as layout
use Rattle.joint_ops.specs.obj_layout.declared.kind.Kind.TheVariants as kind
use Rattle.joint_ops.specs.obj_layout.declared.reference.Reference.{Reference}
use Rattle.joint_ops.specs.obj_layout.declared.reference.Reference.TheVariants.{Nil, Local}
use Rattle.joint_ops.specs.swizzle.declared.fault.SwizzleFault.{SwizzleFault}
use Rattle.joint_ops.specs.swizzle.declared.fault.SwizzleFault.TheVariants.{AreaFull}
use Rattle.joint_ops.specs.swizzle.Objects.{Object}
use Rattle.joint_ops.specs.swizzle.Heap.{Heap, IsHeap, IsHeld, IsInside, IsMade, header_at, top_of, with_new}
use Rattle.joint_ops.specs.swizzle.Text.{text_at}
use Rattle.joint_ops.specs.swizzle.Joint.{Shown, shown_at, name_at, name_of}
use Rattle.joint_ops.specs.swizzle.Changes.{Within}
use Rattle.joint_ops.specs.swizzle.Touch.{Keeps}
use Rattle.joint_ops.specs.heap_places.Shapes.{IsText}
use Rattle.joint_ops.specs.heap_meaning.Paired.{paired}
use Rattle.joint_ops.specs.World.{seen, BreaksOff, FailsAsReading}
use Rattle.joint_ops.proofs.of_swizzle.KeptLaws.{inside_kept}
use Rattle.joint_ops.proofs.of_swizzle.JointLaws.{shown-top}
use Rattle.joint_ops.proofs.of_swizzle.NameLaws.{shown-counts}
use Rattle.joint_ops.specs.swizzle.Reading.{joint, FailsReading, LeavesOutside}
use Rattle.joint_ops.proofs.of_swizzle.MadeLaws.{made-held, made-object}
use Rattle.joint_ops.proofs.of_swizzle.ReadingLaws.{texts-kept}
use Rattle.joint_ops.proofs.of_swizzle.TouchLaws.{keeps-trans}
use Rattle.joint_ops.proofs.SeenLaws.{seen-held, reads-within, shown-bytes}
use Rattle.joint_ops.specs.Seeing.{Gains}
use Rattle.joint_ops.proofs.GrowthLaws.{made-keeps, made-grows}
use Rattle.joint_ops.proofs.GainLaws.{gains-then, made-gains}
use Rattle.joint_ops.specs.ps_heap.Databases.{Database, Directory, Numbered, named}
use Rattle.db_dir.specs.Directories.{AreNamed, IsDirectory, IsDirectoryAt, IsRootSeen, IsFitDatabase, IsShaped, Counts, directory_of, names_in, refs_in}
use Rattle.db_dir.specs.Entries.{GainsBy, ReadsSome}
use Rattle.db_dir.specs.Found.{Adds, AreFit, Extends, GoesOn, Finds, Tries}
use Rattle.db_dir.specs.Answers.{IsShapedIfMade, Makes, IsShort, Creates}
use Rattle.db_dir.specs.declared.create.Created.{Created}
use Rattle.db_dir.specs.declared.create.Created.TheVariants as created
use Rattle.db_dir.specs.declared.fault.DirFault.TheVariants as dir
use Rattle.db_dir.proofs.ExtendLaws.{old-long}
use Rattle.db_dir.proofs.GainLaws.{by-same, directory-known}
use Rattle.db_dir.proofs.AnswerLaws.{fault-name, fault-password, fault-exists, fault-many, fault-none}
use Rattle.db_dir.proofs.DirLaws.{named-there, named-nowhere, spoilt-breaks}
use Rattle.db_dir.proofs.ListLaws.{numbered, named-within, named-more, fit-more, named-length}

-- What the new directory refers to lies in the area.
abbrev AllHeld : Heap → List Reference → Type 0
AllHeld heap refs = (slot to : ℕ) → get_or refs slot Nil ≡ Local to → IsHeld heap to

held-more : (heap : Heap) (xs ys : List Reference) → AllHeld heap xs → AllHeld heap ys → AllHeld heap (xs ++ ys)
held-more heap [] ys f g slot to e = g slot to e
held-more heap (x ∷ xs) ys f g zero to e = f 0 to e
held-more heap (x ∷ xs) ys f g (suc slot) to e = held-more heap xs ys (λ s t q. f (suc s) t q) g slot to e

held-three : (heap : Heap) (a b c : ℕ) → IsHeld heap a → IsHeld heap b → IsHeld heap c → AllHeld heap (Local a ∷ Local b ∷ Local c ∷ [])
held-three heap a b c p q r zero to e = let same : a ≡ to = cc in subst (IsHeld heap) same p
held-three heap a b c p q r (suc zero) to e = let same : b ≡ to = cc in subst (IsHeld heap) same q
held-three heap a b c p q r (suc (suc zero)) to e = let same : c ≡ to = cc in subst (IsHeld heap) same r
held-three heap a b c p q r (suc (suc (suc slot))) to e = absurd (cc)

held-old : (heap : Heap) (directory : Option ℕ) → IsHeap heap → ((at : ℕ) → directory ≡ Some at → IsHeld heap at) → AllHeld heap (refs_in heap directory)
held-old heap None h held slot to e = absurd (cc)
held-old heap (Some at) h held slot to e = inside_kept heap at h (held at refl) slot to e

names-kept : (old mid : Heap) (directory : Option ℕ) → Keeps old mid → ((at : ℕ) → directory ≡ Some at → IsHeld old at) → map (name_of mid) (refs_in mid directory) ≡ names_in old directory
names-kept old mid None keeps held = refl
names-kept old mid (Some at) keeps held = ap (λ (it : Shown). it.refs) (keeps.objects at (held at refl)).shown_as

-- What is seen of a text and of a table of the area, after all.
text-seen : (old new : Heap) (a b : Outside Space) (at : ℕ) → IsHeld old at → (header_at old at).kind ≡ kind.Text → Keeps old new
    → IsText (seen new b) (name_at old at) (text_at old at)
text-seen old new a b at held is keeps =
    let stays = keeps.objects at held in
    let text = texts-kept old new keeps at held is in
    record {
      it = shown_at new at;
      there = subst (λ (n : Reference). seen new b n (shown_at new at)) stays.name (seen-held new b at stays.held);
      kind = text.kind;
      bytes_are = sym (shown-bytes new at text.kind) ∙ text.bytes;
    }

table-seen : (old new : Heap) (a b : Outside Space) (row : List Reference) (at id : ℕ) → IsHeld old at → (header_at old at).kind ≡ kind.Table → Keeps old new
    → paired row (name_at old at) id → IsRootSeen (seen new b) (paired row) (name_at old at) id
table-seen old new a b row at id held is keeps pair =
    let stays = keeps.objects at held in
    record {
      paired = pair;
      kind = record {
        it = shown_at new at;
        there = subst (λ (n : Reference). seen new b n (shown_at new at)) stays.name (seen-held new b at stays.held);
        kind_is = ap (λ (it : Shown). it.kind) stays.shown_as ∙ is;
      };
    }

abbrev shown_directory : List Reference → Shown
shown_directory refs = record { kind = kind.Directory; refs = refs; nums = replicate 1 0; bytes = 0 }

module _ (old mid new : Heap) (a b : Outside Space) (directory : Option ℕ) (name password root made : ℕ) (h : IsHeap mid) (reads : ReadsSome old mid a b)
    (held : (at : ℕ) → directory ≡ Some at → IsHeld old at) (name_held : IsHeld old name) (password_held : IsHeld old password) (root_held : IsHeld old root)
    (m : IsMade mid new made (directory_of (refs_in mid directory ++ Local name ∷ Local password ∷ Local root ∷ []))) where
  keeps : Keeps old mid
  keeps = reads.reads.keeps

  inside : IsInside mid (directory_of (refs_in mid directory ++ Local name ∷ Local password ∷ Local root ∷ []))
  inside slot to e =
      held-more mid (refs_in mid directory) (Local name ∷ Local password ∷ Local root ∷ [])
      (held-old mid directory h (λ at is. (keeps.objects at (held at is)).held))
      (held-three mid name password root (keeps.objects name name_held).held (keeps.objects password password_held).held (keeps.objects root root_held).held) slot to e

  pub keeps-all : Keeps old new
  keeps-all = keeps-trans old mid new keeps (made-keeps mid new made (directory_of (refs_in mid directory ++ Local name ∷ Local password ∷ Local root ∷ [])) h m)

  pub shown-made : shown_at new made ≡ shown_directory (names_in old directory ++ name_at old name ∷ name_at old password ∷ name_at old root ∷ [])
  shown-made =
      let refs = refs_in mid directory ++ Local name ∷ Local password ∷ Local root ∷ [] in
      let there : shown_at new made ≡ shown_at (with_new mid (directory_of refs)) (top_of mid) =
      ap (λ (x : Heap). shown_at x made) m.made ∙ ap (shown_at (with_new mid (directory_of refs))) m.place in
      let names : map (name_of mid) refs ≡ names_in old directory ++ name_at old name ∷ name_at old password ∷ name_at old root ∷ [] =
      map-append (name_of mid) (refs_in mid directory) (Local name ∷ Local password ∷ Local root ∷ [])
      ∙ ap (λ (ns : List Reference). ns ++ name_at mid name ∷ name_at mid password ∷ name_at mid root ∷ []) (names-kept old mid directory keeps held)
      ∙ ap (λ (n : Reference). names_in old directory ++ n ∷ name_at mid password ∷ name_at mid root ∷ []) (keeps.objects name name_held).name
      ∙ ap (λ (n : Reference). names_in old directory ++ name_at old name ∷ n ∷ name_at mid root ∷ []) (keeps.objects password password_held).name
      ∙ ap (λ (n : Reference). names_in old directory ++ name_at old name ∷ name_at old password ∷ n ∷ []) (keeps.objects root root_held).name in
      there ∙ shown-top mid (directory_of refs) inside
      ∙ ap shown_directory names

  pub sees-more : Within (seen old a) (seen new b)
  sees-more n it j =
      made-grows mid new b made (directory_of (refs_in mid directory ++ Local name ∷ Local password ∷ Local root ∷ [])) h inside refl m n it
      (reads-within old mid a b reads.names reads.reads n it j)

-- How many databases there are.

count-held : (old : Heap) (a : Outside Space) (row : List Reference) (directory : Option ℕ) (databases : Directory) (count : ℕ) → IsHeap old
    → ((at : ℕ) → directory ≡ Some at → IsHeld old at) → IsDirectoryAt old (seen old a) (paired row) directory databases → Counts old directory count → count ≡ length databases
count-held old a row None databases count h held is c = c ∙ ap length (sym is)
count-held old a row (Some at) databases count h held is c =
    omega (arith, c.is, (shown-counts old at h (held at refl)).0, named-length (seen old a) (paired row) (shown_at old at).refs databases is.names)

counts-before : (old mid : Heap) (directory : Option ℕ) (count : ℕ) → Keeps old mid → ((at : ℕ) → directory ≡ Some at → IsHeld old at) → Counts mid directory count
    → Counts old directory count
counts-before old mid None count k held c = c
counts-before old mid (Some at) count k held c =
    record { is = sym (k.objects at (held at refl)).refs ∙ c.is; some = c.some; few = c.few }

-- what was made has the shape of a directory
pub made-shaped : (mid new : Heap) (directory : Option ℕ) (name password root made number : ℕ) → IsHeap mid → ((at : ℕ) → directory ≡ Some at → IsHeld mid at)
    → Extends mid new directory name password root made number → IsShaped new made × ((header_at new made).refs ≡ 3 * number)
made-shaped mid new directory name password root made number h held e =
    let refs = refs_in mid directory ++ Local name ∷ Local password ∷ Local root ∷ [] in
    let o = made-object mid new made (directory_of refs) e.made_is in
    let long : length refs ≡ 3 * suc e.count =
    omega (arith, length-append (refs_in mid directory) (Local name ∷ Local password ∷ Local root ∷ []), old-long mid directory e.count h held e.counts) in
    let is : (header_at new made).refs ≡ 3 * suc e.count = ap (λ (x : Object). x.header.refs) o ∙ long in (
      record {
        held = made-held mid new made (directory_of refs) e.made_is;
        kind_is = ap (λ (x : Object). x.header.kind) o;
        home = ap (λ (x : Object). x.header.nums) o;
        count = suc e.count;
        places = record { is = is; some = omega arith; few = omega (arith, e.few) };
      },
      is ∙ ap (λ (n : ℕ). 3 * n) (sym e.number_is),
    )

-- the area only gained it
made-gained : (mid new : Heap) (b : Outside Space) (directory : Option ℕ) (name password root made number : ℕ) → IsHeap mid → IsHeap new
    → ((at : ℕ) → directory ≡ Some at → IsHeld mid at) → IsHeld mid name → IsHeld mid password → IsHeld mid root
    → Extends mid new directory name password root made number → Gains mid new b b
made-gained mid new b directory name password root made number h later held name_held password_held root_held e =
    let refs = refs_in mid directory ++ Local name ∷ Local password ∷ Local root ∷ [] in
    let long : length refs ≡ 3 * suc e.count =
    omega (arith, length-append (refs_in mid directory) (Local name ∷ Local password ∷ Local root ∷ []), old-long mid directory e.count h held e.counts) in
    made-gains mid new b made (directory_of refs) (layout.directory (suc e.count)) h later
    (λ slot to is. held-more mid (refs_in mid directory) (Local name ∷ Local password ∷ Local root ∷ []) (held-old mid directory h held)
    (held-three mid name password root name_held password_held root_held) slot to is)
    refl (record { kind = refl; counted = ap (λ (n : ℕ). layout.counts n 1 0) long; allowed = (omega arith, omega (arith, e.few)) }) e.made_is

pub adds-gains : (old mid new : Heap) (a b : Outside Space) (directory : Option ℕ) (name password root : ℕ) (result : Result Created SwizzleFault) → IsHeap mid → IsHeap new
    → ((at : ℕ) → directory ≡ Some at → IsHeld mid at) → IsHeld mid name → IsHeld mid password → IsHeld mid root → Adds mid new directory name password root result
    → GainsBy old mid a b (names_in old directory) → OnOk result (GainsBy old new a b (names_in old directory))
adds-gains old mid new a b directory name password root (Ok (created.Made made number)) h later held name_held password_held root_held e g = record {
  gains = λ known.
      gains-then old mid new a b b (g.gains known) (made-gained mid new b directory name password root made number h later held name_held password_held root_held e);
}
adds-gains old mid new a b directory name password root (Ok (created.Fault dir.TooMany)) h later held name_held password_held root_held e g =
    by-same old mid new a b (names_in old directory) e.1 g
adds-gains old mid new a b directory name password root (Ok (created.Fault dir.BadName)) h later held name_held password_held root_held e g = absurd e
adds-gains old mid new a b directory name password root (Ok (created.Fault dir.BadPassword)) h later held name_held password_held root_held e g = absurd e
adds-gains old mid new a b directory name password root (Ok (created.Fault dir.Exists)) h later held name_held password_held root_held e g = absurd e
adds-gains old mid new a b directory name password root (Ok (created.Fault dir.NoSuchDatabase)) h later held name_held password_held root_held e g = absurd e
adds-gains old mid new a b directory name password root (Ok (created.Fault dir.Password)) h later held name_held password_held root_held e g = absurd e
adds-gains old mid new a b directory name password root (Ok (created.Fault dir.BadMode)) h later held name_held password_held root_held e g = absurd e
adds-gains old mid new a b directory name password root (Err fault) h later held name_held password_held root_held e g = tt

pub adds-tries : (old mid new : Heap) (a b : Outside Space) (directory : Option ℕ) (name password root : ℕ) (result : Result Created SwizzleFault) → IsHeap mid → ReadsSome old mid a b
    → AreFit (text_at old name) (text_at old password) → Finds old mid a b directory (text_at old name) (Ok None) → Adds mid new directory name password root result
    → Tries old new a b directory name password root result
adds-tries old mid new a b directory name password root (Ok (created.Made made number)) h r fit none e =
    record { mid = mid; sound = h; reads = r; fit = fit; others = none; adds = e }
adds-tries old mid new a b directory name password root (Ok (created.Fault dir.TooMany)) h r fit none e =
    (subst (λ (x : Heap). ReadsSome old x a b) (sym e.1) r, record { mid = mid; sound = h; reads = r; fit = fit; others = none; adds = e })
adds-tries old mid new a b directory name password root (Ok (created.Fault dir.BadName)) h r fit none e = absurd e
adds-tries old mid new a b directory name password root (Ok (created.Fault dir.BadPassword)) h r fit none e = absurd e
adds-tries old mid new a b directory name password root (Ok (created.Fault dir.Exists)) h r fit none e = absurd e
adds-tries old mid new a b directory name password root (Ok (created.Fault dir.NoSuchDatabase)) h r fit none e = absurd e
adds-tries old mid new a b directory name password root (Ok (created.Fault dir.Password)) h r fit none e = absurd e
adds-tries old mid new a b directory name password root (Ok (created.Fault dir.BadMode)) h r fit none e = absurd e
adds-tries old mid new a b directory name password root (Err fault) h r fit none e = inr (record { mid = mid; sound = h; reads = r; fit = fit; others = none; adds = e })

-- What creating answers.

module _ (old new : Heap) (a b : Outside Space) (row : List Reference) (directory : Option ℕ) (databases : Directory) (name password root : ℕ) (h : IsHeap old)
    (held : (at : ℕ) → directory ≡ Some at → IsHeld old at) (name_held : IsHeld old name) (name_text : (header_at old name).kind ≡ kind.Text)
    (password_held : IsHeld old password) (password_text : (header_at old password).kind ≡ kind.Text) (root_held : IsHeld old root)
    (root_table : (header_at old root).kind ≡ kind.Table) (is : IsDirectoryAt old (seen old a) (paired row) directory databases) where
  old-names : (d : Option ℕ) → IsDirectoryAt old (seen old a) (paired row) d databases → AreNamed (seen old a) (paired row) (names_in old d) databases
  old-names None e = subst (AreNamed (seen old a) (paired row) []) (sym e) tt
  old-names (Some at) e = e.names

  old-fit : (d : Option ℕ) → IsDirectoryAt old (seen old a) (paired row) d databases → AllByRecursion IsFitDatabase databases
  old-fit None e = subst (AllByRecursion IsFitDatabase) (sym e) tt
  old-fit (Some at) e = e.fit

  no-such : (mid : Heap) (d : Option ℕ) → IsHeap mid → ReadsSome old mid a b → ((at : ℕ) → d ≡ Some at → IsHeld old at)
      → IsDirectoryAt old (seen old a) (paired row) d databases → Finds old mid a b d (text_at old name) (Ok None) → named databases (text_at old name) ≡ None
  no-such mid None later r own e f = ap (λ (ds : Directory). named ds (text_at old name)) e
  no-such mid (Some at) later r own e f = named-nowhere old mid a b row at databases h later (own at refl) e (text_at old name) r.reads.grows f

  abbrev Goes : Result Created SwizzleFault → Type 0
  Goes result = GoesOn old new a b directory name password root result

  count-is : (result : Result Created SwizzleFault) (g : Goes result) (count : ℕ) → Counts g.mid directory count → count ≡ length databases
  count-is result g count c = count-held old a row directory databases count h held is (counts-before old g.mid directory count g.reads.reads.keeps held c)

  makes : (made number : ℕ) → Gains old new a b → Goes (Ok (created.Made made number)) → Makes old new a b row databases (text_at old name) (text_at old password) root made number
  makes made number gained g =
      let e = g.adds in
      let count = count-is (Ok (created.Made made number)) g e.count e.counts in
      record {
        none = fault-none databases (text_at old name) (text_at old password) g.fit (no-such g.mid directory g.sound g.reads held is g.others) (omega (arith, count, e.few));
        number_is = e.number_is ∙ ap (λ (n : ℕ). suc n) count;
        is = λ id pair.
            let d : Database = record { name = text_at old name; password = text_at old password; root = id } in
            let keeps = keeps-all old g.mid new a b directory name password root made g.sound g.reads held name_held password_held root_held e.made_is in
            let grows = sees-more old g.mid new a b directory name password root made g.sound g.reads held name_held password_held root_held e.made_is in
            let long = length-append databases (d ∷ []) in
            let all : IsDirectory (seen new b) (paired row)
            (shown_directory (names_in old directory ++ name_at old name ∷ name_at old password ∷ name_at old root ∷ []))
            (databases ++ d ∷ []) = record {
              kind_is = refl;
              home = refl;
              some = omega (arith, long);
              few = omega (arith, long, count, e.few);
              fit = fit-more databases d (old-fit directory is) (record { some = g.fit.name_fits.some; short = g.fit.name_fits.short; password = g.fit.password_fits });
              names = named-more (seen new b) (paired row) (names_in old directory) databases (name_at old name) (name_at old password) (name_at old root) d
                  (named-within (seen old a) (seen new b) (paired row) (names_in old directory) databases grows (old-names directory is))
                  (text-seen old new a b name name_held name_text keeps) (text-seen old new a b password password_held password_text keeps)
                  (table-seen old new a b row root id root_held root_table keeps pair);
            } in
            subst (λ (it : Shown). IsDirectory (seen new b) (paired row) it (databases ++ d ∷ []))
            (sym (shown-made old g.mid new a b directory name password root made g.sound g.reads held name_held password_held root_held e.made_is)) all;
        gains = gained;
      }

  short : (fault : SwizzleFault) → Goes (Err fault) → IsShort old new a b row databases (text_at old name) (text_at old password) fault
  short fault g =
      let e = g.adds in
      let count = count-is (Err fault) g e.count e.counts in
      record {
        none = fault-none databases (text_at old name) (text_at old password) g.fit (no-such g.mid directory g.sound g.reads held is g.others) (omega (arith, count, e.few));
        wanted = 3 * e.count + 8;
        words = omega (arith, count);
        fault_is = e.full.fault_is ∙ ap (λ (x : Heap). AreaFull (top_of x) (3 * e.count + 8) x.size) (sym e.full.stays);
        full = subst (λ (x : Heap). x.size < top_of x + (3 * e.count + 8)) (sym e.full.stays) e.full.full;
      }

  spoilt : (fault : SwizzleFault) (d : Option ℕ) → IsHeap new → ((at : ℕ) → d ≡ Some at → IsHeld old at) → IsDirectoryAt old (seen old a) (paired row) d databases
      → FailsReading a b fault → Finds old new a b d (text_at old name) (Err fault) → BreaksOff old new a b fault
  spoilt fault None later own e f s = absurd s
  spoilt fault (Some at) later own e f s = spoilt-breaks old new a b row at databases h later (own at refl) e fault f s

  exists : (number : ℕ) (d : Option ℕ) → IsHeap new → ((at : ℕ) → d ≡ Some at → IsHeld old at) → IsDirectoryAt old (seen old a) (paired row) d databases
      → Within (joint old a) (joint new b) → Finds old new a b d (text_at old name) (Ok (Some number)) → (n : Numbered) × (named databases (text_at old name) ≡ Some n)
  exists number None later own e grows f = absurd f
  exists number (Some at) later own e grows f =
      let there = named-there old new a b row at databases h later (own at refl) e (text_at old name) f.0 grows f.2 in
      (numbered (suc f.0) there.0, there.2)

  -- the area only gained objects
  gained-all : GainsBy old new a b (names_in old directory) → Gains old new a b
  gained-all r = r.gains (directory-known old (seen old a) (paired row) directory databases is)

  pub tries-creates : (result : Result Created SwizzleFault) → IsHeap new → FailsAsReading a b result → OnOk result (GainsBy old new a b (names_in old directory))
      → Tries old new a b directory name password root result
      → Creates old new a b row databases (text_at old name) (text_at old password) root result
  tries-creates (Ok (created.Made made number)) later f r t = makes made number (gained-all r) t
  tries-creates (Ok (created.Fault dir.BadName)) later f r t = (fault-name databases (text_at old name) (text_at old password) t.1.0, gained-all r)
  tries-creates (Ok (created.Fault dir.BadPassword)) later f r t = (fault-password databases (text_at old name) (text_at old password) t.1.0.0 t.1.0.1, gained-all r)
  tries-creates (Ok (created.Fault dir.Exists)) later f r t =
      let n = exists t.1.1.0 directory later held is t.0.reads.grows t.1.1.1 in (fault-exists databases (text_at old name) (text_at old password) n.0 t.1.0 n.1, gained-all r)
  tries-creates (Ok (created.Fault dir.TooMany)) later f r t =
      let g = t.1 in (
        fault-many databases (text_at old name) (text_at old password) g.fit (no-such g.mid directory g.sound g.reads held is g.others)
            (sym (count-is (Ok (created.Fault dir.TooMany)) g 256 g.adds.0)),
        gained-all r,
      )
  tries-creates (Ok (created.Fault dir.NoSuchDatabase)) later f r t = absurd t.1.0
  tries-creates (Ok (created.Fault dir.Password)) later f r t = absurd t.1.0
  tries-creates (Ok (created.Fault dir.BadMode)) later f r t = absurd t.1.0
  tries-creates (Err fault) later f r (inl s) = inl (spoilt fault directory later held is f s)
  tries-creates (Err fault) later f r (inr g) = inr (short fault g)

-- what it leaves
module _ (old new : Heap) (a b : Outside Space) (directory : Option ℕ) (name password root : ℕ) (held : (at : ℕ) → directory ≡ Some at → IsHeld old at)
    (name_held : IsHeld old name) (password_held : IsHeld old password) (root_held : IsHeld old root) where
  pub tries-shaped : (result : Result Created SwizzleFault) → Tries old new a b directory name password root result → IfOk result (IsShapedIfMade new)
  tries-shaped (Ok (created.Made made number)) g =
      made-shaped g.mid new directory name password root made number g.sound (λ at is. (g.reads.reads.keeps.objects at (held at is)).held) g.adds
  tries-shaped (Ok (created.Fault fault)) t = tt
  tries-shaped (Err fault) t = tt

  pub tries-keeps : (result : Result Created SwizzleFault) → Tries old new a b directory name password root result → OnOk result (Keeps old new)
  tries-keeps (Ok (created.Made made number)) g =
      keeps-all old g.mid new a b directory name password root made g.sound g.reads held name_held password_held root_held g.adds.made_is
  tries-keeps (Ok (created.Fault fault)) t = t.0.reads.keeps
  tries-keeps (Err fault) t = tt

  pub tries-leaves : (result : Result Created SwizzleFault) → Tries old new a b directory name password root result → FailsAsReading a b result → LeavesOutside a b
  tries-leaves (Ok (created.Made made number)) g f = g.reads.reads.outside
  tries-leaves (Ok (created.Fault fault)) t f = t.0.reads.outside
  tries-leaves (Err fault) t f = f.outside
