-- The directory of a vault, by what is seen of it.
use Rattle.std.proofs.Common.{arith, inl, inr, ◌≡◌, ◌≢◌, ℕ, zero, suc, ◌^◌, ◌<◌, ◌≤◌, List, [], ◌∷◌, length, Option, Some, None, Ok, refl, sym, ap, ◌∙◌, subst}
use Rattle.joint_ops.specs.ps_outside.Outside.{Outside}
use Rattle.joint_ops.specs.obj_layout.Stored.{Space, IsSpace}
use Rattle.joint_ops.specs.obj_layout.declared.reference.Reference.{Reference}
use Rattle.joint_ops.specs.obj_layout.declared.reference.Reference.TheVariants.{Pid, Local}
use Rattle.joint_ops.specs.swizzle.declared.fault.SwizzleFault.{SwizzleFault}
use Rattle.joint_ops.specs.swizzle.declared.fault.SwizzleFault.TheVariants.{AreaFull, Vault}
use Rattle.joint_ops.specs.swizzle.Heap.{Heap, IsHeap, IsHeld, top_of, header_at, object_at, local_of}
use Rattle.joint_ops.specs.swizzle.Fetched.{IsLocal}
use Rattle.joint_ops.specs.swizzle.Joint.{Shown, shown_at, name_at}
use Rattle.joint_ops.specs.swizzle.Changes.{Within, Touched}
use Rattle.joint_ops.specs.swizzle.Touch.{Keeps, Only, IsNear, IsTouchCall, IsTouchFault}
use Rattle.joint_ops.specs.swizzle.Reading.{joint, Reads, FailsReading}
use Rattle.joint_ops.specs.heap_places.Places.{FailsFetch}
use Rattle.joint_ops.specs.heap_meaning.Standing.{Seen, Pairing}
use Rattle.joint_ops.specs.heap_meaning.Paired.{paired}
use Rattle.joint_ops.specs.World.{seen, BreaksOff}
use Rattle.joint_ops.proofs.of_swizzle.KeptLaws.{held_is}
use Rattle.joint_ops.proofs.of_swizzle.NameLaws.{not_away, name-none, name-pid, shown-counts}
use Rattle.joint_ops.proofs.of_swizzle.ObjectLaws.{split}
use Rattle.joint_ops.proofs.of_swizzle.ReadingLaws.{reads-touch}
use Rattle.joint_ops.proofs.of_heap_meaning.of_obj_layout.StoredLaws.{Holds-low, Holds-within}
use Rattle.joint_ops.proofs.SeenLaws.{seen-is, Known, caused-fetch, breaks}
use Rattle.joint_ops.specs.ps_heap.Databases.{Directory}
use Rattle.db_dir.specs.Directories.{IsDirectory, IsDirectoryUnder, IsShaped}
use Rattle.db_dir.specs.Entries.{ReadsSome}
use Rattle.db_dir.proofs.ListLaws.{named-within, named-length}

-- the PID in the name of an object of the area
pid-is : (heap : Heap) (to pid p : ℕ) → name_at heap to ≡ Pid pid → (header_at heap to).pid ≡ p → (1 ≤ pid) × ((header_at heap to).pid ≡ pid)
pid-is heap to pid zero n e = let bad : Local to ≡ Pid pid = sym (name-none (header_at heap to) to e) ∙ n in absurd (cc)
pid-is heap to pid (suc p) n e =
    let same : Pid (header_at heap to).pid ≡ Pid pid = sym (name-pid (header_at heap to) to (omega (arith, e))) ∙ n in
    let pids : (header_at heap to).pid ≡ pid = cc in
    (omega (arith, e, pids), pids)

-- a PID under which something is seen
seen-bounds : (here : Heap) (outside : Outside Space) (used directory pid : ℕ) (it : Shown) → IsHeap here
    → ((space : Space) → outside.contents space → IsSpace used directory space) → seen here outside (Pid pid) it → (1 ≤ pid) × (pid < 2 ^ 63)
seen-bounds here outside used directory pid it h law (inl a) =
    let is = pid-is here a.at pid (header_at here a.at).pid (sym a.name_is) refl in
    let fit = (split 1 here.objects a.at (object_at here a.at) h.fit (held_is here a.at a.held)).fit in
    (is.0, subst (λ (n : ℕ). n < 2 ^ 63) is.1 fit.pid)
seen-bounds here outside used directory pid it h law (inr v) =
    let same : pid ≡ v.pid = cc (v.name_is) in
    let low = Holds-low outside v.pid v.words v.there.there in
    let high = Holds-within outside used directory v.pid v.words law v.there.there in
    let small = (law v.there.there.space v.there.there.is).small in
    (omega (arith, same, low), omega (arith, same, high, small))

pub none-loaded : (here : Heap) (outside : Outside Space) (row : List Reference) (used pid : ℕ) (databases : Directory) → IsHeap here
    → ((space : Space) → outside.contents space → IsSpace used pid space) → pid ≡ 0 → IsDirectoryUnder (seen here outside) (paired row) pid databases → databases ≡ []
none-loaded here outside row used pid [] h law e is = refl
none-loaded here outside row used pid (d ∷ ds) h law e is =
    absurd (omega (arith, (seen-bounds here outside used pid pid is.it h law is.there).0, e))

pub big-loaded : (here : Heap) (outside : Outside Space) (row : List Reference) (used pid : ℕ) (databases : Directory) → IsHeap here
    → ((space : Space) → outside.contents space → IsSpace used pid space) → 2 ^ 63 ≤ pid → IsDirectoryUnder (seen here outside) (paired row) pid databases → ⊥
big-loaded here outside row used pid [] h law high is = omega (arith, high, is)
big-loaded here outside row used pid (d ∷ ds) h law high is = omega (arith, (seen-bounds here outside used pid pid is.it h law is.there).1, high)

-- the object of a PID was touched
pub loaded-touch : (old new : Heap) (a b : Outside Space) (pid at : ℕ) → IsHeap old → Keeps old new → Touched (joint old a) (joint new b) (Pid pid)
    → ((to : ℕ) → local_of old pid ≡ Some to → new ≡ old) → Only old new (Pid pid) → IsTouchCall old new a b (Ok at) → Reads old new a b (Pid pid ∷ [])
loaded-touch old new a b pid at h keeps touched near only call =
    reads-touch old new a b (Pid pid) at keeps touched (λ n. stays n (local_of old pid) refl) only call
  where
    stays : IsNear old (Pid pid) → (o : Option ℕ) → local_of old pid ≡ o → top_of new ≡ top_of old
    stays n (Some to) e = ap top_of (near to e)
    stays (inl nil) None e = absurd (cc)
    stays (inr is) None e = absurd (not_away old is.0 pid h is.1 (sym is.2) e)

pub loaded-reads : (old new : Heap) (a b : Outside Space) (pid at : ℕ) → IsHeap old → Keeps old new → Touched (joint old a) (joint new b) (Pid pid)
    → ((to : ℕ) → local_of old pid ≡ Some to → new ≡ old) → Only old new (Pid pid) → IsTouchCall old new a b (Ok at) → ReadsSome old new a b
loaded-reads old new a b pid at h keeps touched near only call =
    record { names = Pid pid ∷ []; reads = loaded-touch old new a b pid at h keeps touched near only call }

-- what was loaded is the directory
pub directory-there : (old new : Heap) (a b : Outside Space) (row : List Reference) (pid at : ℕ) (databases : Directory) → IsHeap new → Within (seen old a) (seen new b)
    → IsLocal new pid at → pid ≢ 0 → IsDirectoryUnder (seen old a) (paired row) pid databases → IsDirectory (seen new b) (paired row) (shown_at new at) databases
directory-there old new a b row pid at [] h grows local there is = absurd (there is)
directory-there old new a b row pid at (d ∷ ds) h grows local there is =
    let same : is.it ≡ shown_at new at = seen-is new b at (Pid pid) is.it h local.held local.name (grows (Pid pid) is.it is.there) in
    let all = is.is in
    subst (λ (it : Shown). IsDirectory (seen new b) (paired row) it (d ∷ ds)) same (record {
      kind_is = all.kind_is;
      home = all.home;
      some = all.some;
      few = all.few;
      fit = all.fit;
      names = named-within (seen old a) (seen new b) (paired row) (is.it).refs (d ∷ ds) grows all.names;
    })

pub directory-shaped : (heap : Heap) (s : Seen) (pair : Pairing) (at : ℕ) (databases : Directory) → IsHeap heap → IsHeld heap at
    → IsDirectory s pair (shown_at heap at) databases → IsShaped heap at
directory-shaped heap s pair at databases h held is =
    let counts = shown-counts heap at h held in
    record {
      held = held;
      kind_is = is.kind_is;
      home = sym counts.1 ∙ is.home;
      count = length databases;
      places = record {
        is = sym counts.0 ∙ named-length s pair (shown_at heap at).refs databases is.names;
        some = is.some;
        few = is.few;
      };
    }

touch-fetch : (heap : Heap) (outside : Outside Space) (r : Reference) (fault : SwizzleFault) → IsTouchFault heap outside r fault → FailsFetch heap outside r fault
touch-fetch heap outside r (AreaFull top wanted size) t = (omega (arith, t.0), t.1, t.2, t.3)
touch-fetch heap outside r (Vault refused) t = t

pub loading-breaks : (old new : Heap) (a b : Outside Space) (row : List Reference) (pid : ℕ) (databases : Directory) (fault : SwizzleFault) → IsHeap old → pid ≢ 0
    → FailsReading a b fault → IsTouchFault old a (Pid pid) fault → IsDirectoryUnder (seen old a) (paired row) pid databases → BreaksOff old new a b fault
loading-breaks old new a b row pid [] fault h there f t is = absurd (there is)
loading-breaks old new a b row pid (d ∷ ds) fault h there f t is =
    let known : Known old a (Pid pid) = inr (record { it = is.it; is = is.there }) in
    breaks old new a b fault f (caused-fetch old new a b (Pid pid) fault h known (touch-fetch old a (Pid pid) fault t))
