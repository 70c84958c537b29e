-- What was given PIDs and stored: a commit, whole.
use Rattle.std.proofs.Common.{inl, inr, ◌⊎◌, ◌≡◌, ℕ, zero, suc, ◌+◌, ◌<◌, ◌≤◌, ◌^◌, List, [], ◌∷◌, ◌++◌, length, map, get_or, refl, sym, ap, ◌∙◌, subst, arith, Option, Some, None, IfSome}
use Rattle.std.specs.Prelude.{slice_index, ◌==◌, if◌then◌else◌, Ok, Err}
use Rattle.std.proofs.lemmas.List.{get_or_append_left, get_or-append-add, get_or-map, length-map, ext_get_or}
use Rattle.swizzle.specs.obj_layout.ps_outside.Outside.{Outside}
use Rattle.swizzle.proofs.of_obj_layout.of_ps_outside.Moments.{along_weaker}
use Rattle.swizzle.specs.obj_layout.declared.vault.VaultFault.{VaultFault}
use Rattle.swizzle.specs.obj_layout.declared.vault.VaultFault.TheVariants.{Device, Output}
use Rattle.swizzle.specs.obj_layout.declared.header.Header.{Header}
use Rattle.swizzle.specs.obj_layout.declared.reference.Reference.{Reference}
use Rattle.swizzle.specs.obj_layout.declared.reference.Reference.TheVariants.{Nil, Pid, Local}
use Rattle.swizzle.specs.obj_layout.Header.{HasFitFields, header_words}
use Rattle.swizzle.specs.obj_layout.Reference.{IsReference, reference_word}
use Rattle.swizzle.specs.obj_layout.Objects.{counts}
use Rattle.swizzle.specs.obj_layout.Stored.{Space, IsSpace, HasObject, Holds, appended, overwritten, directed}
use Rattle.swizzle.specs.obj_layout.Storing.{Becomes, Settles}
use Rattle.swizzle.proofs.of_obj_layout.StoredLaws.{Holds-low}
use Rattle.swizzle.proofs.of_obj_layout.HeaderLaws.{header_words-injective}
use Rattle.swizzle.specs.Objects.{Object, object_words, size_of}
use Rattle.swizzle.specs.Heap.{Heap, IsHeap, IsHeld, object_at, header_at, num_at}
use Rattle.swizzle.specs.Joint.{name_at, name_of}
use Rattle.swizzle.specs.Fetched.{IsFarWord}
use Rattle.swizzle.specs.Image.{far_object, HasPids}
use Rattle.swizzle.proofs.ImageLaws.{pid-lt, refs-long}
use Rattle.swizzle.proofs.KeptLaws.{held_is}
use Rattle.swizzle.proofs.NameLaws.{name-pid, name-none, names_at, names_kept}
use Rattle.swizzle.proofs.ObjectLaws.{split, AreReferences-at}
use Rattle.reaching.specs.Reaching.{IsIn}
use Rattle.commit_walk.specs.Walk.{Steady}
use Rattle.commit_walk.specs.declared.homes.Source.{Source}
use Rattle.commit_walk.specs.Homes.{PlainStay}
use Rattle.commit_walk.proofs.SteadyLaws.{alike, home-alike}
use Rattle.commit_walk.proofs.AllLaws.{listed-or}
use Rattle.swizzle.proofs.TouchLaws.{same-then}
use Rattle.joint_ops.specs.World.{IsStored, seen}
use Rattle.renames.specs.Numbered.{SameAway}
use Rattle.renames.proofs.NumberedLaws.{joint-stored}
use Rattle.new_pids.specs.Giving.{Renamed, AreStoredBelow}
use Rattle.commit_images.specs.Images.{image_of, words_of, with_images, over_images, new_in, changed_in}
use Rattle.commit_images.specs.Staging.{AreThere}
use Rattle.commit_images.specs.Stored.{IsCut, IsWhole, HasNone, Stores}
use Rattle.commit_images.specs.Saved.{saved, saving, FailsSave}
use Rattle.commit_images.proofs.StagingLaws.{becomes-as}
use Rattle.commit_images.proofs.StoreLaws.{none-or-one, one-object}
use Rattle.reach_commit.specs.Committing.{Remains, Commits, Saves, BreaksOff, pid_of}
use Rattle.reach_commit.specs.Ready.{IsReady}
use Rattle.reach_commit.specs.Telling.{after_step, IsTold, Moved, Tells}
use Rattle.reach_commit.proofs.ReadyLaws.{none-or-some, slot-below}
use Rattle.reach_commit.proofs.RehomeLaws.{steady-rehomes}
use Rattle.reach_commit.proofs.MoveLaws.{moved-given, moved-same}
use Rattle.reach_commit.proofs.GivenLaws.{IsBut, remade-none, numbered-alike, words-alike}
use Rattle.reach_commit.proofs.ClearLaws.{Clears, same-names, image-same, image-cleared}
use Rattle.reach_commit.proofs.TellLaws.{stored-below, image-stored, stored-space, holds-here, holds-stays, cut-after, same-away}

-- The walk back: what it has changed is undone.
pub steady-back : (old new : Heap) → Steady old new → Steady new old
steady-back old new s = record {
  size = sym s.size;
  assigned = sym s.assigned;
  top = sym s.top;
  headers = λ y. sym (s.headers y);
  refs = λ y slot. sym (s.refs y slot);
  nums = λ y i le. sym (s.nums y i le);
  held = s.back;
  back = s.held;
}

pub plain-back : (old new : Heap) → Steady old new → PlainStay old new → PlainStay new old
plain-back old new s p y none = sym (p y (sym (home-alike old new (alike old new s) y) ∙ none))

pub moved-ready : (old mid new : Heap) (outside : Outside Space) (used : ℕ) → IsHeap old → IsHeap mid → Steady old mid → PlainStay old mid → AreStoredBelow outside used
    → (AreStoredBelow outside used → Renamed mid new outside) → Moved old new outside outside
moved-ready old mid new outside used h k s plain range given =
    moved-given old mid new outside (steady-rehomes old mid h k s plain) (steady-rehomes mid old k h (steady-back old mid s) (plain-back old mid s plain)) (λ pid words i. (range pid words i).0) (given range)

-- Two areas whose objects have the same PIDs, sizes and images.
pub record SameImages (a b : Heap) : Type 0 where
  pub pids : (x : ℕ) → (header_at b x).pid ≡ (header_at a x).pid
  pub sizes : (x : ℕ) → size_of (object_at b x) ≡ size_of (object_at a x)
  pub images : (x : ℕ) → image_of b x ≡ image_of a x

but-size : (o new : Object) → IsBut o new → size_of new ≡ size_of o
but-size o new b = omega (arith, b.refs_count, b.nums_count)

pub clears-same : (a b : Heap) → Clears a b → SameImages a b
clears-same a b c = record { pids = c.pids; sizes = λ x. but-size (object_at a x) (object_at b x) (c.remade.objects x); images = λ x. image-cleared a b x c }

with-alike : (a b : Heap) (xs : List ℕ) (space : Space) → SameImages a b → with_images b xs space ≡ with_images a xs space
unfolding with_images
with-alike a b [] space s = refl
with-alike a b (x ∷ xs) space s =
    ap (λ (w : List ℕ). with_images b xs (appended w space)) (s.images x) ∙ with-alike a b xs (appended (image_of a x) space) s

over-alike : (a b : Heap) (xs : List ℕ) (space : Space) → SameImages a b → over_images b xs space ≡ over_images a xs space
unfolding over_images
over-alike a b [] space s = refl
over-alike a b (x ∷ xs) space s =
    ap (λ (p : ℕ). over_images b xs (overwritten p (image_of b x) space)) (s.pids x)
    ∙ (ap (λ (w : List ℕ). over_images b xs (overwritten (header_at a x).pid w space)) (s.images x)
    ∙ over-alike a b xs (overwritten (header_at a x).pid (image_of a x) space) s)

pub saved-alike : (a b : Heap) (new changed : List ℕ) (d e : ℕ) (space : Space) → SameImages a b → d ≡ e → saved b new changed d space ≡ saved a new changed e space
unfolding saved
saved-alike a b new changed d e space s same =
    ap (λ (n : ℕ). directed n (over_images b changed (with_images b new space))) same
    ∙ ap (directed e) (ap (over_images b changed) (with-alike a b new space s) ∙ over-alike a b changed (with_images a new space) s)

pub words-same : (a b : Heap) (xs : List ℕ) → SameImages a b → words_of b xs ≡ words_of a xs
words-same a b xs s = words-alike a b xs (λ y l. (s.pids y, s.sizes y))

pub stores-alike : (a b : Heap) (new changed : List ℕ) (before after : Space) → SameImages a b → Stores a new changed before after → Stores b new changed before after
stores-alike a b new changed before after same s = record {
  cut = s.cut;
  long = s.long ∙ ap (λ n. length before.words + n) (sym (words-same a b new same));
  here = λ x m.
      subst (λ n. HasObject after n (image_of b x)) (sym (same.pids x)) (subst (λ (w : List ℕ). HasObject after (header_at a x).pid w) (sym (same.images x)) (s.here x m));
  stays = λ pid words none k. s.stays pid words (λ x l e. none x l (same.pids x ∙ e)) k;
  no_other = λ pid words k. elim (s.no_other pid words k) [
    | inl old ↦ inl (λ x l e. old.0 x l (sym (same.pids x) ∙ e), old.1)
    | inr i ↦ inr (record { at = i.at; listed = i.listed; pid_is = i.pid_is ∙ sym (same.pids i.at); words_are = i.words_are ∙ sym (same.images i.at) })
  ];
}

-- A settling that was answered otherwise.

pub settles-as : {S T : Type 0} (a b : Outside Space) (most more : ℕ) (f g : Space → Space) (u : S) (v : T) → Settles a b most f (Ok u) → ((space : Space) → g space ≡ f space) → most ≡ more → Settles a b more g (Ok v)
settles-as a b most more f g u v s is same = record {
  told = s.told;
  past = s.past;
  images = along_weaker s.images (λ x i. elim i [ inl k ↦ inl k | inr k ↦ inr (k.0, k.1, is k.0 ∙ k.2) ]);
  durable = s.durable;
  counts = s.counts;
  output = s.output;
  cause = λ e. absurd (cc);
  other = λ e. absurd (cc);
  calls = subst (λ n. b.device_calls ≤ a.device_calls + n) same s.calls;
}

pub settles-as-err : {S T : Type 0} (a b : Outside Space) (most : ℕ) (f : Space → Space) (fault : VaultFault) → Settles {T = S} a b most f (Err fault) → Settles {T = T} a b most f (Err fault)
settles-as-err a b most f fault s = record {
  told = s.told;
  past = s.past;
  images = s.images;
  durable = tt;
  counts = s.counts;
  output = s.output;
  cause = λ e. let same : fault ≡ Device = cc in s.cause (ap Err same);
  other = λ e. let same : fault ≡ Output = cc in s.other (ap Err same);
  calls = tt;
}

-- Flags are cleared after a commit.

pub commits-cleared : (old mid new : Heap) (writing : List Source) (directory : Option ℕ) (used : ℕ) (fresh changed : List ℕ) → Clears mid new → Commits old mid writing directory used fresh changed
    → Commits old new writing directory used fresh changed
commits-cleared old mid new writing directory used fresh changed c m =
    let same = clears-same mid new c in
    let r = m.remains in
    let num : (y : ℕ) → num_at new y 0 ≡ num_at mid y 0 = λ y. ap (λ ns. slice_index ns 0) (c.remade.objects y).nums in
    record {
      fresh_only = m.fresh_only;
      fresh_all = m.fresh_all;
      fresh_once = m.fresh_once;
      numbered = numbered-alike mid new fresh used (λ y l. (same.pids y, same.sizes y)) m.numbered;
      unstored = λ y away. same.pids y ∙ m.unstored y away;
      changed_only = m.changed_only;
      changed_all = m.changed_all;
      changed_once = m.changed_once;
      remains = record {
        size = c.remade.size ∙ r.size;
        top = c.remade.top ∙ r.top;
        held = λ y h. c.remade.held y (r.held y h);
        back = λ y h. r.back y (c.remade.back y h);
        kind = λ y. (c.remade.objects y).kind ∙ r.kind y;
        refs_count = λ y. (c.remade.objects y).refs_count ∙ r.refs_count y;
        nums_count = λ y. (c.remade.objects y).nums_count ∙ r.nums_count y;
        bytes = λ y. (c.remade.objects y).bytes ∙ r.bytes y;
        refs = λ y slot. ap (λ rs. get_or rs slot Nil) (c.remade.objects y).refs ∙ r.refs y slot;
        nums = λ y i le. ap (λ ns. slice_index ns i) (c.remade.objects y).nums ∙ r.nums y i le;
        pids = λ y low. same.pids y ∙ r.pids y low;
      };
      homes = record {
        root = λ place at below e. num at ∙ m.homes.root place at below e;
        first = λ y l no_root.
            let f = m.homes.first y l no_root in
            record { place = f.place; below = f.below; finds = f.finds; first = f.first; home = λ k. num y ∙ f.home k };
        others = λ y away. num y ∙ m.homes.others y away;
        plain = λ y none. num y ∙ m.homes.plain y none;
      };
    }

pub pid-cleared : (mid new : Heap) (directory : Option ℕ) → Clears mid new → pid_of new directory ≡ pid_of mid directory
pid-cleared mid new None c = refl
pid-cleared mid new (Some at) c = c.pids at

-- An object with an image that may come into the area refers to none without a PID.

far-name : (r : Reference) → IsReference r → IsFarWord (reference_word r) → (at : ℕ) → r ≡ Local at → ⊥
far-name r is far at e =
    let word : reference_word r ≡ at = ap reference_word e in
    let fits : (1 ≤ at) × (at < 2 ^ 32) = subst IsReference e is in
    elim far [ inl none ↦ omega (arith, word, none, fits.0) | inr high ↦ omega (arith, word, high, fits.1) ]

ref-word : (h : Header) (rs : List Reference) (nums : List ℕ) (slot : ℕ) → slot < length rs → slice_index (header_words h ++ (map reference_word rs ++ nums)) (4 + slot) ≡ reference_word (get_or rs slot Nil)
ref-word h rs nums slot below =
    get_or-append-add (header_words h) (map reference_word rs ++ nums) slot 0
    ∙ (get_or_append_left (map reference_word rs) nums 0 slot (omega (arith, below, length-map rs reference_word)) ∙ get_or-map reference_word rs slot Nil 0 below)

name-fits : (heap : Heap) (r : Reference) → IsHeap heap → IsReference r → ((to : ℕ) → r ≡ Local to → IsHeld heap to) → IsReference (name_of heap r)
name-fits heap Nil h is held = tt
name-fits heap (Pid pid) h is held = is
name-fits heap (Local to) h is held = by (none-or-some (header_at heap to).pid)
  where
    by : ((header_at heap to).pid ≡ 0) ⊎ (1 ≤ (header_at heap to).pid) → IsReference (name_at heap to)
    by (inl none) = subst IsReference (sym (name-none (header_at heap to) to none)) is
    by (inr some) = subst IsReference (sym (name-pid (header_at heap to) to some)) (some, pid-lt heap to h (held to refl))

pub stored-pids : (heap : Heap) (outside : Outside Space) (x pid : ℕ) → IsHeap heap → IsHeld heap x → IsStored outside pid (image_of heap x) → HasPids heap x
unfolding image_of
stored-pids heap outside x pid h held s slot to e =
    let o = object_at heap x in
    let far = far_object heap x in
    let fit = (split 1 heap.objects x o h.fit (held_is heap x held)).fit in
    let fields : HasFitFields far.header = record { flags = omega arith; refs = fit.fields.refs; nums = fit.fields.nums; bytes = fit.fields.bytes; pid = omega arith; chain = omega arith } in
    let header : far.header ≡ s.header = header_words-injective far.header s.header fields s.far.fields s.far.spelled in
    let below : slot < length o.refs = slot-below o.refs slot to e in
    let in_header : slot < s.header.refs = omega (arith, below, fit.refs, ap (λ k. k.refs) header) in
    let word : slice_index (object_words far) (4 + slot) ≡ reference_word (name_of heap (get_or o.refs slot Nil)) =
    ref-word far.header far.refs o.nums slot (omega (arith, below, length-map o.refs (name_of heap))) ∙ ap reference_word (names_at heap o.refs slot) in
    let name : name_of heap (get_or o.refs slot Nil) ≡ name_at heap to = ap (name_of heap) e in
    let inside = h.inside x o (held_is heap x held) slot to e in
    let is : IsReference (name_at heap to) = name-fits heap (Local to) h (subst IsReference e (AreReferences-at o.refs slot fit.references)) (λ t k. subst (IsHeld heap) (let same : to ≡ t = cc in same) inside) in
    let far_word : IsFarWord (reference_word (name_at heap to)) = subst IsFarWord (word ∙ ap reference_word name) (s.far.refs slot in_header) in
    elim (none-or-some (header_at heap to).pid) [
      | inr some ↦ some
      | inl none ↦ absurd (far-name (name_at heap to) is far_word to (name-none (header_at heap to) to none))
    ]

saving-same : (a b : Heap) (new changed : List ℕ) (u v : ℕ) → words_of b new ≡ words_of a new → words_of b changed ≡ words_of a changed → u ≡ v → saving a new changed u ≡ saving b new changed v
saving-same a b new changed u v e f g = omega (arith, e, f, g)

-- The counts of an object stay.

same_counts : (r s n m b c : ℕ) → r ≡ s → n ≡ m → b ≡ c → counts r n b ≡ counts s m c
same_counts r s n m b c e f g = cc

whole-same : (a b : Heap) (x : ℕ) → (header_at b x).kind ≡ (header_at a x).kind → (header_at b x).refs ≡ (header_at a x).refs → (header_at b x).nums ≡ (header_at a x).nums
    → (header_at b x).bytes ≡ (header_at a x).bytes → IsWhole a x → IsWhole b x
whole-same a b x kind refs nums bytes w = record {
  contents = w.contents;
  counts = record {
    kind = kind ∙ w.counts.kind;
    counted = same_counts (header_at b x).refs (header_at a x).refs (header_at b x).nums (header_at a x).nums (header_at b x).bytes (header_at a x).bytes refs nums bytes ∙ w.counts.counted;
    allowed = w.counts.allowed;
  };
}

remains-whole : (a b : Heap) (x : ℕ) → Remains a b → IsWhole a x → IsWhole b x
remains-whole a b x r w = whole-same a b x (r.kind x) (r.refs_count x) (r.nums_count x) (r.bytes x) w

nums-same : (a b : Heap) (x : ℕ) → IsHeap a → IsHeap b → IsHeld a x → IsHeld b x → Remains a b → num_at b x 0 ≡ num_at a x 0 → (object_at b x).nums ≡ (object_at a x).nums
nums-same a b x h k held now r home =
    let one = (split 1 a.objects x (object_at a x) h.fit (held_is a x held)).fit in
    let two = (split 1 b.objects x (object_at b x) k.fit (held_is b x now)).fit in
    ext_get_or 0 (object_at b x).nums (object_at a x).nums (two.nums ∙ (r.nums_count x ∙ sym one.nums)) (λ i lt. by i)
  where
    by : (i : ℕ) → get_or (object_at b x).nums i 0 ≡ get_or (object_at a x).nums i 0
    by zero = home
    by (suc i) = r.nums x (suc i) (omega arith)

refs-same : (a b : Heap) (x : ℕ) → IsHeap a → IsHeap b → IsHeld a x → IsHeld b x → Remains a b → (object_at b x).refs ≡ (object_at a x).refs
refs-same a b x h k held now r =
    ext_get_or Nil (object_at b x).refs (object_at a x).refs (refs-long b x k now ∙ (r.refs_count x ∙ sym (refs-long a x h held))) (λ slot lt. r.refs x slot)

-- An object that refers to what has PIDs, and whose home stays, keeps its image.
kept-image : (a b : Heap) (x : ℕ) → IsHeap a → IsHeap b → IsHeld a x → IsHeld b x → Remains a b → num_at b x 0 ≡ num_at a x 0 → HasPids a x → image_of b x ≡ image_of a x
kept-image a b x h k held now r home pids =
    let refs = refs-same a b x h k held now r in
    let but : IsBut (object_at a x) (object_at b x) = record {
      kind = r.kind x;
      refs_count = r.refs_count x;
      nums_count = r.nums_count x;
      bytes = r.bytes x;
      refs = refs;
      nums = nums-same a b x h k held now r home;
    } in
    image-same a b x but (ap (map (name_of b)) refs ∙ names_kept a b (object_at a x).refs (λ slot to e.
    ap (λ p. if p == 0 then Local to else Pid p) (r.pids to (pids slot to e))))

module _ (old mid new : Heap) (writing : List Source) (directory : Option ℕ) (used named : ℕ) (before after : Outside Space)
    (h : IsHeap old)
    (k : IsHeap mid)
    (r : IsReady old mid writing directory used)
    (moved : Moved old mid before before)
    (c : Clears mid new)
    (spaces : (space : Space) → before.contents space → IsSpace used named space)
    (one : (a b : Space) → before.contents a → before.contents b → a ≡ b)
    (becomes : Becomes before after (saved mid (new_in mid used) (changed_in mid used) (pid_of mid directory)))
    (there : (space : Space) → before.contents space → AreThere mid (changed_in mid used) (with_images mid (new_in mid used) space)) where
  abbrev fresh : List ℕ
  fresh = new_in mid used

  abbrev changed : List ℕ
  changed = changed_in mid used

  abbrev last : ℕ
  last = pid_of mid directory

  whole-mid : IsTold old before → (x : ℕ) → IsHeld mid x → IsWhole mid x
  whole-mid t x held = remains-whole old mid x r.commits.remains (t.whole x (r.commits.remains.back x held))

  kept-before : IsTold old before → (x : ℕ) → IsIn x changed → (words : List ℕ) × Holds before (header_at mid x).pid words
  kept-before t x l =
      let ch = r.commits.changed_only x l in
      let held = r.commits.remains.back x (r.changed_ready x l).0 in
      let w = t.there x held ch.stored in
      (w.0, subst (λ p. Holds before p w.0) (sym (r.commits.remains.pids x ch.stored)) w.1)

  space-after : (t : IsTold old before) (space : Space) → before.contents space → Stores mid fresh changed space (saved mid fresh changed last space)
  space-after t = stored-space mid fresh changed last used before after k one (λ s i. (spaces s i).long) r.new_ready r.changed_ready r.commits.numbered there becomes t.cut
      (λ x l. whole-mid t x (r.new_ready x l).0) (λ x l. whole-mid t x (r.changed_ready x l).0) (kept-before t)

  here-after : (t : IsTold old before) (x : ℕ) → IsIn x fresh ⊎ IsIn x changed → Holds after (header_at mid x).pid (image_of mid x)
  here-after t = holds-here mid fresh changed last used before after k one (λ s i. (spaces s i).long) r.new_ready r.changed_ready r.commits.numbered there becomes t.cut
      (λ x l. whole-mid t x (r.new_ready x l).0) (λ x l. whole-mid t x (r.changed_ready x l).0) (kept-before t) t.content t.is

  stays-after : (t : IsTold old before) (pid : ℕ) (words : List ℕ) → HasNone mid changed pid → Holds before pid words → Holds after pid words
  stays-after t = holds-stays mid fresh changed last used before after k one (λ s i. (spaces s i).long) r.new_ready r.changed_ready r.commits.numbered there becomes t.cut
      (λ x l. whole-mid t x (r.new_ready x l).0) (λ x l. whole-mid t x (r.changed_ready x l).0) (kept-before t)

  away-after : (t : IsTold old before) → SameAway mid (IsStored before) (IsStored after)
  away-after t = same-away mid fresh changed last used before after k one (λ s i. (spaces s i).long) r.new_ready r.changed_ready r.commits.numbered there becomes t.cut
      (λ x l. whole-mid t x (r.new_ready x l).0) (λ x l. whole-mid t x (r.changed_ready x l).0) (kept-before t) (stored-below before used named spaces) (λ pid words held. Holds-low after pid words held)

  cut-of : (t : IsTold old before) (space : Space) → after.contents space → IsCut space
  cut-of t = cut-after mid fresh changed last used before after k one (λ s i. (spaces s i).long) r.new_ready r.changed_ready r.commits.numbered there becomes t.cut
      (λ x l. whole-mid t x (r.new_ready x l).0) (λ x l. whole-mid t x (r.changed_ready x l).0) (kept-before t)

  -- what the vault held it holds under the same PID, as it was or anew
  some-after : (t : IsTold old before) (pid : ℕ) (words : List ℕ) → Holds before pid words → (list : List ℕ) × Holds after pid list
  some-after t pid words held = elim (none-or-one mid changed pid) [
    | inl none ↦ (words, stays-after t pid words none held)
    | inr o ↦ (image_of mid o.at, subst (λ p. Holds after p (image_of mid o.at)) o.pid_is (here-after t o.at (inr o.listed)))
  ]

  same : SameImages mid new
  same = clears-same mid new c

  remains-new : Remains old new
  remains-new = (commits-cleared old mid new writing directory used fresh changed c r.commits).remains

  pub told-after : IsTold old before → IsTold new after
  told-after t = record {
    content = saved mid fresh changed last t.content;
    is = becomes.told t.content t.is;
    cut = cut-of t;
    there = λ x held some.
        let held_old = remains-new.back x held in
        let pid = same.pids x in
        elim (none-or-some (header_at old x).pid) [
          | inr low ↦
              let w = t.there x held_old low in
              let s = some-after t (header_at old x).pid w.0 w.1 in
              (s.0, subst (λ p. Holds after p s.0) (sym (pid ∙ r.commits.remains.pids x low)) s.1)
          | inl none ↦ elim (listed-or x fresh) [
            | inl l ↦ (image_of mid x, subst (λ p. Holds after p (image_of mid x)) (sym pid) (here-after t x (inl l)))
            | inr away ↦ let was = r.commits.unstored x away in absurd (omega (arith, pid, was, none, some))
          ]
        ];
    whole = λ x held. remains-whole old new x remains-new (t.whole x (remains-new.back x held));
  }

  -- the image of an object that was stored now
  stored-now : IsTold old before → (x : ℕ) → IsIn x fresh ⊎ IsIn x changed → IsStored after (header_at new x).pid (image_of new x)
  stored-now t x l =
      let s = image-stored after mid x k (λ y m. elim m [ inl e ↦ subst (λ z. IsHeld mid z × HasPids mid z) (sym e) (ready-of l) | inr none ↦ absurd none ]) (here-after t x l) in
      subst (λ p. IsStored after p (image_of new x)) (sym (same.pids x)) (subst (λ (w : List ℕ). IsStored after (header_at mid x).pid w) (sym (same.images x)) s)
    where
      ready-of : IsIn x fresh ⊎ IsIn x changed → IsHeld mid x × HasPids mid x
      ready-of (inl m) = r.new_ready x m
      ready-of (inr m) = r.changed_ready x m

  -- and of one that the vault held as it was
  stored-still : IsTold old before → (x : ℕ) → IsHeld new x → IsStored before (header_at old x).pid (image_of old x) → IsStored after (header_at new x).pid (image_of new x)
  stored-still t x held s =
      let held_old = remains-new.back x held in
      let held_mid = r.commits.remains.held x held_old in
      let low = Holds-low before (header_at old x).pid (image_of old x) s.there in
      let pid : (header_at mid x).pid ≡ (header_at old x).pid = r.commits.remains.pids x low in
      let not_fresh : IsIn x fresh → ⊥ = λ l. let none = (r.commits.fresh_only x l).1 in omega (arith, none, low) in
      elim (none-or-one mid changed (header_at old x).pid) [
        | inr o ↦
            let is : o.at ≡ x = one-object mid o.at x k (r.changed_ready o.at o.listed).0 held_mid (omega (arith, pid, low)) (o.pid_is ∙ sym pid) in
            stored-now t x (inr (subst (λ z. IsIn z changed) is o.listed))
        | inl none ↦
            let image : image_of mid x ≡ image_of old x = kept-image old mid x h k held_old held_mid r.commits.remains (r.commits.homes.others x not_fresh) (stored-pids old before x (header_at old x).pid h held_old s) in
            let whole : image_of new x ≡ image_of old x = same.images x ∙ image in
            let after_is : IsStored after (header_at old x).pid (image_of old x) = record { there = stays-after t (header_at old x).pid (image_of old x) none s.there; header = s.header; far = s.far; clean = s.clean } in
            subst (λ p. IsStored after p (image_of new x)) (sym (same.pids x ∙ pid)) (subst (λ (w : List ℕ). IsStored after (header_at old x).pid w) (sym whole) after_is)
      ]

  moved-after : IsTold old before → Moved old new before after
  moved-after t =
      let joint = joint-stored mid (IsStored before) (IsStored after) (away-after t) in
      let cleared = c.seen_same (IsStored after) in
      moved-same old mid new before after moved (same-then (seen mid before) (seen mid after) (seen new after) joint cleared) c.remade.held (same-names mid new c.pids)

  pub tells : Tells old new before after fresh changed (pid_of new directory)
  tells = record {
    told = told-after;
    stores = λ t space is.
        subst (λ (s : Space). Stores new fresh changed space s) (sym (saved-alike mid new fresh changed (pid_of new directory) last space same (pid-cleared mid new directory c)))
        (stores-alike mid new fresh changed space (saved mid fresh changed last space) same (space-after t space is));
    kept = λ t x held some which. elim which [ inl l ↦ stored-now t x l | inr s ↦ stored-still t x held s ];
    moved = moved-after;
  }

  pub saves : {S : Type 0} (now most at fresh_count changed_count : ℕ) (value : S) → fresh_count ≡ length fresh → changed_count ≡ length changed → new.assigned ≡ [] → new.reached ≡ []
      → now ≡ used + words_of mid fresh → (1 ≤ length fresh → now ≤ most) → at ≡ last
      → Settles before after (saving mid fresh changed (used + words_of mid fresh)) (saved mid fresh changed last) (Ok value)
      → Saves old new writing directory before after used now most at fresh_count changed_count
  saves now most at fresh_count changed_count value fe ce unassigned unreached used_is room named_is settles =
      let pid = pid-cleared mid new directory c in
      let step : (space : Space) → saved new fresh changed (pid_of new directory) space ≡ saved mid fresh changed last space = λ space. saved-alike mid new fresh changed (pid_of new directory) last space same pid in
      record {
        fresh = fresh;
        changed = changed;
        fresh_is = fe;
        changed_is = ce;
        commits = commits-cleared old mid new writing directory used fresh changed c r.commits;
        unassigned = unassigned;
        unreached = unreached;
        used_is = used_is ∙ ap (λ n. used + n) (sym (words-same mid new fresh same));
        room = room;
        named_is = named_is ∙ sym pid;
        becomes = becomes-as before after (saved mid fresh changed last) (saved new fresh changed (pid_of new directory)) becomes step;
        settles = settles-as before after (saving mid fresh changed (used + words_of mid fresh)) (saving new fresh changed now) (saved mid fresh changed last) (saved new fresh changed (pid_of new directory)) value tt settles step
            (saving-same mid new fresh changed (used + words_of mid fresh) now (words-same mid new fresh same) (words-same mid new changed same) (sym used_is));
        tells = tells;
      }

clears-none : (heap : Heap) → Clears heap heap
clears-none heap = record { remade = remade-none heap; pids = λ y. refl; seen_same = λ holds. record { grows = λ n it j. j; no_more = λ n it j. j } }

-- what is held after a step
held-step : (outside : Outside Space) (step : Space → Space) → Becomes outside (after_step outside step) step
held-step outside step = record { told = λ space held. record { from = space; was = held; by = refl }; no_other = λ after held. (held.from, held.was, held.by) }

-- A commit that broke off has given PIDs.
pub breaks-off : {S : Type 0} (old mid : Heap) (writing : List Source) (directory : Option ℕ) (used named most : ℕ) (before after : Outside Space) (fault : VaultFault) → IsHeap old → IsHeap mid
    → IsReady old mid writing directory used → Moved old mid before before → ((space : Space) → before.contents space → IsSpace used named space)
    → ((a b : Space) → before.contents a → before.contents b → a ≡ b)
    → Settles {T = S} before after (saving mid (new_in mid used) (changed_in mid used) (used + words_of mid (new_in mid used))) (saved mid (new_in mid used) (changed_in mid used) (pid_of mid directory)) (Err fault)
    → FailsSave mid (new_in mid used) (changed_in mid used) before after used most fault → BreaksOff old mid writing directory before after used most fault
breaks-off old mid writing directory used named most before after fault h k r moved spaces one settles fails =
    let step = saved mid (new_in mid used) (changed_in mid used) (pid_of mid directory) in
    record {
      fresh = new_in mid used;
      changed = changed_in mid used;
      commits = r.commits;
      settles = settles-as-err before after (saving mid (new_in mid used) (changed_in mid used) (used + words_of mid (new_in mid used))) step fault settles;
      fails = fails;
      whole = elim fails.whole [
        | inl same ↦ inl same
        | inr there ↦
            inr (tells old mid mid writing directory used named before (after_step before step) h k r moved (clears-none mid) spaces one (held-step before step) there)
      ];
    }

pub held-still : (old new : Heap) (at : Option ℕ) → Remains old new → IfSome at (IsHeld old) → IfSome at (IsHeld new)
held-still old new None r held = tt
held-still old new (Some x) r held = r.held x held
