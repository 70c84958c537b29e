-- The procedure of a scan, a key and the object under it are pushed.
use Rattle.std.proofs.Common.{◌≡◌, ℕ, ◌+◌, ◌<◌, ◌≤◌, ℤ, pos, Bool, true, false, List, [], ◌∷◌, ◌++◌, length, set, refl, sym, ap, ◌∙◌, subst, arith}
use Rattle.std.specs.Prelude.{if◌then◌else◌, nat_lt}
use Rattle.std.proofs.lemmas.Bool.{lt-ltb, le-ltb}
use Rattle.machine_core.specs.ps_outside.Outside.{Outside}
use Rattle.machine_core.specs.obj_layout.Stored.{Space}
use Rattle.machine_core.specs.obj_layout.declared.reference.Reference.{Reference}
use Rattle.machine_core.specs.ps_heap.Values.{Value, Pointer, word_of}
use Rattle.machine_core.specs.ps_stepping.Config.{Config, frame_words, frame_in}
use Rattle.machine_core.specs.ps_stepping.Steps.{Step, Goes, Stuck, on, with_num, with_ref}
use Rattle.machine_core.specs.ps_stepping.Scans.{called_with}
use Rattle.machine_core.specs.joint_ops.World.{DenotesIn}
use Rattle.machine_core.specs.frame_stack.Frames.{Frames}
use Rattle.machine_core.specs.declared.machine.Machine.{Machine}
use Rattle.machine_core.specs.Holding.{HeldBy, IsSound, object_in, words_of}
use Rattle.machine_core.specs.Naming.{IsNamed, NamesIn, NamesObjects}
use Rattle.machine_core.proofs.Naming.{names-pushed, names-written}
use Rattle.ps_base.specs.declared.code_unit.Frame.{Frame}
use Rattle.machine_core.proofs.Rows.{row_length}
use Rattle.machine_core.proofs.Popping.{puts_num, pushes_ref, refs_taken, sets_num, sets_ref}
use Rattle.machine_operands.proofs.Giving.{room-pushes}

-- how many numbers there are
nums-taken : (m : Machine) (out : Outside Space) (c : Config) (names : List Reference) → HeldBy out names m c → (frame_in c.unit).nums + length c.nums ≡ length m.nums.own
nums-taken m out c names h =
    ap (λ (f : Frame). f.nums + length c.nums) h.frame_is ∙ row_length m.frame.nums m.nums.own c.nums c.locals.nums h.nums_are

-- one more reference
ref-pushed : (m : Machine) (out : Outside Space) (c : Config) (names : List Reference) (h : HeldBy out names m c) (new : Frames ℕ) (w : ℕ) (v : Value)
    → new.below ≡ m.refs.below → new.own ≡ m.refs.own ++ w ∷ [] → length m.refs.own < frame_words → DenotesIn m.objects out names (object_in w) v
    → HeldBy out names (record m { refs = new }) (record c { refs = v ∷ c.refs })
ref-pushed m out c names h new w v same own room d =
    let p = pushes_ref m out c names h new w v same own room d in
    let next : Goes [] p.0 ≡ Goes [] (record c { refs = v ∷ c.refs }) = sym p.1 ∙ room-pushes m out c names v c.store h room in
    let is : p.0 ≡ record c { refs = v ∷ c.refs } = cc in
    subst (λ (d : Config). HeldBy out names (record m { refs = new }) d) is p.2

-- of three that are pushed the last has no room
three-stuck : (a b c : Bool) (s : Step) → c ≡ false → (if a then (if b then (if c then s else Stuck) else Stuck) else Stuck) ≡ Stuck
three-stuck false b c s none = refl
three-stuck true false c s none = refl
three-stuck true true true s none = absurd (cc)
three-stuck true true false s none = refl

three-go : (a b c : Bool) (s : Step) → a ≡ true → b ≡ true → c ≡ true → (if a then (if b then (if c then s else Stuck) else Stuck) else Stuck) ≡ s
three-go true true true s x y z = refl
three-go false b c s x y z = absurd (cc)
three-go true false c s x y z = absurd (cc)
three-go true true false s x y z = absurd (cc)

module _ (m : Machine) (out : Outside Space) (c : Config) (names : List Reference) (h : HeldBy out names m c) (q s : ℕ) (object : ℕ) where
  -- A string is handed.
  module _ (key : Value) where
    abbrev pub after-string : Config
    after-string =
        record (with_num (with_ref c (q + 2) key) (s + 2) (pos 1)) { refs = Pointer object ∷ key ∷ c.locals.refs (q + 1) ∷ c.refs }

    pub string-stuck : frame_words < length m.refs.own + 3 → called_with true q s key object c ≡ Stuck
    string-stuck full =
        let taken = refs_taken m out c names h in
        three-stuck (nat_lt ((frame_in c.unit).refs + length c.refs) frame_words) (nat_lt ((frame_in c.unit).refs + length (c.locals.refs (q + 1) ∷ c.refs)) frame_words)
        (nat_lt ((frame_in c.unit).refs + length (key ∷ c.locals.refs (q + 1) ∷ c.refs)) frame_words) (on after-string)
        (le-ltb ((frame_in c.unit).refs + length (key ∷ c.locals.refs (q + 1) ∷ c.refs)) frame_words (omega (arith, full, taken)))

    pub string-goes : length m.refs.own + 3 ≤ frame_words → called_with true q s key object c ≡ Goes [] after-string
    string-goes room =
        let taken = refs_taken m out c names h in
        three-go (nat_lt ((frame_in c.unit).refs + length c.refs) frame_words) (nat_lt ((frame_in c.unit).refs + length (c.locals.refs (q + 1) ∷ c.refs)) frame_words)
        (nat_lt ((frame_in c.unit).refs + length (key ∷ c.locals.refs (q + 1) ∷ c.refs)) frame_words) (on after-string)
        (lt-ltb ((frame_in c.unit).refs + length c.refs) frame_words (omega (arith, room, taken)))
        (lt-ltb ((frame_in c.unit).refs + length (c.locals.refs (q + 1) ∷ c.refs)) frame_words (omega (arith, room, taken)))
        (lt-ltb ((frame_in c.unit).refs + length (key ∷ c.locals.refs (q + 1) ∷ c.refs)) frame_words (omega (arith, room, taken)))

    pub string-held : (a w o : ℕ) (one : Frames ℕ) (nums : Frames ℤ) (two three four : Frames ℕ) → q + 2 < m.frame.refs → s + 2 < m.frame.nums
        → length m.refs.own + 3 ≤ frame_words → one.below ≡ m.refs.below → one.own ≡ set m.refs.own (q + 2) w → length one.own ≡ length m.refs.own
        → nums.below ≡ m.nums.below
        → nums.own ≡ set m.nums.own (s + 2) (pos 1) → two.below ≡ one.below → two.own ≡ one.own ++ a ∷ [] → length two.own ≡ length one.own + 1
        → three.below ≡ two.below → three.own ≡ two.own ++ w ∷ [] → length three.own ≡ length two.own + 1
        → four.below ≡ three.below → four.own ≡ three.own ++ o ∷ [] → DenotesIn m.objects out names (object_in a) (c.locals.refs (q + 1))
        → DenotesIn m.objects out names (object_in w) key → DenotesIn m.objects out names (object_in o) (Pointer object)
        → HeldBy out names (record m { refs = four; nums = nums }) after-string
    string-held a w o one nums two three four refs_in nums_in room below1 own1 count1 below_nums own_nums below2 own2 count2 below3 own3 count3 below4 own4 da dw d_object =
        let m1 : Machine = record m { refs = one } in
        let c1 = with_ref c (q + 2) key in
        let h1 : HeldBy out names m1 c1 = sets_ref m out c names h one (q + 2) w key below1 own1 refs_in dw in
        let m2 : Machine = record m1 { nums = nums } in
        let c2 = with_num c1 (s + 2) (pos 1) in
        let h2 : HeldBy out names m2 c2 = sets_num m1 out c1 names h1 nums (s + 2) (pos 1) below_nums own_nums nums_in in
        let v = c.locals.refs (q + 1) in
        let m3 : Machine = record m2 { refs = two } in
        let h3 = ref-pushed m2 out c2 names h2 two a v below2 own2 (omega (arith, room, count1)) da in
        let c3 = record c2 { refs = v ∷ c2.refs } in
        let m4 : Machine = record m3 { refs = three } in
        let h4 = ref-pushed m3 out c3 names h3 three w key below3 own3 (omega (arith, room, count1, count2)) dw in
        let c4 = record c3 { refs = key ∷ c3.refs } in
        ref-pushed m4 out c4 names h4 four o (Pointer object) below4 own4 (omega (arith, room, count1, count2, count3)) d_object

  -- An int is handed.
  module _ (key : Value) where
    abbrev pub after-int : Config
    after-int =
        record (with_num (with_num c (s + 1) (word_of key)) (s + 2) (pos 1)) {
          refs = Pointer object ∷ c.locals.refs (q + 1) ∷ c.refs;
          nums = word_of key ∷ c.nums;
        }

    pub int-stuck-refs : frame_words < length m.refs.own + 2 → called_with false q s key object c ≡ Stuck
    int-stuck-refs full =
        let taken = refs_taken m out c names h in
        three-stuck (nat_lt ((frame_in c.unit).refs + length c.refs) frame_words) (nat_lt ((frame_in c.unit).nums + length c.nums) frame_words)
        (nat_lt ((frame_in c.unit).refs + length (c.locals.refs (q + 1) ∷ c.refs)) frame_words) (on after-int)
        (le-ltb ((frame_in c.unit).refs + length (c.locals.refs (q + 1) ∷ c.refs)) frame_words (omega (arith, full, taken)))

    pub int-stuck-nums : frame_words ≤ length m.nums.own → called_with false q s key object c ≡ Stuck
    int-stuck-nums full =
        let taken = nums-taken m out c names h in
        of (nat_lt ((frame_in c.unit).refs + length c.refs) frame_words) (nat_lt ((frame_in c.unit).nums + length c.nums) frame_words)
        (nat_lt ((frame_in c.unit).refs + length (c.locals.refs (q + 1) ∷ c.refs)) frame_words)
        (le-ltb ((frame_in c.unit).nums + length c.nums) frame_words (omega (arith, full, taken)))
      where
        of : (a b d : Bool) → b ≡ false → (if a then (if b then (if d then on after-int else Stuck) else Stuck) else Stuck) ≡ Stuck
        of false b d none = refl
        of true true d none = absurd (cc)
        of true false d none = refl

    pub int-goes : length m.refs.own + 2 ≤ frame_words → length m.nums.own < frame_words → called_with false q s key object c ≡ Goes [] after-int
    int-goes room space =
        let taken = refs_taken m out c names h in
        let counted = nums-taken m out c names h in
        three-go (nat_lt ((frame_in c.unit).refs + length c.refs) frame_words) (nat_lt ((frame_in c.unit).nums + length c.nums) frame_words)
        (nat_lt ((frame_in c.unit).refs + length (c.locals.refs (q + 1) ∷ c.refs)) frame_words) (on after-int)
        (lt-ltb ((frame_in c.unit).refs + length c.refs) frame_words (omega (arith, room, taken)))
        (lt-ltb ((frame_in c.unit).nums + length c.nums) frame_words (omega (arith, space, counted)))
        (lt-ltb ((frame_in c.unit).refs + length (c.locals.refs (q + 1) ∷ c.refs)) frame_words (omega (arith, room, taken)))

    pub int-held : (a o : ℕ) (z : ℤ) (one two three : Frames ℤ) (refs last : Frames ℕ) → s + 2 < m.frame.nums → z ≡ word_of key
        → length m.refs.own + 2 ≤ frame_words → one.below ≡ m.nums.below → one.own ≡ set m.nums.own (s + 1) z
        → two.below ≡ one.below → two.own ≡ set one.own (s + 2) (pos 1)
        → refs.below ≡ m.refs.below → refs.own ≡ m.refs.own ++ a ∷ [] → length refs.own ≡ length m.refs.own + 1
        → three.below ≡ two.below → three.own ≡ two.own ++ z ∷ []
        → last.below ≡ refs.below → last.own ≡ refs.own ++ o ∷ [] → DenotesIn m.objects out names (object_in a) (c.locals.refs (q + 1))
        → DenotesIn m.objects out names (object_in o) (Pointer object)
        → HeldBy out names (record m { refs = last; nums = three }) after-int
    int-held a o z one two three refs last nums_in is room below1 own1 below2 own2 below_refs own_refs count below3 own3 below_last own_last da d_object =
        let m1 : Machine = record m { nums = one } in
        let c1 = with_num c (s + 1) (word_of key) in
        let h1 : HeldBy out names m1 c1 =
        subst (λ (x : ℤ). HeldBy out names m1 (with_num c (s + 1) x)) is
        (sets_num m out c names h one (s + 1) z below1 own1 (omega (arith, nums_in))) in
        let m2 : Machine = record m1 { nums = two } in
        let c2 = with_num c1 (s + 2) (pos 1) in
        let h2 : HeldBy out names m2 c2 = sets_num m1 out c1 names h1 two (s + 2) (pos 1) below2 own2 nums_in in
        let v = c.locals.refs (q + 1) in
        let m3 : Machine = record m2 { refs = refs } in
        let h3 = ref-pushed m2 out c2 names h2 refs a v below_refs own_refs (omega (arith, room)) da in
        let c3 = record c2 { refs = v ∷ c2.refs } in
        let m4 : Machine = record m3 { nums = three } in
        let c4 = record c3 { nums = word_of key ∷ c3.nums } in
        let h4 : HeldBy out names m4 c4 =
        subst (λ (x : ℤ). HeldBy out names m4 (record c3 { nums = x ∷ c3.nums })) is (puts_num m3 out c3 names h3 three z below3 own3) in
        ref-pushed m4 out c4 names h4 last o (Pointer object) below_last own_last (omega (arith, room, count)) d_object

-- The machine stays sound with other words on the stacks, as many as there were or more, where there is room.
pub sound-by : (m : Machine) (refs : Frames ℕ) (nums : Frames ℤ) → IsSound m → refs.below ≡ m.refs.below → nums.below ≡ m.nums.below
    → refs.room ≡ m.refs.room → nums.room ≡ m.nums.room → length m.refs.own ≤ length refs.own → length m.nums.own ≤ length nums.own
    → length refs.own ≤ frame_words → length nums.own ≤ frame_words → IsSound (record m { refs = refs; nums = nums })
sound-by m refs nums sound below_refs below_nums room_refs room_nums more_refs more_nums low_refs low_nums =
    let w = sound.waiting in
    let fit_refs = sound.refs_fit in
    let fit_nums = sound.nums_fit in
    let own_refs = sound.refs_room in
    let own_nums = sound.nums_room in
    let all_refs = w.room.refs_room in
    let all_nums = w.room.nums_room in
    let count_refs = ap length below_refs in
    let count_nums = ap length below_nums in
    record {
      nums_fit = omega (arith, fit_nums, more_nums);
      refs_fit = omega (arith, fit_refs, more_refs);
      nums_below = low_nums;
      refs_below = low_refs;
      nums_room = omega (arith, own_nums, room_nums);
      refs_room = omega (arith, own_refs, room_refs);
      values_room = sound.values_room;
      waiting = record {
        framed = w.framed;
        nums_are = count_nums ∙ w.nums_are;
        refs_are = count_refs ∙ w.refs_are;
        few = w.few;
        room = record {
          callers_room = w.room.callers_room;
          nums_room = omega (arith, all_nums, count_nums, room_nums);
          refs_room = omega (arith, all_refs, count_refs, room_refs);
        };
      };
    }

-- its words name what they named
pub names-by : (m : Machine) (refs : Frames ℕ) (nums : Frames ℤ) → NamesIn m.objects (record (words_of m) { refs = refs }) m.writing.item
    → NamesObjects (record m { refs = refs; nums = nums })
names-by m refs nums n = record { code = n.code; scope = n.scope; own = n.own; below = n.below; callers = n.callers; item = n.item; databases = n.databases }

pub names-string : (m : Machine) (slot a w o : ℕ) (one two three four : Frames ℕ) → NamesObjects m → one.below ≡ m.refs.below → one.own ≡ set m.refs.own slot w
    → two.below ≡ one.below → two.own ≡ one.own ++ a ∷ [] → three.below ≡ two.below → three.own ≡ two.own ++ w ∷ []
    → four.below ≡ three.below → four.own ≡ three.own ++ o ∷ [] → IsNamed m.objects a → IsNamed m.objects w → IsNamed m.objects o
    → NamesIn m.objects (record (words_of m) { refs = four }) m.writing.item
names-string m slot a w o one two three four n below1 own1 below2 own2 below3 own3 below4 own4 na nw n_object =
    let it = m.writing.item in
    let ws = words_of m in
    let n1 = names-written m.objects ws it one slot w n below1 own1 nw in
    let n2 = names-pushed m.objects (record ws { refs = one }) it two a n1 below2 own2 na in
    let n3 = names-pushed m.objects (record ws { refs = two }) it three w n2 below3 own3 nw in
    names-pushed m.objects (record ws { refs = three }) it four o n3 below4 own4 n_object

pub names-int : (m : Machine) (a o : ℕ) (one two : Frames ℕ) → NamesObjects m → one.below ≡ m.refs.below → one.own ≡ m.refs.own ++ a ∷ []
    → two.below ≡ one.below → two.own ≡ one.own ++ o ∷ [] → IsNamed m.objects a → IsNamed m.objects o
    → NamesIn m.objects (record (words_of m) { refs = two }) m.writing.item
names-int m a o one two n below1 own1 below2 own2 na n_object =
    let it = m.writing.item in
    let ws = words_of m in
    names-pushed m.objects (record ws { refs = one }) it two o (names-pushed m.objects ws it one a n below1 own1 na) below2 own2 n_object
