-- Pushing and popping, from a configuration that a machine stands for.
use Rattle.std.proofs.Common.{◌≡◌, ℕ, suc, ◌+◌, ◌-◌, ◌<◌, ◌≤◌, ℤ, pos, Bool, true, List, [], ◌∷◌, ◌++◌, length, take, set, get_or, refl, sym, ap, ◌∙◌, subst, arith}
use Rattle.std.specs.Prelude.{nat_lt, if◌then◌else◌}
use Rattle.std.proofs.lemmas.List.{take_all, take_more, take-take, set_split, drop_all, length-take-le, get_or_default}
use Rattle.std.proofs.lemmas.Bool.{lt-ltb, le-ltb}
use Rattle.ps_base.specs.declared.line.Line.{Line}
use Rattle.ps_base.specs.declared.code_unit.Frame.{Frame}
use Rattle.joint_ops.specs.ps_outside.Outside.{Outside}
use Rattle.joint_ops.specs.obj_layout.Stored.{Space}
use Rattle.joint_ops.specs.obj_layout.declared.reference.Reference.{Reference}
use Rattle.ps_stepping.specs.ps_heap.Operators.{Answer}
use Rattle.ps_stepping.specs.ps_meaning.Meaning.{with_local}
use Rattle.ps_stepping.specs.ps_heap.Values.{Value, number_of}
use Rattle.ps_stepping.specs.Config.{Config, frame_words, frame_in}
use Rattle.ps_stepping.specs.Machine.{Step, Goes, Stuck, pop_num_of, pop_num, pop_ref_of, pop_ref, pop_two, put_num, push_num, push_ref, answered, two_nums, test, on, is_num_slot, is_ref_slot, with_num, with_ref}
use Rattle.joint_ops.specs.World.{DenotesIn}
use Rattle.frame_stack.specs.Frames.{Frames}
use Rattle.machine_core.specs.Waiting.{AreWaiting}
use Rattle.machine_core.specs.declared.machine.Machine.{Machine}
use Rattle.machine_core.specs.declared.stepped.Stepped.{Stepped}
use Rattle.machine_core.specs.Stepped.{Takes, Does}
use Rattle.machine_core.specs.inside.Taking.{TakesTwo}
use Rattle.machine_core.specs.Holding.{Holds, HeldBy, Held, IsRow, IsRefRow, object_in, words_of}
use Rattle.machine_core.proofs.Rows.{row_push, row_pop, row_pop_two, row_none, row_length, row_set}
use Rattle.machine_core.proofs.RefRows.{ref_push, ref_pop, ref_none, ref_length, ref_set}

-- the last two items
pub two_last : (xs : List ℤ) (n k : ℕ) (d : ℤ) → n + 2 ≡ length xs → k ≡ n + 1 → xs ≡ (take n xs ++ get_or xs n d ∷ []) ++ get_or xs k d ∷ []
two_last xs n k d end next =
    sym (take_all (n + 1 + 1) xs (omega (arith, end)))
    ∙ take_more xs (n + 1) d (omega (arith, end))
    ∙ ap (λ (ys : List ℤ). ys ++ get_or xs (n + 1) d ∷ []) (take_more xs n d (omega (arith, end)))
    ∙ ap (λ (i : ℕ). (take n xs ++ get_or xs n d ∷ []) ++ get_or xs i d ∷ []) (sym next)

-- the last item of all but the last is written over
pub but_two : (xs ys : List ℤ) (n k : ℕ) (z : ℤ) → 2 ≤ length xs → ys ≡ take n xs → n + 1 ≡ length xs → k + 1 ≡ n → set ys k z ≡ take (length xs - 2) xs ++ z ∷ []
but_two xs ys n k z some is end last =
    let long : length ys ≡ n = ap length is ∙ length-take-le n xs (omega (arith, end)) in
    let here : k ≡ length xs - 2 = omega (arith, end, last) in
    set_split ys k z (omega (arith, last, long))
    ∙ ap (λ (zs : List ℤ). take k ys ++ z ∷ zs) (drop_all (suc k) ys (omega (arith, last, long)))
    ∙ ap (λ (zs : List ℤ). take k zs ++ z ∷ []) is
    ∙ ap (λ (zs : List ℤ). zs ++ z ∷ []) (take-take k n xs (omega (arith, last)))
    ∙ ap (λ (j : ℕ). take j xs ++ z ∷ []) here

module _ (before after : Outside Space) (old new : Machine) (a b : ℤ) (r : Stepped) (tops : (c : Config) → Holds before old c → (rest : List ℤ) × (c.nums ≡ b ∷ a ∷ rest)) where
  -- an operator takes its operands from the top
  pub takes_two : (line : Line) (f : ℤ → ℤ → Answer) (answer : Answer) → answer ≡ f a b → TakesTwo before after (answered line answer) old new r
      → Takes before after (two_nums line f) old new r
  takes_two line f answer is t = record {
    sound = t.sound;
    names = t.names;
    size = t.size;
    does = λ c h.
        let top = tops c h in
        let popped : two_nums line f c ≡ answered line answer (record c { nums = top.0 }) =
        ap (λ (xs : List ℤ). pop_num_of xs c (λ y d. pop_num_of d.nums d (λ x e. answered line (f x y) e))) top.1
        ∙ ap (λ (x : Answer). answered line x (record c { nums = top.0 })) (sym is) in
        subst (λ (s : Step). Does before after old.objects.size s r new) (sym popped) (t.does c a b top.0 h top.1);
  }

  -- so does a test
  pub tests-two : (f : ℤ → ℤ → Bool) (z : ℤ) → z ≡ number_of (f a b) → TakesTwo before after (put_num z) old new r → Takes before after (test f) old new r
  tests-two f z is t = record {
    sound = t.sound;
    names = t.names;
    size = t.size;
    does = λ c h.
        let top = tops c h in
        let popped : test f c ≡ put_num z (record c { nums = top.0 }) =
        ap (λ (xs : List ℤ). pop_num_of xs c (λ y d. pop_num_of d.nums d (λ x e. put_num (number_of (f x y)) e))) top.1
        ∙ ap (λ (x : ℤ). put_num x (record c { nums = top.0 })) (sym is) in
        subst (λ (s : Step). Does before after old.objects.size s r new) (sym popped) (t.does c a b top.0 h top.1);
  }

-- of fewer than two numbers two can't be popped
too_few : (xs : List ℤ) → length xs < 2 → (c : Config) (next : ℤ → ℤ → Config → Step) → pop_num_of xs c (λ b d. pop_num_of d.nums d (λ a e. next a b e)) ≡ Stuck
too_few [] few c next = refl
too_few (x ∷ []) few c next = refl
too_few (x ∷ y ∷ xs) few c next = absurd (omega arith)

module _ (m : Machine) (outside : Outside Space) (c : Config) (names : List Reference) (held : HeldBy outside names m c) where
  -- with other numbers, and with other references
  abbrev WithNums : Frames ℤ → Config → Type 0
  WithNums nums d = Held m.objects outside names (record (words_of m) { nums = nums }) d

  abbrev pub WithRefs : Frames ℕ → Config → Type 0
  WithRefs refs d = Held m.objects outside names (record (words_of m) { refs = refs }) d

  nums_size : (frame_in c.unit).nums ≡ m.frame.nums
  nums_size = ap (λ (f : Frame). f.nums) held.frame_is

  refs_size : (frame_in c.unit).refs ≡ m.frame.refs
  refs_size = ap (λ (f : Frame). f.refs) held.frame_is

  with_nums : (nums : Frames ℤ) (pushed : List ℤ) (locals : ℕ → ℤ) → nums.below ≡ m.nums.below → IsRow nums.own m.frame.nums pushed locals → WithNums nums (record c { nums = pushed; locals = record c.locals { nums = locals } })
  with_nums nums pushed locals same row = record {
    unit_is = held.unit_is;
    fit = held.fit;
    frame_is = held.frame_is;
    at_is = held.at_is;
    nums_are = row;
    refs_are = held.refs_are;
    scope_is = held.scope_is;
    callers_are = subst (λ (xs : List ℤ). AreWaiting m.objects outside names m.callers.items xs m.refs.below c.callers) (sym same) held.callers_are;
    input_is = held.input_is;
    turns_are = held.turns_are;
    run = held.run;
  }

  -- a number is popped
  pub pops_num : (rest : Frames ℤ) (z : ℤ) → rest.below ≡ m.nums.below → m.nums.own ≡ rest.own ++ z ∷ [] → m.frame.nums ≤ length rest.own
      → (d : Config) × ((next : ℤ → Config → Step) → pop_num c next ≡ next z d) × WithNums rest d
  pops_num rest z same split room =
      let row = row_pop m.frame.nums m.nums.own rest.own z c.nums c.locals.nums held.nums_are split room in (
        record c { nums = row.0 },
        λ next. ap (λ (xs : List ℤ). pop_num_of xs c next) row.1,
        with_nums rest row.0 c.locals.nums same row.2,
      )

  pub no_num : length m.nums.own ≤ m.frame.nums → (next : ℤ → Config → Step) → pop_num c next ≡ Stuck
  no_num low next = ap (λ (xs : List ℤ). pop_num_of xs c next) (row_none m.frame.nums m.nums.own c.nums c.locals.nums held.nums_are low)

  pub nums_empty : length m.nums.own ≤ m.frame.nums → c.nums ≡ []
  nums_empty low = row_none m.frame.nums m.nums.own c.nums c.locals.nums held.nums_are low

  -- a number is pushed where the frame has room, and else not
  nums_taken : (frame_in c.unit).nums + length c.nums ≡ length m.nums.own
  nums_taken = ap (λ (n : ℕ). n + length c.nums) nums_size ∙ row_length m.frame.nums m.nums.own c.nums c.locals.nums held.nums_are

  pub puts_num : (new : Frames ℤ) (z : ℤ) → new.below ≡ m.nums.below → new.own ≡ m.nums.own ++ z ∷ [] → WithNums new (record c { nums = z ∷ c.nums })
  puts_num new z same own =
      with_nums new (z ∷ c.nums) c.locals.nums same
      (subst (λ (xs : List ℤ). IsRow xs m.frame.nums (z ∷ c.nums) c.locals.nums) (sym own) (row_push m.frame.nums m.nums.own z c.nums c.locals.nums held.nums_are))

  pub pushes_num : (z : ℤ) → length m.nums.own < frame_words → put_num z c ≡ push_num z c
  pushes_num z room = sym (ap (λ (b : Bool). if b then put_num z c else Stuck) (lt-ltb ((frame_in c.unit).nums + length c.nums) frame_words (omega (arith, room, nums_taken))))

  pub pushes_none : (z : ℤ) → frame_words ≤ length m.nums.own → push_num z c ≡ Stuck
  pushes_none z full = ap (λ (b : Bool). if b then put_num z c else Stuck) (le-ltb ((frame_in c.unit).nums + length c.nums) frame_words (omega (arith, full, nums_taken)))

  -- the number on top
  pub has_top : (last : ℕ) (z d : ℤ) → m.frame.nums < length m.nums.own → last + 1 ≡ length m.nums.own → get_or m.nums.own last d ≡ z → (rest : List ℤ) × (c.nums ≡ z ∷ rest)
  has_top last z d some end is =
      let split : m.nums.own ≡ take last m.nums.own ++ z ∷ [] = sym (take_all (last + 1) m.nums.own (omega (arith, end))) ∙ take_more m.nums.own last d (omega (arith, end)) ∙ ap (λ (x : ℤ). take last m.nums.own ++ x ∷ []) is in
      let low : m.frame.nums ≤ length (take last m.nums.own) = omega (arith, end, some, length-take-le last m.nums.own (omega (arith, end))) in
      let row = row_pop m.frame.nums m.nums.own (take last m.nums.own) z c.nums c.locals.nums held.nums_are split low in
      (row.0, row.1)

  -- the words below the two on top
  lower_row : (d : ℤ) → m.frame.nums + 2 ≤ length m.nums.own
      → (rest : List ℤ) × (c.nums ≡ get_or m.nums.own (length m.nums.own - 1) d ∷ get_or m.nums.own (length m.nums.own - 2) d ∷ rest) × IsRow (take (length m.nums.own - 2) m.nums.own) m.frame.nums rest c.locals.nums
  lower_row d some =
      let xs = m.nums.own in
      row_pop_two m.frame.nums xs (take (length xs - 2) xs) (get_or xs (length xs - 2) d) (get_or xs (length xs - 1) d) c.nums c.locals.nums held.nums_are
      (two_last xs (length xs - 2) (length xs - 1) d (omega (arith, some)) (omega (arith, some)))
      (omega (arith, some, length-take-le (length xs - 2) xs (omega (arith, some))))

  -- the two numbers on top
  pub has_two : (x y d e : ℤ) → m.frame.nums + 2 ≤ length m.nums.own → get_or m.nums.own (length m.nums.own - 2) d ≡ x → get_or m.nums.own (length m.nums.own - 1) e ≡ y → (rest : List ℤ) × (c.nums ≡ y ∷ x ∷ rest)
  has_two x y d e some is_x is_y =
      let xs = m.nums.own in
      let below = lower_row d some in
      let last : get_or xs (length xs - 1) d ≡ y = get_or_default xs (length xs - 1) d e (omega (arith, some)) ∙ is_y in
      (below.0, below.1 ∙ ap (λ (a : ℤ). a ∷ get_or xs (length xs - 2) d ∷ below.0) last ∙ ap (λ (a : ℤ). y ∷ a ∷ below.0) is_x)

  -- there aren't two
  pub no_two : length m.nums.own < m.frame.nums + 2 → (next : ℤ → ℤ → Config → Step) → pop_two c next ≡ Stuck
  no_two few next =
      let size = row_length m.frame.nums m.nums.own c.nums c.locals.nums held.nums_are in
      too_few c.nums (omega (arith, few, size)) c next

  -- a number in the place of the two on top
  pub puts_for_two : (new : Frames ℤ) (x y z : ℤ) (rest : List ℤ) → new.below ≡ m.nums.below → m.frame.nums + 2 ≤ length m.nums.own → c.nums ≡ y ∷ x ∷ rest → new.own ≡ take (length m.nums.own - 2) m.nums.own ++ z ∷ [] → WithNums new (record c { nums = z ∷ rest })
  puts_for_two new x y z rest unchanged some tops is =
      let xs = m.nums.own in
      let low = take (length xs - 2) xs in
      let below = lower_row (pos 0) some in
      let same : below.0 ≡ rest = let e : _ ∷ _ ∷ below.0 ≡ y ∷ x ∷ rest = sym below.1 ∙ tops in cc in
      let row = row_push m.frame.nums low z below.0 c.locals.nums below.2 in
      with_nums new (z ∷ rest) c.locals.nums unchanged
      (subst (λ (ys : List ℤ). IsRow ys m.frame.nums (z ∷ rest) c.locals.nums) (sym is) (subst (λ (ps : List ℤ). IsRow (low ++ z ∷ []) m.frame.nums (z ∷ ps) c.locals.nums) same row))

  -- a local among the numbers is written
  pub sets_num : (new : Frames ℤ) (slot : ℕ) (z : ℤ) → new.below ≡ m.nums.below → new.own ≡ set m.nums.own slot z → slot < m.frame.nums → WithNums new (with_num c slot z)
  sets_num new slot z same own below =
      with_nums new c.nums (with_local c.locals.nums slot z) same
      (subst (λ (xs : List ℤ). IsRow xs m.frame.nums c.nums (with_local c.locals.nums slot z)) (sym own) (row_set m.frame.nums m.nums.own z slot c.nums c.locals.nums held.nums_are below))

  with_refs : (refs : Frames ℕ) (pushed : List Value) (locals : ℕ → Value) → refs.below ≡ m.refs.below → IsRefRow m.objects outside names refs.own m.frame.refs pushed locals → WithRefs refs (record c { refs = pushed; locals = record c.locals { refs = locals } })
  with_refs refs pushed locals same row = record {
    unit_is = held.unit_is;
    fit = held.fit;
    frame_is = held.frame_is;
    at_is = held.at_is;
    nums_are = held.nums_are;
    refs_are = row;
    scope_is = held.scope_is;
    callers_are = subst (λ (xs : List ℕ). AreWaiting m.objects outside names m.callers.items m.nums.below xs c.callers) (sym same) held.callers_are;
    input_is = held.input_is;
    turns_are = held.turns_are;
    run = held.run;
  }

  -- a reference is popped
  pub pops_ref : (rest : Frames ℕ) (w : ℕ) → rest.below ≡ m.refs.below → m.refs.own ≡ rest.own ++ w ∷ [] → m.frame.refs ≤ length rest.own
      → (d : Config) × (v : Value) × ((next : Value → Config → Step) → pop_ref c next ≡ next v d) × WithRefs rest d × DenotesIn m.objects outside names (object_in w) v
  pops_ref rest w same split room =
      let row = ref_pop m.objects outside names m.frame.refs m.refs.own rest.own w c.refs c.locals.refs held.refs_are split room in (
        record c { refs = row.1 },
        row.0,
        λ next. ap (λ (xs : List Value). pop_ref_of xs c next) row.2,
        with_refs rest row.1 c.locals.refs same row.4,
        row.3,
      )

  pub no_ref : length m.refs.own ≤ m.frame.refs → (next : Value → Config → Step) → pop_ref c next ≡ Stuck
  no_ref low next = ap (λ (xs : List Value). pop_ref_of xs c next) (ref_none m.objects outside names m.frame.refs m.refs.own c.refs c.locals.refs held.refs_are low)

  pub refs_empty : length m.refs.own ≤ m.frame.refs → c.refs ≡ []
  refs_empty low = ref_none m.objects outside names m.frame.refs m.refs.own c.refs c.locals.refs held.refs_are low

  -- the reference on top
  pub has_top_ref : (last w d : ℕ) → m.frame.refs < length m.refs.own → last + 1 ≡ length m.refs.own → get_or m.refs.own last d ≡ w
      → (v : Value) × (rest : List Value) × (c.refs ≡ v ∷ rest) × DenotesIn m.objects outside names (object_in w) v
  has_top_ref last w d some end is =
      let xs = m.refs.own in
      let split : xs ≡ take last xs ++ w ∷ [] = sym (take_all (last + 1) xs (omega (arith, end))) ∙ take_more xs last d (omega (arith, end)) ∙ ap (λ (x : ℕ). take last xs ++ x ∷ []) is in
      let low : m.frame.refs ≤ length (take last xs) = omega (arith, end, some, length-take-le last xs (omega (arith, end))) in
      let row = ref_pop m.objects outside names m.frame.refs xs (take last xs) w c.refs c.locals.refs held.refs_are split low in
      (row.0, row.1, row.2, row.3)

  -- a reference is pushed where the frame has room, and else not
  pub refs_taken : (frame_in c.unit).refs + length c.refs ≡ length m.refs.own
  refs_taken = ap (λ (n : ℕ). n + length c.refs) refs_size ∙ ref_length m.objects outside names m.frame.refs m.refs.own c.refs c.locals.refs held.refs_are

  pub pushes_ref : (new : Frames ℕ) (w : ℕ) (v : Value) → new.below ≡ m.refs.below → new.own ≡ m.refs.own ++ w ∷ [] → length m.refs.own < frame_words → DenotesIn m.objects outside names (object_in w) v
      → (next : Config) × (push_ref v c ≡ Goes [] next) × WithRefs new next
  pushes_ref new w v same own room denoted = (
    record c { refs = v ∷ c.refs },
    ap (λ (b : Bool). if b then on (record c { refs = v ∷ c.refs }) else Stuck) (lt-ltb ((frame_in c.unit).refs + length c.refs) frame_words (omega (arith, room, refs_taken))),
    with_refs new (v ∷ c.refs) c.locals.refs same
        (subst (λ (xs : List ℕ). IsRefRow m.objects outside names xs m.frame.refs (v ∷ c.refs) c.locals.refs) (sym own) (ref_push m.objects outside names m.frame.refs m.refs.own w v c.refs c.locals.refs held.refs_are denoted)),
  )

  pub pushes_no_ref : (v : Value) → frame_words ≤ length m.refs.own → push_ref v c ≡ Stuck
  pushes_no_ref v full = ap (λ (b : Bool). if b then on (record c { refs = v ∷ c.refs }) else Stuck) (le-ltb ((frame_in c.unit).refs + length c.refs) frame_words (omega (arith, full, refs_taken)))

  -- a local among the references is written
  pub sets_ref : (new : Frames ℕ) (slot w : ℕ) (v : Value) → new.below ≡ m.refs.below → new.own ≡ set m.refs.own slot w → slot < m.frame.refs → DenotesIn m.objects outside names (object_in w) v → WithRefs new (with_ref c slot v)
  sets_ref new slot w v same own below denoted =
      with_refs new c.refs (with_local c.locals.refs slot v) same
      (subst (λ (xs : List ℕ). IsRefRow m.objects outside names xs m.frame.refs c.refs (with_local c.locals.refs slot v)) (sym own) (ref_set m.objects outside names m.frame.refs m.refs.own w v slot c.refs c.locals.refs held.refs_are denoted below))

  -- a local's slot is one of the frame
  pub num_slot : (slot : ℕ) → slot < m.frame.nums → is_num_slot c slot ≡ true
  num_slot slot below = ap (λ (f : Frame). nat_lt slot f.nums) held.frame_is ∙ lt-ltb slot m.frame.nums below

  pub ref_slot : (slot : ℕ) → slot < m.frame.refs → is_ref_slot c slot ≡ true
  ref_slot slot below = ap (λ (f : Frame). nat_lt slot f.refs) held.frame_is ∙ lt-ltb slot m.frame.refs below
