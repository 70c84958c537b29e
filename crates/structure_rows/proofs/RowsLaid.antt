-- Rows of a new structure that are laid one after the other.
use Rattle.std.proofs.Common.{◌≡◌, ℕ, suc, ◌+◌, ◌-◌, ◌/◌, ◌%◌, ◌^◌, ◌<◌, ◌≤◌, ◌==◌, true, false, ℤ, List, [], ◌∷◌, ◌++◌, length, drop, get_or, slice_index_or, Option, Some, None, refl, sym, ap, ◌∙◌, subst, arith, add-one, drop-cons, inl, inr}
use Rattle.std.specs.Prelude.{if◌then◌else◌, Ok, Err}
use Rattle.std.proofs.lemmas.Bool.{cases_lt}
use Rattle.std.proofs.lemmas.List.{get_or_default}
use Rattle.heap_places.specs.obj_layout.declared.kind.Kind.TheVariants as kind
use Rattle.heap_places.specs.obj_layout.declared.reference.Reference.TheVariants.{Local}
use Rattle.heap_places.specs.swizzle.declared.fault.SwizzleFault.{SwizzleFault}
use Rattle.heap_places.specs.swizzle.Objects.{Object}
use Rattle.heap_places.specs.swizzle.Heap.{Heap, IsHeld, IsMade, IsFull, Stands, header_at, with_num, with_ref, reference_to, blank}
use Rattle.heap_places.specs.text_forms.declared.forms.Rows.{Rows}
use Rattle.heap_places.specs.declared.value.Value as code
use Rattle.heap_places.specs.declared.value.Value.TheVariants as held
use Rattle.heap_places.specs.Places.{with_value}
use Rattle.heap_places.specs.Filling.{refs_of, words_of, Fills, AreNear}
use Rattle.heap_places.specs.inside.Laying.{index_in, behind, rows_in, roomy, with_values}
use Rattle.heap_places.proofs.FillingLaws.{IsLaying, rows-length, laying-more, filled-made, full-roomy, roomy-held, roomy-no_low}
use Rattle.heap_places.specs.ps_heap.Operators.{is_int}
use Rattle.heap_places.specs.ps_heap.Values.{is_one}
use Rattle.structure_rows.specs.Rows.{object_in, kept, kept_one, kept_word, named, row_values, AreInts}
use Rattle.structure_rows.proofs.RowLaws.{named-words, named-long, kept-refs, kept-long, by-bit}

-- where the next words of the two rows stand
abbrev pub rows_at : ℕ → ℕ → Rows
rows_at refs nums = record { refs = refs; nums = nums }

-- a number goes into the row of numbers
word-kept : (now : Heap) (at bits : ℕ) (z : ℤ) (r n : ℕ) → with_num now at n (kept_word bits z) ≡ with_value now at (index_in (rows_at r n) (kept_one bits z)) (kept_one bits z)
word-kept now at bits z r n = elim (bits % 2 == 1) as (λ b. with_num now at n (if b then Rattle.heap_places.specs.Words.flag_word (is_one z) else Rattle.heap_places.specs.Words.int_word z)
    ≡ with_value now at (index_in (rows_at r n) (if b then held.Flag (is_one z) else held.Num z)) (if b then held.Flag (is_one z) else held.Num z)) [ true ↦ refl | false ↦ refl ]

behind-kept : (bits : ℕ) (z : ℤ) (r n : ℕ) → rows_at r (1 + n) ≡ behind (rows_at r n) (kept_one bits z)
behind-kept bits z r n = elim (bits % 2 == 1) as (λ b. rows_at r (1 + n) ≡ behind (rows_at r n) (if b then held.Flag (is_one z) else held.Num z)) [ true ↦ refl | false ↦ refl ]

near-kept : (now : Heap) (zs : List ℤ) (bits : ℕ) → AreNear now (kept bits zs)
near-kept now [] bits = tt
near-kept now (z ∷ zs) bits = elim (bits % 2 == 1) as (λ b. AreNear now ((if b then held.Flag (is_one z) else held.Num z) ∷ kept (bits / 2) zs)) [
  | true ↦ (tt, near-kept now zs (bits / 2))
  | false ↦ (tt, near-kept now zs (bits / 2))
]

-- What is kept while the numbers are laid.
pub record LaysNums (start now : Heap) (at refs index bits : ℕ) (done : ℕ) (all : ℕ) (nums : List ℤ) : Type 0 where
  pub laying : IsLaying (with_values start at (rows_at 1 1) (kept all nums)) now at (rows_at 1 index) (kept bits (drop done nums))
  pub refs_are : refs ≡ (header_at now at).refs
  pub index_is : index ≡ 1 + done
  pub ints : (j : ℕ) (d : ℤ) → j < done → j < length nums → is_int (get_or nums j d) ≡ true
  pub stands : Stands start now

stands-same : (now : Heap) → Stands now now
stands-same now at is = record { held = is; kind = refl; refs = refl; nums = refl; bytes = refl; pid = refl }

stands-then : (a b c : Heap) → Stands a b → Stands b c → Stands a c
stands-then a b c s t at is =
    let x = s at is in
    let y = t at x.held in
    record { held = y.held; kind = y.kind ∙ x.kind; refs = y.refs ∙ x.refs; nums = y.nums ∙ x.nums; bytes = y.bytes ∙ x.bytes; pid = y.pid ∙ x.pid }

pub nums-first : (start : Heap) (at refs bits : ℕ) (nums : List ℤ) → IsHeld start at → refs ≡ (header_at start at).refs → 1 ≤ (header_at start at).refs
    → 1 + length nums ≤ (header_at start at).nums → LaysNums start start at refs 1 bits 0 bits nums
nums-first start at refs bits nums there same some room = record {
  laying = record {
    held = there;
    rows = record {
      refs = let none = ap length (kept-refs nums bits) in omega (arith, none, some);
      nums = let long = kept-long nums bits in omega (arith, long, room);
    };
    near = near-kept start nums bits;
    same = refl;
  };
  refs_are = same;
  index_is = refl;
  ints = λ j d low below. absurd (omega (arith, low));
  stands = stands-same start;
}

at-drop : (nums : List ℤ) (i : ℕ) (d : ℤ) → i < length nums → drop i nums ≡ get_or nums i d ∷ drop (i + 1) nums
at-drop nums i d below = drop-cons nums i d below ∙ ap (λ (k : ℕ). get_or nums i d ∷ drop k nums) (sym (add-one i))

pub nums-below : (start now : Heap) (at refs index bits i all : ℕ) (nums : List ℤ) (d : ℤ) → LaysNums start now at refs index bits i all nums → i < length nums
    → index < (header_at now at).nums
nums-below start now at refs index bits i all nums d l below =
    let rows = l.laying.rows.nums in
    let long = kept-long (drop i nums) bits in
    let left = ap length (at-drop nums i d below) in
    omega (arith, rows, long, left)

pub nums-more : (start now new : Heap) (at refs index more bits rest i all w : ℕ) (nums : List ℤ) (z : ℤ) → LaysNums start now at refs index bits i all nums → i < length nums
    → z ≡ get_or nums i z → is_int z ≡ true → w ≡ kept_word bits z → new ≡ with_num now at index w → Stands now new → more ≡ index + 1 → rest ≡ bits / 2
    → LaysNums start new at refs more rest (i + 1) all nums
nums-more start now new at refs index more bits rest i all w nums z l below is int word written stands next half =
    let target = with_values start at (rows_at 1 1) (kept all nums) in
    let here : IsLaying target now at (rows_at 1 index) (kept_one bits z ∷ kept (bits / 2) (drop (i + 1) nums)) =
    subst (λ (zs : List ℤ). IsLaying target now at (rows_at 1 index) (kept bits zs)) (at-drop nums i z below ∙ ap (λ (x : ℤ). x ∷ drop (i + 1) nums) (sym is)) l.laying in
    let step = laying-more target now new at (rows_at 1 index) (rows_at 1 (1 + index)) (kept_one bits z) (kept (bits / 2) (drop (i + 1) nums)) here
    (written ∙ ap (λ (x : ℕ). with_num now at index x) word ∙ word-kept now at bits z 1 index) (behind-kept bits z 1 index) stands in
    let s = stands at l.laying.held in
    let one : more ≡ 1 + index = omega (arith, next) in
    record {
      laying = subst (λ (x : ℕ). IsLaying target new at (rows_at 1 x) (kept rest (drop (i + 1) nums))) (sym one)
          (subst (λ (b : ℕ). IsLaying target new at (rows_at 1 (1 + index)) (kept b (drop (i + 1) nums))) (sym half) step);
      refs_are = l.refs_are ∙ sym s.refs;
      index_is = let was = l.index_is in omega (arith, was, next);
      ints = λ j d low in_nums. elim (cases_lt j i) [
        | inl earlier ↦ l.ints j d earlier in_nums
        | inr last ↦
            let same : j ≡ i = omega (arith, low, last) in
            subst (λ (y : ℤ). is_int y ≡ true) (is ∙ sym (ap (λ (x : ℕ). get_or nums x d) same ∙ get_or_default nums i d z below)) int
      ];
      stands = stands-then start now new l.stands stands;
    }

pub nums-ints : (start now : Heap) (at refs index bits i all : ℕ) (nums : List ℤ) → LaysNums start now at refs index bits i all nums → length nums ≤ i → AreInts nums
nums-ints start now at refs index bits i all nums l end j d below = l.ints j d (omega (arith, below, end)) below

pub nums-done : (start now : Heap) (at refs index bits i all : ℕ) (nums : List ℤ) → LaysNums start now at refs index bits i all nums → length nums ≤ i
    → now ≡ with_values start at (rows_at 1 1) (kept all nums)
nums-done start now at refs index bits i all nums l end =
    (subst (λ (zs : List ℤ). IsLaying (with_values start at (rows_at 1 1) (kept all nums)) now at (rows_at 1 index) (kept bits zs))
    (Rattle.std.proofs.lemmas.List.drop_all i nums end) l.laying).same

-- And while the references are laid.
pub record LaysRefs (start now : Heap) (at slot done : ℕ) (refs : List ℕ) : Type 0 where
  pub laying : IsLaying (with_values start at (rows_at 1 1) (named refs)) now at (rows_at slot 1) (named (drop done refs))
  pub slot_is : slot ≡ 1 + done
  pub stands : Stands start now

pub refs-first : (start : Heap) (at : ℕ) (refs : List ℕ) → IsHeld start at → 1 + length refs ≤ (header_at start at).refs → 1 ≤ (header_at start at).nums
    → AreNear start (named refs) → LaysRefs start start at 1 0 refs
refs-first start at refs there room some near = record {
  laying = record {
    held = there;
    rows = record {
      refs = let long = named-long refs in omega (arith, long, room);
      nums = let none = ap length (named-words refs) in omega (arith, none, some);
    };
    near = near;
    same = refl;
  };
  slot_is = refl;
  stands = stands-same start;
}

ref-more : (word : ℕ) (cs : List code.Value) → length (refs_of (held.Ref (object_in word) ∷ cs)) ≡ suc (length (refs_of cs))
unfolding refs_of
ref-more word cs = refl

at-drop-refs : (refs : List ℕ) (i d : ℕ) → i < length refs → drop i refs ≡ get_or refs i d ∷ drop (i + 1) refs
at-drop-refs refs i d below = drop-cons refs i d below ∙ ap (λ (k : ℕ). get_or refs i d ∷ drop k refs) (sym (add-one i))

module _ (start now : Heap) (at slot i : ℕ) (refs : List ℕ) (word : ℕ) (l : LaysRefs start now at slot i refs) (below : i < length refs) (is : word ≡ get_or refs i word) where
  here : IsLaying (with_values start at (rows_at 1 1) (named refs)) now at (rows_at slot 1) (held.Ref (object_in word) ∷ named (drop (i + 1) refs))
  here = subst (λ (ws : List ℕ). IsLaying (with_values start at (rows_at 1 1) (named refs)) now at (rows_at slot 1) (named ws))
      (at-drop-refs refs i word below ∙ ap (λ (x : ℕ). x ∷ drop (i + 1) refs) (sym is)) l.laying

  pub refs-near : Rattle.heap_places.specs.Places.IsNear now (held.Ref (object_in word))
  refs-near = here.near.0

  pub refs-below : slot < (header_at now at).refs
  refs-below = let rows = here.rows.refs in let more = ref-more word (named (drop (i + 1) refs)) in omega (arith, rows, more)

  pub refs-more : (new : Heap) (more : ℕ) (to : Option ℕ) → to ≡ object_in word → new ≡ with_ref now at slot (reference_to to) → Stands now new → more ≡ slot + 1
      → LaysRefs start new at more (i + 1) refs
  refs-more new more to same written stands next =
      let target = with_values start at (rows_at 1 1) (named refs) in
      let step = laying-more target now new at (rows_at slot 1) (rows_at (1 + slot) 1) (held.Ref (object_in word)) (named (drop (i + 1) refs)) here
      (written ∙ ap (λ (x : Option ℕ). with_ref now at slot (reference_to x)) same) refl stands in
      let one : more ≡ 1 + slot = omega (arith, next) in
      record {
        laying = subst (λ (x : ℕ). IsLaying target new at (rows_at x 1) (named (drop (i + 1) refs))) (sym one) step;
        slot_is = let was = l.slot_is in omega (arith, was, next);
        stands = stands-then start now new l.stands stands;
      }

pub refs-done : (start now : Heap) (at slot i : ℕ) (refs : List ℕ) → LaysRefs start now at slot i refs → length refs ≤ i
    → now ≡ with_values start at (rows_at 1 1) (named refs)
refs-done start now at slot i refs l end =
    (subst (λ (ws : List ℕ). IsLaying (with_values start at (rows_at 1 1) (named refs)) now at (rows_at slot 1) (named ws))
    (Rattle.std.proofs.lemmas.List.drop_all i refs end) l.laying).same

-- Both rows.

-- the numbers don't care how many references were laid
only-nums : (zs : List ℤ) (now : Heap) (at bits r n : ℕ) → with_values now at (rows_at r n) (kept bits zs) ≡ with_values now at (rows_at 1 n) (kept bits zs)
only-nums [] now at bits r n = refl
only-nums (z ∷ zs) now at bits r n = elim (bits % 2 == 1) as (λ b. with_values now at (rows_at r n) ((if b then held.Flag (is_one z) else held.Num z) ∷ kept (bits / 2) zs)
    ≡ with_values now at (rows_at 1 n) ((if b then held.Flag (is_one z) else held.Num z) ∷ kept (bits / 2) zs)) [
      | true ↦ only-nums zs (with_value now at n (held.Flag (is_one z))) at (bits / 2) r (1 + n)
      | false ↦ only-nums zs (with_value now at n (held.Num z)) at (bits / 2) r (1 + n)
    ]

both-rows : (ws : List ℕ) (zs : List ℤ) (now : Heap) (at bits r n : ℕ)
    → with_values now at (rows_at r n) (named ws ++ kept bits zs) ≡ with_values (with_values now at (rows_at r n) (named ws)) at (rows_at 1 n) (kept bits zs)
both-rows [] zs now at bits r n = only-nums zs now at bits r n
both-rows (w ∷ ws) zs now at bits r n = both-rows ws zs (with_value now at r (held.Ref (object_in w))) at bits (1 + r) n

-- how many values lie in each row
pub rows-are : (bits : ℕ) (zs : List ℤ) (ws : List ℕ) → rows_at (length ws) (length zs) ≡ rows_in (row_values bits zs ws)
rows-are bits zs ws =
    ap (λ (r : ℕ). rows_at r (length zs)) (sym (named-long ws) ∙ sym (let e = Rattle.structure_rows.proofs.RowLaws.refs-append (named ws) (kept bits zs) in
    ap length e ∙ Rattle.std.proofs.Common.length-append (refs_of (named ws)) (refs_of (kept bits zs)) ∙ (let none = ap length (kept-refs zs bits) in omega (arith, none))))
    ∙ ap (λ (n : ℕ). rows_at (length (refs_of (row_values bits zs ws))) n) (sym (kept-long zs bits) ∙ sym (let e = Rattle.structure_rows.proofs.RowLaws.words-append (named ws) (kept bits zs) in
    ap length e ∙ Rattle.std.proofs.Common.length-append (words_of (named ws)) (words_of (kept bits zs)) ∙ (let none = ap length (named-words ws) in omega (arith, none))))

module _ (old mid : Heap) (at class bits : ℕ) (zs : List ℤ) (ws : List ℕ) (r n : ℕ) (refs : r ≡ 1 + length ws) (nums : n ≡ 1 + length zs) where
  pub made-roomy : (first : Heap) → IsMade old first at (blank kind.Structure r n 0) → mid ≡ with_ref first at 0 (Local class)
      → IsMade old mid at (roomy kind.Structure class None (rows_at (length ws) (length zs)))
  made-roomy first made written = roomy-no_low old first mid at class r n kind.Structure None (rows_at (length ws) (length zs)) (λ z e. let bad : None ≡ Some z = e in absurd cc) refs nums made written

  pub made-header : IsMade old mid at (roomy kind.Structure class None (rows_at (length ws) (length zs)))
      → IsHeld mid at × ((header_at mid at).refs ≡ 1 + length ws) × ((header_at mid at).nums ≡ 1 + length zs)
  made-header made =
      let o = roomy-held old mid at (roomy kind.Structure class None (rows_at (length ws) (length zs))) made in
      (o.0, ap (λ (x : Object). x.header.refs) o.1, ap (λ (x : Object). x.header.nums) o.1)

  pub made-filled : (named_all new : Heap) → IsMade old mid at (roomy kind.Structure class None (rows_at (length ws) (length zs)))
      → named_all ≡ with_values mid at (rows_at 1 1) (named ws) → new ≡ with_values named_all at (rows_at 1 1) (kept bits zs)
      → Fills old new kind.Structure class None (row_values bits zs ws) (Ok at)
  made-filled named_all new made first second =
      filled-made old mid new at class kind.Structure None (rows_at 1 1) (rows_at (length ws) (length zs)) (row_values bits zs ws) refl refl (rows-are bits zs ws) made
      (second ∙ ap (λ (h : Heap). with_values h at (rows_at 1 1) (kept bits zs)) first ∙ sym (both-rows ws zs mid at bits 1 1))

  pub made-full : (new : Heap) (fault : SwizzleFault) → length zs + length ws < 2 ^ 26 → IsFull old new (4 + r + n) fault
      → Fills old new kind.Structure class None (row_values bits zs ws) (Err fault)
  made-full new fault few full =
      let rows = rows-are bits zs ws in
      let long = rows-length (row_values bits zs ws) in
      full-roomy old new class kind.Structure None (rows_at (length ws) (length zs)) (row_values bits zs ws) fault rows
      (let a = ap (λ (x : Rows). x.refs) rows in let b = ap (λ (x : Rows). x.nums) rows in omega (arith, a, b, long, few))
      (subst (λ (k : ℕ). IsFull old new k fault) (omega (arith, refs, nums)) full)
