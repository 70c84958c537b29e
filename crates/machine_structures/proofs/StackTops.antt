-- The tops of both stacks, and what is left below them.
use Rattle.std.proofs.Common.{◌≡◌, ℕ, ◌+◌, ◌<◌, ◌≤◌, ℤ, List, [], ◌∷◌, ◌++◌, length, reverse, take, drop, refl, sym, ap, ◌∙◌, subst, arith, append-nil, length-drop}
use Rattle.std.specs.Prelude.{All}
use Rattle.std.specs.declared.alloc.Global.{Global}
use Rattle.std.specs.declared.vec.Vec.{Vec}
use Rattle.std.proofs.lemmas.List.{reverse-append, reverse-reverse, drop-append-le, take-append-drop, get_or-take, length-take-le}
use Rattle.std.proofs.lemmas.List.Elements.{All-take}
use Rattle.machine_core.specs.ps_outside.Outside.{Outside}
use Rattle.machine_core.specs.obj_layout.Stored.{Space}
use Rattle.machine_core.specs.obj_layout.declared.reference.Reference.{Reference}
use Rattle.machine_core.specs.swizzle.Heap as area
use Rattle.machine_core.specs.swizzle.Heap.{Stands as AllStand}
use Rattle.machine_core.specs.frame_stack.Frames.{Frames}
use Rattle.machine_core.specs.text_forms.declared.forms.Form.{Form}
use Rattle.machine_core.specs.text_forms.Forms.{rows_of}
use Rattle.machine_core.specs.heap_places.declared.value.Value as code
use Rattle.machine_core.specs.ps_heap.Values.{Value}
use Rattle.machine_core.specs.ps_stepping.Config.{Config}
use Rattle.machine_core.specs.ps_stepping.Steps.{Step, Stuck}
use Rattle.machine_core.specs.ps_stepping.Objects.{pop_fields}
use Rattle.machine_core.specs.joint_ops.World.{DenotesIn}
use Rattle.machine_core.specs.declared.machine.Machine.{Machine}
use Rattle.machine_core.specs.Holding.{HeldBy, HeldIn, words_of}
use Rattle.machine_core.specs.Naming.{IsNamed, NamesObjects}
use Rattle.machine_core.specs.Rows.{AreDenoted, IsRefRow, IsRow, object_in}
use Rattle.machine_core.specs.Waiting.{AreWaiting}
use Rattle.machine_core.proofs.Naming.{names-last, names-own}
use Rattle.machine_core.proofs.Rows.{row_length}
use Rattle.machine_core.proofs.RefRows.{ref_length}
use Rattle.machine_structures.proofs.FieldPops.{means, pops-rows, too-few-nums, too-few-refs}
use Rattle.machine_structures.proofs.LaidFields.{denoted-long}

split-row : {A : Type 0} (words : List A) (size first : ℕ) → size ≤ first → first ≤ length words
    → reverse (drop size words) ≡ reverse (drop first words) ++ reverse (drop size (take first words))
split-row {A} words size first low high =
    ap (λ (l : List A). reverse (drop size l)) (sym (take-append-drop first words))
    ∙ ap (λ (l : List A). reverse l) (drop-append-le size (take first words) (drop first words) (omega (arith, low, length-take-le first words high)))
    ∙ reverse-append (drop size (take first words)) (drop first words)

-- Numbers.

pub record NumsLeft (words : List ℤ) (size first : ℕ) (pushed : List ℤ) (locals : ℕ → ℤ) : Type 0 where
  pub rest : List ℤ
  pub split : pushed ≡ reverse (drop first words) ++ rest
  pub row : IsRow (take first words) size rest locals

pub nums-left : (words : List ℤ) (size first : ℕ) (pushed : List ℤ) (locals : ℕ → ℤ) → IsRow words size pushed locals → size ≤ first → first ≤ length words
    → NumsLeft words size first pushed locals
nums-left words size first pushed locals row low high = record {
  rest = reverse (drop size (take first words));
  split = row.pushed_are ∙ split-row words size first low high;
  row = record {
    room = omega (arith, low, length-take-le first words high);
    pushed_are = refl;
    locals_are = λ slot d below. row.locals_are slot d below ∙ sym (get_or-take first words slot d (omega (arith, below, low)));
  };
}

-- References, with the values of those on top.

module _ (here : area.Heap) (outside : Outside Space) (names : List Reference) where
  denoted-append : (xs ys : List ℕ) (vs : List Value) → AreDenoted here outside names (xs ++ ys) vs
      → (us : List Value) × (rest : List Value) × (vs ≡ us ++ rest) × AreDenoted here outside names xs us × AreDenoted here outside names ys rest
  denoted-append [] ys vs are = ([], vs, refl, tt, are)
  denoted-append (x ∷ xs) ys [] are = absurd are
  denoted-append (x ∷ xs) ys (v ∷ vs) are =
      let r = denoted-append xs ys vs are.1 in
      (v ∷ r.0, r.1, ap (λ (l : List Value). v ∷ l) r.2, (are.0, r.3), r.4)

  denoted-last : (xs : List ℕ) (us : List Value) (x : ℕ) (v : Value) → AreDenoted here outside names xs us → DenotesIn here outside names (object_in x) v
      → AreDenoted here outside names (xs ++ x ∷ []) (us ++ v ∷ [])
  denoted-last [] [] x v are is = (is, tt)
  denoted-last (y ∷ xs) (u ∷ us) x v are is = (are.0, denoted-last xs us x v are.1 is)
  denoted-last [] (u ∷ us) x v are is = absurd are
  denoted-last (y ∷ xs) [] x v are is = absurd are

  -- the words the other way round
  denoted-reverse : (xs : List ℕ) (us : List Value) → AreDenoted here outside names xs us → AreDenoted here outside names (reverse xs) (reverse us)
  denoted-reverse [] [] are = tt
  denoted-reverse (x ∷ xs) (u ∷ us) are =
      subst (λ (l : List ℕ). AreDenoted here outside names l (reverse (u ∷ us))) (sym (reverse-append (x ∷ []) xs))
      (subst (λ (l : List Value). AreDenoted here outside names (reverse xs ++ x ∷ []) l) (sym (reverse-append (u ∷ []) us))
      (denoted-last (reverse xs) (reverse us) x u (denoted-reverse xs us are.1) are.0))
  denoted-reverse [] (u ∷ us) are = absurd are
  denoted-reverse (x ∷ xs) [] are = absurd are

  pub record RefsLeft (words : List ℕ) (size first : ℕ) (pushed : List Value) (locals : ℕ → Value) : Type 0 where
    pub tops : List Value
    pub rest : List Value
    pub split : pushed ≡ reverse tops ++ rest
    pub are : AreDenoted here outside names (drop first words) tops
    pub row : IsRefRow here outside names (take first words) size rest locals

  pub refs-left : (words : List ℕ) (size first : ℕ) (pushed : List Value) (locals : ℕ → Value) → IsRefRow here outside names words size pushed locals
      → size ≤ first → first ≤ length words → RefsLeft words size first pushed locals
  refs-left words size first pushed locals row low high =
      let parts = denoted-append (reverse (drop first words)) (reverse (drop size (take first words))) pushed
      (subst (λ (l : List ℕ). AreDenoted here outside names l pushed) (split-row words size first low high) row.pushed_are) in
      record {
        tops = reverse parts.0;
        rest = parts.1;
        split = parts.2 ∙ ap (λ (l : List Value). l ++ parts.1) (sym (reverse-reverse parts.0));
        are = subst (λ (l : List ℕ). AreDenoted here outside names l (reverse parts.0)) (reverse-reverse (drop first words))
            (denoted-reverse (reverse (drop first words)) parts.0 parts.3);
        row = record {
          room = omega (arith, low, length-take-le first words high);
          pushed_are = parts.4;
          locals_are = λ slot d below. subst (λ (w : ℕ). DenotesIn here outside names (object_in w) (locals slot))
              (sym (get_or-take first words slot d (omega (arith, below, low)))) (row.locals_are slot d below);
        };
      }

-- A machine whose tops were popped, and that has other values.
module _ (m : Machine) (now : area.Heap) (values : Vec code.Value Global) (nums : Frames ℤ) (refs : Frames ℕ) (i j : ℕ)
    (nums_are : nums.own ≡ take i m.nums.own)
    (refs_are : refs.own ≡ take j m.refs.own) (nums_below : nums.below ≡ m.nums.below) (refs_below : refs.below ≡ m.refs.below) where
  abbrev pub popped : Machine
  popped = record m { objects = now; values = values; nums = nums; refs = refs }

  -- it stands for this configuration, but for its area
  pub held-popped : (outside : Outside Space) (names : List Reference) (c : Config) (zs : List ℤ) (vs : List Value) → HeldBy outside names m c
      → IsRow (take i m.nums.own) m.frame.nums zs c.locals.nums → IsRefRow m.objects outside names (take j m.refs.own) m.frame.refs vs c.locals.refs
      → HeldIn m.objects outside names popped (record c { nums = zs; refs = vs })
  held-popped outside names c zs vs h row ref_row = record {
    unit_is = h.unit_is;
    fit = h.fit;
    frame_is = h.frame_is;
    at_is = h.at_is;
    nums_are = subst (λ (l : List ℤ). IsRow l m.frame.nums zs c.locals.nums) (sym nums_are) row;
    refs_are = subst (λ (l : List ℕ). IsRefRow m.objects outside names l m.frame.refs vs c.locals.refs) (sym refs_are) ref_row;
    scope_is = h.scope_is;
    callers_are =
        subst (λ (l : List ℤ). AreWaiting m.objects outside names m.callers.items l refs.below c.callers) (sym nums_below)
        (subst (λ (l : List ℕ). AreWaiting m.objects outside names m.callers.items m.nums.below l c.callers) (sym refs_below) h.callers_are);
    input_is = h.input_is;
    turns_are = h.turns_are;
    run = h.run;
  }

  -- its words name objects of the area still
  pub names-popped : AllStand m.objects now → NamesObjects m → NamesObjects popped
  names-popped stand n =
      let last = names-last m.objects now stand (words_of m) m.writing.item n in
      let kept = names-own now (words_of m) m.writing.item refs last refs_below
      (subst (λ (ws : List ℕ). All (λ word. IsNamed now word) ws) (sym refs_are) (All-take (λ word. IsNamed now word) j m.refs.own last.own)) in
      record { code = kept.code; scope = kept.scope; own = kept.own; below = kept.below; callers = kept.callers; item = kept.item; databases = kept.databases }

-- The fields of these forms are popped off the tops of both stacks.
module _ (outside : Outside Space) (names : List Reference) (m : Machine) (fs : List Form) (i j : ℕ) where
  pub record FieldsPopped (c : Config) : Type 0 where
    pub nums : List ℤ
    pub refs : List Value
    pub tops : List Value
    pub are : AreDenoted m.objects outside names (drop j m.refs.own) tops
    pub pops : (next : List Value → Config → Step) → pop_fields (reverse fs) [] c next ≡ next (means fs (drop i m.nums.own) tops)
        (record c { nums = nums; refs = refs })
    pub row : IsRow (take i m.nums.own) m.frame.nums nums c.locals.nums
    pub ref_row : IsRefRow m.objects outside names (take j m.refs.own) m.frame.refs refs c.locals.refs

  module _ (nums_low : m.frame.nums ≤ i) (refs_low : m.frame.refs ≤ j) (nums_count : i + (rows_of fs).nums ≡ length m.nums.own)
      (refs_count : j + (rows_of fs).refs ≡ length m.refs.own) where
    pub long-nums : (rows_of fs).nums ≡ length (drop i m.nums.own)
    long-nums = omega (arith, nums_count, length-drop i m.nums.own)

    pub long-refs : (rows_of fs).refs ≡ length (drop j m.refs.own)
    long-refs = omega (arith, refs_count, length-drop j m.refs.own)

    pub fields-popped : (c : Config) → HeldBy outside names m c → FieldsPopped c
    fields-popped c h =
        let zs = drop i m.nums.own in
        let left = nums-left m.nums.own m.frame.nums i c.nums c.locals.nums h.nums_are nums_low (omega (arith, nums_count)) in
        let tops = refs-left m.objects outside names m.refs.own m.frame.refs j c.refs c.locals.refs h.refs_are refs_low (omega (arith, refs_count)) in
        let same : c ≡ record c { nums = reverse zs ++ left.rest; refs = reverse tops.tops ++ tops.rest } =
        ap (λ (l : List ℤ). record c { nums = l }) left.split ∙ ap (λ (l : List Value). record c { nums = reverse zs ++ left.rest; refs = l }) tops.split in
        record {
          nums = left.rest;
          refs = tops.rest;
          tops = tops.tops;
          are = tops.are;
          pops = λ next.
              ap (λ (e : Config). pop_fields (reverse fs) [] e next) same
              ∙ pops-rows fs zs tops.tops left.rest tops.rest [] c next long-nums
              (long-refs ∙ denoted-long m.objects outside names (drop j m.refs.own) tops.tops tops.are)
              ∙ ap (λ (us : List Value). next us (record c { nums = left.rest; refs = tops.rest })) (append-nil (means fs zs tops.tops));
          row = left.row;
          ref_row = tops.row;
        }

  -- or the stacks have too few
  pub few-nums-popped : (c : Config) → HeldBy outside names m c → length m.nums.own < m.frame.nums + (rows_of fs).nums
      → (next : List Value → Config → Step) → pop_fields (reverse fs) [] c next ≡ Stuck
  few-nums-popped c h few next =
      let all = row_length m.frame.nums m.nums.own c.nums c.locals.nums h.nums_are in
      too-few-nums fs c next (omega (arith, few, all))

  pub few-refs-popped : (c : Config) → HeldBy outside names m c → length m.refs.own < m.frame.refs + (rows_of fs).refs
      → (next : List Value → Config → Step) → pop_fields (reverse fs) [] c next ≡ Stuck
  few-refs-popped c h few next =
      let all = ref_length m.objects outside names m.frame.refs m.refs.own c.refs c.locals.refs h.refs_are in
      too-few-refs fs c next (omega (arith, few, all))
