-- Words that are popped at once.
use Rattle.std.proofs.Common.{◌≡◌, ℕ, zero, suc, ◌+◌, ◌<◌, ◌≤◌, ℤ, true, false, List, [], ◌∷◌, ◌++◌, length, map, take, drop, get_or, replicate, Some, refl, sym, ap, ◌∙◌, subst, arith, length-drop}
use Rattle.std.specs.Prelude.{All, reverse}
use Rattle.std.specs.declared.alloc.Global.{Global}
use Rattle.std.specs.declared.vec.Vec.{Vec}
use Rattle.std.proofs.lemmas.List.{append-nil, length-reverse, length-take-le, reverse-reverse, take-append-drop, take_all, take_more, get_or_append_left}
use Rattle.std.proofs.lemmas.List.Elements.{All-drop, All-head, All-tail, All-take}
use Rattle.machine_core.specs.ps_outside.Outside.{Outside}
use Rattle.machine_core.specs.obj_layout.Stored.{Space}
use Rattle.machine_core.specs.obj_layout.declared.reference.Reference.{Reference}
use Rattle.machine_core.specs.swizzle.Heap as area
use Rattle.machine_core.specs.text_forms.declared.forms.Form.{Form}
use Rattle.machine_core.specs.text_forms.declared.forms.Form.TheVariants as form
use Rattle.machine_core.specs.heap_places.Filling.{AreNear}
use Rattle.machine_core.specs.heap_places.Places.{IsNear}
use Rattle.machine_core.specs.heap_places.declared.value.Value as code
use Rattle.machine_core.specs.ps_heap.Values.{Value, Num}
use Rattle.machine_core.specs.ps_heap.Objects.{kept_as}
use Rattle.machine_core.specs.ps_stepping.Config.{Config}
use Rattle.machine_core.specs.ps_stepping.Steps.{Step, Stuck, pop_ref_of}
use Rattle.machine_core.specs.ps_stepping.Objects.{pop_nums, pop_refs}
use Rattle.machine_core.specs.joint_ops.World.{DenotesIn, IsForIn, IsOfForm}
use Rattle.machine_core.specs.joint_ops.Operands.{AreForIn}
use Rattle.machine_core.specs.frame_stack.Frames.{Frames}
use Rattle.machine_core.specs.Waiting.{AreWaiting}
use Rattle.machine_core.specs.declared.machine.Machine.{Machine}
use Rattle.machine_core.specs.Holding.{AreDenoted, IsRow, IsRefRow, object_in, words_of}
use Rattle.machine_core.specs.Naming.{IsNamed, NamesObjects}
use Rattle.machine_core.proofs.Arguments.{args-popped, denoted-many, denoted-reverse, denoted-split, pushed-above, refs-popped, too-few-nums}
use Rattle.machine_core.proofs.Naming.{names-own}
use Rattle.machine_core.proofs.Popping.{refs_taken}
use Rattle.machine_core.proofs.Rows.{row_length}
use Rattle.machine_vectors.specs.inside.Taking.{TakesNumbers, TakesReferences, kept_values, named}
use Rattle.machine_vectors.proofs.ElementPuts.{ref-near}

-- One value more of a form.
module _ (here : area.Heap) (out : Outside Space) (names : List Reference) (f : Form) where
  pub formed-more : (n : ℕ) (ks : List code.Value) (vs : List Value) (k : code.Value) (v : Value) → AreForIn here out names (replicate n f) ks vs
      → IsOfForm f k → IsForIn here out names k v → AreForIn here out names (replicate (n + 1) f) (ks ++ k ∷ []) (vs ++ v ∷ [])
  formed-more n ks vs k v are form for =
      let next : suc n ≡ n + 1 = omega arith in
      subst (λ (i : ℕ). AreForIn here out names (replicate i f) (ks ++ k ∷ []) (vs ++ v ∷ [])) next (of n ks vs are)
    where
      of : (n : ℕ) (ks : List code.Value) (vs : List Value) → AreForIn here out names (replicate n f) ks vs
          → AreForIn here out names (replicate (suc n) f) (ks ++ k ∷ []) (vs ++ v ∷ [])
      of zero [] [] are = (form, for, tt)
      of zero [] (w ∷ ws) are = absurd are
      of zero (l ∷ ls) ws are = absurd are
      of (suc n) [] ws are = absurd are
      of (suc n) (l ∷ ls) [] are = absurd are
      of (suc n) (l ∷ ls) (w ∷ ws) are = (are.0, are.1, of n ls ws are.2)

-- numbers as a form keeps them, and one more
kept-append : (f : Form) (zs : List ℤ) (z : ℤ) → kept_values f (zs ++ z ∷ []) ≡ kept_values f zs ++ kept_as (Some f) (Num z) ∷ []
kept-append f [] z = refl
kept-append f (x ∷ zs) z = ap (λ (vs : List Value). kept_as (Some f) (Num x) ∷ vs) (kept-append f zs z)

module _ (here : area.Heap) (out : Outside Space) (names : List Reference) (f : Form) (words : List ℤ) where
  pub nums-more : (i : ℕ) (d : ℤ) (ks new : List code.Value) (k : code.Value) → i < length words → new ≡ ks ++ k ∷ []
      → AreForIn here out names (replicate i f) ks (kept_values f (take i words)) → IsOfForm f k
      → IsForIn here out names k (kept_as (Some f) (Num (get_or words i d))) → AreForIn here out names (replicate (i + 1) f) new (kept_values f (take (i + 1) words))
  nums-more i d ks new k below is are form for =
      subst (λ (vs : List Value). AreForIn here out names (replicate (i + 1) f) new vs)
      (sym (ap (λ (zs : List ℤ). kept_values f zs) (take_more words i d below) ∙ kept-append f (take i words) (get_or words i d)))
      (subst (λ (xs : List code.Value). AreForIn here out names (replicate (i + 1) f) xs (kept_values f (take i words) ++ kept_as (Some f) (Num (get_or words i d)) ∷ []))
      (sym is) (formed-more here out names f i ks (kept_values f (take i words)) k (kept_as (Some f) (Num (get_or words i d))) are form for))

  pub nums-all : (i : ℕ) (ks : List code.Value) → i ≤ length words → length words ≤ i
      → AreForIn here out names (replicate i f) ks (kept_values f (take i words)) → AreForIn here out names (replicate (length words) f) ks (kept_values f words)
  nums-all i ks low high are =
      let same : i ≡ length words = omega (arith, low, high) in
      subst (λ (zs : List ℤ). AreForIn here out names (replicate (length words) f) ks (kept_values f zs)) (take_all i words high)
      (subst (λ (n : ℕ). AreForIn here out names (replicate n f) ks (kept_values f (take i words))) same are)

pub near-more : (here : area.Heap) (ks : List code.Value) (k : code.Value) → AreNear here ks → IsNear here k → AreNear here (ks ++ k ∷ [])
near-more here [] k are near = (near, tt)
near-more here (l ∷ ls) k are near = (are.0, near-more here ls k are.1 near)

-- what names objects of the area lies near
pub named-near : (here : area.Heap) (words : List ℕ) → All (λ word. IsNamed here word) words → AreNear here (map named words)
named-near here [] all = tt
named-near here (w ∷ ws) all =
    (ref-near here (object_in w) (All-head (λ word. IsNamed here word) w ws all), named-near here ws (All-tail (λ word. IsNamed here word) w ws all))

-- what words denote is denoted by what they name
refs-for : (here : area.Heap) (out : Outside Space) (names : List Reference) (words : List ℕ) (vs : List Value) → AreDenoted here out names words vs
    → AreForIn here out names (replicate (length words) form.Reference) (map named words) vs
refs-for here out names [] [] are = tt
refs-for here out names [] (v ∷ vs) are = absurd are
refs-for here out names (w ∷ ws) [] are = absurd are
refs-for here out names (w ∷ ws) (v ∷ vs) are = (tt, are.0, refs-for here out names ws vs are.1)

-- too few references are pushed
too-few-refs : (n : ℕ) (acc : List Value) (c : Config) (next : List Value → Config → Step) → length c.refs < n → pop_refs n acc c next ≡ Stuck
too-few-refs zero acc c next few = absurd (omega arith)
too-few-refs (suc n) acc c next few = of c.refs refl (λ v d low. too-few-refs n (v ∷ acc) d next low)
  where
    of : (vs : List Value) → c.refs ≡ vs → ((v : Value) (d : Config) → length d.refs < n → pop_refs n (v ∷ acc) d next ≡ Stuck)
        → pop_ref_of vs c (λ v d. pop_refs n (v ∷ acc) d next) ≡ Stuck
    of [] is others = refl
    of (v ∷ vs) is others = others v (record c { refs = vs }) (let long = ap length is in omega (arith, few, long))

-- how many words lie above some
rest-long : {W : Type 0} (xs : List W) (first n : ℕ) → first + n ≡ length xs → length (drop first xs) ≡ n
rest-long {W} xs first n all = length-drop first xs ∙ omega (arith, all)

low-long : {W : Type 0} (xs : List W) (first n : ℕ) → first + n ≡ length xs → length (take first xs) ≡ first
low-long {W} xs first n all = length-take-le first xs (omega (arith, all))

module _ (m : Machine) (out : Outside Space) (n : ℕ) where
  -- Numbers.

  pub few-nums : (f : Form) → length m.nums.own < m.frame.nums + n → TakesNumbers out f n m m false
  few-nums f few = record {
    gives = λ names c h next.
        too-few-nums n [] c next
        (let long = row_length m.frame.nums m.nums.own c.nums c.locals.nums h.nums_are in omega (arith, few, long));
  }

  pub nums-taken : (f : Form) (first : ℕ) (cut : Frames ℤ) (w : Vec code.Value Global) → cut.below ≡ m.nums.below → cut.own ≡ take first m.nums.own
      → first + n ≡ length m.nums.own → m.frame.nums ≤ first
      → ((names : List Reference)
      → AreForIn m.objects out names (replicate (length (drop first m.nums.own)) f) w.items (kept_values f (drop first m.nums.own)))
      → TakesNumbers out f n m (record m { nums = cut; values = w }) true
  nums-taken f first cut w below own all fit laid = record {
    gives = λ names c h.
        let words = m.nums.own in
        let low = take first words in
        let high = drop first words in
        let many : length high ≡ n = rest-long words first n all in
        let row : IsRow (low ++ high) m.frame.nums c.nums c.locals.nums =
        subst (λ (xs : List ℤ). IsRow xs m.frame.nums c.nums c.locals.nums) (sym (take-append-drop first words)) h.nums_are in
        let p = args-popped m.frame.nums low high c row (let long = low-long words first n all in omega (arith, long, fit)) in (
          record c { nums = p.0 },
          high,
          (λ next. ap (λ (k : ℕ). pop_nums k [] c next) (sym many) ∙ p.1 next),
          record {
            unit_is = h.unit_is;
            fit = h.fit;
            frame_is = h.frame_is;
            at_is = h.at_is;
            nums_are = subst (λ (xs : List ℤ). IsRow xs m.frame.nums p.0 c.locals.nums) (sym own) p.2;
            refs_are = h.refs_are;
            scope_is = h.scope_is;
            callers_are = subst (λ (xs : List ℤ). AreWaiting m.objects out names m.callers.items xs m.refs.below c.callers) (sym below) h.callers_are;
            input_is = h.input_is;
            turns_are = h.turns_are;
            run = h.run;
          },
          subst (λ (k : ℕ). AreForIn m.objects out names (replicate k f) w.items (kept_values f high)) many (laid names),
        );
  }

  -- References.

  pub few-refs : length m.refs.own < m.frame.refs + n → TakesReferences out n m m false
  few-refs few = record {
    gives = λ names c h next.
        too-few-refs n [] c next
        (let long = refs_taken m out c names h in let same = ap (λ (f : _). f.refs) h.frame_is in omega (arith, few, long, same));
  }

  pub refs-taken : (first : ℕ) (cut : Frames ℕ) (w : Vec code.Value Global) → cut.below ≡ m.refs.below → cut.own ≡ take first m.refs.own
      → first + n ≡ length m.refs.own → m.frame.refs ≤ first → w.items ≡ map named (drop first m.refs.own)
      → TakesReferences out n m (record m { refs = cut; values = w }) true
  refs-taken first cut w below own all fit laid = record {
    gives = λ names c h.
        let words = m.refs.own in
        let low = take first words in
        let high = drop first words in
        let size = m.frame.refs in
        let many : length high ≡ n = rest-long words first n all in
        let room : size ≤ length low = let long = low-long words first n all in omega (arith, long, fit) in
        let row : IsRefRow m.objects out names (low ++ high) size c.refs c.locals.refs =
        subst (λ (xs : List ℕ). IsRefRow m.objects out names xs size c.refs c.locals.refs) (sym (take-append-drop first words)) h.refs_are in
        let two = denoted-split m.objects out names (reverse high) (reverse (drop size low)) c.refs
        (subst (λ (xs : List ℕ). AreDenoted m.objects out names xs c.refs) (pushed-above size low high room) row.pushed_are) in
        let args = reverse two.0 in
        let count : length two.0 ≡ n = denoted-many m.objects out names (reverse high) two.0 two.3 ∙ length-reverse high ∙ many in
        let are = subst (λ (xs : List ℕ). AreDenoted m.objects out names xs args) (reverse-reverse high)
        (denoted-reverse m.objects out names (reverse high) two.0 two.3) in (
          record c { refs = two.1 },
          args,
          (λ next.
              ap (λ (k : ℕ). pop_refs k [] c next) (sym count) ∙ refs-popped two.0 [] two.1 c next two.2
              ∙ ap (λ (vs : List Value). next vs (record c { refs = two.1 })) (append-nil args)),
          record {
            unit_is = h.unit_is;
            fit = h.fit;
            frame_is = h.frame_is;
            at_is = h.at_is;
            nums_are = h.nums_are;
            refs_are = subst (λ (xs : List ℕ). IsRefRow m.objects out names xs size two.1 c.locals.refs) (sym own) (record {
              room = room;
              pushed_are = two.4;
              locals_are = λ slot d low_slot.
                  subst (λ (x : ℕ). DenotesIn m.objects out names (object_in x) (c.locals.refs slot)) (get_or_append_left low high d slot (omega (arith, room, low_slot)))
                  (row.locals_are slot d low_slot);
            });
            scope_is = h.scope_is;
            callers_are = subst (λ (xs : List ℕ). AreWaiting m.objects out names m.callers.items m.nums.below xs c.callers) (sym below) h.callers_are;
            input_is = h.input_is;
            turns_are = h.turns_are;
            run = h.run;
          },
          subst (λ (ks : List code.Value). AreForIn m.objects out names (replicate n form.Reference) ks args) (sym laid)
              (subst (λ (k : ℕ). AreForIn m.objects out names (replicate k form.Reference) (map named high) args) many
              (refs-for m.objects out names high args are)),
        );
  }

-- the words that are left name objects of the area still
pub names-cut : (m : Machine) (first : ℕ) (cut : Frames ℕ) (w : Vec code.Value Global) → cut.below ≡ m.refs.below → cut.own ≡ take first m.refs.own
    → NamesObjects m → NamesObjects (record m { refs = cut; values = w })
names-cut m first cut w below own n =
    names-own m.objects (words_of m) m.writing.item cut n below
    (subst (λ (ws : List ℕ). All (λ word. IsNamed m.objects word) ws) (sym own) (All-take (λ word. IsNamed m.objects word) first m.refs.own n.own))

pub refs-near : (m : Machine) (first : ℕ) (w : Vec code.Value Global) → w.items ≡ map named (drop first m.refs.own) → NamesObjects m → AreNear m.objects w.items
refs-near m first w laid n =
    subst (λ (ks : List code.Value). AreNear m.objects ks) (sym laid)
    (named-near m.objects (drop first m.refs.own) (All-drop (λ word. IsNamed m.objects word) first m.refs.own n.own))
