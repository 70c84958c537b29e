-- Coming back to a body that waits.
use Rattle.std.proofs.Common.{◌≡◌, ℕ, ◌+◌, ◌-◌, ◌≤◌, ℤ, true, false, List, [], ◌∷◌, ◌++◌, length, take, drop, Some, refl, sym, ap, ◌∙◌, subst, arith, length-append}
use Rattle.std.specs.Prelude.{All, sum_by, vec_len}
use Rattle.std.specs.declared.alloc.Global.{Global}
use Rattle.std.specs.declared.vec.Vec.{Vec}
use Rattle.std.proofs.lemmas.List.{append-nil}
use Rattle.frame_stack.specs.Frames.{Frames}
use Rattle.std.proofs.Math.Seq.{drop-append_seam, take-append_seam}
use Rattle.std.proofs.lemmas.List.Elements.{All-pop}
use Rattle.std.proofs.lemmas.List.Sums.{sum_by_push}
use Rattle.joint_ops.specs.ps_outside.Outside.{Outside}
use Rattle.joint_ops.specs.obj_layout.Stored.{Space}
use Rattle.joint_ops.specs.obj_layout.declared.reference.Reference.{Reference}
use Rattle.ps_stepping.specs.Config.{Config, Caller}
use Rattle.ps_stepping.specs.ps_heap.Ends.{Done}
use Rattle.ps_stepping.specs.Machine.{resumed, come_back, returned}
use Rattle.ps_stepping.specs.Procedures.{num_back, ref_back}
use Rattle.ps_stepping.specs.Steps.{Step, Stops, pop_num, pop_ref, push_num, push_ref}
use Rattle.joint_ops.specs.swizzle.Heap as area
use Rattle.joint_ops.specs.World.{DenotesIn}
use Rattle.machine_core.specs.declared.caller.Caller as in_code
use Rattle.machine_core.specs.declared.machine.Machine.{Machine}
use Rattle.machine_core.specs.declared.stepped.Stepped.{Stepped}
use Rattle.machine_core.specs.declared.stepped.Stepped.TheVariants.{Quiet}
use Rattle.machine_core.specs.Holding.{Held, HeldBy, object_in, words_of}
use Rattle.machine_core.specs.Naming.{IsNamed, NamesObjects}
use Rattle.machine_core.specs.Stepped.{Does, UnlessBroken, Takes}
use Rattle.machine_core.specs.Calling.{Resumes}
use Rattle.machine_core.specs.inside.Taking.{Leaves, Taken, TakenRef, TakesRef}
use Rattle.machine_core.specs.Waiting.{IsWaiting, AreWaiting, IsFramed, IsOrderly, HasRoom}
use Rattle.machine_core.proofs.Callers.{as-many, ends-same}

-- the words of the last body but for some on top, and those below them
words-parted : {W : Type 0} (all low own top : List W) (n dead : ℕ) → all ≡ low ++ (own ++ top) → length own + dead ≡ n → length top ≡ dead
    → (take (n - dead) (drop (length all - n) all) ≡ own) × (take (length all - n) all ≡ low)
words-parted {W} all low own top n dead split count above =
    let long : length all ≡ length (low ++ (own ++ top)) = ap length split in
    let here : length all - n ≡ length low = omega (arith, long, count, above, length-append low (own ++ top), length-append own top) in (
      ap (λ (k : ℕ). take (n - dead) (drop k all)) here
          ∙ ap (λ (xs : List W). take (n - dead) (drop (length low) xs)) split
          ∙ ap (λ (xs : List W). take (n - dead) xs) (drop-append_seam low (own ++ top))
          ∙ ap (λ (k : ℕ). take k (own ++ top)) (omega (arith, count))
          ∙ take-append_seam own top,
      ap (λ (k : ℕ). take k all) here ∙ ap (λ (xs : List W). take (length low) xs) split ∙ take-append_seam low (own ++ top),
    )

-- a list without items
pub is-none : {X : Type 0} (xs : List X) → length xs ≡ 0 → xs ≡ []
is-none [] long = refl
is-none (x ∷ xs) long = absurd (omega (arith, long))

module _ (m : Machine) (outside : Outside Space) (names : List Reference) (c : Config) (h : HeldBy outside names m c) where
  -- no body waits
  pub none-waits : m.callers.items ≡ [] → c.callers ≡ []
  none-waits none = is-none c.callers (as-many m.objects outside names m.callers.items m.nums.below m.refs.below c.callers h.callers_are ∙ ap length none)

  -- the last body that waits goes on
  module _ (w : in_code.Caller) (kept : List in_code.Caller) (nums : Frames ℤ) (refs : Frames ℕ) (split : m.callers.items ≡ kept ++ w ∷ [])
      (own_nums : nums.own ≡ take (w.nums - 0) (drop (length m.nums.below - w.nums) m.nums.below)) (low_nums : nums.below ≡ take (length m.nums.below - w.nums) m.nums.below)
      (own_refs : refs.own ≡ take (w.refs - 1) (drop (length m.refs.below - w.refs) m.refs.below)) (low_refs : refs.below ≡ take (length m.refs.below - w.refs) m.refs.below) where
    abbrev Back : Caller → List Caller → Type 0
    Back caller rest =
        Held m.objects outside names (record (words_of m) { code = w.code; place = w.place; frame = w.frame; scope = w.scope; at = w.at; callers = kept; nums = nums; refs = refs })
        (resumed caller caller.nums caller.refs rest c.store)

    pub goes-back : (caller : Caller) × (rest : List Caller) × (c.callers ≡ caller ∷ rest) × Back caller rest
    goes-back = of c.callers refl h.callers_are
      where
        of : (cs : List Caller) → c.callers ≡ cs → AreWaiting m.objects outside names m.callers.items m.nums.below m.refs.below cs
            → (caller : Caller) × (rest : List Caller) × (c.callers ≡ caller ∷ rest) × Back caller rest
        of [] is all = absurd (let long = ap length (sym split ∙ all.0) in omega (arith, long, length-append kept (w ∷ [])))
        of (caller ∷ rest) is all =
            let top = all.0 in
            let same = ends-same kept top.below w top.last (sym split ∙ top.callers_are) in
            let many : length top.own_nums ≡ w.nums = top.nums_count ∙ ap (λ (x : in_code.Caller). x.nums) (sym same.1) in
            let more : length top.own_refs + 1 ≡ w.refs = top.refs_count ∙ ap (λ (x : in_code.Caller). x.refs) (sym same.1) in
            let of_nums = words-parted m.nums.below top.low_nums top.own_nums [] w.nums 0 (top.nums_are ∙ ap (λ (xs : List ℤ). top.low_nums ++ xs) (sym (append-nil top.own_nums))) (omega (arith, many)) refl in
            let of_refs = words-parted m.refs.below top.low_refs top.own_refs (top.called ∷ []) w.refs 1 top.refs_are more refl in
            let own : IsWaiting m.objects outside names w nums.own refs.own caller =
            subst (λ (x : in_code.Caller). IsWaiting m.objects outside names x nums.own refs.own caller) (sym same.1)
            (subst (λ (xs : List ℤ). IsWaiting m.objects outside names top.last xs refs.own caller) (sym (own_nums ∙ of_nums.0))
            (subst (λ (xs : List ℕ). IsWaiting m.objects outside names top.last top.own_nums xs caller) (sym (own_refs ∙ of_refs.0)) all.1)) in
            let others : AreWaiting m.objects outside names kept nums.below refs.below rest =
            subst (λ (ws : List in_code.Caller). AreWaiting m.objects outside names ws nums.below refs.below rest) (sym same.0)
            (subst (λ (xs : List ℤ). AreWaiting m.objects outside names top.below xs refs.below rest) (sym (low_nums ∙ of_nums.1))
            (subst (λ (xs : List ℕ). AreWaiting m.objects outside names top.below top.low_nums xs rest) (sym (low_refs ∙ of_refs.1)) all.2)) in (
              caller,
              rest,
              is,
              record {
                unit_is = own.unit_is;
                fit = own.fit;
                frame_is = own.frame_is;
                at_is = own.at_is;
                nums_are = own.nums_are;
                refs_are = own.refs_are;
                scope_is = own.scope_is;
                callers_are = others;
                input_is = h.input_is;
                turns_are = h.turns_are;
                run = h.run;
              },
            )

-- the others are in order after the last of some
module _ (callers : Vec in_code.Caller Global) (nums : Frames ℤ) (refs : Frames ℕ) (sound : IsOrderly callers nums refs) (w : in_code.Caller) (ws : List in_code.Caller)
    (split : callers.items ≡ ws ++ w ∷ []) where
  all-framed : All IsFramed (ws ++ w ∷ [])
  all-framed = subst (λ (xs : List in_code.Caller). All IsFramed xs) split sound.framed

  pub last-framed : IsFramed w
  last-framed = (All-pop IsFramed (ws ++ w ∷ []) ws (Some w) refl all-framed).1

  pub nums-parted : length nums.below ≡ sum_by (λ (c : in_code.Caller). c.nums) ws + w.nums
  nums-parted = sound.nums_are ∙ ap (λ (xs : List in_code.Caller). sum_by (λ (c : in_code.Caller). c.nums) xs) split ∙ sum_by_push (λ (c : in_code.Caller). c.nums) ws w

  pub refs-parted : length refs.below ≡ sum_by (λ (c : in_code.Caller). c.refs) ws + w.refs
  refs-parted = sound.refs_are ∙ ap (λ (xs : List in_code.Caller). sum_by (λ (c : in_code.Caller). c.refs) xs) split ∙ sum_by_push (λ (c : in_code.Caller). c.refs) ws w

  pub orderly-below : (kept : Vec in_code.Caller Global) (ns : Frames ℤ) (rs : Frames ℕ) → kept.items ≡ ws → length ns.below + w.nums ≡ length nums.below → length rs.below + w.refs ≡ length refs.below
      → vec_len kept ≤ vec_len callers → HasRoom kept ns rs → IsOrderly kept ns rs
  orderly-below kept ns rs callers_are many more less room = record {
    framed = subst (λ (xs : List in_code.Caller). All IsFramed xs) (sym callers_are) (All-pop IsFramed (ws ++ w ∷ []) ws (Some w) refl all-framed).0;
    nums_are = let parted = nums-parted in subst (λ (xs : List in_code.Caller). length ns.below ≡ sum_by (λ (c : in_code.Caller). c.nums) xs) (sym callers_are) (omega (arith, parted, many));
    refs_are = let parted = refs-parted in subst (λ (xs : List in_code.Caller). length rs.below ≡ sum_by (λ (c : in_code.Caller). c.refs) xs) (sym callers_are) (omega (arith, parted, more));
    few = let few = sound.few in omega (arith, few, less);
    room = room;
  }

-- What comes of a return: the body goes on that waits last, or the run is at its end.
module _ (outside : Outside Space) where
  pub nothing-back : (old new : Machine) → Leaves old new → Resumes outside old new true → Takes outside outside (returned 0) old new Quiet
  nothing-back old new left b = record {
    sound = left.sound;
    names = left.names;
    size = ap (λ (a : area.Heap). a.size) left.objects;
    does = λ c h.
        let g = b.goes h.names c h.held in
        ([], resumed g.0 g.0.nums g.0.refs g.1 c.store, ap (λ (cs : List Caller). come_back cs (λ caller next. next) (λ caller. caller.nums) (λ caller. caller.refs) c) g.2, refl, record { names = h.names; held = g.3 });
  }

  module _ (old mid new : Machine) (r : Stepped) where
    pub nothing-ends : Leaves old mid → Resumes outside old mid false → Takes outside outside (λ c. Stops Done 0) mid new r → Takes outside outside (returned 0) old new r
    nothing-ends left b t = record {
      sound = t.sound;
      names = λ n. t.names (left.names n);
      size = subst (λ (a : area.Heap). UnlessBroken r (new.objects.size ≡ a.size)) left.objects t.size;
      does = λ c h.
          let g = b.goes h.names c h.held in
          subst (λ (s : Step). Does outside outside old.objects.size s r new) (sym (ap (λ (cs : List Caller). come_back cs (λ caller next. next) (λ caller. caller.nums) (λ caller. caller.refs) c) g.0))
          (subst (λ (a : area.Heap). Does outside outside a.size (Stops Done 0) r new) left.objects (t.does c (record { names = h.names; held = g.1 })));
    }

  module _ (old popped mid new : Machine) (r : Stepped) (first : Leaves old popped) (second : Leaves popped mid) where
    same-area : mid.objects ≡ old.objects
    same-area = second.objects ∙ first.objects

    size-back : UnlessBroken r (new.objects.size ≡ mid.objects.size) → UnlessBroken r (new.objects.size ≡ old.objects.size)
    size-back size = subst (λ (a : area.Heap). UnlessBroken r (new.objects.size ≡ a.size)) same-area size

    abbrev Did : area.Heap → Step → Type 0
    Did a s = Does outside outside a.size s r new

    did-back : (s : Step) → Did mid.objects s → Did old.objects s
    did-back s did = subst (λ (a : area.Heap). Did a s) same-area did

    module _ (z : ℤ) (p : Taken outside pop_num old popped (Some z)) where
      -- with a number
      pub num-back : Resumes outside popped mid true → Takes outside outside (push_num z) mid new r → Takes outside outside (returned 1) old new r
      num-back b t = record {
        sound = t.sound;
        names = λ n. t.names (second.names (first.names n));
        size = size-back t.size;
        does = λ c h.
            let g = p.gives h.names c h.held in
            let d = g.0 in
            let k = b.goes h.names d g.2 in
            let to = resumed k.0 k.0.nums k.0.refs k.1 d.store in
            subst (Did old.objects)
            (sym (g.1 (λ x e. come_back e.callers num_back (λ caller. x ∷ caller.nums) (λ caller. caller.refs) e)
            ∙ ap (λ (cs : List Caller). come_back cs num_back (λ caller. z ∷ caller.nums) (λ caller. caller.refs) d) k.2))
            (did-back (push_num z to) (t.does to (record { names = h.names; held = k.3 })));
      }

      pub num-ends : Resumes outside popped mid false → Takes outside outside (λ c. Stops Done 0) mid new r → Takes outside outside (returned 1) old new r
      num-ends b t = record {
        sound = t.sound;
        names = λ n. t.names (second.names (first.names n));
        size = size-back t.size;
        does = λ c h.
            let g = p.gives h.names c h.held in
            let d = g.0 in
            let k = b.goes h.names d g.2 in
            subst (Did old.objects)
            (sym (g.1 (λ x e. come_back e.callers num_back (λ caller. x ∷ caller.nums) (λ caller. caller.refs) e)
            ∙ ap (λ (cs : List Caller). come_back cs num_back (λ caller. z ∷ caller.nums) (λ caller. caller.refs) d) k.0))
            (did-back (Stops Done 0) (t.does d (record { names = h.names; held = k.1 })));
      }

    module _ (w : ℕ) (p : TakenRef outside pop_ref old popped (Some w)) where
      -- with a reference
      pub ref-back : (NamesObjects old → IsNamed popped.objects w) → Resumes outside popped mid true → TakesRef outside outside push_ref mid (object_in w) new r
          → Takes outside outside (returned 2) old new r
      ref-back named b t = record {
        sound = t.sound;
        names = λ n. t.names (second.names (first.names n)) (subst (λ (a : area.Heap). IsNamed a w) (sym second.objects) (named n));
        size = size-back t.size;
        does = λ c h.
            let g = p.gives h.names c h.held in
            let d = g.0 in
            let v = g.1 in
            let k = b.goes h.names d g.3 in
            let to = resumed k.0 k.0.nums k.0.refs k.1 d.store in
            subst (Did old.objects)
            (sym (g.2 (λ x e. come_back e.callers ref_back (λ caller. caller.nums) (λ caller. x ∷ caller.refs) e)
            ∙ ap (λ (cs : List Caller). come_back cs ref_back (λ caller. caller.nums) (λ caller. v ∷ caller.refs) d) k.2))
            (did-back (push_ref v to) (t.does h.names v to k.3 (subst (λ (a : area.Heap). DenotesIn a outside h.names (object_in w) v) (sym second.objects) g.4)));
      }

      pub ref-ends : Resumes outside popped mid false → Takes outside outside (λ c. Stops Done 0) mid new r → Takes outside outside (returned 2) old new r
      ref-ends b t = record {
        sound = t.sound;
        names = λ n. t.names (second.names (first.names n));
        size = size-back t.size;
        does = λ c h.
            let g = p.gives h.names c h.held in
            let d = g.0 in
            let v = g.1 in
            let k = b.goes h.names d g.3 in
            subst (Did old.objects)
            (sym (g.2 (λ x e. come_back e.callers ref_back (λ caller. caller.nums) (λ caller. x ∷ caller.refs) e)
            ∙ ap (λ (cs : List Caller). come_back cs ref_back (λ caller. caller.nums) (λ caller. v ∷ caller.refs) d) k.0))
            (did-back (Stops Done 0) (t.does d (record { names = h.names; held = k.1 })));
      }
