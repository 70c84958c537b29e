-- The step of a call, and what the machine holds after it.
use Rattle.std.proofs.Common.{◌≡◌, ℕ, suc, ◌+◌, ◌-◌, ◌<◌, ◌≤◌, ℤ, pos, Bool, List, [], ◌∷◌, ◌++◌, length, take, drop, get_or, Option, Some, None, refl, sym, ap, ◌∙◌, subst, arith}
use Rattle.std.specs.Prelude.{replicate, if◌then◌else◌}
use Rattle.std.proofs.lemmas.Bool.{lt-ltb, le-ltb}
use Rattle.std.proofs.lemmas.List.{length-take-le, take-append-drop, take_more, length-drop}
use Rattle.ps_base.specs.CodeUnit.{UnitView}
use Rattle.ps_base.specs.declared.line.Line.{Line}
use Rattle.ps_base.specs.declared.trap.Trap.TheVariants.{TooDeep}
use Rattle.joint_ops.specs.ps_outside.Outside.{Outside}
use Rattle.joint_ops.specs.obj_layout.Stored.{Space}
use Rattle.joint_ops.specs.obj_layout.declared.reference.Reference.{Reference}
use Rattle.ps_stepping.specs.ps_heap.Ends.{Trapped, OutOfTurns}
use Rattle.ps_stepping.specs.ps_heap.Events.{Turn}
use Rattle.ps_stepping.specs.ps_meaning.Evaluation.{most_calls}
use Rattle.ps_stepping.specs.ps_meaning.Meaning.{Store, with_turns, spent, on_held}
use Rattle.ps_stepping.specs.ps_heap.References.{scope_ids}
use Rattle.ps_stepping.specs.ps_heap.Held.{touching}
use Rattle.ps_stepping.specs.ps_heap.Values.{Nil}
use Rattle.ps_stepping.specs.Config.{Config}
use Rattle.ps_stepping.specs.Steps.{Step, Goes, Stops, Stuck}
use Rattle.ps_stepping.specs.Objects.{pop_nums}
use Rattle.ps_stepping.specs.Procedures.{waiting, body_of_call, in_turn, called}
use Rattle.machine_core.specs.declared.body.Body.{Body}
use Rattle.machine_core.specs.declared.caller.Caller as in_code
use Rattle.machine_core.specs.declared.machine.Machine.{Machine}
use Rattle.std.specs.declared.alloc.Global.{Global}
use Rattle.std.specs.declared.vec.Vec.{Vec}
use Rattle.frame_stack.specs.Frames.{Frames}
use Rattle.machine_core.specs.Holding.{HeldBy, IsRow, IsRefRow}
use Rattle.machine_core.specs.Waiting.{IsWaiting, Last}
use Rattle.machine_core.specs.Calling.{IsBody, pop_below, call_popped, HasBelow}
use Rattle.machine_core.specs.inside.Handing.{caller_of, entered}
use Rattle.machine_core.proofs.Rows.{row_length}
use Rattle.machine_core.proofs.RefRows.{ref_length}
use Rattle.machine_core.proofs.Callers.{as-many}
use Rattle.machine_core.proofs.Arguments.{args-popped, too-few-nums, args-row, Below, below-popped, too-few-refs, refs-row}
use Rattle.machine_core.proofs.Words.{nil-denoted}
use Rattle.machine_core.proofs.RunLaws.{run-touching}
use Rattle.ps_stepping.specs.ps_heap.References.{scope_ids}

-- all that is on top from a word on, and the words below it
parted : (xs : List ℕ) (n k : ℕ) (w d : ℕ) → n + 1 + k ≡ length xs → get_or xs n d ≡ w → xs ≡ (take n xs ++ w ∷ []) ++ drop (n + 1) xs
parted xs n k w d is at =
    sym (take-append-drop (n + 1) xs)
    ∙ ap (λ (ys : List ℕ). ys ++ drop (n + 1) xs) (take_more xs n d (omega (arith, is)) ∙ ap (λ (x : ℕ). take n xs ++ x ∷ []) at)

module _ (m : Machine) (outside : Outside Space) (names : List Reference) (c : Config) (h : HeldBy outside names m c) where
  -- the word below so many references
  below-of : (n at w d : ℕ) → at + 1 + n ≡ length m.refs.own → m.frame.refs ≤ at → get_or m.refs.own at d ≡ w
      → Below m.objects outside names m.frame.refs (take at m.refs.own) (drop (at + 1) m.refs.own) w c
  below-of n at w d is low there =
      let xs = m.refs.own in
      let long = length-take-le at xs (omega (arith, is)) in
      below-popped m.objects outside names m.frame.refs (take at xs) (drop (at + 1) xs) w c
      (subst (λ (ys : List ℕ). IsRefRow m.objects outside names ys m.frame.refs c.refs c.locals.refs) (parted xs at n w d is there) h.refs_are) (omega (arith, long, low))

  pub has-below : (n at w d : ℕ) → at + 1 + n ≡ length m.refs.own → m.frame.refs ≤ at → get_or m.refs.own at d ≡ w → HasBelow outside n names m c (Some w)
  has-below n at w d is low there =
      let b = below-of n at w d is low there in
      let many : length (drop (at + 1) m.refs.own) ≡ n = omega (arith, is, length-drop (at + 1) m.refs.own) in
      (b.args, b.of, record c { refs = b.rest }, λ next. ap (λ (k : ℕ). pop_below k c next) (sym many) ∙ b.pops next, b.is)

  pub has-none-below : (n : ℕ) → length m.refs.own ≤ m.frame.refs + n → HasBelow outside n names m c None
  has-none-below n few next =
      let size = ref_length m.objects outside names m.frame.refs m.refs.own c.refs c.locals.refs h.refs_are in
      too-few-refs n [] c next (omega (arith, few, size))

  -- What is popped for a call: the references, the procedure, and the numbers where there are enough.
  module _ (refs nums at : ℕ) (refs_are : at + 1 + refs ≡ length m.refs.own) (refs_low : m.frame.refs ≤ at) (line : Line) (of : UnitView) (scope : Option ℕ) where
    abbrev pub word_there : ℕ
    word_there = get_or m.refs.own at 0

    pub under : Below m.objects outside names m.frame.refs (take at m.refs.own) (drop (at + 1) m.refs.own) word_there c
    under = below-of refs at word_there 0 refs_are refs_low refl

    pub many : length (drop (at + 1) m.refs.own) ≡ refs
    many = omega (arith, refs_are, length-drop (at + 1) m.refs.own)

    -- the step after the references
    pub behind-refs : call_popped refs nums line of scope c
        ≡ pop_nums nums [] (record c { refs = under.rest }) (λ zs e. called (length e.callers) line of scope zs under.args e)
    behind-refs =
        ap (λ (k : ℕ). call_popped k nums line of scope c) (sym many)
        ∙ under.pops (λ vs v d. pop_nums nums [] d (λ zs e. called (length e.callers) line of scope zs vs e))

    pub stuck-call : length m.nums.own < m.frame.nums + nums → call_popped refs nums line of scope c ≡ Stuck
    stuck-call few =
        let size = row_length m.frame.nums m.nums.own c.nums c.locals.nums h.nums_are in
        behind-refs ∙ too-few-nums nums [] (record c { refs = under.rest }) _ (omega (arith, few, size))

    module _ (low : ℕ) (nums_are : low + nums ≡ length m.nums.own) (nums_low : m.frame.nums ≤ low) where
      pub taken : (rest : List ℤ) × ((next : List ℤ → Config → Step) → pop_nums (length (drop low m.nums.own)) [] (record c { refs = under.rest }) next ≡ next (drop low m.nums.own) (record c { refs = under.rest; nums = rest }))
          × IsRow (take low m.nums.own) m.frame.nums rest c.locals.nums
      taken =
          args-popped m.frame.nums (take low m.nums.own) (drop low m.nums.own) (record c { refs = under.rest })
          (subst (λ (zs : List ℤ). IsRow zs m.frame.nums c.nums c.locals.nums) (sym (take-append-drop low m.nums.own)) h.nums_are)
          (let long = length-take-le low m.nums.own (omega (arith, nums_are)) in omega (arith, long, nums_low))

      -- the body that calls, but for what was popped
      abbrev pub left : Config
      left = record c { refs = under.rest; nums = taken.0 }

      abbrev pub args : List ℤ
      args = drop low m.nums.own

      pub behind-all : call_popped refs nums line of scope c ≡ called (length c.callers) line of scope args under.args left
      behind-all =
          behind-refs
          ∙ ap (λ (k : ℕ). pop_nums k [] (record c { refs = under.rest }) (λ zs e. called (length e.callers) line of scope zs under.args e))
          (let long = length-drop low m.nums.own in omega (arith, nums_are, long))
          ∙ taken.1 (λ zs e. called (length e.callers) line of scope zs under.args e)

      pub deep : length c.callers ≡ length m.callers.items
      deep = as-many m.objects outside names m.callers.items m.nums.below m.refs.below c.callers h.callers_are

      pub too-deep : most_calls ≤ length m.callers.items → call_popped refs nums line of scope c ≡ Stops (Trapped TooDeep line) 0
      too-deep full =
          behind-all
          ∙ ap (λ (b : Bool). if b then in_turn (spent c.store) of scope args under.args left else Stops (Trapped TooDeep line) 0)
          (le-ltb (length c.callers) most_calls (omega (arith, full, deep)))

      module _ (few : length m.callers.items < most_calls) where
        pub in-a-turn : call_popped refs nums line of scope c ≡ in_turn (spent c.store) of scope args under.args left
        in-a-turn =
            behind-all
            ∙ ap (λ (b : Bool). if b then in_turn (spent c.store) of scope args under.args left else Stops (Trapped TooDeep line) 0)
            (lt-ltb (length c.callers) most_calls (omega (arith, few, deep)))

        pub out-of-turns : m.turns ≡ 0 → call_popped refs nums line of scope c ≡ Stops OutOfTurns 0
        out-of-turns none =
            in-a-turn ∙ ap (λ (n : ℕ). in_turn (with_turns c.store n) of scope args under.args left) (h.turns_are ∙ none)

        -- the body that is called
        module _ (t : ℕ) (one : m.turns ≡ suc t) where
          abbrev pub spent-store : Store
          spent-store = record (c.store) { turns = t }

          abbrev pub begun : Config
          begun = body_of_call of scope args under.args (on_held (touching (scope_ids scope) spent-store.held) spent-store) left

          pub goes-in : call_popped refs nums line of scope c ≡ Goes (Turn c.store.held.counted ∷ []) begun
          goes-in = in-a-turn ∙ ap (λ (n : ℕ). in_turn (with_turns c.store n) of scope args under.args left) (h.turns_are ∙ one)

          -- and it is what the machine holds that was entered
          module _ (body : Body) (is : IsBody m.objects outside names body of scope) (n_fit : nums ≤ body.frame.nums) (r_fit : refs ≤ body.frame.refs) (ns : Frames ℤ) (rs : Frames ℕ) (ws : Vec in_code.Caller Global)
              (put_nums : ns.own ≡ drop low m.nums.own ++ replicate (body.frame.nums - nums) (pos 0))
              (put_refs : rs.own ≡ drop (at + 1) m.refs.own ++ replicate (body.frame.refs - refs) 0)
              (callers : ws.items ≡ m.callers.items ++ caller_of m low (at + 1) ∷ [])
              (kept_nums : ns.below ≡ m.nums.below ++ take low m.nums.own)
              (kept_refs : rs.below ≡ m.refs.below ++ take (at + 1) m.refs.own) where
            waits : IsWaiting m.objects outside names (caller_of m low (at + 1)) (take low m.nums.own) (take at m.refs.own) (waiting left)
            waits = record {
              unit_is = h.unit_is;
              fit = h.fit;
              frame_is = h.frame_is;
              at_is = h.at_is;
              scope_is = h.scope_is;
              nums_are = taken.2;
              refs_are = under.row;
            }

            abbrev pub last : Last ws.items ns.below rs.below
            last = record {
              below = m.callers.items;
              last = caller_of m low (at + 1);
              low_nums = m.nums.below;
              own_nums = take low m.nums.own;
              low_refs = m.refs.below;
              own_refs = take at m.refs.own;
              called = word_there;
              callers_are = callers;
              nums_are = kept_nums;
              refs_are = kept_refs ∙ ap (λ (xs : List ℕ). m.refs.below ++ xs) (take_more m.refs.own at 0 (omega (arith, refs_are)));
              nums_count = length-take-le low m.nums.own (omega (arith, nums_are));
              refs_count = let long = length-take-le at m.refs.own (omega (arith, refs_are)) in omega (arith, long);
            }

            num-row : IsRow ns.own body.frame.nums [] (λ slot. get_or args slot (pos 0))
            num-row =
                subst (λ (xs : List ℤ). IsRow xs body.frame.nums [] (λ slot. get_or args slot (pos 0))) (sym put_nums)
                (args-row args (body.frame.nums - nums) body.frame.nums (let long = length-drop low m.nums.own in omega (arith, long, nums_are, n_fit)))

            ref-row : IsRefRow m.objects outside names rs.own body.frame.refs [] (λ slot. get_or under.args slot Nil)
            ref-row =
                subst (λ (xs : List ℕ). IsRefRow m.objects outside names xs body.frame.refs [] (λ slot. get_or under.args slot Nil)) (sym put_refs)
                (refs-row m.objects outside names (nil-denoted m.objects outside names) (drop (at + 1) m.refs.own) under.args (body.frame.refs - refs) body.frame.refs under.are
                (let long = length-drop (at + 1) m.refs.own in omega (arith, long, refs_are, r_fit)))

            pub held-in : HeldBy outside names (record (entered m body ns rs ws) { turns = t }) begun
            held-in = record {
              unit_is = is.unit_is;
              fit = is.fit;
              frame_is = is.frame_is;
              at_is = refl;
              nums_are = num-row;
              refs_are = ref-row;
              scope_is = is.scope_is;
              callers_are = (last, waits, h.callers_are);
              input_is = h.input_is;
              turns_are = refl;
              run = run-touching names m.databases.writing.items m.databases.asked m.databases.directory c.store.held m.objects outside (scope_ids scope) h.run;
            }
