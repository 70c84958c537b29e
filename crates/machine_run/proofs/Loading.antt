-- A machine at the start of a unit.
use Rattle.std.proofs.Common.{◌≡◌, ℕ, ◌≤◌, ℤ, pos, List, [], length, replicate, Option, None, false, sym, ap, ◌∙◌, subst, arith, rules}
use Rattle.std.specs.Prelude.{All, reverse, vec_capacity}
use Rattle.machine_core.specs.ps_heap.ps_base.Limits.{most_databases}
use Rattle.std.proofs.lemmas.List.{get_or-replicate, drop_all, length-replicate}
use Rattle.std.proofs.lemmas.List.Elements.{All-nil, All-replicate}
use Rattle.ps_base.specs.CodeUnit.{UnitView, unit, no_constants, constants_view}
use Rattle.ps_base.specs.declared.code_unit.Constant.{Constant}
use Rattle.ps_base.specs.declared.code_unit.Frame.{Frame}
use Rattle.vault_output.specs.obj_layout.Stored.{Space}
use Rattle.vault_output.specs.obj_layout.declared.reference.Reference.{Reference}
use Rattle.machine_core.specs.ps_outside.Outside.{Outside}
use Rattle.machine_core.specs.swizzle.Heap as area
use Rattle.machine_core.specs.swizzle.Heap.{top_of, fresh_heap}
use Rattle.machine_core.specs.swizzle.Objects.{size_of}
use Rattle.machine_core.specs.swizzle.declared.fault.SwizzleFault.{SwizzleFault}
use Rattle.machine_core.specs.swizzle.declared.fault.SwizzleFault.TheVariants.{AreaFull}
use Rattle.machine_core.specs.ps_heap.Values.{Nil}
use Rattle.machine_core.specs.ps_stepping.Config.{frame_words, frame_in}
use Rattle.machine_core.specs.heap_texts.Texts.{wanted_of}
use Rattle.machine_core.specs.proc_values.Units.{IsCut, unit_objects}
use Rattle.machine_core.specs.proc_values.Reading.{IsPlaceOf}
use Rattle.machine_core.specs.proc_values.declared.reading.CodePlace.{CodePlace}
use Rattle.machine_core.specs.joint_ops.World.{IsUnitIn, DenotesIn, DenotesScopeIn}
use Rattle.machine_core.specs.joint_held.reach_commit.commit_walk.declared.homes.Source.{Source}
use Rattle.machine_core.specs.joint_held.Held.{HoldsRun}
use Rattle.machine_core.specs.Holding.{holding, run_in}
use Rattle.machine_core.proofs.RunLaws.{run-gained}
use Rattle.machine_core.specs.joint_ops.Code as code
use Rattle.machine_core.specs.joint_ops.Code.{unit_weight}
use Rattle.machine_core.specs.declared.machine.Machine.{Machine}
use Rattle.machine_core.specs.Items.{IsItem}
use Rattle.machine_core.specs.Rows.{IsRow, IsRefRow, AreDenoted, object_in}
use Rattle.machine_core.specs.declared.caller.Caller.{Caller}
use Rattle.machine_core.specs.Naming.{IsNamed, IsKept, NamesDatabases, naming}
use Rattle.machine_core.proofs.Words.{nil-denoted}
use Rattle.machine_run.specs.Loaded.{IsRoomy, IsFrame, IsLoaded, EndsBefore, HasNoRoom, no_locals}
use Rattle.machine_run.specs.inside.Beginning.{IsBegun}

-- a unit without code and constants
pub empty_unit : (code : List ℕ) (constants : List Constant) → code ≡ [] → constants ≡ [] → unit code (constants_view constants) no_locals ≡ unit [] no_constants no_locals
unfolding constants_view
empty_unit code constants no_bytes none =
    ap (λ (bytes : List ℕ). unit bytes (constants_view constants) no_locals) no_bytes ∙ ap (λ (cs : List Constant). unit [] (constants_view cs) no_locals) none

-- locals that are 0
row_of : (count : ℕ) → IsRow (replicate count (pos 0)) count [] (λ slot. pos 0)
row_of count =
    let long = length-replicate count (pos 0) in
    record {
      room = omega (arith, long);
      pushed_are = sym (ap (λ (xs : List ℤ). reverse xs) (drop_all count (replicate count (pos 0)) (omega (arith, long))));
      locals_are = λ slot d below. sym (get_or-replicate count slot (pos 0) d below);
    }

-- and locals that are nil
module _ (here : area.Heap) (outside : Outside Space) (names : List Reference) where
  -- no scope denotes itself
  no_scope_denoted : DenotesScopeIn here outside names None None
  no_scope_denoted = search rules

  ref_row_of : (count : ℕ) → IsRefRow here outside names (replicate count 0) count [] (λ slot. Nil)
  ref_row_of count =
      let long = length-replicate {A = ℕ} count 0 in
      record {
        room = omega (arith, long);
        pushed_are = subst (λ (xs : List ℕ). AreDenoted here outside names xs [])
            (sym (ap (λ (xs : List ℕ). reverse xs) (drop_all count (replicate count 0) (omega (arith, long))))) tt;
        locals_are = λ slot d below.
            subst (λ (w : ℕ). DenotesIn here outside names (object_in w) Nil) (sym (get_or-replicate count slot 0 d below)) (nil-denoted here outside names);
      }

none-named : (here : area.Heap) (count : ℕ) → All (λ word. IsNamed here word) (replicate count 0)
none-named here count = All-replicate (λ word. IsNamed here word) count 0 tt

-- In an empty area the objects that were made begin at word 1.
ends-before : (u : UnitView) (made : area.Heap) (top wanted size words : ℕ) → IsCut (fresh_heap words) made (unit_objects 1 u) (AreaFull top wanted size)
    → EndsBefore (unit_objects 1 u) top wanted
ends-before u made top wanted size words cut =
    let told : AreaFull top wanted size ≡ AreaFull (top_of made) (wanted_of (size_of cut.next)) made.size = cut.fault_is in
    let t : top ≡ top_of made = cc in
    let w : wanted ≡ wanted_of (size_of cut.next) = cc in
    record { made = cut.front; next = cut.next; rest = cut.rest; objects_are = cut.cut; top_is = t ∙ ap top_of cut.made; wanted_is = w }

module _ (outside : Outside Space) (u : UnitView) (turns : ℕ) (input : List ℕ) (old mid new : Machine) (at : ℕ) (place : CodePlace) (frame : Frame)
    (framed : frame ≡ frame_in u) (fits : IsFrame (frame_in u)) (fresh : area.Heap) (empty : fresh ≡ fresh_heap old.objects.size)
    (is : code.IsLoaded fresh mid.objects outside u at) (keeps : mid.objects.size ≡ fresh.size) (there : IsPlaceOf mid.objects at place)
    (read : mid.input ≡ input) (b : IsBegun at place frame turns mid new) where
  nums_fit : frame.nums ≤ frame_words
  nums_fit = subst (λ (f : Frame). f.nums ≤ frame_words) (sym framed) fits.nums_fit

  refs_fit : frame.refs ≤ frame_words
  refs_fit = subst (λ (f : Frame). f.refs ≤ frame_words) (sym framed) fits.refs_fit

  abbrev here : area.Heap
  here = new.objects

  -- no database is open, and none is known
  none-open : most_databases ≤ vec_capacity new.databases.writing → NamesDatabases here new.databases.writing.items new.databases.directory (vec_capacity new.databases.writing)
  none-open room =
      subst (λ (ds : List Source). NamesDatabases here ds new.databases.directory (vec_capacity new.databases.writing)) (sym b.writing)
      (subst (λ (d : Option ℕ). NamesDatabases here [] d (vec_capacity new.databases.writing)) (sym b.directory)
      (naming tt (λ place at below is. absurd (omega (arith, below))) room))

  -- the machine begins
  pub begins : IsLoaded outside u turns input old new
  begins =
      let nums = ap length b.nums in
      let refs = ap length b.refs in
      let many_nums = length-replicate frame.nums (pos 0) in
      let many_refs = length-replicate {A = ℕ} frame.refs 0 in
      let own = ap (λ (f : Frame). f.nums) b.frame_is in
      let own_refs = ap (λ (f : Frame). f.refs) b.frame_is in
      let objects = b.objects in
      let low_nums = nums_fit in
      let low_refs = refs_fit in
      let more_nums = b.roomy.room.nums_room in
      let more_refs = b.roomy.room.refs_room in
      let no_nums = ap length b.nums_below in
      let no_refs = ap length b.refs_below in
      let none : List ℕ = [] in
      record {
        frame = fits;
        sound = record {
          nums_fit = omega (arith, nums, many_nums, own);
          refs_fit = omega (arith, refs, many_refs, own_refs);
          nums_below = omega (arith, nums, many_nums, low_nums);
          refs_below = omega (arith, refs, many_refs, low_refs);
          nums_room = omega (arith, more_nums, no_nums);
          refs_room = omega (arith, more_refs, no_refs);
          values_room = b.roomy.values_room;
          waiting = b.orderly;
        };
        named = record {
          code = subst (λ (n : ℕ). IsPlaceOf here n new.place) (sym b.code_is)
              (subst (λ (p : CodePlace). IsPlaceOf here at p) (sym b.place_is) (subst (λ (h : area.Heap). IsPlaceOf h at place) (sym objects) there));
          scope = subst (IsNamed here) (sym b.scope) tt;
          own = subst (λ (xs : List ℕ). All (λ word. IsNamed here word) xs) (sym b.refs) (none-named here frame.refs);
          below = subst (λ (xs : List ℕ). All (λ word. IsNamed here word) xs) (sym b.refs_below) (All-nil (λ word. IsNamed here word));
          callers = subst (λ (cs : List Caller). All (λ caller. IsKept here caller) cs) (sym b.callers) (All-nil (λ caller. IsKept here caller));
          item = subst (IsItem here) (sym b.item) tt;
          databases = none-open b.roomy.databases_room;
        };
        roomy = b.roomy;
        size = ap (λ (h : area.Heap). h.size) objects ∙ keeps ∙ ap (λ (h : area.Heap). h.size) empty;
        top = let top = is.top in let was = ap top_of empty in let now = ap top_of objects in omega (arith, top, was, now);
        starts = λ constants store g.
            let was = subst (λ (h : area.Heap). HoldsRun h outside g.names [] None store.held) (sym empty) g.run in
            let run = run-gained g.names [] false None store.held fresh mid.objects outside outside (is.gains constants) (holding g.unasked was) in
            let here_run = subst (λ (h : area.Heap). HoldsRun h outside g.names [] None store.held) (sym objects) (run_in run) in
            record {
              names = g.names;
              held = record {
                unit_is = subst (λ (h : area.Heap). IsUnitIn h outside new.code u) (sym objects) (subst (λ (n : ℕ). IsUnitIn mid.objects outside n u) (sym b.code_is) is.is);
                fit = is.fit;
                frame_is = sym framed ∙ sym b.frame_is;
                at_is = sym b.at;
                nums_are = subst (λ (f : Frame). IsRow new.nums.own f.nums [] (λ slot. pos 0)) (sym b.frame_is)
                    (subst (λ (xs : List ℤ). IsRow xs frame.nums [] (λ slot. pos 0)) (sym b.nums) (row_of frame.nums));
                refs_are = subst (λ (f : Frame). IsRefRow here outside g.names new.refs.own f.refs [] (λ slot. Nil)) (sym b.frame_is)
                    (subst (λ (xs : List ℕ). IsRefRow here outside g.names xs frame.refs [] (λ slot. Nil)) (sym b.refs) (ref_row_of here outside g.names frame.refs));
                scope_is = subst (λ (w : ℕ). DenotesScopeIn here outside g.names (object_in w) None) (sym b.scope) (no_scope_denoted here outside g.names);
                callers_are = (b.callers, b.nums_below, b.refs_below);
                input_is = b.input ∙ read ∙ sym g.input_is;
                turns_are = g.turns_are ∙ sym b.turns_are;
                run = holding (g.unasked ∙ sym b.asked)
                    (subst (λ (ss : List Source). HoldsRun here outside g.names ss new.databases.directory store.held) (sym b.writing)
                    (subst (λ (to : Option ℕ). HoldsRun here outside g.names [] to store.held) (sym b.directory) here_run));
              };
            };
      }

-- There was no room for all objects of the unit: some were made, and the next one didn't fit.
pub no-room : (u : UnitView) (old new : Machine) (mid : area.Heap) (fault : SwizzleFault) → IsFrame (frame_in u) → IsRoomy new → mid ≡ fresh_heap old.objects.size
    → new.objects.size ≡ mid.size → code.HasNoRoom mid u fault → IsCut mid new.objects (unit_objects (top_of mid) u) fault → HasNoRoom u old new fault
no-room u old new mid fault frame roomy fresh keeps is cut =
    let of_size : mid.size ≡ old.objects.size = ap (λ (h : area.Heap). h.size) fresh in
    let was : top_of mid ≡ 1 = ap top_of fresh in
    let full = is.full in
    let within = is.within in
    let fault_is : fault ≡ AreaFull is.top is.wanted old.objects.size = is.fault_is ∙ ap (λ (n : ℕ). AreaFull is.top is.wanted n) of_size in
    record {
      top = is.top;
      wanted = is.wanted;
      fault_is = fault_is;
      frame = frame;
      roomy = roomy;
      size = keeps ∙ of_size;
      full = omega (arith, full, of_size);
      ends = ends-before u new.objects is.top is.wanted old.objects.size old.objects.size
          (subst (λ (h : area.Heap). IsCut h new.objects (unit_objects (top_of h) u) (AreaFull is.top is.wanted old.objects.size)) fresh
          (subst (λ (f : SwizzleFault). IsCut mid new.objects (unit_objects (top_of mid) u) f) fault_is cut));
      within = omega (arith, within, was);
      passed = omega (arith, full, of_size, within, was);
    }
