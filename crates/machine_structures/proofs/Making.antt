-- Structures that are made of the tops of both stacks.
use Rattle.std.proofs.Common.{◌≡◌, ℕ, ◌+◌, ◌<◌, ◌≤◌, ℤ, List, length, take, drop, Option, Some, refl, sym, ap, ◌∙◌, subst, arith}
use Rattle.std.specs.Prelude.{IfOk, Result, Ok}
use Rattle.std.specs.declared.alloc.Global.{Global}
use Rattle.std.specs.declared.vec.Vec.{Vec}
use Rattle.std.proofs.lemmas.List.{length-take-le}
use Rattle.ps_base.specs.CodeUnit.{UnitView, ConstantView, ConstantsView, unit, text}
use Rattle.ps_base.specs.declared.code_unit.Frame.{Frame}
use Rattle.ps_base.specs.declared.line.Line.{Line}
use Rattle.machine_core.specs.ps_outside.Outside.{Outside}
use Rattle.machine_core.specs.obj_layout.Stored.{Space}
use Rattle.machine_core.specs.obj_layout.declared.reference.Reference.{Reference}
use Rattle.machine_core.specs.swizzle.Heap as area
use Rattle.machine_core.specs.swizzle.Heap.{IsHeld}
use Rattle.machine_core.specs.swizzle.Reading.{LeavesOutside}
use Rattle.machine_core.specs.swizzle.Text.{text_at}
use Rattle.machine_core.specs.swizzle.Touch.{Keeps}
use Rattle.machine_core.specs.swizzle.declared.fault.SwizzleFault.{SwizzleFault}
use Rattle.machine_core.specs.frame_stack.Frames.{Frames}
use Rattle.machine_core.specs.text_forms.declared.forms.Rows.{Rows}
use Rattle.machine_core.specs.text_forms.Forms.{forms_of, rows_of}
use Rattle.machine_core.specs.heap_ops.Outcomes.{UnlessFault}
use Rattle.machine_core.specs.heap_places.declared.value.Value as code
use Rattle.machine_core.specs.heap_texts.declared.fault.OpFault.{OpFault}
use Rattle.machine_core.specs.ps_meaning.Meaning.{and_object}
use Rattle.machine_core.specs.ps_heap.Objects.{Heap, Structure, new_number}
use Rattle.machine_core.specs.ps_heap.Texts.{Yields}
use Rattle.machine_core.specs.ps_heap.Values.{Value, Text, Pointer}
use Rattle.machine_core.specs.ps_stepping.Config.{Config, frame_words, constants_in, constant_at}
use Rattle.machine_core.specs.ps_stepping.Steps.{Step, Stuck, text_in}
use Rattle.machine_core.specs.ps_stepping.Objects.{make, make_structure}
use Rattle.machine_core.specs.joint_ops.World.{DenotesIn, IsUnitIn, IsWorld}
use Rattle.machine_core.specs.joint_ops.Code.{StandsBy}
use Rattle.machine_core.specs.joint_ops.Made.{Makes}
use Rattle.machine_core.specs.joint_ops.Operands.{AreForIn}
use Rattle.machine_core.specs.objects.Classes.{MakesLater, NamesClass}
use Rattle.machine_core.specs.objects.Makes.{AnswersRows, AreRowsFor, HasRows}
use Rattle.machine_core.specs.objects.declared.class_rows.ClassRows.{ClassRows}
use Rattle.machine_core.proofs.of_heap_ops.ClassLaws.{stands-kept}
use Rattle.machine_core.specs.declared.machine.Machine.{Machine}
use Rattle.machine_core.specs.declared.stepped.Stepped.{Stepped}
use Rattle.machine_core.specs.declared.stepped.Stepped.TheVariants.{Damaged}
use Rattle.machine_core.specs.Holding.{HeldBy, IsSound, words_of, world_in}
use Rattle.machine_core.specs.Stepped.{Does, Takes}
use Rattle.machine_core.proofs.Carrying.{does-behind, read-holds, size-behind}
use Rattle.machine_operands.specs.Constants.{EndsReading, ReadsConstant}
use Rattle.machine_operands.specs.Giving.{GivesObject, GivesStructure, structures}
use Rattle.machine_operands.proofs.Giving.{full-stuck}
use Rattle.machine_operands.proofs.Parts.{unless-fault}
use Rattle.machine_operands.proofs.Reading.{names-kept, same-constant}
use Rattle.machine_structures.specs.inside.Making.{AreLaid, structure_of}
use Rattle.machine_structures.proofs.ClassFields.{HasClass, class-follows, names-class}
use Rattle.machine_structures.proofs.FieldPops.{means}
use Rattle.machine_structures.proofs.LaidFields.{laid-for, rows-for}
use Rattle.machine_structures.proofs.StackTops.{few-nums-popped, few-refs-popped, fields-popped, held-popped, long-nums, long-refs, names-popped, popped}

-- what is done with the values of the fields of a class
abbrev made_of : List ℕ → List Value → Config → Step
made_of class fields d = make Pointer (Structure class fields) d

-- The stacks have too few values, or the stack of references is full then.
module _ (outside : Outside Space) (m : Machine) (class : List ℕ) (names : List Reference) (c : Config) (h : HeldBy outside names m c) where
  pub few-nums : length m.nums.own < m.frame.nums + (rows_of (forms_of class)).nums → structure_of class c ≡ Stuck
  few-nums few = few-nums-popped outside names m (forms_of class) 0 0 c h few (made_of class)

  pub few-refs : length m.refs.own < m.frame.refs + (rows_of (forms_of class)).refs → structure_of class c ≡ Stuck
  few-refs few = few-refs-popped outside names m (forms_of class) 0 0 c h few (made_of class)

  pub too-full : (i j : ℕ) → m.frame.nums ≤ i → m.frame.refs ≤ j → i + (rows_of (forms_of class)).nums ≡ length m.nums.own
      → j + (rows_of (forms_of class)).refs ≡ length m.refs.own → frame_words ≤ j → structure_of class c ≡ Stuck
  too-full i j nums_low refs_low nums_count refs_count full =
      let p = fields-popped outside names m (forms_of class) i j nums_low refs_low nums_count refs_count c h in
      let vs = means (forms_of class) (drop i m.nums.own) p.tops in
      let d : Config = record c { nums = p.nums; refs = p.refs } in
      let nums : Frames ℤ = record { below = m.nums.below; own = take i m.nums.own; room = m.nums.room } in
      let refs : Frames ℕ = record { below = m.refs.below; own = take j m.refs.own; room = m.refs.room } in
      let held = held-popped m m.objects m.values nums refs i j refl refl refl refl outside names c p.nums p.refs h p.row p.ref_row in
      p.pops (made_of class)
      ∙ full-stuck (popped m m.objects m.values nums refs i j refl refl refl refl) outside d names (Pointer (new_number d.store.held.objects))
      (and_object (Structure class vs) d.store) held (omega (arith, full, length-take-le j m.refs.own (omega (arith, refs_count))))

-- A structure of a class with how its fields lie in rows.
module _ (outside : Outside Space) (m : Machine) (class : ClassRows) (has : HasRows m.objects class) where
  abbrev bytes : List ℕ
  bytes = text_at m.objects class.text

  nums-told : (rows_of (forms_of bytes)).nums ≡ class.fields.rows.nums
  nums-told = sym (ap (λ (r : Rows). r.nums) has.tells.rows)

  refs-told : (rows_of (forms_of bytes)).refs ≡ class.fields.rows.refs
  refs-told = sym (ap (λ (r : Rows). r.refs) has.tells.rows)

  pub too-few-nums : IsSound m → length m.nums.own < m.frame.nums + class.fields.rows.nums → Takes outside outside (structure_of bytes) m m Damaged
  too-few-nums sound few = record {
    sound = sound;
    names = λ n. n;
    size = refl;
    does = λ c h. few-nums outside m bytes h.names c h.held (omega (arith, few, nums-told));
  }

  pub too-few-refs : IsSound m → length m.refs.own < m.frame.refs + class.fields.rows.refs → Takes outside outside (structure_of bytes) m m Damaged
  too-few-refs sound few = record {
    sound = sound;
    names = λ n. n;
    size = refl;
    does = λ c h. few-refs outside m bytes h.names c h.held (omega (arith, few, refs-told));
  }

  module _ (i j : ℕ) (nums_low : m.frame.nums ≤ i) (refs_low : m.frame.refs ≤ j) (nums_count : i + class.fields.rows.nums ≡ length m.nums.own)
      (refs_count : j + class.fields.rows.refs ≡ length m.refs.own) (now : area.Heap) (nums : Frames ℤ) (refs : Frames ℕ)
      (nums_are : nums.own ≡ take i m.nums.own)
      (refs_are : refs.own ≡ take j m.refs.own) (nums_below : nums.below ≡ m.nums.below) (refs_below : refs.below ≡ m.refs.below) where
    abbrev left : Machine
    left = popped m now m.values nums refs i j nums_are refs_are nums_below refs_below

    pub rows-made : (made : Result ℕ OpFault) (new : Machine) (r : Stepped) (line : Line) → Keeps m.objects now → IfOk made (IsHeld now)
        → ((of : Heap) (names : List Reference) (values : List Value) → IsWorld m.objects outside of names
        → AreRowsFor m.objects outside names (forms_of bytes) (drop i m.nums.own) (drop j m.refs.own) values
        → Makes m.objects now outside of names Pointer (Yields (Structure bytes values)) made)
        → GivesObject outside line left new r made → Takes outside outside (structure_of bytes) m new r
    rows-made made new r line keeps held did give =
        let nums_all : i + (rows_of (forms_of bytes)).nums ≡ length m.nums.own = ap (λ (n : ℕ). i + n) nums-told ∙ nums_count in
        let refs_all : j + (rows_of (forms_of bytes)).refs ≡ length m.refs.own = ap (λ (n : ℕ). j + n) refs-told ∙ refs_count in
        record {
          sound = give.ends.sound;
          names = λ n. give.ends.names (names-popped m now m.values nums refs i j nums_are refs_are nums_below refs_below (stands-kept m.objects now keeps) n)
              held;
          size = size-behind r m.objects.size now.size new.objects.size keeps.size give.ends.size;
          does = λ c h.
              let fs = forms_of bytes in
              let p = fields-popped outside h.names m fs i j nums_low refs_low nums_all refs_all c h.held in
              let vs = means fs (drop i m.nums.own) p.tops in
              let d : Config = record c { nums = p.nums; refs = p.refs } in
              let rows = rows-for m.objects outside h.names fs (drop i m.nums.own) (drop j m.refs.own) p.tops p.are
              (long-nums outside h.names m fs i j nums_low refs_low nums_all refs_all)
              (long-refs outside h.names m fs i j nums_low refs_low nums_all refs_all) in
              subst (λ (s : Step). Does outside outside m.objects.size s r new) (sym (p.pops (made_of bytes)))
              (give.does m.objects h.names d Pointer (Yields (Structure bytes vs)) structures
              (held-popped m now m.values nums refs i j nums_are refs_are nums_below refs_below outside h.names c p.nums p.refs h.held p.row p.ref_row)
              (did c.store.held.objects h.names vs (world_in h.held.run) rows));
        }

-- The class of a constant was read before.
module _ (before mid after : Outside Space) (k : ℕ) (m : Machine) (now : area.Heap) where
  abbrev pub Told : Result (Option ClassRows) SwizzleFault → Type 0
  Told told = (code : List ℕ) (row : ConstantsView) (frame : Frame) → IsUnitIn m.objects before m.code (unit code row frame)
      → AnswersRows m.objects now before mid m.code row k told

  abbrev Kept : Type 0
  Kept = StandsBy m.objects now before mid m.code

  abbrev read : Machine
  read = record m { objects = now }

  told-of : (told : Result (Option ClassRows) SwizzleFault) → Told told → (u : UnitView) → IsUnitIn m.objects before m.code u
      → AnswersRows m.objects now before mid m.code (constants_in u) k told
  told-of told t (unit code row frame) is = t code row frame is

  -- then a structure of it is made
  pub class-made : (class : ClassRows) (new : Machine) (r : Stepped) → LeavesOutside before mid → Keeps m.objects now → Kept → Told (Ok (Some class))
      → Takes mid mid (structure_of (text_at now class.text)) read new r → Takes before mid (make_structure k) m new r
  class-made class new r left keeps kept told t = record {
    sound = t.sound;
    names = λ n. t.names (names-kept m now keeps n);
    size = size-behind r m.objects.size now.size new.objects.size keeps.size t.size;
    does = λ c h.
        let is = told-of (Ok (Some class)) told c.unit h.held.unit_is in
        let step : make_structure k c ≡ structure_of (text_at now class.text) c =
        ap (λ (o : Option ConstantView). text_in o (λ text. structure_of text c)) (same-constant (constants_in c.unit) k ∙ is) in
        subst (λ (s : Step). Does before mid m.objects.size s r new) (sym step)
        (does-behind before mid mid m.objects.size now.size (structure_of (text_at now class.text) c) r new left keeps.size
        (t.does c (record {
          names = h.names;
          held = read-holds m.objects now before mid h.names (words_of m) c h.held (kept c.unit h.held.unit_is c.store.held.objects h.names (world_in h.held.run));
        })));
  }

  -- or it is made some other way
  pub made-later : (new : Machine) (r : Stepped) → LeavesOutside before mid → Keeps m.objects now → Kept → Takes mid after (make_structure k) read new r
      → Takes before after (make_structure k) m new r
  made-later new r left keeps kept t = record {
    sound = t.sound;
    names = λ n. t.names (names-kept m now keeps n);
    size = size-behind r m.objects.size now.size new.objects.size keeps.size t.size;
    does = λ c h.
        does-behind before mid after m.objects.size now.size (make_structure k c) r new left keeps.size
        (t.does c (record {
          names = h.names;
          held = read-holds m.objects now before mid h.names (words_of m) c h.held (kept c.unit h.held.unit_is c.store.held.objects h.names (world_in h.held.run));
        }));
  }

-- By the text of the class, which is a constant of the code.
module _ (before mid : Outside Space) (k : ℕ) (old m : Machine) where
  module _ (at : ℕ) (bytes : List ℕ) (left : LeavesOutside before mid) (ends : EndsReading old m (Ok at)) (reads : ReadsConstant before mid k old m (Ok at))
      (spelled : (names : List Reference) (v : List ℕ) → DenotesIn m.objects mid names (Some at) (Text v) → bytes ≡ v) where
    -- the step goes on with the bytes that were read, in what the machine stands for still
    pub record GoesOn (names : List Reference) (c : Config) : Type 0 where
      pub held : HeldBy mid names m c
      pub step : make_structure k c ≡ structure_of bytes c
      pub named : NamesClass m.objects mid m.code k bytes

    goes-on : (names : List Reference) (c : Config) → HeldBy before names old c → GoesOn names c
    goes-on names c h =
        let g = reads.gives names c h in
        let same : g.0 ≡ bytes = sym (spelled names g.0 g.3) in
        let is : constant_at (constants_in c.unit) k ≡ Some (text bytes) = g.1 ∙ ap (λ (b : List ℕ). Some (text b)) same in
        let class : HasClass c.unit k = record { class = bytes; is = is } in
        record {
          held = g.2.held;
          step = class-follows c.unit k class (λ text. structure_of text c);
          named = names-class m.objects mid m.code k c.unit g.2.held.unit_is class;
        }

    -- the stacks have too few values, or no room
    pub stuck-by-text : ((names : List Reference) (c : Config) → HeldBy mid names m c → structure_of bytes c ≡ Stuck)
        → Takes before mid (make_structure k) old m Damaged
    stuck-by-text stuck = record {
      sound = ends.sound;
      names = λ n. ends.names;
      size = ends.size;
      does = λ c h. let g = goes-on h.names c h.held in g.step ∙ stuck h.names c g.held;
    }

    module _ (after : Outside Space) (i j : ℕ) (nums_low : m.frame.nums ≤ i) (refs_low : m.frame.refs ≤ j)
        (nums_count : i + (rows_of (forms_of bytes)).nums ≡ length m.nums.own)
        (refs_count : j + (rows_of (forms_of bytes)).refs ≡ length m.refs.own) (now : area.Heap) (values : Vec code.Value Global) (nums : Frames ℤ)
        (refs : Frames ℕ)
        (nums_are : nums.own ≡ take i m.nums.own) (refs_are : refs.own ≡ take j m.refs.own) (nums_below : nums.below ≡ m.nums.below)
        (refs_below : refs.below ≡ m.refs.below) where
      abbrev gone : area.Heap → Machine
      gone here = popped m here values nums refs i j nums_are refs_are nums_below refs_below

      pub made-by-text : (fields : List code.Value) (made : Result ℕ OpFault) (new : Machine) (r : Stepped)
          → AreLaid (forms_of bytes) (drop i m.nums.own) (drop j m.refs.own) fields → LeavesOutside mid after → UnlessFault made (Keeps m.objects now)
          → IfOk made (IsHeld now)
          → ((of : Heap) (names : List Reference) (class : List ℕ) (vs : List Value) → IsWorld m.objects mid of names → NamesClass m.objects mid m.code k class
          → AreForIn m.objects mid names (forms_of class) fields vs
          → MakesLater m.objects now mid after of names Pointer (Yields (Structure class vs)) made)
          → GivesStructure mid after (gone now) new r made → Takes before after (make_structure k) old new r
      made-by-text fields made new r laid leaves keeps held did give = record {
        sound = give.ends.sound;
        names = λ n.
            give.ends.names
            (unless-fault made (λ (e : Keeps m.objects now). names-popped m now values nums refs i j nums_are refs_are nums_below refs_below
            (stands-kept m.objects now e) ends.names) keeps)
            held;
        size = give.ends.size old.objects.size (unless-fault made (λ (e : Keeps m.objects now). e.size ∙ ends.size) keeps);
        does = λ c h.
            let g = goes-on h.names c h.held in
            let fs = forms_of bytes in
            let p = fields-popped mid h.names m fs i j nums_low refs_low nums_count refs_count c g.held in
            let vs = means fs (drop i m.nums.own) p.tops in
            let d : Config = record c { nums = p.nums; refs = p.refs } in
            let are = laid-for m.objects mid h.names fs (drop i m.nums.own) (drop j m.refs.own) fields p.tops laid p.are in
            subst (λ (s : Step). Does before after old.objects.size s r new) (sym (g.step ∙ p.pops (made_of bytes)))
            (does-behind before mid after old.objects.size m.objects.size (make Pointer (Structure bytes vs) d) r new left ends.size
            (give.does m.objects h.names d (Structure bytes vs) leaves
            (held-popped m now values nums refs i j nums_are refs_are nums_below refs_below mid h.names c p.nums p.refs g.held p.row p.ref_row)
            (did c.store.held.objects h.names bytes vs (world_in g.held.run) g.named are)));
      }
