-- Vectors of what was popped at once.
use Rattle.machine_core.specs.Holding.{world_in}
use Rattle.std.proofs.Common.{◌≡◌, ℕ, ℤ, true, false, suc, List, [], ◌∷◌, Some, None, length, replicate, refl, sym, ap, ◌∙◌, subst}
use Rattle.std.specs.Prelude.{Result, IfOk}
use Rattle.std.proofs.lemmas.List.{length-replicate}
use Rattle.ps_base.specs.declared.line.Line.{Line}
use Rattle.machine_core.specs.ps_outside.Outside.{Outside}
use Rattle.machine_core.specs.obj_layout.Stored.{Space}
use Rattle.machine_core.specs.obj_layout.declared.reference.Reference.{Reference}
use Rattle.machine_core.specs.swizzle.Heap as area
use Rattle.machine_core.specs.swizzle.Heap.{IsHeld}
use Rattle.machine_core.specs.swizzle.Touch.{Keeps}
use Rattle.machine_core.specs.text_forms.declared.forms.Form.{Form}
use Rattle.machine_core.specs.text_forms.declared.forms.Form.TheVariants as form
use Rattle.machine_core.specs.text_forms.Forms.{element_of, is_number_form}
use Rattle.machine_core.specs.heap_places.declared.value.Value as code
use Rattle.machine_core.specs.heap_texts.declared.fault.OpFault.{OpFault}
use Rattle.machine_core.specs.ps_heap.Values.{Value, Text, Vector}
use Rattle.machine_core.specs.ps_heap.Objects.{Heap, vector_of}
use Rattle.machine_core.specs.ps_stepping.Config.{Config}
use Rattle.machine_core.specs.ps_stepping.Steps.{Step, attempted, pop_num}
use Rattle.machine_core.specs.ps_stepping.Objects.{make, pop_nums, pop_refs}
use Rattle.machine_core.specs.joint_ops.World.{IsWorld, DenotesIn}
use Rattle.machine_core.specs.joint_ops.Operands.{AreForIn}
use Rattle.machine_core.specs.joint_ops.Made.{Makes}
use Rattle.machine_core.specs.declared.machine.Machine.{Machine}
use Rattle.machine_core.specs.declared.stepped.Stepped.{Stepped}
use Rattle.machine_core.specs.declared.stepped.Stepped.TheVariants.{Damaged}
use Rattle.machine_core.specs.Naming.{NamesObjects}
use Rattle.machine_core.specs.inside.Taking.{Leaves, Taken}
use Rattle.machine_core.proofs.Carrying.{size-behind}
use Rattle.machine_operands.specs.Giving.{GivesObject, vectors}
use Rattle.machine_operands.proofs.Reading.{names-kept}
use Rattle.machine_vectors.specs.inside.Making.{ListsValues, TakesType, listed, numbers_listed, references_listed}
use Rattle.machine_vectors.specs.inside.Taking.{LeavesObjects, TakesNumbers, TakesReferences, kept_values}
use Rattle.machine_vectors.proofs.Parts.{denotes-there, does-as, does-there, size-there}
use Rattle.machine_vectors.proofs.ElementReads.{number-row, reference-row}

-- values of some forms are as many as these
are-many : (here : area.Heap) (out : Outside Space) (names : List Reference) (fs : List Form) (ks : List code.Value) (vs : List Value)
    → AreForIn here out names fs ks vs → length ks ≡ length fs
are-many here out names [] [] [] are = refl
are-many here out names (f ∷ fs) (k ∷ ks) (v ∷ vs) are = ap suc (are-many here out names fs ks vs are.2)
are-many here out names [] [] (v ∷ vs) are = absurd are
are-many here out names [] (k ∷ ks) vs are = absurd are
are-many here out names (f ∷ fs) [] vs are = absurd are
are-many here out names (f ∷ fs) (k ∷ ks) [] are = absurd are

-- so many of one form
all-formed : (here : area.Heap) (out : Outside Space) (names : List Reference) (n : ℕ) (f g : Form) (ks : List code.Value) (vs : List Value) → g ≡ f
    → AreForIn here out names (replicate n f) ks vs → AreForIn here out names (replicate (length ks) g) ks vs
all-formed here out names n f g ks vs same are =
    let many : length ks ≡ n = are-many here out names (replicate n f) ks vs are ∙ length-replicate n f in
    subst (λ (x : Form). AreForIn here out names (replicate (length ks) x) ks vs) (sym same)
    (subst (λ (i : ℕ). AreForIn here out names (replicate i f) ks vs) (sym many) are)

-- A lower bound was popped.
module _ (out : Outside Space) (ty : ℕ) (line : Line) (m one : Machine) (left : Leaves m one) where
  pub no-lower : NamesObjects one → Taken out pop_num m one None → ListsValues out ty line m one Damaged
  no-lower n p = record {
    sound = left.sound;
    names = n;
    size = ap (λ (here : area.Heap). here.size) left.objects;
    does = λ names c text elements h d are. p.gives names c h (λ low e. attempted line (vector_of text low elements) (λ object. make Vector object e));
  }

  pub list-made : (low lower : ℤ) → lower ≡ low → Taken out pop_num m one (Some low) → NamesObjects one → (now : area.Heap) (new : Machine) (r : Stepped)
      (made : Result ℕ OpFault) → Keeps one.objects now → IfOk made (IsHeld now)
      → ((of : Heap) (names : List Reference) (text : List ℕ) (elements : List Value) → IsWorld one.objects out of names
      → DenotesIn one.objects out names (Some ty) (Text text)
      → AreForIn one.objects out names (replicate (length one.values.items) (element_of text)) one.values.items elements
      → Makes one.objects now out of names Vector (vector_of text lower elements) made)
      → GivesObject out line (record one { objects = now }) new r made → ListsValues out ty line m new r
  list-made low lower same p n now new r made keeps there makes g = record {
    sound = g.ends.sound;
    names = g.ends.names (names-kept one now keeps n) there;
    size = size-there m one left.objects r new (size-behind r one.objects.size now.size new.objects.size keeps.size g.ends.size);
    does = λ names c text elements h d are.
        let i = p.gives names c h in
        let s = attempted line (vector_of text low elements) (λ object. make Vector object i.0) in
        let are_values = subst (λ (ks : List code.Value). AreForIn m.objects out names (replicate (length ks) (element_of text)) ks elements)
        (sym (ap (λ w. w.items) left.values)) are in
        let are_there = subst (λ (here : area.Heap). AreForIn here out names (replicate (length one.values.items) (element_of text)) one.values.items elements)
        (sym left.objects) are_values in
        let did = subst (λ (x : ℤ). Makes one.objects now out i.0.store.held.objects names Vector (vector_of text x elements) made) same
        (makes i.0.store.held.objects names text elements (world_in i.2.run) (denotes-there m one left.objects out names (Some ty) (Text text) d) are_there) in
        does-as out out m.objects.size (listed line text elements c) s r new
        (i.1 (λ low e. attempted line (vector_of text low elements) (λ object. make Vector object e)))
        (does-there m one left.objects out out s r new (g.does one.objects names i.0 Vector (vector_of text low elements) vectors i.2 did));
  }

-- The elements were popped before it.
module _ (out : Outside Space) (ty n : ℕ) (line : Line) (m one : Machine) (left : LeavesObjects m one) (named : NamesObjects m) (f : Form)
    (typed : (names : List Reference) (text : List ℕ) → DenotesIn m.objects out names (Some ty) (Text text) → element_of text ≡ f) where
  module _ (row : is_number_form f ≡ true) where
    in-row : (names : List Reference) (text : List ℕ) → DenotesIn m.objects out names (Some ty) (Text text) → is_number_form (element_of text) ≡ true
    in-row names text d = ap is_number_form (typed names text d) ∙ row

    pub few-numbers : TakesNumbers out f n m one false → TakesType out (numbers_listed n line) ty m one Damaged
    few-numbers p = record {
      sound = left.sound;
      names = left.names named;
      size = ap (λ (here : area.Heap). here.size) left.objects;
      does = λ names c text h d.
          let next : List ℤ → Config → Step = λ zs e. listed line text (kept_values (element_of text) zs) e in
          number-row (element_of text) (in-row names text d) (pop_nums n [] c next) ∙ p.gives names c h next;
    }

    pub numbers-made : TakesNumbers out f n m one true → (new : Machine) (r : Stepped) → ListsValues out ty line one new r
        → TakesType out (numbers_listed n line) ty m new r
    numbers-made p new r t = record {
      sound = t.sound;
      names = t.names;
      size = size-there m one left.objects r new t.size;
      does = λ names c text h d.
          let next : List ℤ → Config → Step = λ zs e. listed line text (kept_values (element_of text) zs) e in
          let i = p.gives names c h in
          let same = typed names text d in
          let s = listed line text (kept_values f i.1) i.0 in
          does-as out out m.objects.size (numbers_listed n line text c) s r new
          (number-row (element_of text) (in-row names text d) (pop_nums n [] c next) ∙ i.2 next ∙ ap (λ (x : Form). listed line text (kept_values x i.1) i.0) same)
          (does-there m one left.objects out out s r new
          (t.does names i.0 text (kept_values f i.1) i.3 (denotes-there m one left.objects out names (Some ty) (Text text) d)
          (all-formed one.objects out names n f (element_of text) one.values.items (kept_values f i.1) same i.4)));
    }

  module _ (row : f ≡ form.Reference) where
    in-other : (names : List Reference) (text : List ℕ) → DenotesIn m.objects out names (Some ty) (Text text) → is_number_form (element_of text) ≡ false
    in-other names text d = ap is_number_form (typed names text d ∙ row)

    pub few-references : TakesReferences out n m one false → TakesType out (references_listed n line) ty m one Damaged
    few-references p = record {
      sound = left.sound;
      names = left.names named;
      size = ap (λ (here : area.Heap). here.size) left.objects;
      does = λ names c text h d.
          let next : List Value → Config → Step = λ vs e. listed line text vs e in
          reference-row (element_of text) (in-other names text d) (pop_refs n [] c next) ∙ p.gives names c h next;
    }

    pub references-made : TakesReferences out n m one true → (new : Machine) (r : Stepped) → ListsValues out ty line one new r
        → TakesType out (references_listed n line) ty m new r
    references-made p new r t = record {
      sound = t.sound;
      names = t.names;
      size = size-there m one left.objects r new t.size;
      does = λ names c text h d.
          let next : List Value → Config → Step = λ vs e. listed line text vs e in
          let i = p.gives names c h in
          let s = listed line text i.1 i.0 in
          does-as out out m.objects.size (references_listed n line text c) s r new
          (reference-row (element_of text) (in-other names text d) (pop_refs n [] c next) ∙ i.2 next)
          (does-there m one left.objects out out s r new
          (t.does names i.0 text i.1 i.3 (denotes-there m one left.objects out names (Some ty) (Text text) d)
          (all-formed one.objects out names n form.Reference (element_of text) one.values.items i.1 (typed names text d ∙ row) i.4)));
    }
