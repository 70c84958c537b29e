-- Vectors whose elements are all the same.
use Rattle.machine_core.specs.Holding.{world_in}
use Rattle.std.proofs.Common.{◌≡◌, ℕ, ℤ, true, false, List, Option, Some, None, sym, ap, ◌∙◌, subst}
use Rattle.std.specs.Prelude.{Result, IfOk}
use Rattle.ps_base.specs.declared.line.Line.{Line}
use Rattle.machine_core.specs.ps_outside.Outside.{Outside}
use Rattle.machine_core.specs.obj_layout.Stored.{Space}
use Rattle.machine_core.specs.obj_layout.declared.reference.Reference.{Reference}
use Rattle.machine_core.specs.swizzle.Heap as area
use Rattle.machine_core.specs.swizzle.Heap.{IsHeld}
use Rattle.machine_core.specs.swizzle.Touch.{Keeps}
use Rattle.machine_core.specs.text_forms.declared.forms.Form.{Form}
use Rattle.machine_core.specs.text_forms.Forms.{element_of, is_number_form}
use Rattle.machine_core.specs.heap_places.declared.value.Value as code
use Rattle.machine_core.specs.heap_places.declared.value.Value.TheVariants as held
use Rattle.machine_core.specs.heap_texts.declared.fault.OpFault.{OpFault}
use Rattle.machine_core.specs.ps_heap.Values.{Value, Num, Text, Vector}
use Rattle.machine_core.specs.ps_heap.Objects.{Heap, kept_as, filled_vector}
use Rattle.machine_core.specs.ps_stepping.Config.{Config}
use Rattle.machine_core.specs.ps_stepping.Steps.{Step, attempted, pop_num, pop_ref}
use Rattle.machine_core.specs.ps_stepping.Objects.{make}
use Rattle.machine_core.specs.joint_ops.World.{IsWorld, DenotesIn, IsForIn, IsOfForm}
use Rattle.machine_core.specs.joint_ops.Made.{Makes}
use Rattle.machine_core.specs.declared.machine.Machine.{Machine}
use Rattle.machine_core.specs.declared.stepped.Stepped.{Stepped}
use Rattle.machine_core.specs.declared.stepped.Stepped.TheVariants.{Damaged}
use Rattle.machine_core.specs.Naming.{NamesObjects}
use Rattle.machine_core.specs.inside.Taking.{Leaves, Taken}
use Rattle.machine_core.proofs.Carrying.{size-behind}
use Rattle.machine_operands.specs.Giving.{GivesObject, vectors}
use Rattle.machine_operands.specs.Popping.{PopsAny}
use Rattle.machine_operands.proofs.Reading.{names-kept}
use Rattle.machine_vectors.specs.inside.Making.{FillsWith, TakesType, filled, numbers_filled, references_filled}
use Rattle.machine_operands.proofs.Parts.{both-leave}
use Rattle.machine_vectors.proofs.Parts.{denotes-there, does-as, does-there, size-there}
use Rattle.machine_vectors.proofs.ElementReads.{number-row, reference-row, reference-fits}

-- An upper and a lower bound were popped.
module _ (out : Outside Space) (ty : ℕ) (to : code.Value) (line : Line) (m one : Machine) (first : Leaves m one) where
  pub no-upper : NamesObjects one → Taken out pop_num m one None → FillsWith out ty to line m one Damaged
  no-upper n p = record {
    sound = first.sound;
    names = n;
    size = ap (λ (here : area.Heap). here.size) first.objects;
    does = λ names c text v h d form for.
        p.gives names c h (λ b d. pop_num d (λ a e. attempted line (filled_vector text a b v) (λ object. make Vector object e)));
  }

  module _ (high : ℤ) (p : Taken out pop_num m one (Some high)) (two : Machine) (second : Leaves one two) where
    pub no-lower : NamesObjects two → Taken out pop_num one two None → FillsWith out ty to line m two Damaged
    no-lower n q = record {
      sound = second.sound;
      names = n;
      size = ap (λ (here : area.Heap). here.size) (second.objects ∙ first.objects);
      does = λ names c text v h d form for.
          let i = p.gives names c h in
          i.1 (λ b d. pop_num d (λ a e. attempted line (filled_vector text a b v) (λ object. make Vector object e)))
          ∙ q.gives names i.0 i.2 (λ a e. attempted line (filled_vector text a high v) (λ object. make Vector object e));
    }

    pub filled-made : (low upper lower : ℤ) → upper ≡ high → lower ≡ low → Taken out pop_num one two (Some low) → NamesObjects two
        → (now : area.Heap) (new : Machine) (r : Stepped) (made : Result ℕ OpFault) → Keeps two.objects now → IfOk made (IsHeld now)
        → ((of : Heap) (names : List Reference) (text : List ℕ) (v : Value) → IsWorld two.objects out of names
        → DenotesIn two.objects out names (Some ty) (Text text) → IsOfForm (element_of text) to → IsForIn two.objects out names to v
        → Makes two.objects now out of names Vector (filled_vector text lower upper v) made)
        → GivesObject out line (record two { objects = now }) new r made → FillsWith out ty to line m new r
    filled-made low upper lower same_high same_low q n now new r made keeps there makes g =
        let left = both-leave m one two first second in
        record {
          sound = g.ends.sound;
          names = g.ends.names (names-kept two now keeps n) there;
          size = size-there m two left.objects r new (size-behind r two.objects.size now.size new.objects.size keeps.size g.ends.size);
          does = λ names c text v h d form for.
              let i = p.gives names c h in
              let j = q.gives names i.0 i.2 in
              let s = attempted line (filled_vector text low high v) (λ object. make Vector object j.0) in
              let did = makes j.0.store.held.objects names text v (world_in j.2.run) (denotes-there m two left.objects out names (Some ty) (Text text) d) form
              (subst (λ (here : area.Heap). IsForIn here out names to v) (sym left.objects) for) in
              let did = subst (λ (x : ℤ). Makes two.objects now out j.0.store.held.objects names Vector (filled_vector text x high v) made) same_low
              (subst (λ (x : ℤ). Makes two.objects now out j.0.store.held.objects names Vector (filled_vector text lower x v) made) same_high did) in
              does-as out out m.objects.size (filled line text v c) s r new
              (i.1 (λ b d. pop_num d (λ a e. attempted line (filled_vector text a b v) (λ object. make Vector object e)))
              ∙ j.1 (λ a e. attempted line (filled_vector text a high v) (λ object. make Vector object e)))
              (does-there m two left.objects out out s r new (g.does two.objects names j.0 Vector (filled_vector text low high v) vectors j.2 did));
        }

-- The value was popped before them.
module _ (out : Outside Space) (ty : ℕ) (line : Line) (m one : Machine) (first : Leaves m one) (f : Form)
    (typed : (names : List Reference) (text : List ℕ) → DenotesIn m.objects out names (Some ty) (Text text) → element_of text ≡ f) where
  module _ (row : is_number_form f ≡ true) where
    in-row : (names : List Reference) (text : List ℕ) → DenotesIn m.objects out names (Some ty) (Text text) → is_number_form (element_of text) ≡ true
    in-row names text d = ap is_number_form (typed names text d) ∙ row

    pub no-number : Taken out pop_num m one None → NamesObjects one → TakesType out (numbers_filled line) ty m one Damaged
    no-number p n = record {
      sound = first.sound;
      names = n;
      size = ap (λ (here : area.Heap). here.size) first.objects;
      does = λ names c text h d.
          let next : ℤ → Config → Step = λ z e. filled line text (kept_as (Some (element_of text)) (Num z)) e in
          number-row (element_of text) (in-row names text d) (pop_num c next) ∙ p.gives names c h next;
    }

    pub number-filled : (z : ℤ) → Taken out pop_num m one (Some z) → (to : code.Value) → IsOfForm f to
        → ((here : area.Heap) (names : List Reference) → IsForIn here out names to (kept_as (Some f) (Num z))) → (new : Machine) (r : Stepped)
        → FillsWith out ty to line one new r → TakesType out (numbers_filled line) ty m new r
    number-filled z p to form denotes new r t = record {
      sound = t.sound;
      names = t.names;
      size = size-there m one first.objects r new t.size;
      does = λ names c text h d.
          let next : ℤ → Config → Step = λ z e. filled line text (kept_as (Some (element_of text)) (Num z)) e in
          let i = p.gives names c h in
          let same = typed names text d in
          let s = filled line text (kept_as (Some f) (Num z)) i.0 in
          does-as out out m.objects.size (numbers_filled line text c) s r new
          (number-row (element_of text) (in-row names text d) (pop_num c next) ∙ i.1 next ∙ ap (λ (x : Form). filled line text (kept_as (Some x) (Num z)) i.0) same)
          (does-there m one first.objects out out s r new
          (t.does names i.0 text (kept_as (Some f) (Num z)) i.2 (denotes-there m one first.objects out names (Some ty) (Text text) d)
          (subst (λ (x : Form). IsOfForm x to) (sym same) form) (denotes one.objects names)));
    }

  module _ (row : is_number_form f ≡ false) where
    in-other : (names : List Reference) (text : List ℕ) → DenotesIn m.objects out names (Some ty) (Text text) → is_number_form (element_of text) ≡ false
    in-other names text d = ap is_number_form (typed names text d) ∙ row

    pub no-reference : PopsAny out m one None → NamesObjects one → TakesType out (references_filled line) ty m one Damaged
    no-reference p n = record {
      sound = first.sound;
      names = n;
      size = ap (λ (here : area.Heap). here.size) first.objects;
      does = λ names c text h d.
          reference-row (element_of text) (in-other names text d) (pop_ref c (λ v e. filled line text v e)) ∙ p.gives names c h (λ v e. filled line text v e);
    }

    pub reference-filled : (to : Option ℕ) → PopsAny out m one (Some to) → (new : Machine) (r : Stepped)
        → FillsWith out ty (held.Ref to) line one new r → TakesType out (references_filled line) ty m new r
    reference-filled to p new r t = record {
      sound = t.sound;
      names = t.names;
      size = size-there m one first.objects r new t.size;
      does = λ names c text h d.
          let i = p.gives names c h in
          let s = filled line text i.1 i.0 in
          does-as out out m.objects.size (references_filled line text c) s r new
          (reference-row (element_of text) (in-other names text d) (pop_ref c (λ v e. filled line text v e)) ∙ i.2 (λ v e. filled line text v e))
          (does-there m one first.objects out out s r new
          (t.does names i.0 text i.1 i.3 (denotes-there m one first.objects out names (Some ty) (Text text) d)
          (reference-fits (element_of text) to (in-other names text d)) i.4));
    }
