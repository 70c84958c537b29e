-- Comparing two values of a type: what the machine's instruction for the type tells is what is meant.
use Rattle.std.proofs.Common.{◌≡◌, ℕ, ◌+◌, ℤ, Bool, List, ◌∷◌, ◌++◌, refl, ap, ◌∙◌}
use Rattle.ps_gen.specs.ps_base.TyView.{TyView}
use Rattle.ps_gen.specs.ps_base.Instr.{width_of}
use Rattle.ps_gen.specs.ps_base.declared.operator.Relation.{Relation}
use Rattle.ps_gen.specs.ps_base.declared.operator.Relation.TheVariants as relation
use Rattle.ps_stepping.specs.ps_heap.Operators.{relation_of}
use Rattle.ps_stepping.specs.ps_heap.Values.{Value, Text, Nil, Pointer, Vector, number_of, word_of}
use Rattle.ps_stepping.specs.ps_heap.Objects.{Heap}
use Rattle.ps_stepping.specs.ps_meaning.Meaning.{Frame, Store}
use Rattle.ps_stepping.specs.ps_meaning.Operations.{text_relation, compares}
use Rattle.ps_gen.specs.ps_emitter.Choices as choice
use Rattle.ps_stepping.specs.Config.{Config}
use Rattle.ps_stepping.specs.Machine.{Step, on, push_num, act}
use Rattle.ps_stepping.specs.Objects.{denoting_of}
use Rattle.ps_code_laws.specs.Fitting.{IsOf}
use Rattle.ps_code_laws.specs.Compiled.{compiled}
use Rattle.ps_code_laws.specs.Meets.{nums_left, refs_left}
use Rattle.ps_code_laws.proofs.Compiling.{relation_compiled}
use Rattle.ps_code_laws.proofs.Clauses.{IsNum, int, bool, IsObject, IsCompared}
use Rattle.ps_code_laws.proofs.Clauses as clause
use Rattle.ps_code_laws.proofs.Doing.{Way, place, Room, push_goes}

-- a value of the type of an object denotes one, or is nil
denotes : {ty : TyView} (heap : Heap) → IsObject ty → (v : Value) → IsOf heap ty v → (c : Config) (next : Value → Config → Step) →
    denoting_of (compiled v) c next ≡ next (compiled v) c
denotes heap clause.IsObject.pntr Nil is c next = refl
denotes heap clause.IsObject.pntr (Pointer id) is c next = refl
denotes heap clause.IsObject.pntr _ is c next = absurd is
denotes heap clause.IsObject.vector (Vector id) is c next = refl
denotes heap clause.IsObject.vector _ is c next = absurd is

module _ (w : Way) where
  words_act : (op : Relation) (p : ℕ) (a b : ℤ) (nums : List ℤ) (refs : List Value) (f : Frame) (store : Store) →
      act (choice.number_relation op) (place w p (b ∷ a ∷ nums) refs f store)
      ≡ on (place w (p + width_of (choice.number_relation op)) (number_of (relation_of op a b) ∷ nums) refs f store)
  words_act relation.Equal p a b nums refs f store = refl
  words_act relation.NotEqual p a b nums refs f store = refl
  words_act relation.Less p a b nums refs f store = refl
  words_act relation.LessEqual p a b nums refs f store = refl
  words_act relation.Greater p a b nums refs f store = refl
  words_act relation.GreaterEqual p a b nums refs f store = refl

  texts_act : (op : Relation) (p : ℕ) (a b : List ℕ) (nums : List ℤ) (refs : List Value) (f : Frame) (store : Store) → Room w 1 nums refs →
      act (choice.text_relation op) (place w p nums (Text b ∷ Text a ∷ refs) f store)
      ≡ on (place w (p + width_of (choice.text_relation op)) (number_of (text_relation op a b) ∷ nums) refs f store)
  texts_act relation.Equal p a b nums refs f store room = push_goes w (p + 1) _ nums refs f store room
  texts_act relation.NotEqual p a b nums refs f store room = push_goes w (p + 1) _ nums refs f store room
  texts_act relation.Less p a b nums refs f store room = push_goes w (p + 1) _ nums refs f store room
  texts_act relation.LessEqual p a b nums refs f store room = push_goes w (p + 1) _ nums refs f store room
  texts_act relation.Greater p a b nums refs f store room = push_goes w (p + 1) _ nums refs f store room
  texts_act relation.GreaterEqual p a b nums refs f store room = push_goes w (p + 1) _ nums refs f store room

  -- both values are taken, and the number that stands for the answer is left
  pub compare_acts : (heap : Heap) {op : Relation} {ty : TyView} → IsCompared op ty → (p : ℕ) (v u : Value) → IsOf heap ty v → IsOf heap ty u →
      (nums : List ℤ) (refs : List Value) (f : Frame) (store : Store) → Room w 1 nums refs →
      act (choice.compare op ty) (place w p (nums_left ty u ++ (nums_left ty v ++ nums)) (refs_left ty u ++ (refs_left ty v ++ refs)) f store)
      ≡ on (place w (p + width_of (choice.compare op ty)) (number_of (compares op ty v u) ∷ nums) refs f store)
  compare_acts heap {op = op} (clause.numbers int) p v u is of nums refs f store room = words_act op p (word_of v) (word_of u) nums refs f store
  compare_acts heap {op = op} (clause.numbers bool) p v u is of nums refs f store room = words_act op p (word_of v) (word_of u) nums refs f store
  compare_acts heap {op = op} clause.texts p (Text a) (Text b) is of nums refs f store room = texts_act op p a b nums refs f store room
  compare_acts heap clause.texts p (Text a) _ is of nums refs f store room = absurd of
  compare_acts heap clause.texts p _ u is of nums refs f store room = absurd is
  compare_acts heap (clause.alike clause.IsObject.pntr) p v u is of nums refs f store room =
      denotes heap clause.IsObject.pntr u of _ _ ∙ denotes heap clause.IsObject.pntr v is _ _
      ∙ ap (λ (b : Bool). push_num (number_of b) (place w (p + 1) nums refs f store)) (relation_compiled relation.Equal v u)
      ∙ push_goes w (p + 1) _ nums refs f store room
  compare_acts heap (clause.alike clause.IsObject.vector) p v u is of nums refs f store room =
      denotes heap clause.IsObject.vector u of _ _ ∙ denotes heap clause.IsObject.vector v is _ _
      ∙ ap (λ (b : Bool). push_num (number_of b) (place w (p + 1) nums refs f store)) (relation_compiled relation.Equal v u)
      ∙ push_goes w (p + 1) _ nums refs f store room
  compare_acts heap (clause.unlike clause.IsObject.pntr) p v u is of nums refs f store room =
      denotes heap clause.IsObject.pntr u of _ _ ∙ denotes heap clause.IsObject.pntr v is _ _
      ∙ ap (λ (b : Bool). push_num (number_of b) (place w (p + 1) nums refs f store)) (relation_compiled relation.NotEqual v u)
      ∙ push_goes w (p + 1) _ nums refs f store room
  compare_acts heap (clause.unlike clause.IsObject.vector) p v u is of nums refs f store room =
      denotes heap clause.IsObject.vector u of _ _ ∙ denotes heap clause.IsObject.vector v is _ _
      ∙ ap (λ (b : Bool). push_num (number_of b) (place w (p + 1) nums refs f store)) (relation_compiled relation.NotEqual v u)
      ∙ push_goes w (p + 1) _ nums refs f store room
