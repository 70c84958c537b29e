-- Instructions that may trap, and those that push a value of a type: what the machine does is what is meant.
use Rattle.std.proofs.Common.{◌≡◌, ℕ, ℤ, List, ◌∷◌, ◌++◌, Option, Some, refl, ap, ◌∙◌}
use Rattle.ps_gen.specs.ps_base.TyView.{TyView}
use Rattle.ps_gen.specs.ps_base.TyView as types
use Rattle.ps_gen.specs.ps_base.CodeUnit.{ConstantView, text}
use Rattle.ps_gen.specs.ps_base.declared.line.Line.{Line}
use Rattle.ps_stepping.specs.text_forms.Classes.{form_of_type}
use Rattle.ps_stepping.specs.ps_heap.Values.{Value, Num, Text, Nil, Pointer, Nothing, word_of}
use Rattle.ps_stepping.specs.ps_heap.Held.{Held, Place, assigning, reading}
use Rattle.ps_stepping.specs.ps_heap.Texts.{Attempt, Yields, Fails}
use Rattle.ps_stepping.specs.ps_heap.Objects.{Heap, Object, new_number}
use Rattle.ps_stepping.specs.ps_meaning.Meaning.{Frame, Store, State, Meaning, give, stop, attempt, with_heap, change, read, assign, made, made_text, on_held, and_object, and_text}
use Rattle.ps_stepping.specs.ps_meaning.Operations.{kept_as}
use Rattle.ps_gen.specs.ps_emitter.Choices as choice
use Rattle.ps_stepping.specs.Config.{Config, constants_in, constant_at}
use Rattle.ps_stepping.specs.Machine.{Step, on, push_num, push_ref}
use Rattle.ps_stepping.specs.Steps.{text_in, with_text, attempted}
use Rattle.ps_stepping.specs.Objects.{holding, having, changed, make, make_text, object_of, when_number, when_reference}
use Rattle.ps_code_laws.specs.Fitting.{IsOf}
use Rattle.ps_code_laws.specs.Compiled.{compiled, compiled_object, compiled_heap, compiled_held, compiled_store, WeighsUnits}
use Rattle.ps_code_laws.specs.Meets.{nums_left, refs_left}
use Rattle.ps_code_laws.proofs.Compiling.{word_compiled, compiled_attempt, number_compiled, and_object_compiled}
use Rattle.ps_code_laws.proofs.HeldCompiling.{reading_compiled}
use Rattle.ps_code_laws.proofs.Clauses.{IsNum, int, bool, IsRef, str, pntr, vector, proc}
use Rattle.ps_code_laws.proofs.Operands.{Stand}
use Rattle.ps_code_laws.proofs.Doing.{IsQuietly, Way, place, Room, Does, stepped, push_goes, push_ref_goes}

-- Meanings that output nothing.

pub quiet_give : (v : Value) → IsQuietly (give v)
unfolding give
quiet_give v f s = refl

pub quiet_attempt : {A : Type 0} (line : Line) (a : Attempt A) (next : A → Meaning) → ((x : A) → IsQuietly (next x)) → IsQuietly (attempt line a next)
unfolding attempt stop
quiet_attempt line (Yields x) next h f s = h x f s
quiet_attempt line (Fails trap) next h f s = refl

pub quiet_with_heap : (next : Heap → Meaning) → ((heap : Heap) → IsQuietly (next heap)) → IsQuietly (with_heap next)
unfolding with_heap
quiet_with_heap next h f s = h s.store.held.objects f s

-- another thing is held
pub quiet_change : (v : Value) (does : Held → Held) → IsQuietly (change v does)
unfolding change
quiet_change v does f s = refl

pub quiet_made : (denoting : ℕ → Value) (object : Object) → IsQuietly (made denoting object)
unfolding made
quiet_made denoting object f s = refl

pub quiet_made_text : (bytes : List ℕ) → IsQuietly (made_text bytes)
unfolding made_text
quiet_made_text bytes f s = refl

pub quiet_read : (line : Line) (a : Heap → Attempt Value) → IsQuietly (with_heap (λ heap. attempt line (a heap) read))
quiet_read line a =
    quiet_with_heap (λ heap. attempt line (a heap) read) (λ heap. quiet_attempt line (a heap) read (λ v. quiet_change v (reading v)))

pub quiet_put : (line : Line) (a : Heap → Attempt Heap) (place : Heap → Place) →
    IsQuietly (with_heap (λ heap. attempt line (a heap) (assign (place heap))))
quiet_put line a place =
    quiet_with_heap (λ heap. attempt line (a heap) (assign (place heap)))
    (λ heap. quiet_attempt line (a heap) (assign (place heap)) (λ new. quiet_change Nothing (assigning (place heap) new)))

-- the instruction for a type of numbers, and for one of references
pub at_num : (w : Way) {ty : TyView} {p : ℕ} (i j : _) → IsNum ty → Stand w p (choice.by_type ty i j) → Stand w p i
at_num w i j int h = h
at_num w i j bool h = h

pub at_ref : (w : Way) {ty : TyView} {p : ℕ} (i j : _) → IsRef ty → Stand w p (choice.by_type ty i j) → Stand w p j
at_ref w i j str h = h
at_ref w i j pntr h = h
at_ref w i j vector h = h
at_ref w i j proc h = h

-- a place of a type of numbers, and one of a type of references
pub number_form : {ty : TyView} → IsNum ty → (s : Step) → when_number (Some (form_of_type ty)) s ≡ s
number_form int s = refl
number_form bool s = refl

pub reference_form : {ty : TyView} → IsRef ty → (s : Step) → when_reference (Some (form_of_type ty)) s ≡ s
reference_form str s = refl
reference_form pntr s = refl
reference_form vector s = refl
reference_form proc s = refl

-- a number is kept as the value is
pub kept_word : {ty : TyView} → IsNum ty → (v : Value) →
    kept_as (Some (form_of_type ty)) (Num (word_of v)) ≡ compiled (kept_as (Some (form_of_type ty)) v)
kept_word int v = refl
kept_word bool v = refl

-- a value of type pntr is nil or a structure
pub object_pops : (heap : Heap) (v : Value) → IsOf heap types.Pntr v → (c : Config) (next : Value → Config → Step) →
    object_of (compiled v) c next ≡ next (compiled v) c
object_pops heap Nil is c next = refl
object_pops heap (Pointer id) is c next = refl
object_pops heap _ is c next = absurd is

module _ (w : Way) where
  -- the constant of this number is a text
  pub text_there : (k : ℕ) (bytes : List ℕ) (c : Config) (next : List ℕ → Step) → constant_at (constants_in c.unit) k ≡ Some (text bytes) →
      with_text k c next ≡ next bytes
  text_there k bytes c next is = ap (λ (found : Option ConstantView). text_in found next) is

  pub attempt_steps : {A : Type 0} (k : ℕ) (nums : List ℤ) (refs : List Value) (ty : TyView) (f : Frame) (s : State) (line : Line) (a : Attempt A)
      (next : A → Step) (meant : A → Meaning) → ((x : A) → next x ≡ stepped w k nums refs ty (meant x f s)) →
      attempted line a next ≡ stepped w k nums refs ty (attempt line a meant f s)
  unfolding attempt stop
  attempt_steps k nums refs ty f s line (Yields x) next meant h = h x
  attempt_steps k nums refs ty f s line (Fails trap) next meant h = refl

  attempt_compiled : {A : Type 0} (by : A → A) (k : ℕ) (nums : List ℤ) (refs : List Value) (ty : TyView) (f : Frame) (s : State) (line : Line)
      (a : Attempt A) (next : A → Step) (meant : A → Meaning) → ((x : A) → next (by x) ≡ stepped w k nums refs ty (meant x f s)) →
      attempted line (compiled_attempt by a) next ≡ stepped w k nums refs ty (attempt line a meant f s)
  unfolding attempt stop
  attempt_compiled by k nums refs ty f s line (Yields x) next meant h = h x
  attempt_compiled by k nums refs ty f s line (Fails trap) next meant h = refl

  -- where what the machine finds is what is meant, compiled
  pub compiled_steps : {A : Type 0} (by : A → A) (k : ℕ) (nums : List ℤ) (refs : List Value) (ty : TyView) (f : Frame) (s : State) (line : Line)
      (a found : Attempt A) (next : A → Step) (meant : A → Meaning) → found ≡ compiled_attempt by a →
      ((x : A) → next (by x) ≡ stepped w k nums refs ty (meant x f s)) →
      attempted line found next ≡ stepped w k nums refs ty (attempt line a meant f s)
  compiled_steps {A = A} by k nums refs ty f s line a found next meant is h =
      ap (λ (b : Attempt A). attempted line b next) is ∙ attempt_compiled by k nums refs ty f s line a next meant h

  pub number_steps : (k : ℕ) (nums : List ℤ) (refs : List Value) {ty : TyView} (f : Frame) (s : State) → IsNum ty → (v : Value) → Room w 1 nums refs →
      push_num (word_of (compiled v)) (place w k nums refs f s.store) ≡ stepped w k nums refs ty (give v f s)
  unfolding give
  number_steps k nums refs f s int v room =
      ap (λ (z : ℤ). push_num z (place w k nums refs f s.store)) (word_compiled v) ∙ push_goes w k (word_of v) nums refs f s.store room
  number_steps k nums refs f s bool v room =
      ap (λ (z : ℤ). push_num z (place w k nums refs f s.store)) (word_compiled v) ∙ push_goes w k (word_of v) nums refs f s.store room

  pub reference_steps : (k : ℕ) (nums : List ℤ) (refs : List Value) {ty : TyView} (f : Frame) (s : State) → IsRef ty → (v : Value) →
      Room w 1 nums refs →
      push_ref (compiled v) (place w k nums refs f s.store) ≡ stepped w k nums refs ty (give v f s)
  unfolding give
  reference_steps k nums refs f s str v room = push_ref_goes w k (compiled v) nums refs f s.store room
  reference_steps k nums refs f s pntr v room = push_ref_goes w k (compiled v) nums refs f s.store room
  reference_steps k nums refs f s vector v room = push_ref_goes w k (compiled v) nums refs f s.store room
  reference_steps k nums refs f s proc v room = push_ref_goes w k (compiled v) nums refs f s.store room

  pub text_steps : (k : ℕ) (nums : List ℤ) (refs : List Value) (f : Frame) (s : State) (bytes : List ℕ) → Room w 1 nums refs →
      make_text bytes (place w k nums refs f s.store) ≡ stepped w k nums refs types.Str (made_text bytes f s)
  unfolding made_text
  text_steps k nums refs f s bytes room = push_ref_goes w k (Text bytes) nums refs f (and_text bytes s.store) room

  -- a new object, by what denotes it
  object_pushed : (k : ℕ) (nums : List ℤ) (refs : List Value) (f : Frame) (store : Store) (denoting : ℕ → Value) →
      ((id : ℕ) → denoting id ≡ compiled (denoting id)) → (object : Object) → Room w 1 nums refs →
      make denoting (compiled_object object) (place w k nums refs f store)
      ≡ on (place w k nums (compiled (denoting (new_number store.held.objects)) ∷ refs) f (and_object object store))
  object_pushed k nums refs f store denoting stays object room =
      ap (λ (id : ℕ). push_ref (denoting id) (holding (and_object (compiled_object object) (compiled_store store)) (place w k nums refs f store)))
      (number_compiled store.held.objects)
      ∙ ap (λ (held : Store). push_ref (denoting (new_number store.held.objects)) (holding held (place w k nums refs f store)))
      (and_object_compiled object store)
      ∙ push_ref_goes w k (denoting (new_number store.held.objects)) nums refs f (and_object object store) room
      ∙ ap (λ (v : Value). on (place w k nums (v ∷ refs) f (and_object object store))) (stays (new_number store.held.objects))

  pub object_steps : (k : ℕ) (nums : List ℤ) (refs : List Value) {ty : TyView} (f : Frame) (s : State) (denoting : ℕ → Value) →
      ((id : ℕ) → denoting id ≡ compiled (denoting id)) → IsRef ty → (object : Object) → Room w 1 nums refs →
      make denoting (compiled_object object) (place w k nums refs f s.store) ≡ stepped w k nums refs ty (made denoting object f s)
  unfolding made
  object_steps k nums refs f s denoting stays str object room = object_pushed k nums refs f s.store denoting stays object room
  object_steps k nums refs f s denoting stays pntr object room = object_pushed k nums refs f s.store denoting stays object room
  object_steps k nums refs f s denoting stays vector object room = object_pushed k nums refs f s.store denoting stays object room
  object_steps k nums refs f s denoting stays proc object room = object_pushed k nums refs f s.store denoting stays object room

  -- Another thing is held: what the machine does to what it holds is what is meant, compiled.
  pub having_goes : (k : ℕ) (nums : List ℤ) (refs : List Value) (f : Frame) (store : Store) (machine meant : Held → Held) →
      machine (compiled_held store.held) ≡ compiled_held (meant store.held) →
      having machine (place w k nums refs f store) ≡ place w k nums refs f (on_held (meant store.held) store)
  having_goes k nums refs f store machine meant h =
      ap (λ (held : Held). holding (on_held held (compiled_store store)) (place w k nums refs f store)) h

  pub held_steps : (k : ℕ) (nums : List ℤ) (refs : List Value) (f : Frame) (s : State) (machine meant : Held → Held) →
      machine (compiled_held s.store.held) ≡ compiled_held (meant s.store.held) →
      on (having machine (place w k nums refs f s.store)) ≡ stepped w k nums refs types.Void (change Nothing meant f s)
  unfolding change
  held_steps k nums refs f s machine meant h = ap on (having_goes k nums refs f s.store machine meant h)

  pub number_held : (k : ℕ) (nums : List ℤ) (refs : List Value) {ty : TyView} (f : Frame) (s : State) → IsNum ty → (v : Value)
      (machine meant : Held → Held) → machine (compiled_held s.store.held) ≡ compiled_held (meant s.store.held) → Room w 1 nums refs →
      push_num (word_of (compiled v)) (having machine (place w k nums refs f s.store)) ≡ stepped w k nums refs ty (change v meant f s)
  unfolding change
  number_held k nums refs f s int v machine meant h room =
      let now = on_held (meant s.store.held) s.store in
      ap (push_num (word_of (compiled v))) (having_goes k nums refs f s.store machine meant h)
      ∙ ap (λ (z : ℤ). push_num z (place w k nums refs f now)) (word_compiled v) ∙ push_goes w k (word_of v) nums refs f now room
  number_held k nums refs f s bool v machine meant h room =
      let now = on_held (meant s.store.held) s.store in
      ap (push_num (word_of (compiled v))) (having_goes k nums refs f s.store machine meant h)
      ∙ ap (λ (z : ℤ). push_num z (place w k nums refs f now)) (word_compiled v) ∙ push_goes w k (word_of v) nums refs f now room

  pub reference_held : (k : ℕ) (nums : List ℤ) (refs : List Value) {ty : TyView} (f : Frame) (s : State) → IsRef ty → (v : Value)
      (machine meant : Held → Held) → machine (compiled_held s.store.held) ≡ compiled_held (meant s.store.held) → Room w 1 nums refs →
      push_ref (compiled v) (having machine (place w k nums refs f s.store)) ≡ stepped w k nums refs ty (change v meant f s)
  unfolding change
  reference_held k nums refs f s str v machine meant h room =
      ap (push_ref (compiled v)) (having_goes k nums refs f s.store machine meant h)
      ∙ push_ref_goes w k (compiled v) nums refs f (on_held (meant s.store.held) s.store) room
  reference_held k nums refs f s pntr v machine meant h room =
      ap (push_ref (compiled v)) (having_goes k nums refs f s.store machine meant h)
      ∙ push_ref_goes w k (compiled v) nums refs f (on_held (meant s.store.held) s.store) room
  reference_held k nums refs f s vector v machine meant h room =
      ap (push_ref (compiled v)) (having_goes k nums refs f s.store machine meant h)
      ∙ push_ref_goes w k (compiled v) nums refs f (on_held (meant s.store.held) s.store) room
  reference_held k nums refs f s proc v machine meant h room =
      ap (push_ref (compiled v)) (having_goes k nums refs f s.store machine meant h)
      ∙ push_ref_goes w k (compiled v) nums refs f (on_held (meant s.store.held) s.store) room

  -- a value that is read from a place
  pub number_read : (k : ℕ) (nums : List ℤ) (refs : List Value) {ty : TyView} (f : Frame) (s : State) → IsNum ty → WeighsUnits s.store.held.weigh →
      (v : Value) → Room w 1 nums refs →
      push_num (word_of (compiled v)) (having (reading (compiled v)) (place w k nums refs f s.store)) ≡ stepped w k nums refs ty (read v f s)
  number_read k nums refs f s num weighs v room =
      number_held k nums refs f s num v (reading (compiled v)) (reading v) (reading_compiled v s.store.held weighs) room

  pub reference_read : (k : ℕ) (nums : List ℤ) (refs : List Value) {ty : TyView} (f : Frame) (s : State) → IsRef ty → WeighsUnits s.store.held.weigh →
      (v : Value) → Room w 1 nums refs →
      push_ref (compiled v) (having (reading (compiled v)) (place w k nums refs f s.store)) ≡ stepped w k nums refs ty (read v f s)
  reference_read k nums refs f s ref weighs v room =
      reference_held k nums refs f s ref v (reading (compiled v)) (reading v) (reading_compiled v s.store.held weighs) room

  -- a place that is assigned
  pub change_steps : (k : ℕ) (nums : List ℤ) (refs : List Value) (f : Frame) (s : State) (machine meant : Place) (heap : Heap) → machine ≡ meant →
      changed machine (compiled_heap heap) (place w k nums refs f s.store) ≡ stepped w k nums refs types.Void (assign meant heap f s)
  unfolding change
  change_steps k nums refs f s machine meant heap same =
      ap (λ (at : Place). changed at (compiled_heap heap) (place w k nums refs f s.store)) same

  -- the words of a value over other words
  pub over_num : {n : _} {m : Meaning} {t ty : TyView} {need p k : ℕ} (bn : List ℤ) (br : List Value) → IsNum ty → (v : Value) →
      Does w n (word_of v ∷ bn) br m t need p k → Does w n (nums_left ty v ++ bn) (refs_left ty v ++ br) m t need p k
  over_num bn br int v d = d
  over_num bn br bool v d = d

  pub over_ref : {n : _} {m : Meaning} {t ty : TyView} {need p k : ℕ} (bn : List ℤ) (br : List Value) → IsRef ty → (v : Value) →
      Does w n bn (compiled v ∷ br) m t need p k → Does w n (nums_left ty v ++ bn) (refs_left ty v ++ br) m t need p k
  over_ref bn br str v d = d
  over_ref bn br pntr v d = d
  over_ref bn br vector v d = d
  over_ref bn br proc v d = d
