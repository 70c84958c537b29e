-- What is popped of the stack of references, by its sort.
use Rattle.std.proofs.Common.{◌≡◌, ◌≢◌, ℕ, List, Option, Some, None, refl, sym, ap, ◌∙◌, subst}
use Rattle.machine_core.specs.ps_outside.Outside.{Outside}
use Rattle.machine_core.specs.obj_layout.Stored.{Space}
use Rattle.machine_core.specs.obj_layout.declared.reference.Reference.{Reference}
use Rattle.machine_core.specs.swizzle.Heap as area
use Rattle.machine_core.specs.swizzle.Heap.{IsHeap}
use Rattle.machine_core.specs.ps_heap.Values.{Value, Num, Flag, Text, Nil, Pointer, Vector, Procedure, Nothing}
use Rattle.machine_core.specs.ps_stepping.Config.{Config}
use Rattle.machine_core.specs.ps_stepping.Steps.{Step, Stuck, pop_ref, text_of}
use Rattle.machine_core.specs.ps_stepping.Objects.{object_of, denoting_of, type_of, type_of_object, of_type}
use Rattle.machine_core.specs.joint_ops.World.{DenotesIn}
use Rattle.machine_core.specs.joint_ops.Operands.{IsOfSort, IsSorted, IsByObject}
use Rattle.machine_core.specs.joint_ops.declared.values.Sort.{Sort}
use Rattle.machine_core.specs.joint_ops.declared.values.Sort.TheVariants as sort
use Rattle.machine_core.proofs.of_joint_ops.SeenLaws.{vector-at, vector-denoted}
use Rattle.machine_core.specs.declared.machine.Machine.{Machine}
use Rattle.machine_core.specs.Holding.{object_in, world_in}
use Rattle.machine_core.specs.inside.Taking.{TakenRef}
use Rattle.machine_operands.specs.Popping.{PopsText, PopsAny, PopsObject, PopsDenoting, PopsVector}

-- each value that it denotes is of this sort
abbrev pub AllSorted : area.Heap → Outside Space → Option ℕ → Sort → Type 0
AllSorted here outside to s = (names : List Reference) (v : Value) → DenotesIn here outside names to v → IsOfSort v s

-- whatever it denotes
pub any-popped : (outside : Outside Space) (old new : Machine) (w : ℕ) (to : Option ℕ) → TakenRef outside pop_ref old new (Some w) → to ≡ object_in w → PopsAny outside old new (Some to)
any-popped outside old new w to p is = record {
  gives = λ names c h. let g = p.gives names c h in (g.0, g.1, g.2, g.3, subst (λ (t : Option ℕ). DenotesIn new.objects outside names t g.1) (sym is) g.4, tt);
}

module _ (outside : Outside Space) (old new : Machine) (w : ℕ) (s : Sort) (p : TakenRef outside pop_ref old new (Some w)) (sorted : AllSorted new.objects outside (object_in w) s) where
  -- a text
  pub text-popped : (at : ℕ) → object_in w ≡ Some at → s ≡ sort.Text → PopsText outside old new (Some at)
  text-popped at is text = record {
    gives = λ names c h.
        let g = p.gives names c h in
        let it = bytes g.1 (subst (IsOfSort g.1) text (sorted names g.1 g.4)) in
        (g.0, it.0, (λ next. g.2 (λ v d. text_of v d next) ∙ ap (λ (v : Value). text_of v g.0 next) it.1), g.3, subst (λ (to : Option ℕ). DenotesIn new.objects outside names to (Text it.0)) is (subst (DenotesIn new.objects outside names (object_in w)) it.1 g.4), tt);
  }
    where
      bytes : (v : Value) → IsOfSort v sort.Text → (bytes : List ℕ) × (v ≡ Text bytes)
      bytes (Text b) is = (b, refl)
      bytes Nil is = absurd is
      bytes (Pointer id) is = absurd is
      bytes (Vector id) is = absurd is
      bytes (Num z) is = absurd is
      bytes (Flag b) is = absurd is
      bytes (Procedure of scope) is = absurd is
      bytes Nothing is = absurd is

  -- whatever the object is that was answered
  pub text-answer : (to answer : Option ℕ) → to ≡ object_in w → answer ≡ object_in w → IsSorted new.objects to s → s ≡ sort.Text → PopsText outside old new answer
  text-answer None answer same is by text = absurd (subst (IsSorted new.objects None) text by)
  text-answer (Some at) answer same is by text = subst (PopsText outside old new) (same ∙ sym is) (text-popped at (sym same) text)

  pub no-text : s ≢ sort.Text → PopsText outside old new None
  no-text other = record {
    gives = λ names c h next. let g = p.gives names c h in g.2 (λ v d. text_of v d next) ∙ stuck g.1 s other (sorted names g.1 g.4) g.0 next;
  }
    where
      stuck : (v : Value) (s : Sort) → s ≢ sort.Text → IsOfSort v s → (d : Config) (next : List ℕ → Config → Step) → text_of v d next ≡ Stuck
      stuck (Text b) sort.Text other is d next = absurd (other refl)
      stuck (Text b) sort.Nil other is d next = absurd is
      stuck (Text b) sort.Pointer other is d next = absurd is
      stuck (Text b) sort.Vector other is d next = absurd is
      stuck (Text b) sort.Other other is d next = absurd is
      stuck (Text b) sort.Procedure other is d next = absurd is
      stuck Nil s other is d next = refl
      stuck (Pointer id) s other is d next = refl
      stuck (Vector id) s other is d next = refl
      stuck (Num z) s other is d next = refl
      stuck (Flag b) s other is d next = refl
      stuck (Procedure of scope) s other is d next = refl
      stuck Nothing s other is d next = refl

  abbrev IsObject : Value → Type 0
  IsObject v = (d : Config) (next : Value → Config → Step) → object_of v d next ≡ next v d

  -- nil, a structure or a table
  pub object-popped : (to : Option ℕ) → object_in w ≡ to → ((v : Value) → IsOfSort v s → (d : Config) (next : Value → Config → Step) → object_of v d next ≡ next v d) → PopsObject outside old new (Some to)
  object-popped to is object = record {
    gives = λ names c h.
        let g = p.gives names c h in
        (g.0, g.1, (λ next. g.2 (λ v d. object_of v d next) ∙ object g.1 (sorted names g.1 g.4) g.0 next), g.3, subst (λ (t : Option ℕ). DenotesIn new.objects outside names t g.1) is g.4, tt);
  }

  pub no-object : ((v : Value) → IsOfSort v s → (d : Config) (next : Value → Config → Step) → object_of v d next ≡ Stuck) → PopsObject outside old new None
  no-object stuck = record {
    gives = λ names c h next. let g = p.gives names c h in g.2 (λ v d. object_of v d next) ∙ stuck g.1 (sorted names g.1 g.4) g.0 next;
  }

  -- nil, a structure, a table or a vector
  pub denoting-popped : (to : Option ℕ) → object_in w ≡ to → ((v : Value) → IsOfSort v s → IsByObject v × ((d : Config) (next : Value → Config → Step) → denoting_of v d next ≡ next v d)) → PopsDenoting outside old new (Some to)
  denoting-popped to is object = record {
    gives = λ names c h.
        let g = p.gives names c h in
        let it = object g.1 (sorted names g.1 g.4) in
        (g.0, g.1, (λ next. g.2 (λ v d. denoting_of v d next) ∙ it.1 g.0 next), g.3, subst (λ (t : Option ℕ). DenotesIn new.objects outside names t g.1) is g.4, it.0);
  }

  pub no-denoting : ((v : Value) → IsOfSort v s → (d : Config) (next : Value → Config → Step) → denoting_of v d next ≡ Stuck) → PopsDenoting outside old new None
  no-denoting stuck = record {
    gives = λ names c h next. let g = p.gives names c h in g.2 (λ v d. denoting_of v d next) ∙ stuck g.1 (sorted names g.1 g.4) g.0 next;
  }

-- of the sort of nil there is no object
pub nil-named : (here : area.Heap) (to named : Option ℕ) (s : Sort) → to ≡ named → IsSorted here to s → s ≡ sort.Nil → named ≡ None
nil-named here None named s same by nil = sym same
nil-named here (Some at) named s same by nil = absurd (subst (IsSorted here (Some at)) nil by)

-- the values of each sort, as what wants an object takes them
pub nil-object : (v : Value) → IsOfSort v sort.Nil → (d : Config) (next : Value → Config → Step) → object_of v d next ≡ next v d
nil-object Nil is d next = refl
nil-object (Text b) is d next = absurd is
nil-object (Pointer id) is d next = absurd is
nil-object (Vector id) is d next = absurd is
nil-object (Num z) is d next = absurd is
nil-object (Flag b) is d next = absurd is
nil-object (Procedure of scope) is d next = absurd is
nil-object Nothing is d next = absurd is

pub pointer-object : (v : Value) → IsOfSort v sort.Pointer → (d : Config) (next : Value → Config → Step) → object_of v d next ≡ next v d
pointer-object (Pointer id) is d next = refl
pointer-object Nil is d next = absurd is
pointer-object (Text b) is d next = absurd is
pointer-object (Vector id) is d next = absurd is
pointer-object (Num z) is d next = absurd is
pointer-object (Flag b) is d next = absurd is
pointer-object (Procedure of scope) is d next = absurd is
pointer-object Nothing is d next = absurd is

pub other-object : (s : Sort) → s ≢ sort.Nil → s ≢ sort.Pointer → (v : Value) → IsOfSort v s → (d : Config) (next : Value → Config → Step) → object_of v d next ≡ Stuck
other-object s a b (Text bytes) is d next = refl
other-object s a b (Vector id) is d next = refl
other-object s a b (Num z) is d next = refl
other-object s a b (Flag f) is d next = refl
other-object s a b (Procedure of scope) is d next = refl
other-object s a b Nothing is d next = refl
other-object sort.Nil a b Nil is d next = absurd (a refl)
other-object sort.Text a b Nil is d next = absurd is
other-object sort.Pointer a b Nil is d next = absurd is
other-object sort.Vector a b Nil is d next = absurd is
other-object sort.Other a b Nil is d next = absurd is
other-object sort.Procedure a b Nil is d next = absurd is
other-object sort.Nil a b (Pointer id) is d next = absurd is
other-object sort.Text a b (Pointer id) is d next = absurd is
other-object sort.Pointer a b (Pointer id) is d next = absurd (b refl)
other-object sort.Vector a b (Pointer id) is d next = absurd is
other-object sort.Other a b (Pointer id) is d next = absurd is
other-object sort.Procedure a b (Pointer id) is d next = absurd is

pub nil-denoting : (v : Value) → IsOfSort v sort.Nil → IsByObject v × ((d : Config) (next : Value → Config → Step) → denoting_of v d next ≡ next v d)
nil-denoting Nil is = (tt, λ d next. refl)
nil-denoting (Text b) is = absurd is
nil-denoting (Pointer id) is = absurd is
nil-denoting (Vector id) is = absurd is
nil-denoting (Num z) is = absurd is
nil-denoting (Flag b) is = absurd is
nil-denoting (Procedure of scope) is = absurd is
nil-denoting Nothing is = absurd is

pub pointer-denoting : (v : Value) → IsOfSort v sort.Pointer → IsByObject v × ((d : Config) (next : Value → Config → Step) → denoting_of v d next ≡ next v d)
pointer-denoting (Pointer id) is = (tt, λ d next. refl)
pointer-denoting Nil is = absurd is
pointer-denoting (Text b) is = absurd is
pointer-denoting (Vector id) is = absurd is
pointer-denoting (Num z) is = absurd is
pointer-denoting (Flag b) is = absurd is
pointer-denoting (Procedure of scope) is = absurd is
pointer-denoting Nothing is = absurd is

vector-of_sort : (v : Value) → IsOfSort v sort.Vector → (id : ℕ) × (v ≡ Vector id)
vector-of_sort (Vector id) is = (id, refl)
vector-of_sort Nil is = absurd is
vector-of_sort (Text b) is = absurd is
vector-of_sort (Pointer id) is = absurd is
vector-of_sort (Num z) is = absurd is
vector-of_sort (Flag b) is = absurd is
vector-of_sort (Procedure of scope) is = absurd is
vector-of_sort Nothing is = absurd is

pub vector-denoting : (v : Value) → IsOfSort v sort.Vector → IsByObject v × ((d : Config) (next : Value → Config → Step) → denoting_of v d next ≡ next v d)
vector-denoting v is = let it = vector-of_sort v is in subst (λ (x : Value). IsByObject x × ((d : Config) (next : Value → Config → Step) → denoting_of x d next ≡ next x d)) (sym it.1) (tt, λ d next. refl)

-- of another sort nothing denotes an object
pub other-denoting : (s : Sort) → s ≢ sort.Nil → s ≢ sort.Pointer → s ≢ sort.Vector → (v : Value) → IsOfSort v s → (d : Config) (next : Value → Config → Step) → denoting_of v d next ≡ Stuck
other-denoting s a b e (Text bytes) is d next = refl
other-denoting s a b e (Num z) is d next = refl
other-denoting s a b e (Flag f) is d next = refl
other-denoting s a b e (Procedure of scope) is d next = refl
other-denoting s a b e Nothing is d next = refl
other-denoting sort.Nil a b e Nil is d next = absurd (a refl)
other-denoting sort.Text a b e Nil is d next = absurd is
other-denoting sort.Pointer a b e Nil is d next = absurd is
other-denoting sort.Vector a b e Nil is d next = absurd is
other-denoting sort.Other a b e Nil is d next = absurd is
other-denoting sort.Procedure a b e Nil is d next = absurd is
other-denoting sort.Nil a b e (Pointer id) is d next = absurd is
other-denoting sort.Text a b e (Pointer id) is d next = absurd is
other-denoting sort.Pointer a b e (Pointer id) is d next = absurd (b refl)
other-denoting sort.Vector a b e (Pointer id) is d next = absurd is
other-denoting sort.Other a b e (Pointer id) is d next = absurd is
other-denoting sort.Procedure a b e (Pointer id) is d next = absurd is
other-denoting sort.Nil a b e (Vector id) is d next = absurd is
other-denoting sort.Text a b e (Vector id) is d next = absurd is
other-denoting sort.Pointer a b e (Vector id) is d next = absurd is
other-denoting sort.Vector a b e (Vector id) is d next = absurd (e refl)
other-denoting sort.Other a b e (Vector id) is d next = absurd is
other-denoting sort.Procedure a b e (Vector id) is d next = absurd is

module _ (outside : Outside Space) (old new : Machine) (w : ℕ) (s : Sort) (heap : IsHeap new.objects) (p : TakenRef outside pop_ref old new (Some w)) (sorted : AllSorted new.objects outside (object_in w) s) where
  -- a vector, with the text of its type
  pub vector-popped : (at : ℕ) → object_in w ≡ Some at → s ≡ sort.Vector → PopsVector outside old new (Some at)
  vector-popped at is vector = record {
    gives = λ names c h.
        let g = p.gives names c h in
        let it = vector-of_sort g.1 (subst (IsOfSort g.1) vector (sorted names g.1 g.4)) in
        let denotes = subst (λ (to : Option ℕ). DenotesIn new.objects outside names to (Vector it.0)) is (subst (DenotesIn new.objects outside names (object_in w)) it.1 g.4) in
        let v = vector-at new.objects outside g.0.store.held.objects names at it.0 heap (world_in g.3.run) (vector-denoted new.objects outside names at it.0 heap denotes) in
        let typed : type_of g.0.store.held.objects (Vector it.0) ≡ Some v.ty = ap type_of_object v.means in
        (g.0, it.0, v.ty, (λ next. g.2 (λ v d. of_type (type_of d.store.held.objects v) (λ ty. next ty v d)) ∙ ap (λ (x : Value). of_type (type_of g.0.store.held.objects x) (λ ty. next ty x g.0)) it.1 ∙ ap (λ (t : Option (List ℕ)). of_type t (λ ty. next ty (Vector it.0) g.0)) typed), typed, g.3, denotes);
  }

  pub vector-answer : (to answer : Option ℕ) → to ≡ object_in w → answer ≡ object_in w → IsSorted new.objects to s → s ≡ sort.Vector → PopsVector outside old new answer
  vector-answer None answer same is by vector = absurd (subst (IsSorted new.objects None) vector by)
  vector-answer (Some at) answer same is by vector = subst (PopsVector outside old new) (same ∙ sym is) (vector-popped at (sym same) vector)

  pub no-vector : s ≢ sort.Vector → PopsVector outside old new None
  no-vector other = record {
    gives = λ names c h next. let g = p.gives names c h in g.2 (λ v d. of_type (type_of d.store.held.objects v) (λ ty. next ty v d)) ∙ stuck g.1 s other (sorted names g.1 g.4) g.0 next;
  }
    where
      stuck : (v : Value) (s : Sort) → s ≢ sort.Vector → IsOfSort v s → (d : Config) (next : List ℕ → Value → Config → Step) → of_type (type_of d.store.held.objects v) (λ ty. next ty v d) ≡ Stuck
      stuck (Vector id) sort.Vector other is d next = absurd (other refl)
      stuck (Vector id) sort.Nil other is d next = absurd is
      stuck (Vector id) sort.Pointer other is d next = absurd is
      stuck (Vector id) sort.Text other is d next = absurd is
      stuck (Vector id) sort.Other other is d next = absurd is
      stuck (Vector id) sort.Procedure other is d next = absurd is
      stuck Nil s other is d next = refl
      stuck (Pointer id) s other is d next = refl
      stuck (Text b) s other is d next = refl
      stuck (Num z) s other is d next = refl
      stuck (Flag b) s other is d next = refl
      stuck (Procedure of scope) s other is d next = refl
      stuck Nothing s other is d next = refl

-- the sort is that of each value which a word's object denotes
pub all-sorted : (here : area.Heap) (outside : Outside Space) (to : Option ℕ) (w : ℕ) (s : Sort) → to ≡ object_in w → AllSorted here outside to s
    → AllSorted here outside (object_in w) s
all-sorted here outside to w s same sorted = subst (λ (o : Option ℕ). AllSorted here outside o s) same sorted
