-- What stands for a value or an object stands for it where more is seen; and what is read of a place and written to it.
use Rattle.std.proofs.Common.{arith, inl, inr, ◌≡◌, ◌≢◌, ℕ, zero, suc, ◌+◌, List, [], ◌∷◌, ◌++◌, length, get_or, set, slice_index, slice_set, replicate, refl, sym, ap, ◌∙◌, subst, Option, Some, None}
use Rattle.std.proofs.lemmas.Bool.{cases_eq}
use Rattle.proc_values.specs.obj_layout.declared.kind.Kind.{Kind}
use Rattle.proc_values.specs.obj_layout.declared.kind.Kind.TheVariants as kind
use Rattle.proc_values.specs.obj_layout.declared.reference.Reference as reference
use Rattle.proc_values.specs.obj_layout.declared.reference.Reference.TheVariants as name
use Rattle.proc_values.specs.swizzle.Joint.{Shown}
use Rattle.proc_values.specs.swizzle.Changes.{Within, ChangedAt}
use Rattle.proc_values.proofs.of_swizzle.NameLaws.{names-decided}
use Rattle.proc_values.specs.text_forms.declared.forms.Form.{Form}
use Rattle.proc_values.specs.text_forms.declared.forms.Form.TheVariants as form
use Rattle.proc_values.specs.text_forms.Forms.{forms_of, element_of, form_in, before_in}
use Rattle.heap_ops.specs.heap_places.Shapes.{IsText}
use Rattle.proc_values.specs.ps_base.CodeUnit as units
use Rattle.proc_values.specs.ps_base.CodeUnit.{UnitView, ConstantView, ConstantsView}
use Rattle.proc_values.specs.ps_heap.Values.{Value, Num, Flag, Text, Nil, Pointer, Vector, Procedure, Nothing, as_written, as_compiled}
use Rattle.proc_values.specs.ps_heap.Objects.{Heap, Object, Structure, Elements, Scope, Keyed, object_at, with_object, with_new, new_number}
use Rattle.heap_meaning.specs.Units.{IsUnitSeen, AreSeen, IsConstantSeen}
use Rattle.heap_meaning.specs.Standing.{Seen, Pairing, IsKindOf, IsPointed, StandsForScope, IsClosure, StandsFor, IsWordOf, AreFor, IsAs, IsLike, IsOne}

-- What stands for a value stands for it where more is seen, and where more is paired.

pub text-more : (seen now : Seen) (n : reference.Reference) (bytes : List ℕ) → ((it : Shown) → it.kind ≡ kind.Text → seen n it → now n it) → IsText seen n bytes → IsText now n bytes
text-more seen now n bytes grows t = record { it = t.it; there = grows t.it t.kind t.there; kind = t.kind; bytes_are = t.bytes_are }

-- objects of this kind are never written: those of fixed, of code, and of closures
abbrev pub IsFixed : Kind → Type 0
IsFixed kind.Text = Unit {0}
IsFixed kind.Code = Unit {0}
IsFixed kind.Closure = Unit {0}
IsFixed _ = ⊥

-- every such object that is seen stays
abbrev pub Fixed : Seen → Seen → Type 0
Fixed seen now = (n : reference.Reference) (it : Shown) → IsFixed it.kind → seen n it → now n it

-- every name that is seen stays, with the kind of its object
abbrev pub Kinds : Seen → Seen → Type 0
Kinds seen now = (n : reference.Reference) (it : Shown) → seen n it → IsKindOf now n it.kind

pub kind-more : (seen now : Seen) (n : reference.Reference) (of : Kind) → Kinds seen now → IsKindOf seen n of → IsKindOf now n of
kind-more seen now n of kinds k = subst (IsKindOf now n) k.kind_is (kinds n k.it k.there)

pub pointed-more : (seen now : Seen) (n : reference.Reference) → Kinds seen now → IsPointed seen n → IsPointed now n
pointed-more seen now n kinds p = elim p [
  | inl k ↦ inl (kind-more seen now n kind.Structure kinds k)
  | inr k ↦ inr (kind-more seen now n kind.Table kinds k)
]

-- every pair stays
abbrev pub Pairs : Pairing → Pairing → Type 0
Pairs pair now = (n : reference.Reference) (id : ℕ) → pair n id → now n id

-- a text
pub fixed-text : (seen now : Seen) (n : reference.Reference) (bytes : List ℕ) → Fixed seen now → IsText seen n bytes → IsText now n bytes
fixed-text seen now n bytes fixed t = text-more seen now n bytes (λ it k. fixed n it (subst IsFixed (sym k) tt)) t

-- a unit of code
mutual
  unfolding IsUnitSeen AreSeen IsConstantSeen

  pub unit-more : (seen now : Seen) (n : reference.Reference) (u : UnitView) → Fixed seen now → IsUnitSeen seen n u → IsUnitSeen now n u
  unit-more seen now n (units.unit code cs frame) fixed i =
      (i.0, fixed n i.0 (subst IsFixed (sym i.2.kind_is) tt) i.1, i.2, constants-more seen now i.0.refs cs fixed i.3)

  constants-more : (seen now : Seen) (ns : List reference.Reference) (cs : ConstantsView) → Fixed seen now → AreSeen seen ns cs → AreSeen now ns cs
  constants-more seen now [] units.no_constants fixed i = tt
  constants-more seen now (n ∷ ns) units.no_constants fixed i = absurd i
  constants-more seen now [] (units.constant_then c cs) fixed i = absurd i
  constants-more seen now (n ∷ ns) (units.constant_then c cs) fixed i = (constant-more seen now n c fixed i.0, constants-more seen now ns cs fixed i.1)

  constant-more : (seen now : Seen) (n : reference.Reference) (c : ConstantView) → Fixed seen now → IsConstantSeen seen n c → IsConstantSeen now n c
  constant-more seen now n (units.text bytes) fixed i = fixed-text seen now n bytes fixed i
  constant-more seen now n (units.literal u) fixed i = unit-more seen now n u fixed i

pub scope-more : (seen now : Seen) (pair more : Pairing) (n : reference.Reference) (scope : Option ℕ) → Kinds seen now → Pairs pair more → StandsForScope seen pair n scope → StandsForScope now more n scope
scope-more seen now pair more n None kinds pairs s = s
scope-more seen now pair more n (Some id) kinds pairs s = (pairs n id s.0, kind-more seen now n kind.Scope kinds s.1)

pub closure-more : (seen now : Seen) (pair more : Pairing) (it : Shown) (of : UnitView) (scope : Option ℕ) → Fixed seen now → Kinds seen now → Pairs pair more → IsClosure seen pair it of scope → IsClosure now more it of scope
closure-more seen now pair more it of scope fixed kinds pairs c = record {
  kind_is = c.kind_is;
  code_name = c.code_name;
  scope_name = c.scope_name;
  home = c.home;
  refs = c.refs;
  nums = c.nums;
  is_unit = unit-more seen now c.code_name of fixed c.is_unit;
  fit = c.fit;
  is_scope = scope-more seen now pair more c.scope_name scope kinds pairs c.is_scope;
}

pub stands-more : (seen now : Seen) (pair more : Pairing) (n : reference.Reference) (v : Value) → Fixed seen now → Kinds seen now → Pairs pair more → StandsFor seen pair n v → StandsFor now more n v
stands-more seen now pair more n Nil fixed kinds pairs s = s
stands-more seen now pair more n (Text bytes) fixed kinds pairs s = fixed-text seen now n bytes fixed s
stands-more seen now pair more n (Pointer id) fixed kinds pairs s = (pairs n id s.0, pointed-more seen now n kinds s.1)
stands-more seen now pair more n (Vector id) fixed kinds pairs s = (pairs n id s.0, kind-more seen now n kind.Vector kinds s.1)
stands-more seen now pair more n (Num z) fixed kinds pairs s = absurd s
stands-more seen now pair more n (Flag b) fixed kinds pairs s = absurd s
stands-more seen now pair more n (Procedure (as_written of) scope) fixed kinds pairs s = absurd s
stands-more seen now pair more n (Procedure (as_compiled of) scope) fixed kinds pairs s = record {
  it = s.it;
  there = fixed n s.it (subst IsFixed (sym s.is.kind_is) tt) s.there;
  is = closure-more seen now pair more s.it of scope fixed kinds pairs s.is;
}
stands-more seen now pair more n Nothing fixed kinds pairs s = absurd s

pub are-more : (seen now : Seen) (pair more : Pairing) (forms : List Form) (ns : List reference.Reference) (words : List ℕ) (vs : List Value) → Fixed seen now → Kinds seen now → Pairs pair more
    → AreFor seen pair forms ns words vs → AreFor now more forms ns words vs
are-more seen now pair more (form.Reference ∷ forms) (n ∷ ns) words (v ∷ vs) fixed kinds pairs a = (stands-more seen now pair more n v fixed kinds pairs a.0, are-more seen now pair more forms ns words vs fixed kinds pairs a.1)
are-more seen now pair more (form.Reference ∷ forms) (n ∷ ns) words [] fixed kinds pairs a = absurd a
are-more seen now pair more (form.Reference ∷ forms) [] words vs fixed kinds pairs a = absurd a
are-more seen now pair more (form.Number ∷ forms) ns (word ∷ words) (v ∷ vs) fixed kinds pairs a = (a.0, are-more seen now pair more forms ns words vs fixed kinds pairs a.1)
are-more seen now pair more (form.Number ∷ forms) ns (word ∷ words) [] fixed kinds pairs a = absurd a
are-more seen now pair more (form.Number ∷ forms) ns [] vs fixed kinds pairs a = absurd a
are-more seen now pair more (form.Flag ∷ forms) ns (word ∷ words) (v ∷ vs) fixed kinds pairs a = (a.0, are-more seen now pair more forms ns words vs fixed kinds pairs a.1)
are-more seen now pair more (form.Flag ∷ forms) ns (word ∷ words) [] fixed kinds pairs a = absurd a
are-more seen now pair more (form.Flag ∷ forms) ns [] vs fixed kinds pairs a = absurd a
are-more seen now pair more [] [] [] [] fixed kinds pairs a = tt
are-more seen now pair more [] [] [] (v ∷ vs) fixed kinds pairs a = absurd a
are-more seen now pair more [] [] (word ∷ words) vs fixed kinds pairs a = absurd a
are-more seen now pair more [] (n ∷ ns) words vs fixed kinds pairs a = absurd a

pub as-more : (seen now : Seen) (pair more : Pairing) (it : Shown) (of : Kind) (text : List ℕ) (first : ℕ → List ℕ) (forms : List Form) (vs : List Value) → Fixed seen now → Kinds seen now → Pairs pair more
    → IsAs seen pair it of text first forms vs → IsAs now more it of text first forms vs
as-more seen now pair more it of text first forms vs fixed kinds pairs a = record {
  kind_is = a.kind_is;
  text_name = a.text_name;
  home = a.home;
  names = a.names;
  words = a.words;
  refs = a.refs;
  nums = a.nums;
  is_text = fixed-text seen now a.text_name text fixed a.is_text;
  are = are-more seen now pair more forms a.names a.words vs fixed kinds pairs a.are;
}

pub like-more : (seen now : Seen) (pair more : Pairing) (it : Shown) (object : Object) → Fixed seen now → Kinds seen now → Pairs pair more → IsLike seen pair it object → IsLike now more it object
like-more seen now pair more it (Structure class fields) fixed kinds pairs l = as-more seen now pair more it kind.Structure class (λ home. home ∷ []) (forms_of class) fields fixed kinds pairs l
like-more seen now pair more it (Elements ty low elements) fixed kinds pairs l = record {
  bound = l.bound;
  bound_is = l.bound_is;
  fits = l.fits;
  rows = as-more seen now pair more it kind.Vector ty (λ home. home ∷ l.bound ∷ []) (replicate (length elements) (element_of ty)) elements fixed kinds pairs l.rows;
}
like-more seen now pair more it (Scope text parent names) fixed kinds pairs l = record {
  kind_is = l.kind_is;
  text_name = l.text_name;
  parent_name = l.parent_name;
  home = l.home;
  names = l.names;
  words = l.words;
  refs = l.refs;
  nums = l.nums;
  is_text = fixed-text seen now l.text_name text fixed l.is_text;
  is_parent = scope-more seen now pair more l.parent_name parent kinds pairs l.is_parent;
  are = are-more seen now pair more (forms_of text) l.names l.words names fixed kinds pairs l.are;
}
like-more seen now pair more it (Keyed table) fixed kinds pairs l = l

-- Reading a place.

-- none of another row counts
skip : (n : ℕ) → n ≡ 0 + n
skip n = omega arith

-- one of the row counts
step : (n : ℕ) → suc n ≡ 1 + n
step n = omega arith

pub read-reference : (seen : Seen) (pair : Pairing) (forms : List Form) (ns : List reference.Reference) (words : List ℕ) (vs : List Value) (n : ℕ) → AreFor seen pair forms ns words vs
    → form_in forms n ≡ Some form.Reference → StandsFor seen pair (get_or ns (before_in form.Reference forms n) name.Nil) (get_or vs n Nothing)
unfolding form_in before_in
read-reference seen pair (form.Reference ∷ forms) (m ∷ ns) words (v ∷ vs) zero a is = a.0
read-reference seen pair (form.Reference ∷ forms) (m ∷ ns) words (v ∷ vs) (suc n) a is =
    subst (λ (k : ℕ). StandsFor seen pair (get_or (m ∷ ns) k name.Nil) (get_or vs n Nothing)) (step (before_in form.Reference forms n)) (read-reference seen pair forms ns words vs n a.1 is)
read-reference seen pair (form.Reference ∷ forms) (m ∷ ns) words [] n a is = absurd a
read-reference seen pair (form.Reference ∷ forms) [] words vs n a is = absurd a
read-reference seen pair (form.Number ∷ forms) ns (word ∷ words) (v ∷ vs) zero a is = absurd (cc)
read-reference seen pair (form.Number ∷ forms) ns (word ∷ words) (v ∷ vs) (suc n) a is =
    subst (λ (k : ℕ). StandsFor seen pair (get_or ns k name.Nil) (get_or vs n Nothing)) (skip (before_in form.Reference forms n)) (read-reference seen pair forms ns words vs n a.1 is)
read-reference seen pair (form.Number ∷ forms) ns (word ∷ words) [] n a is = absurd a
read-reference seen pair (form.Number ∷ forms) ns [] vs n a is = absurd a
read-reference seen pair (form.Flag ∷ forms) ns (word ∷ words) (v ∷ vs) zero a is = absurd (cc)
read-reference seen pair (form.Flag ∷ forms) ns (word ∷ words) (v ∷ vs) (suc n) a is =
    subst (λ (k : ℕ). StandsFor seen pair (get_or ns k name.Nil) (get_or vs n Nothing)) (skip (before_in form.Reference forms n)) (read-reference seen pair forms ns words vs n a.1 is)
read-reference seen pair (form.Flag ∷ forms) ns (word ∷ words) [] n a is = absurd a
read-reference seen pair (form.Flag ∷ forms) ns [] vs n a is = absurd a
read-reference seen pair [] ns words vs n a is = absurd (cc)

-- a form of number words
unfoldable pub IsNumber : Form → Type 0
IsNumber form.Number = Unit {0}
IsNumber form.Flag = Unit {0}
IsNumber form.Reference = ⊥

pub read-word : (seen : Seen) (pair : Pairing) (f : Form) (forms : List Form) (ns : List reference.Reference) (words : List ℕ) (vs : List Value) (n : ℕ) → IsNumber f → AreFor seen pair forms ns words vs
    → form_in forms n ≡ Some f → IsWordOf (slice_index words (before_in f forms n)) f (get_or vs n Nothing)
unfolding form_in before_in IsNumber
read-word seen pair form.Reference forms ns words vs n number a is = absurd number
read-word seen pair form.Number (form.Reference ∷ forms) (m ∷ ns) words (v ∷ vs) zero number a is = absurd (cc)
read-word seen pair form.Number (form.Reference ∷ forms) (m ∷ ns) words (v ∷ vs) (suc n) number a is =
    subst (λ (k : ℕ). IsWordOf (slice_index words k) form.Number (get_or vs n Nothing)) (skip (before_in form.Number forms n)) (read-word seen pair form.Number forms ns words vs n number a.1 is)
read-word seen pair form.Number (form.Reference ∷ forms) (m ∷ ns) words [] n number a is = absurd a
read-word seen pair form.Number (form.Reference ∷ forms) [] words vs n number a is = absurd a
read-word seen pair form.Number (form.Number ∷ forms) ns (word ∷ words) (v ∷ vs) zero number a is = a.0
read-word seen pair form.Number (form.Number ∷ forms) ns (word ∷ words) (v ∷ vs) (suc n) number a is =
    subst (λ (k : ℕ). IsWordOf (slice_index (word ∷ words) k) form.Number (get_or vs n Nothing)) (step (before_in form.Number forms n)) (read-word seen pair form.Number forms ns words vs n number a.1 is)
read-word seen pair form.Number (form.Number ∷ forms) ns (word ∷ words) [] n number a is = absurd a
read-word seen pair form.Number (form.Number ∷ forms) ns [] vs n number a is = absurd a
read-word seen pair form.Number (form.Flag ∷ forms) ns (word ∷ words) (v ∷ vs) zero number a is = absurd (cc)
read-word seen pair form.Number (form.Flag ∷ forms) ns (word ∷ words) (v ∷ vs) (suc n) number a is =
    subst (λ (k : ℕ). IsWordOf (slice_index (word ∷ words) k) form.Number (get_or vs n Nothing)) (step (before_in form.Number forms n)) (read-word seen pair form.Number forms ns words vs n number a.1 is)
read-word seen pair form.Number (form.Flag ∷ forms) ns (word ∷ words) [] n number a is = absurd a
read-word seen pair form.Number (form.Flag ∷ forms) ns [] vs n number a is = absurd a
read-word seen pair form.Number [] ns words vs n number a is = absurd (cc)
read-word seen pair form.Flag (form.Reference ∷ forms) (m ∷ ns) words (v ∷ vs) zero number a is = absurd (cc)
read-word seen pair form.Flag (form.Reference ∷ forms) (m ∷ ns) words (v ∷ vs) (suc n) number a is =
    subst (λ (k : ℕ). IsWordOf (slice_index words k) form.Flag (get_or vs n Nothing)) (skip (before_in form.Flag forms n)) (read-word seen pair form.Flag forms ns words vs n number a.1 is)
read-word seen pair form.Flag (form.Reference ∷ forms) (m ∷ ns) words [] n number a is = absurd a
read-word seen pair form.Flag (form.Reference ∷ forms) [] words vs n number a is = absurd a
read-word seen pair form.Flag (form.Number ∷ forms) ns (word ∷ words) (v ∷ vs) zero number a is = absurd (cc)
read-word seen pair form.Flag (form.Number ∷ forms) ns (word ∷ words) (v ∷ vs) (suc n) number a is =
    subst (λ (k : ℕ). IsWordOf (slice_index (word ∷ words) k) form.Flag (get_or vs n Nothing)) (step (before_in form.Flag forms n)) (read-word seen pair form.Flag forms ns words vs n number a.1 is)
read-word seen pair form.Flag (form.Number ∷ forms) ns (word ∷ words) [] n number a is = absurd a
read-word seen pair form.Flag (form.Number ∷ forms) ns [] vs n number a is = absurd a
read-word seen pair form.Flag (form.Flag ∷ forms) ns (word ∷ words) (v ∷ vs) zero number a is = a.0
read-word seen pair form.Flag (form.Flag ∷ forms) ns (word ∷ words) (v ∷ vs) (suc n) number a is =
    subst (λ (k : ℕ). IsWordOf (slice_index (word ∷ words) k) form.Flag (get_or vs n Nothing)) (step (before_in form.Flag forms n)) (read-word seen pair form.Flag forms ns words vs n number a.1 is)
read-word seen pair form.Flag (form.Flag ∷ forms) ns (word ∷ words) [] n number a is = absurd a
read-word seen pair form.Flag (form.Flag ∷ forms) ns [] vs n number a is = absurd a
read-word seen pair form.Flag [] ns words vs n number a is = absurd (cc)

-- Writing a place.

pub write-reference : (seen : Seen) (pair : Pairing) (forms : List Form) (ns : List reference.Reference) (words : List ℕ) (vs : List Value) (n : ℕ) (m : reference.Reference) (w : Value) → AreFor seen pair forms ns words vs
    → form_in forms n ≡ Some form.Reference → StandsFor seen pair m w → AreFor seen pair forms (set ns (before_in form.Reference forms n) m) words (set vs n w)
unfolding form_in before_in
write-reference seen pair (form.Reference ∷ forms) (k ∷ ns) words (v ∷ vs) zero m w a is s = (s, a.1)
write-reference seen pair (form.Reference ∷ forms) (k ∷ ns) words (v ∷ vs) (suc n) m w a is s =
    subst (λ (i : ℕ). AreFor seen pair (form.Reference ∷ forms) (set (k ∷ ns) i m) words (set (v ∷ vs) (suc n) w)) (step (before_in form.Reference forms n)) (a.0, write-reference seen pair forms ns words vs n m w a.1 is s)
write-reference seen pair (form.Reference ∷ forms) (k ∷ ns) words [] n m w a is s = absurd a
write-reference seen pair (form.Reference ∷ forms) [] words vs n m w a is s = absurd a
write-reference seen pair (form.Number ∷ forms) ns (word ∷ words) (v ∷ vs) zero m w a is s = absurd (cc)
write-reference seen pair (form.Number ∷ forms) ns (word ∷ words) (v ∷ vs) (suc n) m w a is s =
    subst (λ (i : ℕ). AreFor seen pair (form.Number ∷ forms) (set ns i m) (word ∷ words) (set (v ∷ vs) (suc n) w)) (skip (before_in form.Reference forms n)) (a.0, write-reference seen pair forms ns words vs n m w a.1 is s)
write-reference seen pair (form.Number ∷ forms) ns (word ∷ words) [] n m w a is s = absurd a
write-reference seen pair (form.Number ∷ forms) ns [] vs n m w a is s = absurd a
write-reference seen pair (form.Flag ∷ forms) ns (word ∷ words) (v ∷ vs) zero m w a is s = absurd (cc)
write-reference seen pair (form.Flag ∷ forms) ns (word ∷ words) (v ∷ vs) (suc n) m w a is s =
    subst (λ (i : ℕ). AreFor seen pair (form.Flag ∷ forms) (set ns i m) (word ∷ words) (set (v ∷ vs) (suc n) w)) (skip (before_in form.Reference forms n)) (a.0, write-reference seen pair forms ns words vs n m w a.1 is s)
write-reference seen pair (form.Flag ∷ forms) ns (word ∷ words) [] n m w a is s = absurd a
write-reference seen pair (form.Flag ∷ forms) ns [] vs n m w a is s = absurd a
write-reference seen pair [] ns words vs n m w a is s = absurd (cc)

pub write-word : (seen : Seen) (pair : Pairing) (f : Form) (forms : List Form) (ns : List reference.Reference) (words : List ℕ) (vs : List Value) (n : ℕ) (m : ℕ) (w : Value) → IsNumber f → AreFor seen pair forms ns words vs
    → form_in forms n ≡ Some f → IsWordOf m f w → AreFor seen pair forms ns (slice_set words (before_in f forms n) m) (set vs n w)
unfolding form_in before_in IsNumber
write-word seen pair form.Reference forms ns words vs n m w number a is s = absurd number
write-word seen pair form.Number (form.Reference ∷ forms) (k ∷ ns) words (v ∷ vs) zero m w number a is s = absurd (cc)
write-word seen pair form.Number (form.Reference ∷ forms) (k ∷ ns) words (v ∷ vs) (suc n) m w number a is s =
    subst (λ (i : ℕ). AreFor seen pair (form.Reference ∷ forms) (k ∷ ns) (slice_set words i m) (set (v ∷ vs) (suc n) w)) (skip (before_in form.Number forms n)) (a.0, write-word seen pair form.Number forms ns words vs n m w number a.1 is s)
write-word seen pair form.Number (form.Reference ∷ forms) (k ∷ ns) words [] n m w number a is s = absurd a
write-word seen pair form.Number (form.Reference ∷ forms) [] words vs n m w number a is s = absurd a
write-word seen pair form.Number (form.Number ∷ forms) ns (word ∷ words) (v ∷ vs) zero m w number a is s = (s, a.1)
write-word seen pair form.Number (form.Number ∷ forms) ns (word ∷ words) (v ∷ vs) (suc n) m w number a is s =
    subst (λ (i : ℕ). AreFor seen pair (form.Number ∷ forms) ns (slice_set (word ∷ words) i m) (set (v ∷ vs) (suc n) w)) (step (before_in form.Number forms n)) (a.0, write-word seen pair form.Number forms ns words vs n m w number a.1 is s)
write-word seen pair form.Number (form.Number ∷ forms) ns (word ∷ words) [] n m w number a is s = absurd a
write-word seen pair form.Number (form.Number ∷ forms) ns [] vs n m w number a is s = absurd a
write-word seen pair form.Number (form.Flag ∷ forms) ns (word ∷ words) (v ∷ vs) zero m w number a is s = absurd (cc)
write-word seen pair form.Number (form.Flag ∷ forms) ns (word ∷ words) (v ∷ vs) (suc n) m w number a is s =
    subst (λ (i : ℕ). AreFor seen pair (form.Flag ∷ forms) ns (slice_set (word ∷ words) i m) (set (v ∷ vs) (suc n) w)) (step (before_in form.Number forms n)) (a.0, write-word seen pair form.Number forms ns words vs n m w number a.1 is s)
write-word seen pair form.Number (form.Flag ∷ forms) ns (word ∷ words) [] n m w number a is s = absurd a
write-word seen pair form.Number (form.Flag ∷ forms) ns [] vs n m w number a is s = absurd a
write-word seen pair form.Number [] ns words vs n m w number a is s = absurd (cc)
write-word seen pair form.Flag (form.Reference ∷ forms) (k ∷ ns) words (v ∷ vs) zero m w number a is s = absurd (cc)
write-word seen pair form.Flag (form.Reference ∷ forms) (k ∷ ns) words (v ∷ vs) (suc n) m w number a is s =
    subst (λ (i : ℕ). AreFor seen pair (form.Reference ∷ forms) (k ∷ ns) (slice_set words i m) (set (v ∷ vs) (suc n) w)) (skip (before_in form.Flag forms n)) (a.0, write-word seen pair form.Flag forms ns words vs n m w number a.1 is s)
write-word seen pair form.Flag (form.Reference ∷ forms) (k ∷ ns) words [] n m w number a is s = absurd a
write-word seen pair form.Flag (form.Reference ∷ forms) [] words vs n m w number a is s = absurd a
write-word seen pair form.Flag (form.Number ∷ forms) ns (word ∷ words) (v ∷ vs) zero m w number a is s = absurd (cc)
write-word seen pair form.Flag (form.Number ∷ forms) ns (word ∷ words) (v ∷ vs) (suc n) m w number a is s =
    subst (λ (i : ℕ). AreFor seen pair (form.Number ∷ forms) ns (slice_set (word ∷ words) i m) (set (v ∷ vs) (suc n) w)) (step (before_in form.Flag forms n)) (a.0, write-word seen pair form.Flag forms ns words vs n m w number a.1 is s)
write-word seen pair form.Flag (form.Number ∷ forms) ns (word ∷ words) [] n m w number a is s = absurd a
write-word seen pair form.Flag (form.Number ∷ forms) ns [] vs n m w number a is s = absurd a
write-word seen pair form.Flag (form.Flag ∷ forms) ns (word ∷ words) (v ∷ vs) zero m w number a is s = (s, a.1)
write-word seen pair form.Flag (form.Flag ∷ forms) ns (word ∷ words) (v ∷ vs) (suc n) m w number a is s =
    subst (λ (i : ℕ). AreFor seen pair (form.Flag ∷ forms) ns (slice_set (word ∷ words) i m) (set (v ∷ vs) (suc n) w)) (step (before_in form.Flag forms n)) (a.0, write-word seen pair form.Flag forms ns words vs n m w number a.1 is s)
write-word seen pair form.Flag (form.Flag ∷ forms) ns (word ∷ words) [] n m w number a is s = absurd a
write-word seen pair form.Flag (form.Flag ∷ forms) ns [] vs n m w number a is s = absurd a
write-word seen pair form.Flag [] ns words vs n m w number a is s = absurd (cc)

-- The heap of the meaning, with one object in another's place, or with one more.

pub object-set : (heap : Heap) (id : ℕ) (old new : Object) → object_at heap id ≡ Some old → object_at (set heap id new) id ≡ Some new
object-set [] id old new is = absurd (cc)
object-set (o ∷ os) zero old new is = refl
object-set (o ∷ os) (suc id) old new is = object-set os id old new is

pub object-set_other : (heap : Heap) (id i : ℕ) (new : Object) → i ≢ id → object_at (set heap id new) i ≡ object_at heap i
object-set_other [] id i new ne = refl
object-set_other (o ∷ os) zero zero new ne = absurd (ne refl)
object-set_other (o ∷ os) zero (suc i) new ne = refl
object-set_other (o ∷ os) (suc id) zero new ne = refl
object-set_other (o ∷ os) (suc id) (suc i) new ne = object-set_other os id i new (λ e. ne (ap suc e))

pub object-last : (heap : Heap) (new : Object) → object_at (heap ++ new ∷ []) (length heap) ≡ Some new
object-last [] new = refl
object-last (o ∷ os) new = object-last os new

pub object-before : (heap : Heap) (new o : Object) (id : ℕ) → object_at heap id ≡ Some o → object_at (heap ++ new ∷ []) id ≡ Some o
object-before [] new o id is = absurd (cc)
object-before (p ∷ ps) new o zero is = is
object-before (p ∷ ps) new o (suc id) is = object-before ps new o id is

pub object-none : (heap : Heap) → object_at heap (length heap) ≡ None
object-none [] = refl
object-none (o ∷ os) = object-none os

-- An object that stands for one of the heap may be written.
pub not-fixed : (seen : Seen) (pair : Pairing) (it : Shown) (object : Object) → IsLike seen pair it object → IsFixed it.kind → ⊥
not-fixed seen pair it (Structure class fields) l = subst IsFixed l.kind_is
not-fixed seen pair it (Elements ty low elements) l = subst IsFixed l.rows.kind_is
not-fixed seen pair it (Scope text parent names) l = subst IsFixed l.kind_is
not-fixed seen pair it (Keyed table) l = subst IsFixed l

-- where one object changed, those stay that are of other kinds
pub others-stay : (of : Kind → Type 0) (seen now : Seen) (n : reference.Reference) (it new : Shown) → IsOne seen → seen n it → (of it.kind → ⊥) → ChangedAt seen n new now
    → (m : reference.Reference) (t : Shown) → of t.kind → seen m t → now m t
others-stay of seen now n it new one there other c m t k j =
    c.stays m t (λ e. other (subst of (sym (ap (λ (x : Shown). x.kind) (one n it t there (subst (λ (r : reference.Reference). seen r t) e j)))) k)) j

-- where one object that may be written changed, those that may not stay
pub fixed-changed : (seen now : Seen) (n : reference.Reference) (it new : Shown) → IsOne seen → seen n it → (IsFixed it.kind → ⊥) → ChangedAt seen n new now → Fixed seen now
fixed-changed seen now n it new one there other c = others-stay IsFixed seen now n it new one there other c

-- and each name keeps its kind, where the changed one does
pub kinds-changed : (seen now : Seen) (n : reference.Reference) (it new : Shown) → IsOne seen → seen n it → new.kind ≡ it.kind → ChangedAt seen n new now → Kinds seen now
kinds-changed seen now n it new one there same c m t j =
    elim (names-decided m n) [
      | inl e ↦
          let is : it ≡ t = one n it t there (subst (λ (r : reference.Reference). seen r t) e j) in
          subst (λ (r : reference.Reference). IsKindOf now r t.kind) (sym e) (record { it = new; there = c.there; kind_is = same ∙ ap (λ (x : Shown). x.kind) is })
      | inr ne ↦ record { it = t; there = c.stays m t ne j; kind_is = refl }
    ]
