-- Texts that objects of the area denote, of which sort a value is, and when two values are one object.
use Rattle.std.proofs.Common.{arith, inl, inr, ◌⊎◌, ◌≡◌, ◌≢◌, ℕ, ◌*◌, List, refl, sym, ap, ◌∙◌, subst, Option, Some, None, Bool, true, false, nat_eq}
use Rattle.std.specs.Prelude.{drop}
use Rattle.std.specs.Option.{option_eq}
use Rattle.std.proofs.lemmas.Bool.{eq-eqb, cases_eq}
use Rattle.heap_meaning.specs.ps_outside.Outside.{Outside}
use Rattle.heap_meaning.specs.obj_area.Words.{AreBytes, bytes_of}
use Rattle.heap_meaning.proofs.of_obj_area.WordLaws.{AreBytes-take, AreBytes-drop}
use Rattle.heap_meaning.proofs.of_obj_area.AreaLaws.{AreBytes-bytes_of}
use Rattle.heap_meaning.specs.obj_layout.Stored.{Space}
use Rattle.heap_meaning.specs.obj_layout.declared.kind.Kind.{Kind}
use Rattle.heap_meaning.specs.obj_layout.declared.kind.Kind.TheVariants as kind
use Rattle.heap_meaning.specs.obj_layout.declared.reference.Reference as reference
use Rattle.heap_meaning.specs.swizzle.Objects.{words_before}
use Rattle.heap_meaning.specs.swizzle.Heap as area
use Rattle.heap_meaning.specs.swizzle.Heap.{IsHeap, IsHeld, header_at, object_at}
use Rattle.heap_meaning.specs.swizzle.Joint.{shown_at, name_at}
use Rattle.heap_meaning.specs.swizzle.Text.{text_at}
use Rattle.heap_meaning.proofs.of_swizzle.NameLaws.{name_at-injective}
use Rattle.heap_meaning.specs.ps_heap.Values.{Value, Num, Flag, Text, Nil, Pointer, Vector, Procedure, Nothing}
use Rattle.heap_meaning.specs.ps_heap.Objects.{Heap, is_one_object}
use Rattle.heap_meaning.specs.Paired.{paired}
use Rattle.joint_ops.specs.World.{IsWorld, DenotesIn}
use Rattle.joint_ops.specs.Operands.{IsOfSort, IsByObject}
use Rattle.joint_ops.specs.declared.values.Sort.{Sort}
use Rattle.joint_ops.specs.declared.values.Sort.TheVariants as sort
use Rattle.joint_ops.proofs.SeenLaws.{seen-held, shown-bytes, none-nil, some-not_nil, text-denoted, pointer-denoted, vector-denoted, procedure-kind}

-- An object of the area that is a text denotes its bytes.
pub denotes-text : (here : area.Heap) (outside : Outside Space) (names : List reference.Reference) (at : ℕ) (bytes : List ℕ) → IsHeld here at
    → (header_at here at).kind ≡ kind.Text → text_at here at ≡ bytes → DenotesIn here outside names (Some at) (Text bytes)
denotes-text here outside names at bytes held kinds are = record {
  name = name_at here at;
  denotes = (held, refl);
  stands = record { it = shown_at here at; there = seen-held here outside at held; kind = kinds; bytes_are = sym (shown-bytes here at kinds) ∙ are };
}

-- its bytes are bytes
pub text-bytes : (here : area.Heap) (at : ℕ) → AreBytes (text_at here at)
text-bytes here at =
    let o = object_at here at in
    AreBytes-take o.header.bytes (drop (8 * words_before o.header.kind) (bytes_of o.nums))
    (AreBytes-drop (8 * words_before o.header.kind) (bytes_of o.nums) (AreBytes-bytes_of o.nums))

-- The sort of an object is that of the value that it denotes.
pub sorted-none : (here : area.Heap) (outside : Outside Space) (names : List reference.Reference) (v : Value) → DenotesIn here outside names None v → IsOfSort v sort.Nil
sorted-none here outside names v d = subst (λ (w : Value). IsOfSort w sort.Nil) (sym (none-nil here outside names v d)) tt

-- the sort of an object of this kind
pub sort_of : Kind → Sort
sort_of kind.Text = sort.Text
sort_of kind.Structure = sort.Pointer
sort_of kind.Table = sort.Pointer
sort_of kind.Vector = sort.Vector
sort_of kind.Closure = sort.Procedure
sort_of _ = sort.Other

pub sorted-some : (here : area.Heap) (outside : Outside Space) (names : List reference.Reference) (at : ℕ) (v : Value) → IsHeap here → DenotesIn here outside names (Some at) v
    → IsOfSort v (sort_of (header_at here at).kind)
unfolding sort_of
sorted-some here outside names at Nil h d = absurd (some-not_nil here outside names at d)
sorted-some here outside names at (Text bytes) h d = subst (λ (k : Kind). IsOfSort (Text bytes) (sort_of k))
    (sym (text-denoted here outside names at bytes h d).kind) tt
sorted-some here outside names at (Pointer id) h d = elim (pointer-denoted here outside names at id h d).kind [
  | inl k ↦ subst (λ (of : Kind). IsOfSort (Pointer id) (sort_of of)) (sym k) tt
  | inr k ↦ subst (λ (of : Kind). IsOfSort (Pointer id) (sort_of of)) (sym k) tt
]
sorted-some here outside names at (Vector id) h d = subst (λ (k : Kind). IsOfSort (Vector id) (sort_of k)) (sym (vector-denoted here outside names at id h d).kind) tt
sorted-some here outside names at (Num z) h d = absurd (d.stands)
sorted-some here outside names at (Flag b) h d = absurd (d.stands)
sorted-some here outside names at (Procedure does scope) h d = subst (λ (k : Kind). IsOfSort (Procedure does scope) (sort_of k))
    (sym (procedure-kind here outside names at does scope h d)) tt
sorted-some here outside names at Nothing h d = absurd (d.stands)

-- Two objects are one where they lie at one place.

same-number : (here : area.Heap) (outside : Outside Space) (of : Heap) (names : List reference.Reference) (a b id i : ℕ) → IsHeap here → IsWorld here outside of names
    → IsHeld here a → IsHeld here b → paired names (name_at here a) id → paired names (name_at here b) i → (r : Bool)
    → ((r ≡ true) → Some a ≡ Some b) → ((r ≡ false) → Some a ≢ Some b) → r ≡ nat_eq id i
same-number here outside of names a b id i h w ha hb p q true yes_one other =
    let same : a ≡ b = let e = yes_one refl in cc in
    sym (eq-eqb id i (w.row.stands.one_number (name_at here a) id i p (subst (λ (k : ℕ). paired names (name_at here k) i) (sym same) q)))
same-number here outside of names a b id i h w ha hb p q false yes_one other =
    elim (cases_eq id i) [
      | inl same ↦
          let names_same = w.row.stands.one_name (name_at here a) (name_at here b) id p
          (subst (λ (k : ℕ). paired names (name_at here b) k) (sym same) q) in
          absurd (other refl (ap Some (name_at-injective here a b h ha hb names_same)))
      | inr apart ↦ grind (arith, apart)
    ]

-- structures and tables aren't vectors
apart-kinds : (here : area.Heap) (a b : ℕ) → ((header_at here a).kind ≡ kind.Structure) ⊎ ((header_at here a).kind ≡ kind.Table) → (header_at here b).kind ≡ kind.Vector → Some a ≢ Some b
apart-kinds here a b s v e =
    let same : a ≡ b = cc in
    let at = ap (λ (k : ℕ). (header_at here k).kind) same ∙ v in
    elim s [
      | inl k ↦ let bad : kind.Structure ≡ kind.Vector = sym k ∙ at in absurd (cc)
      | inr k ↦ let bad : kind.Table ≡ kind.Vector = sym k ∙ at in absurd (cc)
    ]

-- what the test of two places says
abbrev pub Tells : Bool → Option ℕ → Option ℕ → Type 0
Tells r a b = (r ≡ true → a ≡ b) × (r ≡ false → a ≢ b)

-- what comparing two places answers
pub tells-same : (a b : Option ℕ) (r : Bool) → r ≡ option_eq nat_eq a b → Tells r a b
tells-same None None r e = (λ q. refl, λ q. let bad : true ≡ false = sym e ∙ q in absurd (cc))
tells-same None (Some b) r e = (λ q. let bad : false ≡ true = sym e ∙ q in absurd (cc), λ q. λ s. cc)
tells-same (Some a) None r e = (λ q. let bad : false ≡ true = sym e ∙ q in absurd (cc), λ q. λ s. cc)
tells-same (Some a) (Some b) r e = (
  λ q. let same : a ≡ b = let t : nat_eq a b ≡ true = sym e ∙ q in grind (arith, t) in ap Some same,
  λ q. λ s. let same : a ≡ b = cc in
      let t : nat_eq a b ≡ false = sym e ∙ q in let u = eq-eqb a b same in cc,
)

told-true : (r : Bool) (a b : Option ℕ) → Tells r a b → a ≡ b → r ≡ true
told-true true a b t e = refl
told-true false a b t e = absurd (t.1 refl e)

told-false : (r : Bool) (a b : Option ℕ) → Tells r a b → a ≢ b → r ≡ false
told-false true a b t ne = absurd (ne (t.0 refl))
told-false false a b t ne = refl

nil-other : (w : Value) → (w ≡ Nil → ⊥) → (is_one_object Nil w ≡ false) × (is_one_object w Nil ≡ false)
unfolding is_one_object
nil-other Nil ne = absurd (ne refl)
nil-other (Num z) ne = (refl, refl)
nil-other (Flag b) ne = (refl, refl)
nil-other (Text bytes) ne = (refl, refl)
nil-other (Pointer id) ne = (refl, refl)
nil-other (Vector id) ne = (refl, refl)
nil-other (Procedure of scope) ne = (refl, refl)
nil-other Nothing ne = (refl, refl)

not_nil : (here : area.Heap) (outside : Outside Space) (names : List reference.Reference) (at : ℕ) (v : Value) → DenotesIn here outside names (Some at) v → v ≡ Nil → ⊥
not_nil here outside names at v d e = some-not_nil here outside names at (subst (DenotesIn here outside names (Some at)) e d)

both-some : (here : area.Heap) (outside : Outside Space) (of : Heap) (names : List reference.Reference) (a b : ℕ) (v w : Value) (r : Bool) → IsHeap here
    → IsWorld here outside of names → DenotesIn here outside names (Some a) v → DenotesIn here outside names (Some b) w → IsByObject v → IsByObject w
    → Tells r (Some a) (Some b) → r ≡ is_one_object v w
unfolding is_one_object
both-some here outside of names a b (Pointer id) (Pointer i) r h world d e nv nw t =
    let p = pointer-denoted here outside names a id h d in
    let q = pointer-denoted here outside names b i h e in
    same-number here outside of names a b id i h world p.held q.held p.pair q.pair r t.0 t.1
both-some here outside of names a b (Vector id) (Vector i) r h world d e nv nw t =
    let p = vector-denoted here outside names a id h d in
    let q = vector-denoted here outside names b i h e in
    same-number here outside of names a b id i h world p.held q.held p.pair q.pair r t.0 t.1
both-some here outside of names a b (Pointer id) (Vector i) r h world d e nv nw t =
    told-false r (Some a) (Some b) t (apart-kinds here a b (pointer-denoted here outside names a id h d).kind (vector-denoted here outside names b i h e).kind)
both-some here outside of names a b (Vector id) (Pointer i) r h world d e nv nw t =
    told-false r (Some a) (Some b) t
    (λ q. apart-kinds here b a (pointer-denoted here outside names b i h e).kind (vector-denoted here outside names a id h d).kind (sym q))
both-some here outside of names a b Nil w r h world d e nv nw t = absurd (some-not_nil here outside names a d)
both-some here outside of names a b (Text bytes) w r h world d e nv nw t = absurd nv
both-some here outside of names a b (Num z) w r h world d e nv nw t = absurd (d.stands)
both-some here outside of names a b (Flag z) w r h world d e nv nw t = absurd (d.stands)
both-some here outside of names a b (Procedure does scope) w r h world d e nv nw t = absurd nv
both-some here outside of names a b Nothing w r h world d e nv nw t = absurd (d.stands)
both-some here outside of names a b (Pointer id) Nil r h world d e nv nw t = absurd (some-not_nil here outside names b e)
both-some here outside of names a b (Pointer id) (Text bytes) r h world d e nv nw t = absurd nw
both-some here outside of names a b (Pointer id) (Num z) r h world d e nv nw t = absurd (e.stands)
both-some here outside of names a b (Pointer id) (Flag z) r h world d e nv nw t = absurd (e.stands)
both-some here outside of names a b (Pointer id) (Procedure does scope) r h world d e nv nw t = absurd nw
both-some here outside of names a b (Pointer id) Nothing r h world d e nv nw t = absurd (e.stands)
both-some here outside of names a b (Vector id) Nil r h world d e nv nw t = absurd (some-not_nil here outside names b e)
both-some here outside of names a b (Vector id) (Text bytes) r h world d e nv nw t = absurd nw
both-some here outside of names a b (Vector id) (Num z) r h world d e nv nw t = absurd (e.stands)
both-some here outside of names a b (Vector id) (Flag z) r h world d e nv nw t = absurd (e.stands)
both-some here outside of names a b (Vector id) (Procedure does scope) r h world d e nv nw t = absurd nw
both-some here outside of names a b (Vector id) Nothing r h world d e nv nw t = absurd (e.stands)

pub is-one : (here : area.Heap) (outside : Outside Space) (of : Heap) (names : List reference.Reference) (a b : Option ℕ) (v w : Value) (r : Bool) → IsHeap here
    → IsWorld here outside of names → DenotesIn here outside names a v → DenotesIn here outside names b w → IsByObject v → IsByObject w
    → Tells r a b → r ≡ is_one_object v w
unfolding is_one_object
is-one here outside of names None None v w r h world d e nv nw t =
    told-true r None None t refl
    ∙ sym (ap (λ (x : Value). is_one_object x w) (none-nil here outside names v d) ∙ ap (is_one_object Nil) (none-nil here outside names w e))
is-one here outside of names None (Some b) v w r h world d e nv nw t =
    told-false r None (Some b) t (λ q. cc)
    ∙ sym (ap (λ (x : Value). is_one_object x w) (none-nil here outside names v d) ∙ (nil-other w (not_nil here outside names b w e)).0)
is-one here outside of names (Some a) None v w r h world d e nv nw t =
    told-false r (Some a) None t (λ q. cc)
    ∙ sym (ap (is_one_object v) (none-nil here outside names w e) ∙ (nil-other v (not_nil here outside names a v d)).1)
is-one here outside of names (Some a) (Some b) v w r h world d e nv nw t = both-some here outside of names a b v w r h world d e nv nw t
