-- What stands for a value stands for it under the new names.
use Rattle.std.proofs.Common.{arith, inl, inr, ◌⊎◌, ◌≡◌, ◌≢◌, ℕ, zero, suc, ◌+◌, List, [], ◌∷◌, ◌++◌, length, map, refl, sym, ap, ◌∙◌, subst, Option, Some, None, replicate}
use Rattle.std.proofs.lemmas.List.{length-map}
use Rattle.heap_meaning.specs.obj_layout.declared.kind.Kind.{Kind}
use Rattle.heap_meaning.specs.obj_layout.declared.kind.Kind.TheVariants as kind
use Rattle.heap_meaning.specs.obj_layout.declared.reference.Reference as reference
use Rattle.heap_meaning.specs.obj_layout.declared.reference.Reference.TheVariants as name
use Rattle.heap_meaning.specs.swizzle.Joint.{Shown}
use Rattle.heap_meaning.specs.swizzle.Changes.{IsKnown}
use Rattle.heap_meaning.specs.text_forms.declared.forms.Form.{Form}
use Rattle.heap_meaning.specs.text_forms.declared.forms.Form.TheVariants as form
use Rattle.heap_meaning.specs.text_forms.Forms.{forms_of, element_of}
use Rattle.heap_meaning.specs.heap_places.Shapes.{IsText}
use Rattle.heap_meaning.specs.ps_base.CodeUnit as units
use Rattle.heap_meaning.specs.ps_base.CodeUnit.{UnitView, ConstantView, ConstantsView}
use Rattle.heap_meaning.specs.ps_heap.Values.{Value, Num, Flag, Text, Nil, Pointer, Vector, Procedure, Nothing, as_written, as_compiled}
use Rattle.heap_meaning.specs.ps_heap.Objects.{Heap, Object, Structure, Elements, Scope, Keyed, object_at}
use Rattle.heap_meaning.specs.Units.{IsUnitSeen, AreSeen, IsConstantSeen}
use Rattle.heap_meaning.specs.Standing.{Seen, Pairing, IsKindOf, IsPointed, StandsForScope, IsClosure, StandsFor, IsWordOf, AreFor, IsAs, IsLike}
use Rattle.heap_meaning.specs.Paired.{name_in, paired, StandsRow}
use Rattle.renames.specs.Renames.{renamed, Before, Renames}

-- each pair is one under the new name
abbrev pub Moves : (reference.Reference → reference.Reference) → Pairing → Pairing → Type 0
Moves ρ pair now = (n : reference.Reference) (id : ℕ) → pair n id → now (ρ n) id

pub kind-moved : (seen now : Seen) (ρ : reference.Reference → reference.Reference) (n : reference.Reference) (of : Kind) → Renames seen now ρ → IsKindOf seen n of → IsKindOf now (ρ n) of
kind-moved seen now ρ n of r k = record { it = renamed ρ k.it; there = r.forth n k.it k.there; kind_is = k.kind_is }

pub pointed-moved : (seen now : Seen) (ρ : reference.Reference → reference.Reference) (n : reference.Reference) → Renames seen now ρ → IsPointed seen n → IsPointed now (ρ n)
pointed-moved seen now ρ n r p = elim p [
  | inl k ↦ inl (kind-moved seen now ρ n kind.Structure r k)
  | inr k ↦ inr (kind-moved seen now ρ n kind.Table r k)
]

pub text-moved : (seen now : Seen) (ρ : reference.Reference → reference.Reference) (n : reference.Reference) (bytes : List ℕ) → Renames seen now ρ → IsText seen n bytes → IsText now (ρ n) bytes
text-moved seen now ρ n bytes r t = record { it = renamed ρ t.it; there = r.forth n t.it t.there; kind = t.kind; bytes_are = t.bytes_are }

mutual
  unfolding IsUnitSeen AreSeen IsConstantSeen

  pub unit-moved : (seen now : Seen) (ρ : reference.Reference → reference.Reference) (n : reference.Reference) (u : UnitView) → Renames seen now ρ → IsUnitSeen seen n u → IsUnitSeen now (ρ n) u
  unit-moved seen now ρ n (units.unit code cs frame) r i =
      (renamed ρ i.0, r.forth n i.0 i.1, record { kind_is = i.2.kind_is; code_is = i.2.code_is; frame_is = i.2.frame_is }, constants-moved seen now ρ i.0.refs cs r i.3)

  constants-moved : (seen now : Seen) (ρ : reference.Reference → reference.Reference) (ns : List reference.Reference) (cs : ConstantsView) → Renames seen now ρ → AreSeen seen ns cs → AreSeen now (map ρ ns) cs
  constants-moved seen now ρ [] units.no_constants r i = tt
  constants-moved seen now ρ (n ∷ ns) units.no_constants r i = absurd i
  constants-moved seen now ρ [] (units.constant_then c cs) r i = absurd i
  constants-moved seen now ρ (n ∷ ns) (units.constant_then c cs) r i = (constant-moved seen now ρ n c r i.0, constants-moved seen now ρ ns cs r i.1)

  constant-moved : (seen now : Seen) (ρ : reference.Reference → reference.Reference) (n : reference.Reference) (c : ConstantView) → Renames seen now ρ → IsConstantSeen seen n c → IsConstantSeen now (ρ n) c
  constant-moved seen now ρ n (units.text bytes) r i = text-moved seen now ρ n bytes r i
  constant-moved seen now ρ n (units.literal u) r i = unit-moved seen now ρ n u r i

pub scope-moved : (seen now : Seen) (ρ : reference.Reference → reference.Reference) (pair more : Pairing) (n : reference.Reference) (scope : Option ℕ) → Renames seen now ρ → Moves ρ pair more
    → StandsForScope seen pair n scope → StandsForScope now more (ρ n) scope
scope-moved seen now ρ pair more n None r moves s = ap ρ s ∙ r.nil
scope-moved seen now ρ pair more n (Some id) r moves s = (moves n id s.0, kind-moved seen now ρ n kind.Scope r s.1)

pub closure-moved : (seen now : Seen) (ρ : reference.Reference → reference.Reference) (pair more : Pairing) (it : Shown) (of : UnitView) (scope : Option ℕ) → Renames seen now ρ → Moves ρ pair more
    → IsClosure seen pair it of scope → IsClosure now more (renamed ρ it) of scope
closure-moved seen now ρ pair more it of scope r moves c = record {
  kind_is = c.kind_is;
  code_name = ρ c.code_name;
  scope_name = ρ c.scope_name;
  home = c.home;
  refs = ap (map ρ) c.refs;
  nums = c.nums;
  is_unit = unit-moved seen now ρ c.code_name of r c.is_unit;
  fit = c.fit;
  is_scope = scope-moved seen now ρ pair more c.scope_name scope r moves c.is_scope;
}

pub stands-moved : (seen now : Seen) (ρ : reference.Reference → reference.Reference) (pair more : Pairing) (n : reference.Reference) (v : Value) → Renames seen now ρ → Moves ρ pair more
    → StandsFor seen pair n v → StandsFor now more (ρ n) v
stands-moved seen now ρ pair more n Nil r moves s = ap ρ s ∙ r.nil
stands-moved seen now ρ pair more n (Text bytes) r moves s = text-moved seen now ρ n bytes r s
stands-moved seen now ρ pair more n (Pointer id) r moves s = (moves n id s.0, pointed-moved seen now ρ n r s.1)
stands-moved seen now ρ pair more n (Vector id) r moves s = (moves n id s.0, kind-moved seen now ρ n kind.Vector r s.1)
stands-moved seen now ρ pair more n (Num z) r moves s = absurd s
stands-moved seen now ρ pair more n (Flag b) r moves s = absurd s
stands-moved seen now ρ pair more n (Procedure (as_written of) scope) r moves s = absurd s
stands-moved seen now ρ pair more n (Procedure (as_compiled of) scope) r moves s = record {
  it = renamed ρ s.it;
  there = r.forth n s.it s.there;
  is = closure-moved seen now ρ pair more s.it of scope r moves s.is;
}
stands-moved seen now ρ pair more n Nothing r moves s = absurd s

pub are-moved : (seen now : Seen) (ρ : reference.Reference → reference.Reference) (pair more : Pairing) (forms : List Form) (ns : List reference.Reference) (words : List ℕ) (vs : List Value) → Renames seen now ρ → Moves ρ pair more
    → AreFor seen pair forms ns words vs → AreFor now more forms (map ρ ns) words vs
are-moved seen now ρ pair more (form.Reference ∷ forms) (n ∷ ns) words (v ∷ vs) r moves a = (stands-moved seen now ρ pair more n v r moves a.0, are-moved seen now ρ pair more forms ns words vs r moves a.1)
are-moved seen now ρ pair more (form.Reference ∷ forms) (n ∷ ns) words [] r moves a = absurd a
are-moved seen now ρ pair more (form.Reference ∷ forms) [] words vs r moves a = absurd a
are-moved seen now ρ pair more (form.Number ∷ forms) ns (word ∷ words) (v ∷ vs) r moves a = (a.0, are-moved seen now ρ pair more forms ns words vs r moves a.1)
are-moved seen now ρ pair more (form.Number ∷ forms) ns (word ∷ words) [] r moves a = absurd a
are-moved seen now ρ pair more (form.Number ∷ forms) ns [] vs r moves a = absurd a
are-moved seen now ρ pair more (form.Flag ∷ forms) ns (word ∷ words) (v ∷ vs) r moves a = (a.0, are-moved seen now ρ pair more forms ns words vs r moves a.1)
are-moved seen now ρ pair more (form.Flag ∷ forms) ns (word ∷ words) [] r moves a = absurd a
are-moved seen now ρ pair more (form.Flag ∷ forms) ns [] vs r moves a = absurd a
are-moved seen now ρ pair more [] [] [] [] r moves a = tt
are-moved seen now ρ pair more [] [] [] (v ∷ vs) r moves a = absurd a
are-moved seen now ρ pair more [] [] (word ∷ words) vs r moves a = absurd a
are-moved seen now ρ pair more [] (n ∷ ns) words vs r moves a = absurd a

pub as-moved : (seen now : Seen) (ρ : reference.Reference → reference.Reference) (pair more : Pairing) (it : Shown) (of : Kind) (text : List ℕ) (first : ℕ → List ℕ) (forms : List Form) (vs : List Value) → Renames seen now ρ → Moves ρ pair more
    → IsAs seen pair it of text first forms vs → IsAs now more (renamed ρ it) of text first forms vs
as-moved seen now ρ pair more it of text first forms vs r moves a = record {
  kind_is = a.kind_is;
  text_name = ρ a.text_name;
  home = a.home;
  names = map ρ a.names;
  words = a.words;
  refs = ap (map ρ) a.refs;
  nums = a.nums;
  is_text = text-moved seen now ρ a.text_name text r a.is_text;
  are = are-moved seen now ρ pair more forms a.names a.words vs r moves a.are;
}

pub like-moved : (seen now : Seen) (ρ : reference.Reference → reference.Reference) (pair more : Pairing) (it : Shown) (object : Object) → Renames seen now ρ → Moves ρ pair more
    → IsLike seen pair it object → IsLike now more (renamed ρ it) object
like-moved seen now ρ pair more it (Structure class fields) r moves l = as-moved seen now ρ pair more it kind.Structure class (λ home. home ∷ []) (forms_of class) fields r moves l
like-moved seen now ρ pair more it (Elements ty low elements) r moves l = record {
  bound = l.bound;
  bound_is = l.bound_is;
  fits = l.fits;
  rows = as-moved seen now ρ pair more it kind.Vector ty (λ home. home ∷ l.bound ∷ []) (replicate (length elements) (element_of ty)) elements r moves l.rows;
}
like-moved seen now ρ pair more it (Scope text parent values) r moves l = record {
  kind_is = l.kind_is;
  text_name = ρ l.text_name;
  parent_name = ρ l.parent_name;
  home = l.home;
  names = map ρ l.names;
  words = l.words;
  refs = ap (map ρ) l.refs;
  nums = l.nums;
  is_text = text-moved seen now ρ l.text_name text r l.is_text;
  is_parent = scope-moved seen now ρ pair more l.parent_name parent r moves l.is_parent;
  are = are-moved seen now ρ pair more (forms_of text) l.names l.words values r moves l.are;
}
like-moved seen now ρ pair more it (Keyed table) r moves l = l

-- One renaming after another.

names_after : (ρ σ : reference.Reference → reference.Reference) (names : List reference.Reference) → map σ (map ρ names) ≡ map (λ n. σ (ρ n)) names
names_after ρ σ [] = refl
names_after ρ σ (n ∷ ns) = ap (λ ms. σ (ρ n) ∷ ms) (names_after ρ σ ns)

shown_after : (ρ σ : reference.Reference → reference.Reference) (it : Shown) → renamed σ (renamed ρ it) ≡ renamed (λ n. σ (ρ n)) it
shown_after ρ σ it = ap (λ rs. record it { refs = rs }) (names_after ρ σ it.refs)

pub renames-then : (a b c : Seen) (ρ σ : reference.Reference → reference.Reference) → Renames a b ρ → Renames b c σ → Renames a c (λ n. σ (ρ n))
renames-then a b c ρ σ r s = record {
  nil = ap σ r.nil ∙ s.nil;
  only_nil = λ n e. r.only_nil n (s.only_nil (ρ n) e);
  one = λ m n km kn e.
      r.one m n km kn (s.one (ρ m) (ρ n) (record { it = renamed ρ km.it; is = r.forth m km.it km.is }) (record { it = renamed ρ kn.it; is = r.forth n kn.it kn.is }) e);
  forth = λ n it k. subst (c (σ (ρ n))) (shown_after ρ σ it) (s.forth (ρ n) (renamed ρ it) (r.forth n it k));
  back = λ n it k.
      let second = s.back n it k in
      let first = r.back second.name_before second.it_before second.is in
      record {
        name_before = first.name_before;
        it_before = first.it_before;
        is = first.is;
        name_is = second.name_is ∙ ap σ first.name_is;
        it_is = second.it_is ∙ (ap (renamed σ) first.it_is ∙ shown_after ρ σ first.it_before);
      };
}

pub renames-none : (seen : Seen) → Renames seen seen (λ n. n)
renames-none seen = record {
  nil = refl;
  only_nil = λ n e. e;
  one = λ a b ka kb e. e;
  forth = λ n it k. subst (seen n) (sym (same it)) k;
  back = λ n it k. record { name_before = n; it_before = it; is = k; name_is = refl; it_is = sym (same it) };
}
  where
    names_same : (names : List reference.Reference) → map (λ n. n) names ≡ names
    names_same [] = refl
    names_same (n ∷ ns) = ap (λ ms. n ∷ ms) (names_same ns)

    same : (it : Shown) → renamed (λ n. n) it ≡ it
    same it = ap (λ rs. record it { refs = rs }) (names_same it.refs)
