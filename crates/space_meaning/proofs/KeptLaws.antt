-- What stands for a value or an object where area and vault are seen stands for it in a space that keeps what is seen under PIDs.
use Rattle.std.proofs.Common.{inl, inr, ◌≡◌, ◌≢◌, ℕ, zero, suc, List, [], ◌∷◌, ◌++◌, length, map, get_or, replicate, refl, sym, ◌∙◌, subst, Option, Some, None}
use Rattle.std.specs.List.{AllByRecursion}
use Rattle.heap_meaning.specs.ps_base.CodeUnit as units
use Rattle.heap_meaning.specs.ps_base.CodeUnit.{UnitView, ConstantView, ConstantsView}
use Rattle.heap_meaning.specs.obj_layout.declared.kind.Kind.{Kind}
use Rattle.heap_meaning.specs.obj_layout.declared.kind.Kind.TheVariants as kind
use Rattle.heap_meaning.specs.obj_layout.declared.reference.Reference.{Reference}
use Rattle.heap_meaning.specs.obj_layout.declared.reference.Reference.TheVariants as name
use Rattle.heap_meaning.specs.obj_layout.Stored.{Space}
use Rattle.heap_meaning.specs.swizzle.Objects.{object_in}
use Rattle.heap_meaning.specs.swizzle.Joint.{Shown, far_of}
use Rattle.heap_meaning.specs.text_forms.declared.forms.Form.{Form}
use Rattle.heap_meaning.specs.text_forms.declared.forms.Form.TheVariants as form
use Rattle.heap_meaning.specs.text_forms.Forms.{element_of, forms_of}
use Rattle.heap_meaning.specs.heap_places.Shapes.{IsText, slot_of}
use Rattle.heap_meaning.specs.avl_trees.Trees.{Tree, leaf, node, items}
use Rattle.heap_meaning.specs.avl_trees.Standing.{Item, row_of, Stands as TreeStands}
use Rattle.heap_meaning.specs.node_rows.Keys.{Keys, by_ints as int_keys, by_texts as text_keys, KeyOf, IsKey}
use Rattle.heap_meaning.specs.node_rows.Nodes.{I, IsAmong, HasNode}
use Rattle.heap_meaning.specs.Units.{IsUnitSeen, AreSeen, IsConstantSeen}
use Rattle.heap_meaning.specs.Standing.{Seen, Pairing, IsKindOf, IsPointed, StandsForScope, IsClosure, StandsFor, AreFor, IsAs, IsLike}
use Rattle.heap_meaning.specs.Tables.{ArePairs, names_of, HasEntries, HasNodes, IsTable}
use Rattle.heap_meaning.proofs.TableLaws.{among-front, among-back}
use Rattle.heap_fit.specs.ps_heap.Values.{Value, Num, Flag, Text, Nil, Pointer, Vector, Procedure, Nothing, as_written, as_compiled}
use Rattle.heap_fit.specs.ps_heap.Objects.{Object, Structure, Elements, Scope, Keyed}
use Rattle.heap_fit.specs.ps_heap.References.{values_of}
use Rattle.heap_fit.specs.ps_heap.Tables.{Entry, Table, without_keys, by_strings, by_ints}
use Rattle.ps_code_laws.specs.Compiled.{compiled_all, compiled_object}
use Rattle.space_meaning.specs.Space.{SeenIn}
use Rattle.space_meaning.specs.Stands.{HasUnits, IsThing}

-- no index of an area
abbrev pub IsFarName : Reference → Type 0
IsFarName name.Nil = Unit {0}
IsFarName (name.Pid pid) = Unit {0}
IsFarName (name.Local at) = ⊥

abbrev pub AreFar : List Reference → Type 0
AreFar ns = AllByRecursion IsFarName ns

far-all : (rs : List Reference) → AreFar (map far_of rs)
far-all [] = tt
far-all (name.Nil ∷ rs) = (tt, far-all rs)
far-all (name.Pid pid ∷ rs) = (tt, far-all rs)
far-all (name.Local at ∷ rs) = (tt, far-all rs)

-- what is seen in a space refers to no object of an area
pub seen-far : (space : Space) (n : Reference) (it : Shown) → SeenIn space n it → AreFar it.refs
seen-far space n it s = subst (λ (x : Shown). AreFar x.refs) (sym s.shown_is) (far-all (object_in s.words).refs)

pub slot-far : (ns : List Reference) (k : ℕ) → AreFar ns → IsFarName (get_or ns k name.Nil)
slot-far [] k f = tt
slot-far (n ∷ ns) zero f = f.0
slot-far (n ∷ ns) (suc k) f = slot-far ns k f.1

module _ (seen : Seen) (space : Space)
    (nil : (it : Shown) → seen name.Nil it → ⊥)
    (things : (pid : ℕ) (it : Shown) → seen (name.Pid pid) it → it.kind ≢ kind.Node → SeenIn space (name.Pid pid) it) where
  -- what has a name that is no index is seen in the space, unless it is a node
  pub thing-kept : (n : Reference) (it : Shown) (of : Kind) → IsFarName n → it.kind ≡ of → of ≢ kind.Node → seen n it → SeenIn space n it
  thing-kept name.Nil it of f is other s = absurd (nil it s)
  thing-kept (name.Pid pid) it of f is other s = things pid it s (λ e. other (sym is ∙ e))
  thing-kept (name.Local at) it of f is other s = absurd f

  pub text-kept : (n : Reference) (bytes : List ℕ) → IsFarName n → IsText seen n bytes → IsText (SeenIn space) n bytes
  text-kept n bytes f t = record { it = t.it; there = thing-kept n t.it kind.Text f t.kind (λ e. cc) t.there; kind = t.kind; bytes_are = t.bytes_are }

  pub kind-kept : (n : Reference) (of : Kind) → IsFarName n → of ≢ kind.Node → IsKindOf seen n of → IsKindOf (SeenIn space) n of
  kind-kept n of f other k = record { it = k.it; there = thing-kept n k.it of f k.kind_is other k.there; kind_is = k.kind_is }

  pointed-kept : (n : Reference) → IsFarName n → IsPointed seen n → IsPointed (SeenIn space) n
  pointed-kept n f p = elim p [
    | inl k ↦ inl (kind-kept n kind.Structure f (λ e. cc) k)
    | inr k ↦ inr (kind-kept n kind.Table f (λ e. cc) k)
  ]

  mutual
    unfolding IsUnitSeen AreSeen IsConstantSeen

    unit-kept : (n : Reference) (u : UnitView) → IsFarName n → IsUnitSeen seen n u → IsUnitSeen (SeenIn space) n u
    unit-kept n (units.unit code cs frame) f i =
        let there = thing-kept n i.0 kind.Code f i.2.kind_is (λ e. cc) i.1 in
        (i.0, there, i.2, constants-kept i.0.refs cs (seen-far space n i.0 there) i.3)

    constants-kept : (ns : List Reference) (cs : ConstantsView) → AreFar ns → AreSeen seen ns cs → AreSeen (SeenIn space) ns cs
    constants-kept [] units.no_constants f i = tt
    constants-kept (n ∷ ns) units.no_constants f i = absurd i
    constants-kept [] (units.constant_then c cs) f i = absurd i
    constants-kept (n ∷ ns) (units.constant_then c cs) f i = (constant-kept n c f.0 i.0, constants-kept ns cs f.1 i.1)

    constant-kept : (n : Reference) (c : ConstantView) → IsFarName n → IsConstantSeen seen n c → IsConstantSeen (SeenIn space) n c
    constant-kept n (units.text bytes) f i = text-kept n bytes f i
    constant-kept n (units.literal u) f i = unit-kept n u f i

  module _ (pair now : Pairing) (pairs : (pid id : ℕ) → pair (name.Pid pid) id → now (name.Pid pid) id) where
    -- what is paired and seen under a name that is no index is paired now
    paired-kept : (n : Reference) (id : ℕ) (of : Kind) → IsFarName n → IsKindOf seen n of → pair n id → now n id
    paired-kept name.Nil id of f k p = absurd (nil k.it k.there)
    paired-kept (name.Pid pid) id of f k p = pairs pid id p
    paired-kept (name.Local at) id of f k p = absurd f

    scope-kept : (n : Reference) (scope : Option ℕ) → IsFarName n → StandsForScope seen pair n scope → StandsForScope (SeenIn space) now n scope
    scope-kept n None f s = s
    scope-kept n (Some id) f s = (paired-kept n id kind.Scope f s.1 s.0, kind-kept n kind.Scope f (λ e. cc) s.1)

    closure-kept : (it : Shown) (of : UnitView) (scope : Option ℕ) → AreFar it.refs → IsClosure seen pair it of scope → IsClosure (SeenIn space) now it of scope
    closure-kept it of scope far c =
        let f = subst AreFar c.refs far in
        record {
          kind_is = c.kind_is;
          code_name = c.code_name;
          scope_name = c.scope_name;
          home = c.home;
          refs = c.refs;
          nums = c.nums;
          is_unit = unit-kept c.code_name of f.0 c.is_unit;
          fit = c.fit;
          is_scope = scope-kept c.scope_name scope f.1.0 c.is_scope;
        }

    pub stands-kept : (n : Reference) (v : Value) → IsFarName n → StandsFor seen pair n v → StandsFor (SeenIn space) now n v
    stands-kept n Nil f s = s
    stands-kept n (Text bytes) f s = text-kept n bytes f s
    stands-kept n (Pointer id) f s = elim s.1 [
      | inl k ↦ (paired-kept n id kind.Structure f k s.0, pointed-kept n f s.1)
      | inr k ↦ (paired-kept n id kind.Table f k s.0, pointed-kept n f s.1)
    ]
    stands-kept n (Vector id) f s = (paired-kept n id kind.Vector f s.1 s.0, kind-kept n kind.Vector f (λ e. cc) s.1)
    stands-kept n (Num z) f s = absurd s
    stands-kept n (Flag b) f s = absurd s
    stands-kept n (Procedure (as_written of) scope) f s = absurd s
    stands-kept n (Procedure (as_compiled of) scope) f s =
        let there = thing-kept n s.it kind.Closure f s.is.kind_is (λ e. cc) s.there in
        record { it = s.it; there = there; is = closure-kept s.it of scope (seen-far space n s.it there) s.is }
    stands-kept n Nothing f s = absurd s

    are-kept : (forms : List Form) (ns : List Reference) (words : List ℕ) (vs : List Value) → AreFar ns → AreFor seen pair forms ns words vs → AreFor (SeenIn space) now forms ns words vs
    are-kept (form.Reference ∷ forms) (n ∷ ns) words (v ∷ vs) f a = (stands-kept n v f.0 a.0, are-kept forms ns words vs f.1 a.1)
    are-kept (form.Reference ∷ forms) (n ∷ ns) words [] f a = absurd a
    are-kept (form.Reference ∷ forms) [] words vs f a = absurd a
    are-kept (form.Number ∷ forms) ns (word ∷ words) (v ∷ vs) f a = (a.0, are-kept forms ns words vs f a.1)
    are-kept (form.Number ∷ forms) ns (word ∷ words) [] f a = absurd a
    are-kept (form.Number ∷ forms) ns [] vs f a = absurd a
    are-kept (form.Flag ∷ forms) ns (word ∷ words) (v ∷ vs) f a = (a.0, are-kept forms ns words vs f a.1)
    are-kept (form.Flag ∷ forms) ns (word ∷ words) [] f a = absurd a
    are-kept (form.Flag ∷ forms) ns [] vs f a = absurd a
    are-kept [] [] [] [] f a = tt
    are-kept [] [] [] (v ∷ vs) f a = absurd a
    are-kept [] [] (word ∷ words) vs f a = absurd a
    are-kept [] (n ∷ ns) words vs f a = absurd a

    as-kept : (it : Shown) (of : Kind) (text : List ℕ) (first : ℕ → List ℕ) (forms : List Form) (vs : List Value) → AreFar it.refs
        → IsAs seen pair it of text first forms vs → IsAs (SeenIn space) now it of text first forms vs
    as-kept it of text first forms vs far a =
        let f = subst AreFar a.refs far in
        record {
          kind_is = a.kind_is;
          text_name = a.text_name;
          home = a.home;
          names = a.names;
          words = a.words;
          refs = a.refs;
          nums = a.nums;
          is_text = text-kept a.text_name text f.0 a.is_text;
          are = are-kept forms a.names a.words vs f.1 a.are;
        }

    -- an object of the meaning, whose procedures have units
    pub object-kept : (it : Shown) (object : Object) → AreFar it.refs → AllByRecursion HasUnits (values_of object) → IsLike seen pair it (compiled_object object)
        → IsThing (SeenIn space) now it object
    object-kept it (Structure class fields) far u l = (as-kept it kind.Structure class (λ home. home ∷ []) (forms_of class) (compiled_all fields) far l, u)
    object-kept it (Elements ty low elements) far u l = (
      record {
        bound = l.bound;
        bound_is = l.bound_is;
        fits = l.fits;
        rows = as-kept it kind.Vector ty (λ home. home ∷ l.bound ∷ []) (replicate (length (compiled_all elements)) (element_of ty)) (compiled_all elements) far l.rows;
      },
      u,
    )
    object-kept it (Scope text parent values) far u l =
        let f = subst AreFar l.refs far in (
          record {
            kind_is = l.kind_is;
            text_name = l.text_name;
            parent_name = l.parent_name;
            home = l.home;
            names = l.names;
            words = l.words;
            refs = l.refs;
            nums = l.nums;
            is_text = text-kept l.text_name text f.0 l.is_text;
            is_parent = scope-kept l.parent_name parent f.1.0 l.is_parent;
            are = are-kept (forms_of text) l.names l.words (compiled_all values) f.1.1 l.are;
          },
          u,
        )
    object-kept it (Keyed table) far u l = l

    -- Tables, whose nodes are kept.

    pairs-kept : {K : Type 0} (is : List (Item Reference K Reference)) (es : List (Entry K)) → AllByRecursion (λ (a : Item Reference K Reference). IsFarName a.entry.value) is
        → ArePairs seen pair is es → ArePairs (SeenIn space) now is es
    pairs-kept [] [] f p = tt
    pairs-kept (a ∷ is) (e ∷ es) f p = (p.0, stands-kept a.entry.value (Pointer e.object) f.0 p.1, pairs-kept is es f.1 p.2)
    pairs-kept [] (e ∷ es) f p = absurd p
    pairs-kept (a ∷ is) [] f p = absurd p

    module _ (names : List Reference) (kept : (n : Reference) → IsAmong n names → (it : Shown) → seen n it → SeenIn space n it) where
      key-kept : (ks : Keys) (it : Shown) (key : KeyOf ks) → AreFar it.refs → IsKey ks seen it key → IsKey ks (SeenIn space) it key
      key-kept int_keys it key far k = k
      key-kept text_keys it key far k = text-kept (slot_of it 2) key (slot-far it.refs 2 far) k

      node-kept : (ks : Keys) (l : Tree (I ks)) (a : I ks) (r : Tree (I ks)) → IsAmong a.name names → HasNode ks seen a.name (row_of l a r) → HasNode ks (SeenIn space) a.name (row_of l a r)
      node-kept ks l a r among h =
          let there = kept a.name among h.it h.there in
          record {
            it = h.it;
            there = there;
            is = record {
              kind = h.is.kind;
              refs = h.is.refs;
              nums = h.is.nums;
              left = h.is.left;
              right = h.is.right;
              key = key-kept ks h.it a.entry.key (seen-far space a.name h.it there) h.is.key;
              value = h.is.value;
              height = h.is.height;
            };
          }

      tree-kept : (ks : Keys) (t : Tree (I ks)) → ((n : Reference) → IsAmong n (names_of (items t)) → IsAmong n names) → TreeStands (HasNode ks seen) t → TreeStands (HasNode ks (SeenIn space)) t
      tree-kept ks leaf all s = tt
      tree-kept ks (node l a r) all s = (
        node-kept ks l a r (all a.name (among-back (items l) (a ∷ items r) a.name (inl refl))) s.0,
        tree-kept ks l (λ n m. all n (among-front (items l) (a ∷ items r) n m)) s.1,
        tree-kept ks r (λ n m. all n (among-back (items l) (a ∷ items r) n (inr m))) s.2,
      )

      far-append : {K : Type 0} (xs ys : List (Item Reference K Reference)) → AllByRecursion (λ (a : Item Reference K Reference). IsFarName a.entry.value) xs
          → AllByRecursion (λ (a : Item Reference K Reference). IsFarName a.entry.value) ys → AllByRecursion (λ (a : Item Reference K Reference). IsFarName a.entry.value) (xs ++ ys)
      far-append [] ys f g = g
      far-append (x ∷ xs) ys f g = (f.0, far-append xs ys f.1 g)

      -- what a node that is kept refers to is no index
      values-far : (ks : Keys) (t : Tree (I ks)) → ((n : Reference) → IsAmong n (names_of (items t)) → IsAmong n names) → TreeStands (HasNode ks seen) t
          → AllByRecursion (λ (a : I ks). IsFarName a.entry.value) (items t)
      values-far ks leaf all s = tt
      values-far ks (node l a r) all s =
          let h = s.0 in
          let there = kept a.name (all a.name (among-back (items l) (a ∷ items r) a.name (inl refl))) h.it h.there in
          far-append (items l) (a ∷ items r) (values-far ks l (λ n m. all n (among-front (items l) (a ∷ items r) n m)) s.1)
          (subst IsFarName h.is.value (slot-far h.it.refs 3 (seen-far space a.name h.it there)), values-far ks r (λ n m. all n (among-back (items l) (a ∷ items r) n (inr m))) s.2)

      entries-kept : (ks : Keys) (root : Reference) (es : List (Entry (KeyOf ks))) → HasEntries ks seen pair root es names → HasEntries ks (SeenIn space) now root es names
      entries-kept ks root es h =
          let all = λ (n : Reference) (m : IsAmong n (names_of (items h.tree))). subst (IsAmong n) (sym h.nodes_are) m in
          record {
            tree = h.tree;
            root_is = h.root_is;
            stands = tree-kept ks h.tree all h.stands;
            rising = h.rising;
            balanced = h.balanced;
            values = h.values;
            pairs = pairs-kept (items h.tree) es (values-far ks h.tree all h.stands) h.pairs;
            nodes_are = h.nodes_are;
          }

      nodes-kept : (root : Reference) (table : Table) → HasNodes seen pair root table names → HasNodes (SeenIn space) now root table names
      nodes-kept root without_keys h = h
      nodes-kept root (by_strings es) h = entries-kept text_keys root es h
      nodes-kept root (by_ints es) h = entries-kept int_keys root es h

      pub table-kept : (n : Reference) (table : Table) → IsFarName n → IsTable seen pair n table names → IsTable (SeenIn space) now n table names
      table-kept n table f t = record {
        it = t.it;
        there = thing-kept n t.it kind.Table f t.kind_is (λ e. cc) t.there;
        kind_is = t.kind_is;
        root = t.root;
        home = t.home;
        refs = t.refs;
        nums = t.nums;
        has = nodes-kept t.root table t.has;
      }
