-- What is seen of an object stands for the object with other ids too, where the names that go with its ids go with those.
use Rattle.std.proofs.Common.{◌≡◌, inl, inr, ℕ, ℤ, List, [], ◌∷◌, ◌++◌, length, map, replicate, refl, sym, ◌∙◌, ap, subst, true, Option, Some, None}
use Rattle.std.specs.List.{AllByRecursion}
use Rattle.std.specs.Option.{option_map}
use Rattle.std.proofs.lemmas.List.{length-map}
use Rattle.reaching.specs.Reaching.{IsIn}
use Rattle.reaching.proofs.Lists.{in-front, in-behind}
use Rattle.heap_meaning.specs.obj_layout.declared.reference.Reference.{Reference}
use Rattle.heap_meaning.specs.swizzle.Joint.{Shown}
use Rattle.ps_code_laws.specs.text_forms.declared.forms.Form.{Form}
use Rattle.ps_code_laws.specs.text_forms.declared.forms.Form.TheVariants as form
use Rattle.ps_code_laws.specs.text_forms.Forms.{element_of}
use Rattle.ps_code_laws.specs.ps_heap.Values.{Value, Num, Flag, Text, Nil, Pointer, Vector, Procedure, as_written, as_compiled, Nothing}
use Rattle.ps_code_laws.specs.ps_heap.Objects.{Object, Structure, Elements, Scope, Keyed, is_vector}
use Rattle.ps_code_laws.specs.Compiled.{compiled, compiled_all}
use Rattle.heap_meaning.specs.avl_trees.Trees.{items}
use Rattle.heap_meaning.specs.avl_trees.Standing.{Item}
use Rattle.heap_meaning.specs.node_rows.Keys.{Keys, by_ints as int_keys, by_texts as text_keys, KeyOf}
use Rattle.heap_meaning.specs.Tables.{key_kind, ArePairs, HasEntries, HasNodes, IsTable}
use Rattle.heap_meaning.specs.Standing.{Seen, Pairing, IsWordOf, StandsForScope, StandsFor, AreFor, IsVector}
use Rattle.heap_fit.specs.ps_heap.Tables.{Entry, Table, without_keys, by_strings, by_ints, cardinality}
use Rattle.heap_fit.specs.ps_heap.References.{pointers, scope_ids, value_ids, values_ids, object_ids}
use Rattle.heap_fit.specs.database_meaning.Same.{renamed_value, renamed_entry, renamed_table, renamed}
use Rattle.space_meaning.specs.Stands.{HasUnits, IsThing}

-- a name that goes with one of these ids goes with the new one
abbrev pub Carries : Pairing → Pairing → (ℕ → ℕ) → List ℕ → Type 0
Carries pair now new ids = (n : Reference) (id : ℕ) → IsIn id ids → pair n id → now n (new id)

carries-front : (pair now : Pairing) (new : ℕ → ℕ) (xs ys : List ℕ) → Carries pair now new (xs ++ ys) → Carries pair now new xs
carries-front pair now new xs ys c n id l = c n id (in-front id xs ys l)

carries-behind : (pair now : Pairing) (new : ℕ → ℕ) (xs ys : List ℕ) → Carries pair now new (xs ++ ys) → Carries pair now new ys
carries-behind pair now new xs ys c n id l = c n id (in-behind id xs ys l)

-- Values.

scope-renamed : (seen : Seen) (pair now : Pairing) (new : ℕ → ℕ) (n : Reference) (scope : Option ℕ) → Carries pair now new (scope_ids scope)
    → StandsForScope seen pair n scope → StandsForScope seen now n (option_map new scope)
scope-renamed seen pair now new n None c s = s
scope-renamed seen pair now new n (Some id) c s = (c n id (inl refl) s.0, s.1)

pub value-renamed : (seen : Seen) (pair now : Pairing) (new : ℕ → ℕ) (n : Reference) (v : Value) → Carries pair now new (value_ids v)
    → StandsFor seen pair n v → StandsFor seen now n (renamed_value new v)
value-renamed seen pair now new n (Num z) c s = absurd s
value-renamed seen pair now new n (Flag b) c s = absurd s
value-renamed seen pair now new n (Text bytes) c s = s
value-renamed seen pair now new n Nil c s = s
value-renamed seen pair now new n (Pointer id) c s = (c n id (inl refl) s.0, s.1)
value-renamed seen pair now new n (Vector id) c s = (c n id (inl refl) s.0, s.1)
value-renamed seen pair now new n (Procedure (as_written of) scope) c s = absurd s
value-renamed seen pair now new n (Procedure (as_compiled of) scope) c s = record {
  it = s.it;
  there = s.there;
  is = record {
    kind_is = s.is.kind_is;
    code_name = s.is.code_name;
    scope_name = s.is.scope_name;
    home = s.is.home;
    refs = s.is.refs;
    nums = s.is.nums;
    is_unit = s.is.is_unit;
    fit = s.is.fit;
    is_scope = scope-renamed seen pair now new s.is.scope_name scope c s.is.is_scope;
  };
}
value-renamed seen pair now new n Nothing c s = absurd s

number-renamed : (new : ℕ → ℕ) (word : ℕ) (v : Value) → IsWordOf word form.Number v → IsWordOf word form.Number (renamed_value new v)
number-renamed new word (Num z) is = is
number-renamed new word (Flag b) is = absurd is
number-renamed new word (Text bytes) is = absurd is
number-renamed new word Nil is = absurd is
number-renamed new word (Pointer id) is = absurd is
number-renamed new word (Vector id) is = absurd is
number-renamed new word (Procedure does scope) is = absurd is
number-renamed new word Nothing is = absurd is

flag-renamed : (new : ℕ → ℕ) (word : ℕ) (v : Value) → IsWordOf word form.Flag v → IsWordOf word form.Flag (renamed_value new v)
flag-renamed new word (Num z) is = absurd is
flag-renamed new word (Flag b) is = is
flag-renamed new word (Text bytes) is = absurd is
flag-renamed new word Nil is = absurd is
flag-renamed new word (Pointer id) is = absurd is
flag-renamed new word (Vector id) is = absurd is
flag-renamed new word (Procedure does scope) is = absurd is
flag-renamed new word Nothing is = absurd is

values-renamed : (seen : Seen) (pair now : Pairing) (new : ℕ → ℕ) (forms : List Form) (ns : List Reference) (words : List ℕ) (vs : List Value)
    → Carries pair now new (values_ids vs) → AreFor seen pair forms ns words vs → AreFor seen now forms ns words (map (renamed_value new) vs)
values-renamed seen pair now new (form.Reference ∷ forms) (n ∷ ns) words (v ∷ vs) c a = (
  value-renamed seen pair now new n v (carries-front pair now new (value_ids v) (values_ids vs) c) a.0,
  values-renamed seen pair now new forms ns words vs (carries-behind pair now new (value_ids v) (values_ids vs) c) a.1,
)
values-renamed seen pair now new (form.Reference ∷ forms) (n ∷ ns) words [] c a = absurd a
values-renamed seen pair now new (form.Reference ∷ forms) [] words vs c a = absurd a
values-renamed seen pair now new (form.Number ∷ forms) ns (word ∷ words) (v ∷ vs) c a =
    (number-renamed new word v a.0, values-renamed seen pair now new forms ns words vs (carries-behind pair now new (value_ids v) (values_ids vs) c) a.1)
values-renamed seen pair now new (form.Number ∷ forms) ns (word ∷ words) [] c a = absurd a
values-renamed seen pair now new (form.Number ∷ forms) ns [] vs c a = absurd a
values-renamed seen pair now new (form.Flag ∷ forms) ns (word ∷ words) (v ∷ vs) c a =
    (flag-renamed new word v a.0, values-renamed seen pair now new forms ns words vs (carries-behind pair now new (value_ids v) (values_ids vs) c) a.1)
values-renamed seen pair now new (form.Flag ∷ forms) ns (word ∷ words) [] c a = absurd a
values-renamed seen pair now new (form.Flag ∷ forms) ns [] vs c a = absurd a
values-renamed seen pair now new [] [] [] [] c a = tt
values-renamed seen pair now new [] [] [] (v ∷ vs) c a = absurd a
values-renamed seen pair now new [] [] (word ∷ words) vs c a = absurd a
values-renamed seen pair now new [] (n ∷ ns) words vs c a = absurd a

-- A procedure's unit is that of its body, whichever the ids are.

compiled-renamed : (new : ℕ → ℕ) (v : Value) → renamed_value new (compiled v) ≡ compiled (renamed_value new v)
compiled-renamed new (Num z) = refl
compiled-renamed new (Flag b) = refl
compiled-renamed new (Text bytes) = refl
compiled-renamed new Nil = refl
compiled-renamed new (Pointer id) = refl
compiled-renamed new (Vector id) = refl
compiled-renamed new (Procedure does scope) = refl
compiled-renamed new Nothing = refl

all-renamed : (new : ℕ → ℕ) (vs : List Value) → map (renamed_value new) (compiled_all vs) ≡ compiled_all (map (renamed_value new) vs)
all-renamed new [] = refl
all-renamed new (v ∷ vs) =
    ap (λ (w : Value). w ∷ map (renamed_value new) (compiled_all vs)) (compiled-renamed new v)
    ∙ ap (λ (ws : List Value). compiled (renamed_value new v) ∷ ws) (all-renamed new vs)

ids-compiled : (v : Value) → value_ids (compiled v) ≡ value_ids v
ids-compiled (Num z) = refl
ids-compiled (Flag b) = refl
ids-compiled (Text bytes) = refl
ids-compiled Nil = refl
ids-compiled (Pointer id) = refl
ids-compiled (Vector id) = refl
ids-compiled (Procedure does scope) = refl
ids-compiled Nothing = refl

all-compiled : (vs : List Value) → values_ids (compiled_all vs) ≡ values_ids vs
all-compiled [] = refl
all-compiled (v ∷ vs) =
    ap (λ (xs : List ℕ). xs ++ values_ids (compiled_all vs)) (ids-compiled v) ∙ ap (λ (xs : List ℕ). value_ids v ++ xs) (all-compiled vs)

units-renamed : (new : ℕ → ℕ) (v : Value) → HasUnits v → HasUnits (renamed_value new v)
units-renamed new (Num z) u = tt
units-renamed new (Flag b) u = tt
units-renamed new (Text bytes) u = tt
units-renamed new Nil u = tt
units-renamed new (Pointer id) u = tt
units-renamed new (Vector id) u = tt
units-renamed new (Procedure (as_written of) scope) u = u
units-renamed new (Procedure (as_compiled of) scope) u = tt
units-renamed new Nothing u = tt

all-units : (new : ℕ → ℕ) (vs : List Value) → AllByRecursion HasUnits vs → AllByRecursion HasUnits (map (renamed_value new) vs)
all-units new [] u = tt
all-units new (v ∷ vs) u = (units-renamed new v u.0, all-units new vs u.1)

-- the values of an object, compiled and with other ids
these-renamed : (seen : Seen) (pair now : Pairing) (new : ℕ → ℕ) (forms : List Form) (ns : List Reference) (words : List ℕ) (vs : List Value)
    → Carries pair now new (values_ids vs) → AreFor seen pair forms ns words (compiled_all vs) → AreFor seen now forms ns words (compiled_all (map (renamed_value new) vs))
these-renamed seen pair now new forms ns words vs c a =
    subst (AreFor seen now forms ns words) (all-renamed new vs)
    (values-renamed seen pair now new forms ns words (compiled_all vs) (subst (Carries pair now new) (sym (all-compiled vs)) c) a)

-- Tables.

pairs-renamed : {K : Type 0} (seen : Seen) (pair now : Pairing) (new : ℕ → ℕ) (is : List (Item Reference K Reference)) (entries : List (Entry K))
    → Carries pair now new (values_ids (pointers entries)) → ArePairs seen pair is entries → ArePairs seen now is (map (renamed_entry new) entries)
pairs-renamed seen pair now new [] [] c p = tt
pairs-renamed seen pair now new (a ∷ is) (e ∷ entries) c p = (
  p.0,
  value-renamed seen pair now new a.entry.value (Pointer e.object) (λ n id i. elim i [ inl here ↦ c n id (inl here) | inr none ↦ absurd none ]) p.1,
  pairs-renamed seen pair now new is entries (λ n id i. c n id (inr i)) p.2,
)
pairs-renamed seen pair now new [] (e ∷ entries) c p = absurd p
pairs-renamed seen pair now new (a ∷ is) [] c p = absurd p

entries-renamed : (ks : Keys) (seen : Seen) (pair now : Pairing) (new : ℕ → ℕ) (n : Reference) (entries : List (Entry (KeyOf ks))) (nodes : List Reference)
    → Carries pair now new (values_ids (pointers entries)) → HasEntries ks seen pair n entries nodes → HasEntries ks seen now n (map (renamed_entry new) entries) nodes
entries-renamed ks seen pair now new n entries nodes c h = record {
  tree = h.tree;
  root_is = h.root_is;
  stands = h.stands;
  rising = h.rising;
  balanced = h.balanced;
  values = h.values;
  pairs = pairs-renamed seen pair now new (items h.tree) entries c h.pairs;
  nodes_are = h.nodes_are;
}

nodes-renamed : (seen : Seen) (pair now : Pairing) (new : ℕ → ℕ) (n : Reference) (table : Table) (nodes : List Reference)
    → Carries pair now new (object_ids (Some (Keyed table))) → HasNodes seen pair n table nodes → HasNodes seen now n (renamed_table new table) nodes
nodes-renamed seen pair now new n without_keys nodes c h = h
nodes-renamed seen pair now new n (by_strings entries) nodes c h = entries-renamed text_keys seen pair now new n entries nodes c h
nodes-renamed seen pair now new n (by_ints entries) nodes c h = entries-renamed int_keys seen pair now new n entries nodes c h

kind-renamed : (new : ℕ → ℕ) (table : Table) → key_kind (renamed_table new table) ≡ key_kind table
kind-renamed new without_keys = refl
kind-renamed new (by_strings entries) = refl
kind-renamed new (by_ints entries) = refl

count-renamed : (new : ℕ → ℕ) (table : Table) → cardinality (renamed_table new table) ≡ cardinality table
unfolding cardinality
count-renamed new without_keys = refl
count-renamed new (by_strings entries) = length-map entries (renamed_entry new)
count-renamed new (by_ints entries) = length-map entries (renamed_entry new)

pub table-renamed : (seen : Seen) (pair now : Pairing) (new : ℕ → ℕ) (n : Reference) (table : Table) (nodes : List Reference)
    → Carries pair now new (object_ids (Some (Keyed table))) → IsTable seen pair n table nodes → IsTable seen now n (renamed_table new table) nodes
table-renamed seen pair now new n table nodes c s = record {
  it = s.it;
  there = s.there;
  kind_is = s.kind_is;
  root = s.root;
  home = s.home;
  refs = s.refs;
  nums = s.nums ∙ (ap (λ (k : ℕ). s.home ∷ k ∷ cardinality table ∷ []) (sym (kind-renamed new table))
      ∙ ap (λ (k : ℕ). s.home ∷ key_kind (renamed_table new table) ∷ k ∷ []) (sym (count-renamed new table)));
  has = nodes-renamed seen pair now new s.root table nodes c s.has;
}

-- Vectors have as many elements.

vector-renamed : (seen : Seen) (pair now : Pairing) (new : ℕ → ℕ) (it : Shown) (ty : List ℕ) (low : ℤ) (vs : List Value) → Carries pair now new (values_ids vs)
    → IsVector seen pair it ty low (compiled_all vs) → IsVector seen now it ty low (compiled_all (map (renamed_value new) vs))
vector-renamed seen pair now new it ty low vs c s =
    let long : length (compiled_all (map (renamed_value new) vs)) ≡ length (compiled_all vs) =
    length-map (map (renamed_value new) vs) compiled ∙ (length-map vs (renamed_value new) ∙ sym (length-map vs compiled)) in
    record {
      bound = s.bound;
      bound_is = s.bound_is;
      fits = subst (λ (n : ℕ). is_vector low n ≡ true) (sym long) s.fits;
      rows = record {
        kind_is = s.rows.kind_is;
        text_name = s.rows.text_name;
        home = s.rows.home;
        names = s.rows.names;
        words = s.rows.words;
        refs = s.rows.refs;
        nums = s.rows.nums;
        is_text = s.rows.is_text;
        are = subst (λ (n : ℕ). AreFor seen now (replicate n (element_of ty)) s.rows.names s.rows.words (compiled_all (map (renamed_value new) vs))) (sym long)
            (these-renamed seen pair now new (replicate (length (compiled_all vs)) (element_of ty)) s.rows.names s.rows.words vs c s.rows.are);
      };
    }

-- Each object.
pub thing-renamed : (seen : Seen) (pair now : Pairing) (new : ℕ → ℕ) (it : Shown) (object : Object) → Carries pair now new (object_ids (Some object))
    → IsThing seen pair it object → IsThing seen now it (renamed new object)
thing-renamed seen pair now new it (Structure class fields) c s = (
  record {
    kind_is = s.0.kind_is;
    text_name = s.0.text_name;
    home = s.0.home;
    names = s.0.names;
    words = s.0.words;
    refs = s.0.refs;
    nums = s.0.nums;
    is_text = s.0.is_text;
    are = these-renamed seen pair now new _ s.0.names s.0.words fields c s.0.are;
  },
  all-units new fields s.1,
)
thing-renamed seen pair now new it (Elements ty low elements) c s =
    (vector-renamed seen pair now new it ty low elements c s.0, all-units new elements s.1)
thing-renamed seen pair now new it (Scope text parent values) c s = (
  record {
    kind_is = s.0.kind_is;
    text_name = s.0.text_name;
    parent_name = s.0.parent_name;
    home = s.0.home;
    names = s.0.names;
    words = s.0.words;
    refs = s.0.refs;
    nums = s.0.nums;
    is_text = s.0.is_text;
    is_parent = scope-renamed seen pair now new s.0.parent_name parent (carries-front pair now new (scope_ids parent) (values_ids values) c) s.0.is_parent;
    are = these-renamed seen pair now new _ s.0.names s.0.words values (carries-behind pair now new (scope_ids parent) (values_ids values) c) s.0.are;
  },
  all-units new values s.1,
)
thing-renamed seen pair now new it (Keyed table) c s = s
