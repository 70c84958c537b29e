-- A worked space: a database whose root has one entry, a structure with an int, a string and the root. It stands for its heap. With another home of
-- the structure, or another number of entries of the table, it doesn't.
use Rattle.std.proofs.Common.{◌≡◌, ◌≢◌, ◌⊎◌, inl, inr, ℕ, ℤ, zero, suc, List, [], ◌∷◌, refl, sym, ◌∙◌, ap, subst, arith, pos, Some}
use Rattle.std.specs.Prelude.{codes}
use Rattle.heap_meaning.specs.obj_layout.declared.kind.Kind.TheVariants as kind
use Rattle.heap_meaning.specs.obj_layout.declared.reference.Reference.{Reference}
use Rattle.heap_meaning.specs.obj_layout.declared.reference.Reference.TheVariants.{Nil, Pid}
use Rattle.heap_meaning.specs.obj_layout.Objects.{Placed, IsAmong}
use Rattle.heap_meaning.specs.obj_layout.Objects as contents
use Rattle.heap_meaning.specs.obj_layout.Stored.{Space}
use Rattle.heap_meaning.specs.obj_area.Words.{bytes_of, word_bytes}
use Rattle.heap_meaning.specs.swizzle.Objects.{header_in, reference_at, object_in}
use Rattle.heap_meaning.specs.swizzle.Joint.{Shown, shown_words}
use Rattle.heap_meaning.specs.heap_places.Words.{int_in}
use Rattle.heap_meaning.specs.heap_places.Shapes.{word_in}
use Rattle.ps_code_laws.specs.text_forms.Forms.{forms_of, forms_from, form_here, begins}
use Rattle.ps_code_laws.specs.ps_heap.Values.{Num, Text, Pointer}
use Rattle.heap_meaning.specs.avl_trees.Trees as trees
use Rattle.heap_meaning.specs.avl_trees.Trees.{Tree, items}
use Rattle.heap_meaning.specs.node_rows.Keys.{by_texts as text_keys}
use Rattle.heap_meaning.specs.node_rows.Nodes.{I, IsAmong as IsNameAmong, link_of}
use Rattle.heap_meaning.specs.Tables.{ArePairs, IsTable, TablesStand}
use Rattle.heap_meaning.specs.Standing.{IsKindOf, IsPointed}
use Rattle.heap_meaning.specs.Paired.{paired}
use Rattle.heap_fit.specs.ps_heap.Tables.{Entry, Table, by_strings, by_ints, cardinality}
use Rattle.heap_fit.specs.ps_heap.Objects.{Object, Structure, Keyed, object_at}
use Rattle.heap_fit.specs.ps_heap.References.{next_in}
use Rattle.heap_fit.specs.ps_heap.Databases.{every_root}
use Rattle.heap_fit.specs.ps_heap.Held.{StoredHeap, home_at}
use Rattle.heap_fit.specs.database_meaning.Same.{IsInHeap}
use Rattle.heap_fit.specs.ps_heap.reaching.Reaching.{IsIn, at_start, by_step}
use Rattle.heap_fit.specs.ps_soundness.ps_meaning.ps_base.TyView as types
use Rattle.heap_fit.specs.ps_soundness.ps_type_text.Texts.{Field, IsNamed, is_name_byte}
use Rattle.heap_fit.specs.Heaps.{at_structure, at_table, IsFitAt, IsFitHeap}
use Rattle.space_meaning.specs.Space.{IsStored, SeenIn}
use Rattle.space_meaning.specs.Stands.{IsThing, IsHome, Both, AreNamed, IsDirectory, stored, HaveNoKeyTexts, StandsUnder, SpaceStands}
use Rattle.space_meaning.proofs.Seen.{seen-one}
use Rattle.heap_meaning.proofs.TreeLaws.{nil-leaf, sides-of, one-value}
use Rattle.space_meaning.proofs.Trees.{node_shown}
use Rattle.space_meaning.proofs.Cutting.{pid, at, space_with, is-object, Follow, cut-of, seen-there, of_text, text-is}

-- The words.

abbrev directory : List ℕ
directory = 0x0000000300000009 ∷ 0 ∷ 1 ∷ 0 ∷ pid 9 ∷ pid 15 ∷ pid 20 ∷ 0 ∷ []

-- "c", and the empty text
abbrev name : List ℕ
name = 1 ∷ 0 ∷ 0x0000000100000002 ∷ 0 ∷ 0 ∷ 0x63 ∷ []

abbrev password : List ℕ
password = 1 ∷ 0 ∷ 1 ∷ 0 ∷ 0 ∷ []

abbrev table : ℕ → List ℕ
table count = 0x0000000100000007 ∷ 0 ∷ 3 ∷ 0 ∷ pid 28 ∷ 1 ∷ 1 ∷ count ∷ []

abbrev node : List ℕ
node = 0x0000000400000008 ∷ 0 ∷ 3 ∷ 0 ∷ 0 ∷ 0 ∷ pid 39 ∷ pid 45 ∷ 0 ∷ 0 ∷ 1 ∷ []

-- "k"
abbrev key : List ℕ
key = 1 ∷ 0 ∷ 0x0000000100000002 ∷ 0 ∷ 0 ∷ 0x6b ∷ []

abbrev box : ℕ → List ℕ
box home = 0x0000000300000002 ∷ 0 ∷ 2 ∷ 0 ∷ pid 54 ∷ pid 63 ∷ pid 20 ∷ home ∷ 3 ∷ []

-- "box(int n;string s;pntr t)"
abbrev class : List ℕ
class = 1 ∷ 0 ∷ 0x0000001a00000005 ∷ 0 ∷ 0 ∷ 0x20746e6928786f62 ∷ 0x676e697274733b6e ∷ 0x2072746e703b7320 ∷ 0x0000000000002974 ∷ []

-- "hi"
abbrev string : List ℕ
string = 1 ∷ 0 ∷ 0x0000000200000002 ∷ 0 ∷ 0 ∷ 0x6968 ∷ []

abbrev objects : ℕ → ℕ → List Placed
objects home count =
    at 1 directory ∷ at 9 name ∷ at 15 password ∷ at 20 (table count) ∷ at 28 node ∷ at 39 key ∷ at 45 (box home) ∷ at 54 class ∷ at 63 string ∷ []

-- the space in which the structure has this home, and the table says that it has so many entries
unfoldable pub space : ℕ → ℕ → Space
space home count = space_with (objects home count) 1

they-follow : (home count : ℕ) → Follow 1 (objects home count)
they-follow home count = (
  refl,
  is-object kind.Directory 3 1 0 (contents.directory 1) directory (omega arith) (omega arith) refl refl refl refl (omega arith, omega arith),
  (
    refl,
    is-object kind.Text 0 2 1 (contents.text 1) name (omega arith) (omega arith) refl refl refl refl tt,
    (
      refl,
      is-object kind.Text 0 1 0 (contents.text 0) password (omega arith) (omega arith) refl refl refl refl tt,
      (
        refl,
        is-object kind.Table 1 3 0 contents.table (table count) (omega arith) (omega arith) refl refl refl refl tt,
        (
          refl,
          is-object kind.Node 4 3 0 contents.node node (omega arith) (omega arith) refl refl refl refl tt,
          (
            refl,
            is-object kind.Text 0 2 1 (contents.text 1) key (omega arith) (omega arith) refl refl refl refl tt,
            (
              refl,
              is-object kind.Structure 3 2 0 (contents.structure 2 1) (box home) (omega arith) (omega arith) refl refl refl refl tt,
              (
                refl,
                is-object kind.Text 0 5 26 (contents.text 26) class (omega arith) (omega arith) refl refl refl refl tt,
                (
                  refl,
                  is-object kind.Text 0 2 2 (contents.text 2) string (omega arith) (omega arith) refl refl refl refl tt,
                  tt,
                ),
              ),
            ),
          ),
        ),
      ),
    ),
  ),
)

-- What is seen in the space.

seen-in : (home count n : ℕ) (words : List ℕ) (it : Shown) → IsAmong (at n words) (objects home count) → IsStored words
    → it ≡ shown_words words → SeenIn (space home count) (Pid n) it
unfolding space
seen-in home count n words it among stored shown = seen-there (objects home count) 1 n words it (they-follow home count) among stored shown

abbrev directory_shown : Shown
directory_shown = record { kind = kind.Directory; refs = Pid 9 ∷ Pid 15 ∷ Pid 20 ∷ []; nums = 0 ∷ []; bytes = 0 }

abbrev table_shown : ℕ → Shown
table_shown count = record { kind = kind.Table; refs = Pid 28 ∷ []; nums = 1 ∷ 1 ∷ count ∷ []; bytes = 0 }

abbrev one_node : Shown
one_node = node_shown Nil Nil (Pid 39) (Pid 45) 0 1

abbrev box_shown : ℕ → Shown
box_shown home = record { kind = kind.Structure; refs = Pid 54 ∷ Pid 63 ∷ Pid 20 ∷ []; nums = home ∷ 3 ∷ []; bytes = 0 }

directory-seen : (home count : ℕ) → SeenIn (space home count) (Pid 1) directory_shown
unfolding header_in reference_at object_in
directory-seen home count = seen-in home count 1 directory directory_shown (inl refl)
    (record { flags = refl; pid = refl; chain = refl; refs = (inr (omega arith), (inr (omega arith), (inr (omega arith), tt))) }) refl

name-seen : (home count : ℕ) → SeenIn (space home count) (Pid 9) (of_text 1 (0x63 ∷ []))
unfolding header_in reference_at object_in
name-seen home count = seen-in home count 9 name (of_text 1 (0x63 ∷ [])) (inr (inl refl)) (record { flags = refl; pid = refl; chain = refl; refs = tt }) refl

password-seen : (home count : ℕ) → SeenIn (space home count) (Pid 15) (of_text 0 [])
unfolding header_in reference_at object_in
password-seen home count = seen-in home count 15 password (of_text 0 []) (inr (inr (inl refl)))
    (record { flags = refl; pid = refl; chain = refl; refs = tt }) refl

table-seen : (home count : ℕ) → SeenIn (space home count) (Pid 20) (table_shown count)
unfolding header_in reference_at object_in
table-seen home count = seen-in home count 20 (table count) (table_shown count) (inr (inr (inr (inl refl))))
    (record { flags = refl; pid = refl; chain = refl; refs = (inr (omega arith), tt) }) refl

node-seen : (home count : ℕ) → SeenIn (space home count) (Pid 28) one_node
unfolding header_in reference_at object_in
node-seen home count = seen-in home count 28 node one_node (inr (inr (inr (inr (inl refl)))))
    (record { flags = refl; pid = refl; chain = refl; refs = (inl refl, (inl refl, (inr (omega arith), (inr (omega arith), tt)))) }) refl

key-seen : (home count : ℕ) → SeenIn (space home count) (Pid 39) (of_text 1 (0x6b ∷ []))
unfolding header_in reference_at object_in
key-seen home count = seen-in home count 39 key (of_text 1 (0x6b ∷ [])) (inr (inr (inr (inr (inr (inl refl))))))
    (record { flags = refl; pid = refl; chain = refl; refs = tt }) refl

box-seen : (home count : ℕ) → SeenIn (space home count) (Pid 45) (box_shown home)
unfolding header_in reference_at object_in
box-seen home count = seen-in home count 45 (box home) (box_shown home) (inr (inr (inr (inr (inr (inr (inl refl)))))))
    (record { flags = refl; pid = refl; chain = refl; refs = (inr (omega arith), (inr (omega arith), (inr (omega arith), tt))) }) refl

abbrev class_shown : Shown
class_shown = of_text 26 (0x20746e6928786f62 ∷ 0x676e697274733b6e ∷ 0x2072746e703b7320 ∷ 0x0000000000002974 ∷ [])

class-seen : (home count : ℕ) → SeenIn (space home count) (Pid 54) class_shown
unfolding header_in reference_at object_in
class-seen home count = seen-in home count 54 class class_shown (inr (inr (inr (inr (inr (inr (inr (inl refl))))))))
    (record { flags = refl; pid = refl; chain = refl; refs = tt }) refl

string-seen : (home count : ℕ) → SeenIn (space home count) (Pid 63) (of_text 2 (0x6968 ∷ []))
unfolding header_in reference_at object_in
string-seen home count = seen-in home count 63 string (of_text 2 (0x6968 ∷ [])) (inr (inr (inr (inr (inr (inr (inr (inr (inl refl)))))))))
    (record { flags = refl; pid = refl; chain = refl; refs = tt }) refl

-- The heap, and the names of its things.

abbrev box_class : List ℕ
box_class = codes "box(int n;string s;pntr t)"

abbrev box_fields : List Field
box_fields = record { ty = types.Int; name = codes "n" } ∷ record { ty = types.Str; name = codes "s" } ∷ record { ty = types.Pntr; name = codes "t" } ∷ []

abbrev root : Object
root = Keyed (by_strings (record { key = codes "k"; object = 1 } ∷ []))

abbrev boxed : Object
boxed = Structure box_class (Num (pos 3) ∷ Text (codes "hi") ∷ Pointer 0 ∷ [])

abbrev pub heap : StoredHeap
heap = record { objects = root ∷ boxed ∷ []; homes = Some 1 ∷ Some 1 ∷ []; directory = record { name = codes "c"; password = []; root = 0 } ∷ [] }

abbrev names : List Reference
names = Pid 20 ∷ Pid 45 ∷ []

-- The heap is fit: the root has the structure under a string, and the structure an int, a string and the root, which a pntr may name.

class-named : IsNamed (codes "box") box_fields
unfolding is_name_byte
class-named = record { class = (refl, (refl, (refl, tt))); each = ((refl, tt), ((refl, tt), ((refl, tt), tt))) }

two : (id : ℕ) → IsInHeap heap id → (id ≡ 0) ⊎ (id ≡ 1)
unfolding every_root next_in
two id (at_start x is u) = elim is [ inl e ↦ inl e | inr no_more ↦ absurd no_more ]
two id (by_step x y before goes u) =
    elim (two x before) [
      | inl e ↦ elim (subst (λ k. IsIn id (next_in heap.objects k)) e goes) [ inl f ↦ inr f | inr no_more ↦ absurd no_more ]
      | inr e ↦ elim (subst (λ k. IsIn id (next_in heap.objects k)) e goes) [ inl f ↦ inl f | inr no_more ↦ absurd no_more ]
    ]

heap-fits : IsFitHeap heap
unfolding home_at
heap-fits = record {
  few = omega arith;
  databases = (record { named = omega arith; name = omega arith; password = omega arith; table = by_strings (record { key = codes "k"; object = 1 } ∷ []); root = refl }, tt);
  once = (tt, tt);
  each = λ id there. at_each id (two id there);
}
  where
    root-fits : IsFitAt heap 0
    root-fits = record {
      object = root;
      is = refl;
      fit = (((refl, at_structure box_class (Num (pos 3) ∷ Text (codes "hi") ∷ Pointer 0 ∷ []) refl), tt), (tt, tt));
      home = 1;
      home_is = refl;
      first = omega arith;
      last = omega arith;
    }

    box-fits : IsFitAt heap 1
    box-fits = record {
      object = boxed;
      is = refl;
      fit = record {
        name = codes "box";
        fields = box_fields;
        named = class-named;
        class_is = refl;
        are = (refl, (refl, (at_table (by_strings (record { key = codes "k"; object = 1 } ∷ [])) refl, tt)));
      };
      home = 1;
      home_is = refl;
      first = omega arith;
      last = omega arith;
    }

    at_each : (id : ℕ) → (id ≡ 0) ⊎ (id ≡ 1) → IsFitAt heap id
    at_each id (inl e) = subst (IsFitAt heap) (sym e) root-fits
    at_each id (inr e) = subst (IsFitAt heap) (sym e) box-fits

-- The space stands for it.

directory-is : IsDirectory (SeenIn (space 1 1)) (paired names) 1 heap.directory
unfolding bytes_of word_bytes
directory-is = record {
  it = directory_shown;
  there = directory-seen 1 1;
  kind_is = refl;
  names = (
    text-is (SeenIn (space 1 1)) (Pid 9) 1 (0x63 ∷ []) (codes "c") (name-seen 1 1) refl,
    text-is (SeenIn (space 1 1)) (Pid 15) 0 [] [] (password-seen 1 1) refl,
    (refl, record { it = table_shown 1; there = table-seen 1 1; kind_is = refl }),
    tt,
  );
}

-- the pair of the only node
abbrev only : I text_keys
only = record { name = Pid 28; entry = record { key = codes "k"; value = Pid 45 } }

table-is : IsTable (SeenIn (space 1 1)) (stored names) (Pid 20) (by_strings (record { key = codes "k"; object = 1 } ∷ [])) (Pid 28 ∷ [])
unfolding bytes_of word_bytes cardinality
table-is = record {
  it = table_shown 1;
  there = table-seen 1 1;
  kind_is = refl;
  root = Pid 28;
  home = 1;
  refs = refl;
  nums = refl;
  has = record {
    tree = trees.node trees.leaf only trees.leaf;
    root_is = refl;
    stands = (
      record {
        it = one_node;
        there = node-seen 1 1;
        is = record {
          kind = refl;
          refs = refl;
          nums = refl;
          left = refl;
          right = refl;
          key = text-is (SeenIn (space 1 1)) (Pid 39) 1 (0x6b ∷ []) (codes "k") (key-seen 1 1) refl;
          value = refl;
          height = refl;
        };
      },
      tt,
      tt,
    );
    rising = (tt, tt);
    balanced = (tt, tt, (omega arith, omega arith));
    values = (some_value, tt);
    pairs = (refl, ((refl, 45, refl), inl (record { it = box_shown 1; there = box-seen 1 1; kind_is = refl })), tt);
    nodes_are = refl;
  };
}
  where
    some_value : Pid 45 ≢ Nil
    some_value e = cc

-- a pntr may name the table
root_as_pntr : IsPointed (SeenIn (space 1 1)) (Pid 20)
root_as_pntr = inr (record { it = table_shown 1; there = table-seen 1 1; kind_is = refl })

box-is : IsThing (SeenIn (space 1 1)) (paired names) (box_shown 1) boxed
unfolding bytes_of word_bytes forms_of forms_from form_here begins int_in
box-is = (
  record {
    kind_is = refl;
    text_name = Pid 54;
    home = 1;
    names = Pid 63 ∷ Pid 20 ∷ [];
    words = 3 ∷ [];
    refs = refl;
    nums = refl;
    is_text = record { it = class_shown; there = class-seen 1 1; kind = refl; bytes_are = refl };
    are = (refl, (text-is (SeenIn (space 1 1)) (Pid 63) 2 (0x6968 ∷ []) (codes "hi") (string-seen 1 1) refl, ((refl, root_as_pntr), tt)));
  },
  (tt, (tt, (tt, tt))),
)

both-are : (n id : ℕ) → paired names (Pid n) id → Both (SeenIn (space 1 1)) heap (paired names) (Pid n) id
unfolding home_at
both-are n zero p =
    let same : Pid 20 ≡ Pid n = cc in
    subst (λ (m : Reference). Both (SeenIn (space 1 1)) heap (paired names) m 0) same
    (record { it = table_shown 1; object = root; there = table-seen 1 1; means = refl; like = refl; home = refl })
both-are n (suc zero) p =
    let same : Pid 45 ≡ Pid n = cc in
    subst (λ (m : Reference). Both (SeenIn (space 1 1)) heap (paired names) m 1) same
    (record { it = box_shown 1; object = boxed; there = box-seen 1 1; means = refl; like = box-is; home = refl })
both-are n (suc (suc id)) p = absurd (cc)

one-number : (n i j : ℕ) → paired names (Pid n) i → paired names (Pid n) j → i ≡ j
one-number n zero zero p q = refl
one-number n zero (suc zero) p q = let a : 20 ≡ n = cc in let b : 45 ≡ n = cc in absurd (omega arith)
one-number n (suc zero) zero p q = let a : 45 ≡ n = cc in let b : 20 ≡ n = cc in absurd (omega arith)
one-number n (suc zero) (suc zero) p q = refl
one-number n (suc (suc i)) j p q = absurd (cc)
one-number n zero (suc (suc j)) p q = absurd (cc)
one-number n (suc zero) (suc (suc j)) p q = absurd (cc)

-- the root has one node, and the structure none
abbrev nodes_at : ℕ → List Reference
nodes_at zero = Pid 28 ∷ []
nodes_at (suc id) = []

tables-stand : TablesStand (SeenIn (space 1 1)) heap.objects (stored names)
tables-stand = record { nodes = nodes_at; each = each; are_nodes = are_nodes; apart = apart }
  where
    each : (n : Reference) (id : ℕ) (table : Table) → stored names n id → object_at heap.objects id ≡ Some (Keyed table) → IsTable (SeenIn (space 1 1)) (stored names) n table (nodes_at id)
    each n zero table p is =
        let same : by_strings (record { key = codes "k"; object = 1 } ∷ []) ≡ table = cc in
        let named : Pid 20 ≡ n = let e = p.0 in cc in
        subst (λ (m : Reference). IsTable (SeenIn (space 1 1)) (stored names) m table (Pid 28 ∷ [])) named
        (subst (λ (of : Table). IsTable (SeenIn (space 1 1)) (stored names) (Pid 20) of (Pid 28 ∷ [])) same table-is)
    each n (suc zero) table p is = absurd (cc)
    each n (suc (suc id)) table p is = absurd (cc)

    are_nodes : (id : ℕ) (n : Reference) → IsNameAmong n (nodes_at id) → IsKindOf (SeenIn (space 1 1)) n kind.Node
    are_nodes zero n (inl is) = subst (λ (m : Reference). IsKindOf (SeenIn (space 1 1)) m kind.Node) (sym is) (record { it = one_node; there = node-seen 1 1; kind_is = refl })
    are_nodes zero n (inr more) = absurd more
    are_nodes (suc id) n a = absurd a

    apart : (i j : ℕ) (n : Reference) → IsNameAmong n (nodes_at i) → IsNameAmong n (nodes_at j) → i ≡ j
    apart zero zero n a b = refl
    apart zero (suc j) n a b = absurd b
    apart (suc i) j n a b = absurd a

-- no table of the heap has int keys
none-by_ints : (pid id : ℕ) (entries : List (Entry ℤ)) → paired names (Pid pid) id → object_at heap.objects id ≡ Some (Keyed (by_ints entries)) → HaveNoKeyTexts (SeenIn (space 1 1)) (nodes_at id)
none-by_ints pid zero entries p is = absurd (cc)
none-by_ints pid (suc zero) entries p is = absurd (cc)
none-by_ints pid (suc (suc id)) entries p is = absurd (cc)

pub worked_out : SpaceStands (space 1 1) heap
unfolding space tables-stand
worked_out = record {
  fit = heap-fits;
  objects = objects 1 1;
  cut = cut-of (objects 1 1) 1 (they-follow 1 1);
  names = names;
  stands = record {
    directory = directory-is;
    both = both-are;
    one_number = one-number;
    tables = tables-stand;
    plain = none-by_ints;
  };
}

-- Where such a space stands for the heap, the root is paired with PID 20, and the structure with PID 45, whatever the names are.

root-paired : (home count : ℕ) (names : List Reference) → StandsUnder (space home count) heap names → paired names (Pid 20) 0
unfolding space
root-paired home count names s =
    let same = seen-one (space home count) (Pid 1) s.directory.it directory_shown s.directory.there (directory-seen home count) in
    (subst (λ (it : Shown). AreNamed (SeenIn (space home count)) (paired names) it.refs heap.directory) same s.directory.names).2.0

-- what stands for the root, and for the structure
table-of : (home count : ℕ) (names : List Reference) → (s : StandsUnder (space home count) heap names)
    → IsTable (SeenIn (space home count)) (stored names) (Pid 20) (by_strings (record { key = codes "k"; object = 1 } ∷ [])) (s.tables.nodes 0)
table-of home count names s = s.tables.each (Pid 20) 0 (by_strings (record { key = codes "k"; object = 1 } ∷ [])) (root-paired home count names s, 20, refl) refl

box-paired : (home count : ℕ) (names : List Reference) → StandsUnder (space home count) heap names → paired names (Pid 45) 1
box-paired home count names s =
    let table = table-of home count names s in
    let same = seen-one (space home count) (Pid 20) table.it (table_shown count) table.there (table-seen home count) in
    let refs : Pid 28 ∷ [] ≡ table.root ∷ [] = sym (ap (λ (it : Shown). it.refs) same) ∙ table.refs in
    let first : table.root ≡ Pid 28 = cc in
    let has = table.has in
    let root = sym (ap link_of first) ∙ has.root_is in
    let sides = sides-of text_keys (SeenIn (space home count)) 28 one_node has.tree (seen-one (space home count)) (node-seen home count) root has.stands in
    let pairs = subst (λ (t : Tree (I text_keys)). ArePairs (SeenIn (space home count)) (stored names) (items t) (record { key = codes "k"; object = 1 } ∷ [])) sides.tree_is has.pairs in
    let one = one-value text_keys (SeenIn (space home count)) (stored names) sides.l sides.item sides.r (record { key = codes "k"; object = 1 })
    (nil-leaf text_keys sides.l sides.left_is) (nil-leaf text_keys sides.r sides.right_is) pairs in
    subst (λ (n : Reference). paired names n 1) (sym sides.value_is) one.1.0.0

-- Another home: the structure's word is the number of another database.
another_home : SpaceStands (space 2 1) heap → ⊥
unfolding home_at
another_home s =
    let both = s.stands.both 45 1 (box-paired 2 1 s.names s.stands) in
    let same = seen-one (space 2 1) (Pid 45) both.it (box_shown 2) both.there (box-seen 2 1) in
    let home : 2 ≡ 1 = subst (λ (it : Shown). IsHome (word_in it 0) (Some 1)) same both.home in
    absurd (omega (arith, home))

-- Another number of entries than the table has.
another_count : SpaceStands (space 1 2) heap → ⊥
unfolding cardinality
another_count s =
    let table = table-of 1 2 s.names s.stands in
    let same = seen-one (space 1 2) (Pid 20) table.it (table_shown 2) table.there (table-seen 1 2) in
    let nums : 1 ∷ 1 ∷ 2 ∷ [] ≡ table.home ∷ 1 ∷ 1 ∷ [] = sym (ap (λ (it : Shown). it.nums) same) ∙ table.nums in
    let two : ◌≡◌ {A = ℕ} 2 1 = cc in
    absurd (omega arith)
