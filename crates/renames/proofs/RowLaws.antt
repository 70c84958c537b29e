-- A heap stands under the new names of its objects.
use Rattle.std.proofs.Common.{◌≡◌, ℕ, zero, suc, List, [], ◌∷◌, map, refl, sym, ap, ◌∙◌, subst, Some, None}
use Rattle.std.proofs.lemmas.List.{length-map}
use Rattle.heap_meaning.specs.obj_layout.declared.kind.Kind.TheVariants as kind
use Rattle.heap_meaning.specs.obj_layout.declared.reference.Reference as reference
use Rattle.heap_meaning.specs.ps_heap.Objects.{Heap}
use Rattle.heap_meaning.specs.node_rows.Nodes.{IsAmong}
use Rattle.heap_meaning.specs.Tables.{IsTable}
use Rattle.heap_meaning.specs.Standing.{Seen, IsKindOf, Both}
use Rattle.heap_meaning.specs.Paired.{name_in, paired, StandsRow}
use Rattle.renames.specs.Renames.{renamed, Renames}
use Rattle.renames.proofs.RenameLaws.{Moves, kind-moved, like-moved}
use Rattle.renames.proofs.TableLaws.{table-moved, among-moved}

pub name_in-map : (ρ : reference.Reference → reference.Reference) (names : List reference.Reference) (n : reference.Reference) (id : ℕ) → name_in names id ≡ Some n → name_in (map ρ names) id ≡ Some (ρ n)
name_in-map ρ [] n id e = let none : None ≡ Some n = e in absurd (cc)
name_in-map ρ (m ∷ ms) n zero e = let same : m ≡ n = cc in ap (λ k. Some (ρ k)) same
name_in-map ρ (m ∷ ms) n (suc id) e = name_in-map ρ ms n id e

record NamedBefore (ρ : reference.Reference → reference.Reference) (names : List reference.Reference) (n : reference.Reference) (id : ℕ) : Type 0 where
  before : reference.Reference
  is : name_in names id ≡ Some before
  now : n ≡ ρ before

map-name_in : (ρ : reference.Reference → reference.Reference) (names : List reference.Reference) (n : reference.Reference) (id : ℕ) → name_in (map ρ names) id ≡ Some n → NamedBefore ρ names n id
map-name_in ρ [] n id e = let none : None ≡ Some n = e in absurd (cc)
map-name_in ρ (m ∷ ms) n zero e = let same : ρ m ≡ n = cc in record { before = m; is = refl; now = sym same }
map-name_in ρ (m ∷ ms) n (suc id) e = let rest = map-name_in ρ ms n id e in record { before = rest.before; is = rest.is; now = rest.now }

-- The heap stands under the new names: the row of names is mapped, and nothing else is owed by the layers above.
pub row-renamed : (seen now : Seen) (ρ : reference.Reference → reference.Reference) (heap : Heap) (names : List reference.Reference) → Renames seen now ρ → StandsRow seen heap names → StandsRow now heap (map ρ names)
row-renamed seen now ρ heap names r s =
    let moves : Moves ρ (paired names) (paired (map ρ names)) = λ n id e. name_in-map ρ names n id e in
    record {
      stands = record {
        both = λ n id e.
            let b = map-name_in ρ names n id e in
            let old = s.stands.both b.before id b.is in
            subst (λ m. Both now heap (paired (map ρ names)) m id) (sym b.now) (record {
              it = renamed ρ old.it;
              object = old.object;
              there = r.forth b.before old.it old.there;
              means = old.means;
              like = like-moved seen now ρ (paired names) (paired (map ρ names)) old.it old.object r moves old.like;
            });
        one_number = λ n i j e f.
            let a = map-name_in ρ names n i e in
            let b = map-name_in ρ names n j f in
            let x = s.stands.both a.before i a.is in
            let y = s.stands.both b.before j b.is in
            let same = r.one a.before b.before (record { it = x.it; is = x.there }) (record { it = y.it; is = y.there }) (sym a.now ∙ b.now) in
            s.stands.one_number b.before i j (subst (λ m. paired names m i) same a.is) b.is;
        one_name = λ n m id e f. some_same n m (sym e ∙ f);
        tables = record {
          nodes = λ id. map ρ (s.stands.tables.nodes id);
          each = λ n id table e is.
              let b = map-name_in ρ names n id e in
              subst (λ m. IsTable now (paired (map ρ names)) m table (map ρ (s.stands.tables.nodes id))) (sym b.now)
              (table-moved seen now ρ (paired names) (paired (map ρ names)) b.before table (s.stands.tables.nodes id) r moves (s.stands.tables.each b.before id table b.is is));
          are_nodes = λ id n a.
              let b = among-moved ρ n (s.stands.tables.nodes id) a in
              subst (λ m. IsKindOf now m kind.Node) (sym b.now) (kind-moved seen now ρ b.before kind.Node r (s.stands.tables.are_nodes id b.before b.is));
          apart = λ i j n a b.
              let x = among-moved ρ n (s.stands.tables.nodes i) a in
              let y = among-moved ρ n (s.stands.tables.nodes j) b in
              let k = s.stands.tables.are_nodes i x.before x.is in
              let l = s.stands.tables.are_nodes j y.before y.is in
              let same = r.one x.before y.before (record { it = k.it; is = k.there }) (record { it = l.it; is = l.there }) (sym x.now ∙ y.now) in
              s.stands.tables.apart i j y.before (subst (λ m. IsAmong m (s.stands.tables.nodes i)) same x.is) y.is;
        };
      };
      long = length-map names ρ ∙ s.long;
    }
  where
    some_same : (a b : reference.Reference) → Some a ≡ Some b → a ≡ b
    some_same a b e = cc
