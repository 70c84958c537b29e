-- What a run holds of the heap and of databases, as area and vault show it, and as code has it that knows which databases are open.
use Rattle.std.specs.Prelude.{◌≡◌, ◌≢◌, ◌⊎◌, ℕ, ◌<◌, ◌≤◌, ◌^◌, true, false, List, [], ◌∷◌, map, length, Option, Some, None}
use Rattle.joint_ops.specs.ps_outside.Outside.{Outside}
use Rattle.joint_ops.specs.obj_area.Words.{AreWords}
use Rattle.joint_ops.specs.obj_layout.Stored.{Space}
use Rattle.joint_ops.specs.obj_layout.declared.kind.Kind.TheVariants.{Node}
use Rattle.joint_ops.specs.obj_layout.declared.reference.Reference.{Reference}
use Rattle.joint_ops.specs.obj_layout.declared.reference.Reference.TheVariants.{Nil, Pid, Local}
use Rattle.joint_ops.specs.swizzle.Heap as area
use Rattle.joint_ops.specs.swizzle.Heap.{IsHeld, IsListed, header_at}
use Rattle.joint_ops.specs.swizzle.Joint.{Shown, name_at}
use Rattle.joint_ops.specs.heap_places.Shapes.{slot_of, word_in}
use Rattle.joint_ops.specs.heap_meaning.avl_trees.Trees.{Tree, leaf, node, items}
use Rattle.joint_ops.specs.heap_meaning.avl_trees.Standing.{Item, Stands, root_of}
use Rattle.joint_ops.specs.heap_meaning.node_rows.Keys.{Keys, by_texts, by_ints}
use Rattle.joint_ops.specs.heap_meaning.node_rows.Nodes.{I, IsAmong, HasNode, link_of}
use Rattle.joint_ops.specs.heap_meaning.Tables.{names_of}
use Rattle.joint_ops.specs.heap_meaning.Values.{Seen}
use Rattle.joint_ops.specs.heap_meaning.Paired.{paired}
use Rattle.joint_ops.specs.World.{IsWorld, IsStored, seen}
use Rattle.joint_ops.specs.ps_heap.Tables as table
use Rattle.joint_ops.specs.ps_heap.Tables.{Table, by_strings}
use Rattle.joint_ops.specs.ps_heap.Objects.{Heap, Keyed, object_at}
use Rattle.joint_ops.specs.ps_heap.Databases.{Database, database_at, open_for_writing, is_there}
use Rattle.joint_ops.specs.ps_heap.Held.{Place, object_of, Held, home_at}
use Rattle.reach_commit.specs.commit_walk.reaching.Reaching.{IsIn}
use Rattle.reach_commit.specs.commit_walk.Walk.{has_home}
use Rattle.reach_commit.specs.commit_walk.declared.homes.Source.{Source}
use Rattle.reach_commit.specs.commit_walk.Homes.{source_at}
use Rattle.reach_commit.specs.commit_images.Images.{image_of}
use Rattle.reach_commit.specs.Becoming.{AreNewRoots}
use Rattle.reach_commit.specs.Telling.{IsTold}
use Rattle.db_dir.specs.Directories.{IsDirectoryAt, IsDirectoryUnder}

-- An object is at home in a database exactly where it is stored: then its name is a PID, and its first number word is the number of the database.
abbrev pub IsAtHome : Seen → Reference → Option ℕ → Type 0
IsAtHome seen (Pid pid) (Some number) = (it : Shown) × seen (Pid pid) it × (word_in it 0 ≡ number)
IsAtHome seen (Local at) None = Unit {0}
IsAtHome seen _ _ = ⊥

-- this object of the area is that of the id
pub record IsOf (here : area.Heap) (names : List Reference) (x id : ℕ) : Type 0 where
  pub held : IsHeld here x
  pub named : paired names (name_at here x) id

-- it is stored, and noted as assigned
pub record IsNoted (here : area.Heap) (x : ℕ) : Type 0 where
  pub stored : 1 ≤ (header_at here x).pid
  pub listed : IsListed x here.assigned

-- a place of the object with this id is among these
abbrev pub HasPlace : List Place → ℕ → Type 0
HasPlace [] id = ⊥
HasPlace (place ∷ places) id = (object_of place ≡ id) ⊎ HasPlace places id

-- The objects of the heap with assigned places are those that are stored and noted as assigned; and what is noted and at home in a database is of the heap.
pub record AreAssigned (here : area.Heap) (names : List Reference) (places : List Place) : Type 0 where
  pub noted : (id : ℕ) → HasPlace places id → (x : ℕ) × IsOf here names x id × IsNoted here x
  pub placed : (x id : ℕ) → IsOf here names x id → IsNoted here x → HasPlace places id
  pub known : (x : ℕ) → IsNoted here x → has_home (header_at here x) ≡ true → (id : ℕ) × IsOf here names x id

-- an object of the area has this name
pub record IsHere (here : area.Heap) (n : Reference) : Type 0 where
  pub at : ℕ
  pub held : IsHeld here at
  pub name : name_at here at ≡ n

-- one of these names is that of an object of the area that isn't stored, or is noted as assigned
pub record HasChanged (here : area.Heap) (names : List Reference) : Type 0 where
  pub at : ℕ
  pub held : IsHeld here at
  pub among : IsAmong (name_at here at) names
  pub why : ((header_at here at).pid ≡ 0) ⊎ IsListed at here.assigned

-- Where a node of a tree isn't stored or is noted as assigned, the root of the tree lies in the area; and so it is of all trees below.
abbrev pub AreHung : {K : Type 0} → area.Heap → Tree (Item Reference K Reference) → Type 0
AreHung here leaf = Unit {0}
AreHung here (node l a r) = (HasChanged here (names_of (items (node l a r))) → IsHere here a.name) × AreHung here l × AreHung here r

-- nodes with int keys have no key text
abbrev pub HaveNoTexts : Keys → Seen → List Reference → Type 0
HaveNoTexts by_texts seen names = Unit {0}
HaveNoTexts by_ints seen names = (n : Reference) (it : Shown) → IsAmong n names → seen n it → slot_of it 2 ≡ Nil

-- The tree of a table of this name. Where one of its nodes isn't stored or is noted as assigned, the table lies in the area, and isn't stored or is noted too;
-- where one is stored, the table is.
pub record IsTree (here : area.Heap) (seen : Seen) (n : Reference) (ks : Keys) (t : Tree (I ks)) : Type 0 where
  pub hung : AreHung here t
  pub plain : HaveNoTexts ks seen (names_of (items t))
  pub top : HasChanged here (names_of (items t)) → HasChanged here (n ∷ [])
  pub stored : (pid : ℕ) → IsAmong (Pid pid) (names_of (items t)) → (at : ℕ) × (n ≡ Pid at)

-- a table that has such keys
abbrev pub IsKeyed : Keys → Table → Type 0
IsKeyed by_texts (by_strings entries) = Unit {0}
IsKeyed by_ints (table.by_ints entries) = Unit {0}
IsKeyed ks of = ⊥

-- so it is of the nodes of each table
abbrev pub AreTrees : area.Heap → Seen → Heap → List Reference → Type 0
AreTrees here seen of names = (n : Reference) (id : ℕ) (table : Table) (it : Shown) (ks : Keys) (t : Tree (I ks)) → paired names n id
    → object_at of id ≡ Some (Keyed table) → IsKeyed ks table → seen n it → link_of (slot_of it 0) ≡ root_of t → Stands (HasNode ks seen) t
    → IsTree here seen n ks t

-- a node of a table of the heap
pub record IsNodeOf (here : area.Heap) (of : Heap) (names : List Reference) (nodes : ℕ → List Reference) (x : ℕ) : Type 0 where
  pub name : Reference
  pub id : ℕ
  pub named : paired names name id
  pub table : Table
  pub table_is : object_at of id ≡ Some (Keyed table)
  pub among : IsAmong (name_at here x) (nodes id)

-- an object that is no node, or one of a table of the heap
abbrev pub IsOfHeap : area.Heap → Heap → List Reference → (ℕ → List Reference) → ℕ → Type 0
IsOfHeap here of names nodes x = ((header_at here x).kind ≢ Node) ⊎ IsNodeOf here of names nodes x

-- What the vault holds is told. It has the present words of each stored object of the area that isn't noted as assigned: but not of a node that was taken out
-- of its table, which is never stored again. Only objects that have a home, and nodes, are noted.
pub record IsCurrent (here : area.Heap) (outside : Outside Space) (of : Heap) (names : List Reference) (nodes : ℕ → List Reference) : Type 0 where
  pub told : IsTold here outside
  pub stored : (x : ℕ) → IsHeld here x → 1 ≤ (header_at here x).pid → (IsListed x here.assigned → ⊥) → IsOfHeap here of names nodes x
      → IsStored outside (header_at here x).pid (image_of here x)
  pub noted : (x : ℕ) → IsListed x here.assigned → (has_home (header_at here x) ≡ true) ⊎ ((header_at here x).kind ≡ Node)

-- the database of this number has this root, which lies at an index of the area
pub record HasRoot (here : area.Heap) (names : List Reference) (h : Held) (number at : ℕ) : Type 0 where
  pub database : Database
  pub is : database_at h.directory number ≡ Some database
  pub root : IsOf here names at database.root

-- A database that is open for writing: it has its root in code exactly where it was made since the last saved commit.
pub record IsSource (here : area.Heap) (names : List Reference) (h : Held) (source : Source) : Type 0 where
  pub made : (at : ℕ) → source.root ≡ Some at → IsIn source.number h.created × HasRoot here names h source.number at
  pub other : source.root ≡ None → IsIn source.number h.created → ⊥

-- The databases that are open for writing, in the order in which they became so. Those that were made are among them; the roots of all others are stored.
pub record AreSources (here : area.Heap) (names : List Reference) (h : Held) (writing : List Source) : Type 0 where
  pub numbers : map (λ source. source.number) writing ≡ open_for_writing h.openings
  pub each : (place : ℕ) → place < length writing → IsSource here names h (source_at writing place)
  pub made : (number : ℕ) → IsIn number h.created → IsIn number (open_for_writing h.openings)
  pub roots : AreNewRoots here writing
  pub others : (number : ℕ) (d : Database) → database_at h.directory number ≡ Some d → (IsIn number h.created → ⊥) → is_there (home_at h.homes d.root) ≡ true

-- Before the first call on databases none is open and none was made, and code has no directory; that of the run is the one on the vault.
pub record IsUnasked (here : area.Heap) (outside : Outside Space) (names : List Reference) (h : Held) (directory : Option ℕ) : Type 0 where
  pub openings : h.openings ≡ []
  pub created : h.created ≡ []
  pub none : directory ≡ None
  pub named : (space : Space) → outside.contents space → IsDirectoryUnder (seen here outside) (paired names) space.directory h.directory

-- What a vault holds is one space, of words of 64 bits, fewer than 2 ^ 30.
pub record IsOneStore (outside : Outside Space) : Type 0 where
  pub one : (a b : Space) → outside.contents a → outside.contents b → a ≡ b
  pub wide : (space : Space) → outside.contents space → AreWords space.words
  pub small : (space : Space) → outside.contents space → length space.words < 2 ^ 30

-- Area and vault, the databases that are open for writing and the directory stand for what a run holds, under a row of names.
pub record HoldsRun (here : area.Heap) (outside : Outside Space) (names : List Reference) (writing : List Source) (directory : Option ℕ) (h : Held) : Type 0 where
  pub store : IsOneStore outside
  pub world : IsWorld here outside h.objects names
  pub homes : (n : Reference) (id : ℕ) → paired names n id → IsAtHome (seen here outside) n (home_at h.homes id)
  pub homed : length h.homes ≤ length h.objects
  pub assigned : AreAssigned here names h.assigned
  pub trees : AreTrees here (seen here outside) h.objects names
  pub current : IsCurrent here outside h.objects names world.row.stands.tables.nodes
  pub sources : AreSources here names h writing
  pub asked : h.asked ≡ true → IsDirectoryAt here (seen here outside) (paired names) directory h.directory
  pub unasked : h.asked ≡ false → IsUnasked here outside names h directory
