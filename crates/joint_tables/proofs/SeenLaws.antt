-- What is seen of area and vault is the same to tables' nodes as to the meaning; and what stands after touches.
use Rattle.std.proofs.Common.{◌≡◌, ℕ, List, length, Option, Result, Ok, Err, OnOk, OnErr, IfErr, ◌+◌, ◌^◌, ◌≤◌, ◌<◌, arith, refl, subst, inl, inr}
use Rattle.joint_ops.specs.ps_outside.Outside.{Outside}
use Rattle.ps_base.specs.declared.trap.Trap.{Trap}
use Rattle.joint_ops.specs.heap_ops.Outcomes.{UnlessFault}
use Rattle.joint_ops.specs.obj_layout.Stored.{Space, Holds, IsSpace}
use Rattle.joint_ops.proofs.of_heap_meaning.of_obj_layout.StoredLaws.{Holds-within}
use Rattle.joint_ops.specs.obj_layout.declared.reference.Reference.{Reference}
use Rattle.joint_ops.specs.obj_layout.declared.vault.VaultFault.TheVariants.{Device, Output, Full, NoPages, Damaged}
use Rattle.joint_ops.specs.swizzle.declared.fault.SwizzleFault.{SwizzleFault}
use Rattle.joint_ops.specs.swizzle.declared.fault.SwizzleFault.TheVariants.{AreaFull, Vault}
use Rattle.joint_ops.specs.swizzle.Heap as area
use Rattle.joint_ops.specs.swizzle.Heap.{IsHeap, IsHeld, header_at}
use Rattle.joint_ops.specs.swizzle.Changes.{Within}
use Rattle.joint_ops.specs.swizzle.Reading.{FailsReading, LeavesOutside}
use Rattle.joint_ops.specs.heap_texts.declared.fault.OpFault.{OpFault}
use Rattle.joint_ops.specs.heap_texts.declared.fault.OpFault.TheVariants as op
use Rattle.joint_ops.specs.ps_heap.Objects.{Heap}
use Rattle.joint_ops.specs.Seeing.{Gains}
use Rattle.joint_ops.specs.World.{IsStored, IsWorld, Carried, BreaksOff, BreaksAsReading, seen}
use Rattle.joint_ops.proofs.of_heap_meaning.PairedLaws.{row-within}
use Rattle.joint_ops.proofs.SeenLaws.{grows-within, keeps-carries}
use Rattle.joint_ops.proofs.of_swizzle.ReadingLaws.{leaves-none}
use Rattle.table_lib.specs.Faults.{IsOpFault, IsOpenFault}
use Rattle.table_lib.specs.table_nodes.avl_trees.Trees.{Tree, leaf, node}
use Rattle.table_lib.specs.table_nodes.avl_trees.Standing.{Stands as TreeStands, row_of}
use Rattle.table_lib.specs.table_nodes.node_rows.Keys.{Keys, Seen}
use Rattle.table_lib.specs.table_nodes.node_rows.Nodes.{I, HasNode}
use Rattle.table_lib.specs.table_nodes.Nodes as nodes
use Rattle.table_lib.specs.table_nodes.Fetching.{Arrives}
use Rattle.table_lib.specs.table_nodes.Faults.{IsNodeFault, IsChangeFault, unfetched, misfit}
use Rattle.table_lib.proofs.of_table_nodes.NodeLaws.{rows_grow}

-- an object of a vault may come into the area for nodes where it may for the meaning, and back
as_nodes : (outside : Outside Space) (pid : ℕ) (words : List ℕ) → IsStored outside pid words → nodes.IsStored outside pid words
as_nodes outside pid words s = record { there = s.there; header = s.header; far = s.far; clean = (s.clean.flags, s.clean.pid, s.clean.chain) }

of_nodes : (outside : Outside Space) (pid : ℕ) (words : List ℕ) → nodes.IsStored outside pid words → IsStored outside pid words
of_nodes outside pid words s =
    record { there = s.there; header = s.header; far = s.far; clean = record { flags = s.clean.0; pid = s.clean.1; chain = s.clean.2 } }

pub seen-nodes : (here : area.Heap) (outside : Outside Space) → Within (seen here outside) (nodes.seen here outside)
seen-nodes here outside n it (inl a) = inl a
seen-nodes here outside n it (inr v) =
    inr (record {
      pid = v.pid;
      words = v.words;
      name_is = v.name_is;
      there = as_nodes outside v.pid v.words v.there;
      away = v.away;
      shown_is = v.shown_is;
    })

pub nodes-seen : (here : area.Heap) (outside : Outside Space) → Within (nodes.seen here outside) (seen here outside)
nodes-seen here outside n it (inl a) = inl a
nodes-seen here outside n it (inr v) =
    inr (record {
      pid = v.pid;
      words = v.words;
      name_is = v.name_is;
      there = of_nodes outside v.pid v.words v.there;
      away = v.away;
      shown_is = v.shown_is;
    })

-- a tree stands still where more is seen
pub tree-within : (ks : Keys) (a b : Seen) (t : Tree (I ks)) → Within a b → TreeStands (HasNode ks a) t → TreeStands (HasNode ks b) t
tree-within ks a b leaf w s = tt
tree-within ks a b (node l i r) w s = (rows_grow ks a b w i.name (row_of l i r) s.0, tree-within ks a b l w s.1, tree-within ks a b r w s.2)

-- Touches leave what stands.
pub grown-within : (old new : area.Heap) (before after : Outside Space) → nodes.Grows old new before after → Within (seen old before) (seen new after)
grown-within old new before after g = grows-within old new before after g.keeps g.seen g.leaves.contents

pub grown-stands : (old new : area.Heap) (before after : Outside Space) (of : Heap) (names : List Reference) → nodes.Grows old new before after
    → IsWorld old before of names
    → Carried old new before after of names
grown-stands old new before after of names g w = record {
  world = record { row = row-within (seen old before) (seen new after) of names (grown-within old new before after g) w.row };
  carries = keeps-carries old new before after names names g.keeps (grown-within old new before after g) (λ n id p. p);
}

-- What a reading gained, where all that is new in the area came from the vault.
pub arrived-gains : (old new : area.Heap) (before after : Outside Space) → IsHeap old → nodes.Grows old new before after → Arrives old new before
    → Gains old new before after
arrived-gains old new before after h g came = record {
  was_sound = h;
  sound = g.heap;
  keeps = g.keeps;
  grows = grown-within old new before after g;
  came = λ x held. elim (came x held) [
    | inl was ↦ inl was
    | inr k ↦
        inr (inl (record {
          stored = k.stored;
          away = k.away;
          words = k.words;
          there = of_nodes before (header_at new x).pid k.words k.there;
          shown = k.shown;
        }))
  ];
  contents = g.leaves.contents;
}

-- and where the area stayed
pub stayed-gains : (old new : area.Heap) (before after : Outside Space) → IsHeap old → nodes.Grows old new before after → new ≡ old
    → Gains old new before after
stayed-gains old new before after h g same =
    arrived-gains old new before after h g (λ x held. inl (subst (λ (here : area.Heap). IsHeld here x) same held))

-- an answer and a fault alike leave the area as touches do
pub both : {T F : Type 0} (P : Type 0) (result : Result T F) → OnOk result P → OnErr result P → P
both P (Ok x) p q = p
both P (Err f) p q = q

-- Why a call on a table failed, whatever the vault holds.

damaged-fails : (before after : Outside Space) (fault : SwizzleFault) (at found wanted : ℕ) → LeavesOutside before after
    → fault ≡ Vault (Damaged at found wanted) → FailsReading before after fault
damaged-fails before after fault at found wanted leaves e = record {
  outside = leaves;
  cause = λ f. absurd (cc (e, f));
  other = λ f. absurd (cc (e, f));
  full = λ used want capacity f. absurd (cc (e, f));
  pages = λ held want pages f. absurd (cc (e, f));
}

full-fails : (before after : Outside Space) (fault : SwizzleFault) (top wanted size : ℕ) → LeavesOutside before after
    → fault ≡ AreaFull top wanted size → FailsReading before after fault
full-fails before after fault top wanted size leaves e = record {
  outside = leaves;
  cause = λ f. absurd (cc (e, f));
  other = λ f. absurd (cc (e, f));
  full = λ used want capacity f. absurd (cc (e, f));
  pages = λ held want pages f. absurd (cc (e, f));
}

node-fails : (before after : Outside Space) (here : area.Heap) (fault : SwizzleFault) → LeavesOutside before after
    → IsNodeFault before after here fault → FailsReading before after fault
node-fails before after here fault leaves (unfetched at slot held below f fails) = fails
node-fails before after here fault leaves (misfit at found wanted held m e) = damaged-fails before after fault _ found wanted leaves e

change-fails : (before after : Outside Space) (here : area.Heap) (fault : SwizzleFault) → LeavesOutside before after
    → IsChangeFault before after here fault → FailsReading before after fault
change-fails before after here fault leaves (inl f) = node-fails before after here fault leaves f
change-fails before after here fault leaves (inr f) = full-fails before after fault _ _ _ leaves f.fault_is

pub fails-as : {T : Type 0} (nodes : SwizzleFault → Type 0) (before after : Outside Space) (here : area.Heap) (table : Option ℕ)
    (result : Result T OpFault) → LeavesOutside before after
    → ((fault : SwizzleFault) → nodes fault → FailsReading before after fault) → IfErr result (IsOpFault nodes here table)
    → BreaksAsReading before after result
fails-as nodes before after here table (Ok x) leaves go f = tt
fails-as nodes before after here table (Err (op.Trap t)) leaves go f = tt
fails-as nodes before after here table (Err (op.Swizzle fault)) leaves go (inl d) =
    damaged-fails before after fault _ d.2.found d.2.wanted leaves d.2.is
fails-as nodes before after here table (Err (op.Swizzle fault)) leaves go (inr f) = go fault f

pub open-fails : {T : Type 0} (outside : Outside Space) (here : area.Heap) (table : Option ℕ) (result : Result T OpFault)
    → IfErr result (IsOpenFault here table) → BreaksAsReading outside outside result
open-fails outside here table (Ok x) f = tt
open-fails outside here table (Err (op.Trap t)) f = tt
open-fails outside here table (Err (op.Swizzle fault)) f = damaged-fails outside outside fault _ f.2.found f.2.wanted (leaves-none outside) f.2.is

pub reads-fail : {T : Type 0} (before after : Outside Space) (here : area.Heap) (table : Option ℕ) (result : Result T OpFault)
    → LeavesOutside before after
    → IfErr result (IsOpFault (IsNodeFault before after here) here table) → BreaksAsReading before after result
reads-fail before after here table result leaves f =
    fails-as (IsNodeFault before after here) before after here table result leaves (λ fault k. node-fails before after here fault leaves k) f

pub changes-fail : {T : Type 0} (before after : Outside Space) (here : area.Heap) (table : Option ℕ) (result : Result T OpFault)
    → LeavesOutside before after
    → IfErr result (IsOpFault (IsChangeFault before after here) here table) → BreaksAsReading before after result
changes-fail before after here table result leaves f =
    fails-as (IsChangeFault before after here) before after here table result leaves (λ fault k. change-fails before after here fault leaves k) f

-- A fault over a table that stands breaks the operation off.
pub breaks-off : (old new : area.Heap) (before after : Outside Space) (fault : SwizzleFault) → FailsReading before after fault
    → nodes.IsFetchFault old before fault → BreaksOff old new before after fault
breaks-off old new before after (AreaFull top wanted size) f b = (
  b.0,
  b.1,
  b.2,
  (
    b.3.0,
    record {
      words = b.3.1.words;
      stored = of_nodes before b.3.0 b.3.1.words b.3.1.stored;
      away = b.3.1.away;
    },
    b.3.2,
  ),
)
breaks-off old new before after (Vault Device) f b = f.cause refl
breaks-off old new before after (Vault Output) f b = b
breaks-off old new before after (Vault (Full used wanted capacity)) f b = b
breaks-off old new before after (Vault (NoPages held wanted pages)) f b = b
breaks-off old new before after (Vault (Damaged at found wanted)) f b = b

-- the vault is alive unless the operation broke off
pub alive-unless : {T : Type 0} (alive : Type 0) (result : Result T OpFault) → OnOk result alive → ((t : Trap) → result ≡ Err (op.Trap t) → alive)
    → UnlessFault result alive
alive-unless alive (Ok x) ok trapped = ok
alive-unless alive (Err (op.Trap t)) ok trapped = trapped t refl
alive-unless alive (Err (op.Swizzle fault)) ok trapped = tt

-- the PIDs of a vault are small
pub pid-low : (outside : Outside Space) (used directory pid : ℕ) (words : List ℕ)
    → ((space : Space) → outside.contents space → IsSpace used directory space) → used < 2 ^ 30 → Holds outside pid words → pid < 2 ^ 30
pid-low outside used directory pid words space small there =
    let within = Holds-within outside used directory pid words space there in
    cases (length words) within.high
  where
    cases : (n : ℕ) → pid + n ≤ used → pid < 2 ^ 30
    cases n high = omega (arith, high, small)

-- an answer and a fault alike leave the outside
pub err-leaves : {T : Type 0} (old new : area.Heap) (before after : Outside Space) (result : Result T OpFault)
    → OnOk result (LeavesOutside before after) → OnErr result (nodes.Grows old new before after) → LeavesOutside before after
err-leaves old new before after (Ok x) l g = l
err-leaves old new before after (Err f) l g = g.leaves
