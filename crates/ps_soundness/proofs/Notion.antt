-- Which bodies are procedures, and what is known where a clause stands: what the proofs ask of both.
use Rattle.std.proofs.Common.{◌≡◌, ℕ, Option}
use Rattle.ps_meaning.specs.ps_base.TyView.{TyView}
use Rattle.ps_meaning.specs.ps_program.Node.{BodyNode}
use Rattle.ps_heap.specs.Texts.{Yields}
use Rattle.ps_heap.specs.Tables.{Key, Table, without_keys, entered}
use Rattle.ps_heap.specs.Objects.{Heap}
use Rattle.ps_meaning.specs.Meaning.{Frame}
use Rattle.ps_soundness.specs.Over.{Asked, Grows}
use Rattle.ps_soundness.specs.Shapes.{type_of_body}

-- procedures of a type stay such where the heap grows, and are of one type; what is asked of the scope round a scope stays so; a new table is as tables are
-- to be, and stays so where something is entered
pub record Kind : Type 1 where
  pub asked : Asked
  pub kept : (heap new : Heap) → Grows heap new → (ty : TyView) (of : BodyNode) (scope : Option ℕ) → asked.procedures heap ty of scope → asked.procedures new ty of scope
  pub of_type : (heap : Heap) (ty : TyView) (of : BodyNode) (scope : Option ℕ) → asked.procedures heap ty of scope → ty ≡ type_of_body of
  pub round_kept : (heap new : Heap) → Grows heap new → (parent : Option ℕ) → asked.round heap parent → asked.round new parent
  pub no_keys : asked.tabled without_keys
  pub entered_kept : (key : Key) (object : Option ℕ) (old new : Table) → asked.tabled old → entered key object old ≡ Yields new → asked.tabled new

-- What is known stays so where the heap grows; one thing that may be known is nothing.
pub record Notion : Type 1 where
  pub kind : Kind
  pub Standing : Type 0
  pub IsStanding : Heap → Frame → Standing → Type 0
  pub kept : (heap new : Heap) → Grows heap new → (frame : Frame) (known : Standing) → IsStanding heap frame known → IsStanding new frame known
  pub nothing : Standing
  pub is_nothing : (heap : Heap) (frame : Frame) → IsStanding heap frame nothing
