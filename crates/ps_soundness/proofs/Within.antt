-- Bodies that are called answer, where each body yields what it gives in its frame: by induction on the turns that may be left.
use Rattle.std.proofs.Common.{ℕ, zero, suc, List, Option}
use Rattle.ps_meaning.specs.ps_base.TyView.{TyView, TyViews}
use Rattle.ps_meaning.specs.ps_base.TyView as types
use Rattle.ps_meaning.specs.ps_program.Node.{BodyNode}
use Rattle.ps_heap.specs.Values.{Value}
use Rattle.ps_heap.specs.Objects.{Heap}
use Rattle.ps_meaning.specs.Meaning.{stop}
use Rattle.ps_meaning.specs.Frames.{frame_of_call}
use Rattle.ps_meaning.specs.Evaluation.{Context}
use Rattle.ps_meaning.specs.Calls.{body_meant, call_within, context}
use Rattle.ps_soundness.specs.Shapes.{Grows}
use Rattle.ps_soundness.proofs.Notion.{Notion}
use Rattle.ps_soundness.proofs.Growing.{grows_not, grows_then}
use Rattle.ps_soundness.proofs.Combining.{Sound, sound_then, sound_turn, sound_touch_scope}
use Rattle.ps_soundness.proofs.Calling.{ValuesOf, Answers}

-- what is known where a body begins that is called with these arguments, and that it yields a value of the type that it gives
pub record IsBodySound (notion : Notion) (c : Context) (of : BodyNode) (scope : Option ℕ) (args : List Value) (g : TyView) (heap : Heap) : Type 0 where
  pub known : notion.Standing
  pub stands : notion.IsStanding heap (frame_of_call of scope args) known
  pub sounds : (new : Heap) → Grows heap new → Sound notion new known notion.nothing g (body_meant c of args)

abbrev pub BodiesSound : Notion → Type 0
BodiesSound notion =
    (c : Context) → Answers notion c.call → (of : BodyNode) (scope : Option ℕ) (args : List Value) (ps : TyViews) (g : TyView) (heap : Heap) →
    notion.kind.asked.procedures heap (types.Proc ps g) of scope → ValuesOf notion.kind heap ps args → IsBodySound notion c of scope args g heap

-- where no turn is left nothing is called, and else a turn is taken
pub bodies_answer : (notion : Notion) → BodiesSound notion → (n depth : ℕ) → Answers notion (call_within n depth)
unfolding call_within stop
bodies_answer notion bodies zero depth = record {
  answers = λ of scope args ps g state typed_heap is are. (grows_not state.store.held.objects, typed_heap, λ e. e);
}
bodies_answer notion bodies (suc n) depth = record {
  answers = λ of scope args ps g state typed_heap is are.
      let heap = state.store.held.objects in
      let b = bodies (context n depth) (bodies_answer notion bodies n (suc depth)) of scope args ps g heap is are in
      let whole = sound_then notion (sound_turn notion {heap = heap} {known = b.known}) (λ turned t k done.
      sound_then notion (sound_touch_scope notion {heap = turned} {known = b.known}) (λ new u l touched.
      b.sounds new (grows_then heap turned new k l))) in
      whole.runs (frame_of_call of scope args) state (grows_not heap) typed_heap b.stands;
}
