use Rattle.std.proofs.Common.{inl, inr, ◌≡◌, ◌⊎◌, ℕ, zero, suc, [], ◌∷◌, sym, subst}
use Rattle.objects.specs.swizzle.Heap.{Heap, IsHeld}
use Rattle.objects.specs.heap_places.Filling.{AreNear}
use Rattle.objects.specs.structure_rows.Rows.{named}
use Rattle.objects_tests.proofs.row_making.make.Goals as goal

near-held : (here : Heap) (to : ℕ) → IsHeld here to → AreNear here (named (to ∷ []))
near-held here zero held = (tt, tt)
near-held here (suc n) held = (held, tt)

near-one : (here : Heap) (to first : ℕ) → (to ≡ 0) ⊎ (to ≡ first) → IsHeld here first → AreNear here (named (to ∷ []))
near-one here to first (inl none) held = subst (λ (n : ℕ). AreNear here (named (n ∷ []))) (sym none) (tt, tt)
near-one here to first (inr same) held = subst (λ (n : ℕ). AreNear here (named (n ∷ []))) (sym same) (near-held here first held)

pub make_from-requires-clause-near : goal.make_from-requires-clause-near
make_from-requires-clause-near c = near-one c.args.objects.now c.word-to.result c.args.first c.word-to.ensures c.requires.first
