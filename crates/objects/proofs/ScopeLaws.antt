-- What stays of the objects of the area where a kept name is written.
use Rattle.std.proofs.Common.{◌≡◌, ℕ, sym, ◌∙◌}
use Rattle.joint_ops.specs.obj_layout.declared.kind.Kind.TheVariants as kind
use Rattle.joint_ops.specs.swizzle.Heap.{Heap, header_at}
use Rattle.joint_ops.specs.heap_places.declared.value.Value.{Value}
use Rattle.joint_ops.proofs.PutLaws.{no-bytes}
use Rattle.joint_procedures.specs.Scopes.{PutsKept}
use Rattle.objects.specs.Lasting.{Lasts}
use Rattle.objects.proofs.LastingLaws.{lasts-then, keeps-lasts}
use Rattle.objects.proofs.WrittenLaws.{written-lasts}

pub kept-lasts : (old new : Heap) (name : ℕ) (c : Value) → PutsKept old new name c → Lasts old new
kept-lasts old new name c p =
    lasts-then old p.mid new (keeps-lasts old p.mid p.keeps)
    (written-lasts p.mid new p.at _ p.stored p.heap p.held
    (no-bytes (header_at p.mid p.at).kind kind.Scope p.kind (λ e. cc) (λ e. cc))
    (λ e. let bad : kind.Scope ≡ kind.Closure = sym p.kind ∙ e in cc)
    (λ e. let bad : kind.Scope ≡ kind.Vector = sym p.kind ∙ e in absurd (cc)) p.written)
