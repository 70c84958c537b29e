use Rattle.std.proofs.Common.{List, ℕ, ap, ◌∙◌}
use Rattle.heap_meaning.specs.ps_heap.Texts.{order_of}
use Rattle.heap_meaning.specs.swizzle.Text.{text_at}
use Rattle.joint_ops.proofs.SeenLaws.{text-denoted}
use Rattle.joint_ops.proofs.texts.compare.Goals as goal

pub returns : goal.returns
returns g c vault names v w da db =
    let outside = g.V.Vault.outside vault in
    c.compare.ensures
    ∙ ap (λ (x : List ℕ). order_of x (text_at c.args.sw.now c.args.b))
    (text-denoted c.args.sw.now outside names c.args.a v c.sound.ensures da).bytes_are
    ∙ ap (order_of v) (text-denoted c.args.sw.now outside names c.args.b w c.sound.ensures db).bytes_are
