-- One write by itself, or several as one.
use Rattle.std.proofs.Common.{◌≡◌, ◌≢◌, List, [], ◌∷◌, None, length, refl}
use Rattle.ps_program.specs.Node as node
use Rattle.ps_program.specs.NodeView.{nodes_in}
use Rattle.ps_program.specs.declared.form.Tree.{Tree}
use Rattle.ps_declared.specs.ps_typing.Checking.{together}

pub several : (ts : List Tree) → length ts ≢ 1 → node.Block None (nodes_in ts) ≡ together (nodes_in ts)
several [] other = refl
several (t ∷ []) other = absurd (other refl)
several (t ∷ u ∷ ts) other = refl
