use Rattle.std.proofs.Common.{sym, ◌∙◌}
use Rattle.swizzle.specs.Heap.{header_at}
use Rattle.commit_walk.proofs.HomeLaws.{homed-2, homed-3, homed-4, homed-7}
use Rattle.commit_walk.proofs.walk.is_homed.Goals as goal

pub returns-then-is_kind : goal.returns-then-is_kind
returns-then-is_kind c = sym (homed-2 (header_at c.args.sw.now c.args.object) (sym c.is_kind.ensures ∙ c.if-is_kind.true))

pub returns-then-is_kind-2 : goal.returns-then-is_kind-2
returns-then-is_kind-2 c = sym (homed-3 (header_at c.args.sw.now c.args.object) (sym c.is_kind-2.ensures ∙ c.if-is_kind-2.true))

pub returns-then-is_kind-3 : goal.returns-then-is_kind-3
returns-then-is_kind-3 c = sym (homed-4 (header_at c.args.sw.now c.args.object) (sym c.is_kind-3.ensures ∙ c.if-is_kind-3.true))

pub returns : goal.returns
returns c =
    c.is_kind-4.ensures
    ∙ sym (homed-7 (header_at c.args.sw.now c.args.object) (sym c.is_kind.ensures ∙ c.if-is_kind.false) (sym c.is_kind-2.ensures ∙ c.if-is_kind-2.false) (sym c.is_kind-3.ensures ∙ c.if-is_kind-3.false))
