use Rattle.std.proofs.Common.{false, sym, ◌∙◌, arith}
use Rattle.std.proofs.lemmas.List.{get_or_read}
use Rattle.page_map.proofs.PageLaws.{held_below}
use Rattle.page_map.proofs.free_pages.FreePages.claim.Goals as goal

pub overflow_add-self : goal.overflow_add-self
overflow_add-self c =
    let pages = c.self.inside.free in
    let is = sym (get_or_read pages.items c.args.page c.index.result.now (omega (arith, pages.ok.0)) c.index.ensures false) ∙ c.if-not-index.false in
    omega (arith, c.self.invariant.held, c.self.invariant.few, held_below pages.items c.args.page is)
