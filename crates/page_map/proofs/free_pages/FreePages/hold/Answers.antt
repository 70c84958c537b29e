use Rattle.std.proofs.Common.{ℕ, Bool, List, length, not, ◌&&◌, refl, sym, ap, ◌∙◌, get_or, length-set, false}
use Rattle.std.proofs.lemmas.List.{take_all}
use Rattle.page_map.specs.Pages.{is_free, names}
use Rattle.page_map.proofs.PageLaws.{and_true, hold_more, names_none, where_from}
use Rattle.page_map.proofs.free_pages.FreePages.hold.Goals as goal

pub loop-page-init : goal.loop-page-init
loop-page-init c = record {
  long = refl;
  free = λ p below. rw (names_none p) (sym (and_true (is_free c.args.self.now p)));
}

pub loop-page-preserved : goal.loop-page-preserved
loop-page-preserved c =
    let was = c.loop-page.self in
    let page = get_or c.args.list.now c.loop-page.page-index 0 in
    record {
      long = ap length c.claim.ensures.taken ∙ length-set was page false ∙ c.loop-page.invariant.long;
      free = λ p below. ap (λ (free : List Bool). is_free free p) c.claim.ensures.taken
          ∙ hold_more c.args.self.now was c.args.list.now c.loop-page.page-index page p c.loop-page-test.true refl (c.loop-page.invariant.free p below);
    }

pub returns : goal.returns
returns c =
    let whole = take_all c.loop-page.page-index c.args.list.now c.loop-page-test.false in
    where_from c.loop-page.self _ _ c.loop-page.invariant.long
    (λ p below. c.loop-page.invariant.free p below ∙ ap (λ (list : List ℕ). is_free c.args.self.now p && not (names list p)) whole)
