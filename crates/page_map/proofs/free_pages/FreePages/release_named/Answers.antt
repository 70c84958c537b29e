use Rattle.std.proofs.Common.{ℕ, List, ◌&&◌, ◌||◌, refl, sym, ap, ◌∙◌, arith}
use Rattle.std.proofs.lemmas.List.{take_all}
use Rattle.page_map.specs.Pages.{is_free, may_be_free, names}
use Rattle.page_map.proofs.PageLaws.{none_of, names_none, release_more, where_from}
use Rattle.page_map.proofs.free_pages.FreePages.release_named.Goals as goal

pub loop-page-init : goal.loop-page-init
loop-page-init c = record {
  long = refl;
  free = λ p below. rw (names_none p) (sym (none_of (is_free c.args.self.now p) (may_be_free p)));
}

pub loop-page-preserved : goal.loop-page-preserved
loop-page-preserved c = record {
  long = c.release.ensures.len ∙ c.loop-page.invariant.long;
  free = λ p below. release_more c.args.self.now c.loop-page.self c.release.new.self c.args.list.now c.loop-page.page-index p c.loop-page-test.true
      (c.loop-page.invariant.free p below) (c.release.ensures.free p (omega (arith, c.loop-page.invariant.long)));
}

pub returns : goal.returns
returns c =
    let whole = take_all c.loop-page.page-index c.args.list.now c.loop-page-test.false in
    where_from c.loop-page.self _ _ c.loop-page.invariant.long
    (λ p below. c.loop-page.invariant.free p below ∙ ap (λ (list : List ℕ). is_free c.args.self.now p || (may_be_free p && names list p)) whole)
