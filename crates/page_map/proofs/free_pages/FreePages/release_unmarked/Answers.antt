use Rattle.std.proofs.Common.{ℕ, Bool, List, length, not, ◌&&◌, ◌||◌, refl, sym, ap, ◌∙◌, arith}
use Rattle.std.proofs.lemmas.List.{take_all}
use Rattle.page_map.specs.Pages.{is_free, may_be_free, names}
use Rattle.page_map.proofs.PageLaws.{none_of, names_none, release_unmarked_more, mark_more, where_from}
use Rattle.page_map.proofs.free_pages.FreePages.release_unmarked.Goals as goal
use Rattle.page_map.proofs.free_pages.FreePages.release_unmarked.Goals.{then-not-is_marked, else-not-is_marked}

pub loop-page-init : goal.loop-page-init
loop-page-init c = record {
  long = refl;
  free = λ p below. rw (names_none p) (sym (none_of (is_free c.args.self.now p) (may_be_free p)));
}

-- a page without a mark is made free
pub loop-page-preserved : goal.loop-page-preserved
loop-page-preserved c = elim c.if-not-is_marked.branch [
  | then-not-is_marked w ↦ record {
    long = ap length w.self-is ∙ w.release.ensures.len ∙ c.loop-page.invariant.long;
    free = λ p below.
        ap (λ (free : List Bool). is_free free p) w.self-is
        ∙ release_unmarked_more c.args.self.now c.loop-page.self w.release.new.self c.args.marks.now c.args.list.now c.loop-page.page-index p c.loop-page-test.true
        (c.loop-page.invariant.free p below) (sym c.is_marked.ensures ∙ w.if-not-is_marked.true) (w.release.ensures.free p (omega (arith, c.loop-page.invariant.long)));
  }
  | else-not-is_marked w ↦ record {
    long = ap length w.self-is ∙ c.loop-page.invariant.long;
    free = λ p below.
        ap (λ (free : List Bool). is_free free p) w.self-is
        ∙ mark_more c.args.self.now c.loop-page.self c.args.marks.now c.args.list.now c.loop-page.page-index p c.loop-page-test.true
        (c.loop-page.invariant.free p below) (sym c.is_marked.ensures ∙ w.if-not-is_marked.false);
  }
]

pub returns : goal.returns
returns c =
    let whole = take_all c.loop-page.page-index c.args.list.now c.loop-page-test.false in
    where_from c.loop-page.self _ _ c.loop-page.invariant.long
    (λ p below. c.loop-page.invariant.free p below ∙ ap (λ (list : List ℕ). is_free c.args.self.now p || (may_be_free p && (names list p && not (is_free c.args.marks.now p)))) whole)
