use Rattle.std.proofs.Common.{ℕ, List, [], length, not, ◌&&◌, refl, sym, ap, ◌∙◌, arith}
use Rattle.std.proofs.lemmas.List.{get_or_read, take_all}
use Rattle.page_map.specs.Pages.{is_free, one_names, without}
use Rattle.page_map.proofs.PageLaws.{and_true, hold_one_more, length_where, one_names_none, where_from}
use Rattle.page_map.proofs.free_pages.FreePages.hold_each.Goals as goal

pub loop-list-init : goal.loop-list-init
loop-list-init c = record {
  long = refl;
  free = λ p below. rw (one_names_none p) (sym (and_true (is_free c.args.self.now p)));
}

pub loop-list-preserved : goal.loop-list-preserved
loop-list-preserved c =
    let was = c.loop-list.self in
    let lists = c.args.lists.now in
    let index = c.loop-list.list-index in
    let list_is = c.numbers.ensures ∙ get_or_read lists index c.list-item.result c.loop-list-test.true c.list-item.is [] in
    let is = c.hold.ensures ∙ ap (λ (list : List ℕ). without was list) list_is in
    record {
      long = ap length c.hold.ensures ∙ length_where _ _ ∙ c.loop-list.invariant.long;
      free = λ p below. hold_one_more c.args.self.now was c.hold.new.self lists index p c.loop-list-test.true (omega (arith, c.loop-list.invariant.long))
          (c.loop-list.invariant.free p below) is;
    }

pub returns : goal.returns
returns c =
    let whole = take_all c.loop-list.list-index c.args.lists.now c.loop-list-test.false in
    where_from c.loop-list.self _ _ c.loop-list.invariant.long
    (λ p below. c.loop-list.invariant.free p below ∙ ap (λ (lists : List (List ℕ)). is_free c.args.self.now p && not (one_names lists p)) whole)
