use Rattle.std.proofs.Common.{Bool, List, length, ap, ◌∙◌, arith}
use Rattle.std.proofs.lemmas.List.{with_items_is}
use Rattle.page_map.specs.Pages.{is_free, held_of, may_be_free}
use Rattle.page_map.proofs.PageLaws.{all_fixed, held_all, length_where}
use Rattle.page_map.proofs.free_pages.FreePages.release_all.Goals as goal

pub invariant_of-self : goal.invariant_of-self
invariant_of-self c =
    let count = length c.deref_mut.result.now in
    let long = length_where count may_be_free in
    let items = with_items_is c.self.inside.free c.free_all.new.free (ap length c.free_all.ensures ∙ long ∙ c.deref_mut.ensures.len) ∙ c.free_all.ensures in
    record {
      held = omega (arith, held_all count, ap held_of items);
      passed = λ page below. absurd (omega arith);
      fixed = λ page first. ap (λ (free : List Bool). is_free free page) items ∙ all_fixed count page first;
      few = omega (arith, ap length items, long);
    }
