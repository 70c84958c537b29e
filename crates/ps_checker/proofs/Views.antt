-- What the views of arms and of items of a `write` say of them.
use Rattle.std.proofs.Common.{◌≡◌, refl, sym, ap, ◌∙◌}
use Rattle.ps_base.specs.List.{items_of}
use Rattle.ps_tree.specs.declared.rough.RoughArm.{RoughArm, out-RoughArm}
use Rattle.ps_tree.specs.declared.rough.RoughItem.{RoughItem, out-RoughItem}
use Rattle.ps_tree.specs.declared.rough.RoughForm.TheBlock.{struct-RoughArm, struct-RoughItem, RoughItem-w-None', RoughItem-w-Some', items_shown-the_row-Rough-0}
use Rattle.ps_tree.specs.Phrase.{at, form_of, phrase_of, arm, arm_of, item, item_of}
use Rattle.ps_tree.specs.PhraseLists.{phrases_in, maybe_in}
use Rattle.ps_tree.proofs.PhraseLemmas.{rows}

pub arm_of-parts : (a : RoughArm) → arm_of a ≡ arm (phrases_in (items_of (out-RoughArm a).labels)) (phrase_of (out-RoughArm a).a)
unfolding out-RoughArm denote.Hole.Carrier.out
arm_of-parts (struct-RoughArm shape labels p a a_line) = ap (λ ps. arm ps (at (form_of a) a_line)) (rows _ labels ∙ ap phrases_in (sym (items_shown-the_row-Rough-0 shape labels)))

pub item_of-parts : (r : RoughItem) → item_of r ≡ item (phrase_of (out-RoughItem r).e) (maybe_in (out-RoughItem r).w) (out-RoughItem r).line
unfolding out-RoughItem denote.Hole.Carrier.out
item_of-parts (struct-RoughItem p e e_line RoughItem-w-None' line) = refl
item_of-parts (struct-RoughItem p e e_line (RoughItem-w-Some' q w w_line) line) = refl
