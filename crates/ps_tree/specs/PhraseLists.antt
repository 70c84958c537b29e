-- The phrases of a list of clauses, of arms and of items, and of a clause that may be left out.
use Rattle.std.specs.Prelude.{List, [], ◌∷◌, Option, Some, None}
use Rattle.ps_tree.specs.declared.rough.Rough.{Rough}
use Rattle.ps_tree.specs.declared.rough.RoughArm.{RoughArm}
use Rattle.ps_tree.specs.declared.rough.RoughItem.{RoughItem}
use Rattle.ps_tree.specs.Phrase.{MaybePhrase, absent, present, Phrases, none, more, Arms, no_arms, more_arms, WriteItems, no_items, more_items, phrase_of, arm_of, item_of}

abbrev pub phrases_in : List Rough → Phrases
phrases_in [] = none
phrases_in (clause ∷ clauses) = more (phrase_of clause) (phrases_in clauses)

abbrev pub arms_in : List RoughArm → Arms
arms_in [] = no_arms
arms_in (first ∷ rest) = more_arms (arm_of first) (arms_in rest)

abbrev pub items_in : List RoughItem → WriteItems
items_in [] = no_items
items_in (first ∷ rest) = more_items (item_of first) (items_in rest)

abbrev pub maybe_in : Option Rough → MaybePhrase
maybe_in (Some clause) = present (phrase_of clause)
maybe_in None = absent
