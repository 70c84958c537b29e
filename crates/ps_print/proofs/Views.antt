-- What the views of arms, of items of a `write` and of clauses say of them.
use Rattle.std.proofs.Common.{◌≡◌, Bool, true, false, not, List, [], ◌∷◌, ◌++◌, ◌==◌, length, refl, sym, ap, ◌∙◌, rules, tests}
use Rattle.std.specs.Option.{is_some}
use Rattle.ps_type_pieces.specs.ps_base.List.{items_of}
use Rattle.ps_type_pieces.specs.ps_base.declared.line.Line.{Line}
use Rattle.ps_tree.specs.declared.rough.Rough.{Rough}
use Rattle.ps_tree.specs.declared.rough.RoughArm.{RoughArm, out-RoughArm}
use Rattle.ps_tree.specs.declared.rough.RoughItem.{RoughItem, out-RoughItem}
use Rattle.ps_tree.specs.declared.rough.RoughForm.{RoughForm, roll-RoughForm, roll-out-RoughForm}
use Rattle.ps_tree.specs.declared.rough.RoughForm.TheBlock.{struct-RoughArm, struct-RoughItem, struct-RoughRange, RoughItem-w-None', RoughItem-w-Some', items_shown-the_row-Rough-0}
use Rattle.ps_tree.specs.declared.rough.RoughForm.TheVariants as code
use Rattle.ps_tree.specs.Phrase.{at, named, form_of, phrase_of, arm, arm_of, WriteItem, WriteItems, more_items, item_of}
use Rattle.ps_tree.specs.Phrase as form
use Rattle.ps_tree.specs.PhraseLists.{phrases_in, items_in, maybe_in}
use Rattle.ps_tree.proofs.PhraseLemmas.{rows}
use Rattle.ps_type_pieces.specs.ps_layout.Lexemes.{nothing}
use Rattle.ps_type_pieces.specs.ps_layout.Layout.{other, before_do, before_comma, before_colon, is_taken, loosest, tightness, ends_open, form_lexemes, layout}
use Rattle.ps_type_pieces.specs.ps_layout.Waiting.{is_empty_program}

pub arm_of-parts : (a : RoughArm) → arm_of a ≡ arm (phrases_in (items_of (out-RoughArm a).labels)) (phrase_of (out-RoughArm a).a)
unfolding out-RoughArm denote.Hole.Carrier.out
arm_of-parts (struct-RoughArm shape labels p a a_line) = ap (λ ps. arm ps (at (form_of a) a_line)) (rows _ labels ∙ ap phrases_in (sym (items_shown-the_row-Rough-0 shape labels)))

-- an item of a `write` by its parts
pub item_of-parts : (i : RoughItem) → item_of i ≡ form.item (phrase_of (out-RoughItem i).e) (maybe_in (out-RoughItem i).w) (out-RoughItem i).line
unfolding out-RoughItem denote.Hole.Carrier.out
item_of-parts (struct-RoughItem p e e_line RoughItem-w-None' line) = refl
item_of-parts (struct-RoughItem p e e_line (RoughItem-w-Some' q w w_line) line) = refl

ends_more : (first second : WriteItem) (rest : WriteItems) → ends_open (more_items first (more_items second rest)) ≡ ends_open (more_items second rest)
ends_more (form.item e form.absent line) second rest = refl
ends_more (form.item e (form.present w) line) second rest = refl

ends_one : (last : RoughItem) → ends_open (more_items (item_of last) form.no_items) ≡ not (is_some (out-RoughItem last).w)
unfolding out-RoughItem denote.Hole.Carrier.out
ends_one (struct-RoughItem p e e_line RoughItem-w-None' line) = refl
ends_one (struct-RoughItem p e e_line (RoughItem-w-Some' q w w_line) line) = refl

-- whether the last item has no width
pub ends_open_with : (others : List RoughItem) (last : RoughItem) → ends_open (items_in (others ++ last ∷ [])) ≡ not (is_some (out-RoughItem last).w)
ends_open_with [] last = ends_one last
ends_open_with (first ∷ []) last = ends_more (item_of first) (item_of last) form.no_items ∙ ends_one last
ends_open_with (first ∷ second ∷ others) last = ends_more (item_of first) (item_of second) (items_in (others ++ last ∷ [])) ∙ ends_open_with (second ∷ others) last

pub other_flag : (a b : Bool) → a ≡ not b → b ≡ not a
other_flag true true is = is
other_flag true false is = refl
other_flag false true is = refl
other_flag false false is = is

no_sequence : (shape items : _) → ((xs : _) → code.Sequence' shape items ≡ code.Sequence xs → ⊥) → ⊥
no_sequence shape items is_not = is_not _ (sym (roll-out-RoughForm (code.Sequence' shape items)) ∙ ap roll-RoughForm (code.outs-Sequence' shape items) ∙ code.rolls-Sequence _)

no_write : (shape items : _) → ((xs : _) → code.Write' shape items ≡ code.Write xs → ⊥) → ⊥
no_write shape items is_not = is_not _ (sym (roll-out-RoughForm (code.Write' shape items)) ∙ ap roll-RoughForm (code.outs-Write' shape items) ∙ code.rolls-Write _)

-- a tree that is no program is laid out as its form
pub layout_of-form : (whole : RoughForm) (line : Line) → ((items : _) → whole ≡ code.Sequence items → ⊥) → form_lexemes 0 other nothing (form_of whole) ≡ layout (at (form_of whole) line)
layout_of-form (code.Sequence' shape items) line is_not = absurd (no_sequence shape items is_not)
layout_of-form (code.For' _ _ (struct-RoughRange _ _ _ _ _ _ _) _ _ _) line is_not = refl
layout_of-form _ line is_not = refl

-- what isn't taken by what may stand after it
pub takes_no_do : (whole : RoughForm) → ((a : _) (c : _) (b : _) → whole ≡ code.Repeat a c b → ⊥) → false ≡ is_taken before_do (form_of whole)
takes_no_do (code.Repeat' p a a_line q c c_line b) is_not = absurd (is_not _ _ _ (sym (roll-out-RoughForm (code.Repeat' p a a_line q c c_line b)) ∙ ap roll-RoughForm (code.outs-Repeat' p a a_line q c c_line b) ∙ code.rolls-Repeat _ _ _))
takes_no_do (code.For' _ _ (struct-RoughRange _ _ _ _ _ _ _) _ _ _) is_not = refl
takes_no_do _ is_not = refl

pub takes_no_comma : (whole : RoughForm) → ((items : _) → whole ≡ code.Write items → ⊥) → false ≡ is_taken before_comma (form_of whole)
takes_no_comma (code.Write' shape items) is_not = absurd (no_write shape items is_not)
takes_no_comma (code.For' _ _ (struct-RoughRange _ _ _ _ _ _ _) _ _ _) is_not = refl
takes_no_comma _ is_not = refl

pub takes_no_colon : (whole : RoughForm) → ((items : _) → whole ≡ code.Write items → ⊥) → false ≡ is_taken before_colon (form_of whole)
takes_no_colon (code.Write' shape items) is_not = absurd (no_write shape items is_not)
takes_no_colon (code.For' _ _ (struct-RoughRange _ _ _ _ _ _ _) _ _ _) is_not = refl
takes_no_colon _ is_not = refl

-- the forms that bind loosest are those that aren't among the others
pub binds_loosest : (whole : RoughForm) → ((items : _) → whole ≡ code.Sequence items → ⊥) → ((a : _) (b : _) → whole ≡ code.Or a b → ⊥) → ((a : _) (b : _) → whole ≡ code.And a b → ⊥) → ((e : _) → whole ≡ code.Not e → ⊥) → ((op : _) (a : _) (b : _) → whole ≡ code.Compare op a b → ⊥) → ((e : _) (class : _) (negated : _) → whole ≡ code.Is e class negated → ⊥) → ((a : _) (b : _) → whole ≡ code.Join a b → ⊥) → ((op : _) (a : _) (b : _) → whole ≡ code.Arith op a b → ⊥) → ((e : _) → whole ≡ code.Plus e → ⊥) → ((e : _) → whole ≡ code.Neg e → ⊥) → ((f : _) (args : _) → whole ≡ code.Apply f args → ⊥) → ((s : _) (i : _) (n : _) → whole ≡ code.Part s i n → ⊥) → ((name : _) → whole ≡ code.Name name → ⊥) → ((value : _) → whole ≡ code.Int value → ⊥) → ((bytes : _) → whole ≡ code.Text bytes → ⊥) → ((value : _) → whole ≡ code.Flag value → ⊥) → (whole ≡ code.Nil → ⊥) → ((upper : _) (e : _) → whole ≡ code.Bound upper e → ⊥) → ((l : _) (t : _) (items : _) → whole ≡ code.Elems l t items → ⊥) → loosest ≡ tightness (form_of whole)
binds_loosest (code.Sequence' shape items) is_not n1 n2 n3 n4 n5 n6 n7 n8 n9 n10 n11 n12 n13 n14 n15 n16 n17 n18 = absurd (no_sequence shape items is_not)
binds_loosest (code.Or' _ _ _ _ _ _) n0 is_not n2 n3 n4 n5 n6 n7 n8 n9 n10 n11 n12 n13 n14 n15 n16 n17 n18 = absurd (is_not _ _ refl)
binds_loosest (code.And' _ _ _ _ _ _) n0 n1 is_not n3 n4 n5 n6 n7 n8 n9 n10 n11 n12 n13 n14 n15 n16 n17 n18 = absurd (is_not _ _ refl)
binds_loosest (code.Not' _ _ _) n0 n1 n2 is_not n4 n5 n6 n7 n8 n9 n10 n11 n12 n13 n14 n15 n16 n17 n18 = absurd (is_not _ refl)
binds_loosest (code.Compare' _ _ _ _ _ _ _) n0 n1 n2 n3 is_not n5 n6 n7 n8 n9 n10 n11 n12 n13 n14 n15 n16 n17 n18 = absurd (is_not _ _ _ refl)
binds_loosest (code.Is' _ _ _ _ _) n0 n1 n2 n3 n4 is_not n6 n7 n8 n9 n10 n11 n12 n13 n14 n15 n16 n17 n18 = absurd (is_not _ _ _ refl)
binds_loosest (code.Join' _ _ _ _ _ _) n0 n1 n2 n3 n4 n5 is_not n7 n8 n9 n10 n11 n12 n13 n14 n15 n16 n17 n18 = absurd (is_not _ _ refl)
binds_loosest (code.Arith' _ _ _ _ _ _ _) n0 n1 n2 n3 n4 n5 n6 is_not n8 n9 n10 n11 n12 n13 n14 n15 n16 n17 n18 = absurd (is_not _ _ _ refl)
binds_loosest (code.Plus' _ _ _) n0 n1 n2 n3 n4 n5 n6 n7 is_not n9 n10 n11 n12 n13 n14 n15 n16 n17 n18 = absurd (is_not _ refl)
binds_loosest (code.Neg' _ _ _) n0 n1 n2 n3 n4 n5 n6 n7 n8 is_not n10 n11 n12 n13 n14 n15 n16 n17 n18 = absurd (is_not _ refl)
binds_loosest (code.Apply' p f line shape args) n0 n1 n2 n3 n4 n5 n6 n7 n8 n9 is_not n11 n12 n13 n14 n15 n16 n17 n18 = absurd (is_not _ _ (sym (roll-out-RoughForm (code.Apply' p f line shape args)) ∙ ap roll-RoughForm (code.outs-Apply' p f line shape args) ∙ code.rolls-Apply _ _))
binds_loosest (code.Part' _ _ _ _ _ _ _ _ _) n0 n1 n2 n3 n4 n5 n6 n7 n8 n9 n10 is_not n12 n13 n14 n15 n16 n17 n18 = absurd (is_not _ _ _ refl)
binds_loosest (code.Name _) n0 n1 n2 n3 n4 n5 n6 n7 n8 n9 n10 n11 is_not n13 n14 n15 n16 n17 n18 = absurd (is_not _ refl)
binds_loosest (code.Int _) n0 n1 n2 n3 n4 n5 n6 n7 n8 n9 n10 n11 n12 is_not n14 n15 n16 n17 n18 = absurd (is_not _ refl)
binds_loosest (code.Text _) n0 n1 n2 n3 n4 n5 n6 n7 n8 n9 n10 n11 n12 n13 is_not n15 n16 n17 n18 = absurd (is_not _ refl)
binds_loosest (code.Flag _) n0 n1 n2 n3 n4 n5 n6 n7 n8 n9 n10 n11 n12 n13 n14 is_not n16 n17 n18 = absurd (is_not _ refl)
binds_loosest code.Nil n0 n1 n2 n3 n4 n5 n6 n7 n8 n9 n10 n11 n12 n13 n14 n15 is_not n17 n18 = absurd (is_not refl)
binds_loosest (code.Bound' _ _ _ _) n0 n1 n2 n3 n4 n5 n6 n7 n8 n9 n10 n11 n12 n13 n14 n15 n16 is_not n18 = absurd (is_not _ _ refl)
binds_loosest (code.Elems' p l line ty shape items) n0 n1 n2 n3 n4 n5 n6 n7 n8 n9 n10 n11 n12 n13 n14 n15 n16 n17 is_not = absurd (is_not _ _ _ (sym (roll-out-RoughForm (code.Elems' p l line ty shape items)) ∙ ap roll-RoughForm (code.outs-Elems' p l line ty shape items) ∙ code.rolls-Elems _ _ _))
binds_loosest (code.For' _ _ (struct-RoughRange _ _ _ _ _ _ _) _ _ _) n0 n1 n2 n3 n4 n5 n6 n7 n8 n9 n10 n11 n12 n13 n14 n15 n16 n17 n18 = refl
binds_loosest _ n0 n1 n2 n3 n4 n5 n6 n7 n8 n9 n10 n11 n12 n13 n14 n15 n16 n17 n18 = refl

pub is_empty : (items : List Rough) (line : Line) → (length items == 0) ≡ is_empty_program (at (form.Sequence (phrases_in items)) line)
is_empty [] line = refl
is_empty (first ∷ rest) line = search (rules, tests)
