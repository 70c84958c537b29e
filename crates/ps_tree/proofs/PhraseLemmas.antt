-- The phrases of lists of clauses, of arms and of items inside a tree.
use Rattle.std.proofs.Common.{◌≡◌, List, [], ◌∷◌, ◌++◌, Some, None, option_map, refl, sym, ap, ◌∙◌}
use Rattle.std.proofs.lemmas.List.{append_assoc, append-nil}
use Rattle.ps_base.specs.List.{items_of}
use Rattle.ps_base.specs.TyView.{TyView, ty_view}
use Rattle.ps_base.specs.declared.list.List.{List as ListOf}
use Rattle.ps_tree.specs.declared.rough.Group.{Group}
use Rattle.ps_tree.specs.declared.rough.Named.{Named}
use Rattle.ps_tree.specs.declared.rough.Rough.{Rough}
use Rattle.ps_tree.specs.declared.rough.RoughArm.{RoughArm}
use Rattle.ps_tree.specs.declared.rough.RoughItem.{RoughItem}
use Rattle.ps_tree.specs.declared.rough.RoughForm.{RoughForm}
use Rattle.ps_tree.specs.declared.rough.RoughForm.TheBlock.{struct-RoughArm, Row_of-Rough, end_of-Rough, more_of-Rough, items-the_row-Rough, items_hidden-the_row-Rough-0, Row_of-RoughArm, end_of-RoughArm, more_of-RoughArm, items-the_row-RoughArm, items_hidden-the_row-RoughArm-1, Row_of-RoughItem, end_of-RoughItem, more_of-RoughItem, items-the_row-RoughItem, items_hidden-the_row-RoughItem-2, back-RoughForm-Repeat-2, back-RoughItem-w}
use Rattle.ps_tree.specs.declared.rough.RoughForm.TheBlock.{back-RoughArm}
use Rattle.ps_tree.specs.declared.rough.RoughForm.TheViews.{roll-RoughArm, rolls-struct-RoughArm}
use Rattle.ps_tree.specs.declared.rough.RoughForm.TheVariants as code
use Rattle.ps_tree.specs.Phrase.{Phrase, Phrases, none, more, MaybePhrase, Arms, no_arms, more_arms, WriteItems, no_items, more_items, at, form_of, phrases_of, phrase_of, maybe_of, maybe_boxed, arms_of, arm_of, items_written, item_of, GroupAt, groups_in, group_of, named, of_type, names_in}
use Rattle.ps_tree.specs.Phrase as form
use Rattle.ps_tree.specs.PhraseLists.{phrases_in, arms_in, items_in, maybe_in}
use Rattle.ps_tree.specs.Composing.{and_then, and_arm, and_item}
use Rattle.std.specs.declared.alloc.Global.{Global}
use Rattle.std.specs.declared.boxed.Box.{Box}
use mathlib.Core.Former.{Count}

pub rows : (n : _) (row : Row_of-Rough n) → phrases_of row ≡ phrases_in (items-the_row-Rough n row)
rows n end_of-Rough = refl
rows n (more_of-Rough p f line rest) = ap (λ (ps : Phrases). more (at (form_of f) line) ps) (rows _ rest)

arm_rows : (n : _) (row : Row_of-RoughArm n) → arms_of row ≡ arms_in (items-the_row-RoughArm n row)
arm_rows n end_of-RoughArm = refl
arm_rows n (more_of-RoughArm first rest) = ap (λ (all : Arms). more_arms (arm_of first) all) (arm_rows _ rest)

item_rows : (n : _) (row : Row_of-RoughItem n) → items_written row ≡ items_in (items-the_row-RoughItem n row)
item_rows n end_of-RoughItem = refl
item_rows n (more_of-RoughItem first rest) = ap (λ (all : WriteItems). more_items (item_of first) all) (item_rows _ rest)

abbrev row_of : RoughForm → (n : Count) × Row_of-Rough n
row_of (code.Sequence' _ row) = (_, row)
row_of (code.Apply' _ _ _ _ row) = (_, row)
row_of (code.Elems' _ _ _ _ _ row) = (_, row)
row_of _ = (_, end_of-Rough)

abbrev arms_row : RoughForm → (n : Count) × Row_of-RoughArm n
arms_row (code.Case' _ _ _ _ _ row _ _ _) = (_, row)
arms_row _ = (_, end_of-RoughArm)

abbrev items_row : RoughForm → (n : Count) × Row_of-RoughItem n
items_row (code.Write' _ row) = (_, row)
items_row _ = (_, end_of-RoughItem)

pub form_of-Sequence : (items : ListOf Rough) → form_of (code.Sequence items) ≡ form.Sequence (phrases_in (items_of items))
form_of-Sequence items =
    let row = row_of (code.Sequence items) in
    ap (λ (ps : Phrases). form.Sequence ps) (rows row.0 row.1 ∙ ap phrases_in (items_hidden-the_row-Rough-0 items.vec))

pub form_of-Write : (items : ListOf RoughItem) → form_of (code.Write items) ≡ form.Write (items_in (items_of items))
form_of-Write items =
    let row = items_row (code.Write items) in
    ap (λ (all : WriteItems). form.Write all) (item_rows row.0 row.1 ∙ ap items_in (items_hidden-the_row-RoughItem-2 items.vec))

pub form_of-Apply : (f : _) (args : ListOf Rough) → form_of (code.Apply f args) ≡ form.Apply (phrase_of f) (phrases_in (items_of args))
form_of-Apply f args =
    let row = row_of (code.Apply f args) in
    ap (λ (ps : Phrases). form.Apply (phrase_of f) ps) (rows row.0 row.1 ∙ ap phrases_in (items_hidden-the_row-Rough-0 args.vec))

pub form_of-Elems : (l t : _) (items : ListOf Rough) → form_of (code.Elems l t items) ≡ form.Elems (phrase_of l) (ty_view t.value) (phrases_in (items_of items))
form_of-Elems l t items =
    let row = row_of (code.Elems l t items) in
    ap (λ (ps : Phrases). form.Elems (phrase_of l) (ty_view t.value) ps) (rows row.0 row.1 ∙ ap phrases_in (items_hidden-the_row-Rough-0 items.vec))

pub form_of-Case : (e : _) (arms : Box (ListOf RoughArm) Global) (d : _) → form_of (code.Case e arms d) ≡ form.Case (phrase_of e) (arms_in (items_of arms.value)) (phrase_of d)
form_of-Case e arms d =
    let row = arms_row (code.Case e arms d) in
    ap (λ (all : Arms). form.Case (phrase_of e) all (phrase_of d)) (arm_rows row.0 row.1 ∙ ap arms_in (items_hidden-the_row-RoughArm-1 arms.value.vec))

abbrev labels_row : RoughArm → (n : Count) × Row_of-Rough n
labels_row (struct-RoughArm _ labels _ _ _) = (_, labels)

pub arm_of-made : (labels : ListOf Rough) (a : _) → arm_of (roll-RoughArm record { labels = labels; a = a }) ≡ form.arm (phrases_in (items_of labels)) (phrase_of a)
arm_of-made labels a =
    let made : RoughArm = back-RoughArm record { labels = labels; a = a } in
    let row = labels_row made in
    ap arm_of (rolls-struct-RoughArm _) ∙ ap (λ (ps : Phrases). form.arm ps (phrase_of a)) (rows row.0 row.1 ∙ ap phrases_in (items_hidden-the_row-Rough-0 labels.vec))

-- a clause in a box that may be left out
pub maybe_boxed-back : (b : _) → maybe_boxed (back-RoughForm-Repeat-2 b) ≡ maybe_in (option_map (λ clause. clause.value) b)
maybe_boxed-back None = refl
maybe_boxed-back (Some clause) = refl

-- a clause that may be left out
pub maybe_of-back : (c : _) → maybe_of (back-RoughItem-w c) ≡ maybe_in c
maybe_of-back None = refl
maybe_of-back (Some clause) = refl

-- one clause more is one phrase more
pub phrases_in-append : (clauses : List Rough) (last : Rough) → phrases_in (clauses ++ last ∷ []) ≡ and_then (phrases_in clauses) (phrase_of last)
phrases_in-append [] last = refl
phrases_in-append (first ∷ clauses) last = ap (λ (ps : Phrases). more (phrase_of first) ps) (phrases_in-append clauses last)

pub arms_in-append : (arms : List RoughArm) (last : RoughArm) → arms_in (arms ++ last ∷ []) ≡ and_arm (arms_in arms) (arm_of last)
arms_in-append [] last = refl
arms_in-append (first ∷ arms) last = ap (λ (all : Arms). more_arms (arm_of first) all) (arms_in-append arms last)

pub items_in-append : (items : List RoughItem) (last : RoughItem) → items_in (items ++ last ∷ []) ≡ and_item (items_in items) (item_of last)
items_in-append [] last = refl
items_in-append (first ∷ items) last = ap (λ (all : WriteItems). more_items (item_of first) all) (items_in-append items last)

pub names_in-append : (t : TyView) (names : List Named) (last : Named) → names_in t (names ++ last ∷ []) ≡ names_in t names ++ of_type t last ∷ []
names_in-append t [] last = refl
names_in-append t (first ∷ names) last = ap (λ (all : List GroupAt). of_type t first ∷ all) (names_in-append t names last)

pub groups_in-append : (groups : List Group) (last : Group) → groups_in (groups ++ last ∷ []) ≡ groups_in groups ++ group_of last
groups_in-append [] last = append-nil (group_of last)
groups_in-append (first ∷ groups) last = ap (λ (all : List GroupAt). group_of first ++ all) (groups_in-append groups last) ∙ sym (append_assoc (group_of first) (groups_in groups) (group_of last))
