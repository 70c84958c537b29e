-- Clauses one after the other, and what goes on with their values: arguments, elements, the labels and the arms of a `case`.
use Rattle.std.proofs.Common.{◌≡◌, true, false, List, [], ◌∷◌, ◌++◌}
use Rattle.std.specs.List.{AllByRecursion}
use Rattle.ps_meaning.specs.ps_base.TyView.{TyView, TyViews}
use Rattle.ps_meaning.specs.ps_base.TyView as types
use Rattle.ps_meaning.specs.ps_program.Node.{Nodes, none, more, Arms, no_arms, more_arms, arm}
use Rattle.ps_meaning.specs.ps_typing.WellTyped.{Local, Claim, ◌has◌, all_have, arms_have, Arguments}
use Rattle.ps_meaning.specs.ps_typing.WellTyped as typed
use Rattle.ps_heap.specs.Operators.{is_int}
use Rattle.ps_heap.specs.Texts.{is_string}
use Rattle.ps_heap.specs.Values.{Value, Num, Flag, Text, word_of, flag_of, bytes_of}
use Rattle.ps_heap.specs.Objects.{Heap}
use Rattle.ps_meaning.specs.Meaning.{Meaning}
use Rattle.ps_meaning.specs.Operations.{is_equal}
use Rattle.ps_meaning.specs.Evaluation.{Context, eval, eval_each, eval_arms, eval_labels}
use Rattle.ps_soundness.specs.Over.{IsOf}
use Rattle.ps_soundness.specs.Shapes.{Grows}
use Rattle.ps_soundness.proofs.Notion.{Kind, Notion}
use Rattle.ps_soundness.proofs.Growing.{grows_not, grows_then, of_kept}
use Rattle.ps_soundness.proofs.Calling.{ValuesOf}
use Rattle.ps_soundness.proofs.Combining.{Sound, sound_then, sound_give, sound_choose}

-- a clause yields a value of the type that it is to have, from each heap on
abbrev pub SoundClaim : (notion : Notion) → notion.Standing → Context → Claim → Type 0
SoundClaim notion known c claim = (heap : Heap) → Sound notion heap known known claim.ty (eval c claim.clause)

abbrev pub AreSound : (notion : Notion) → notion.Standing → Context → List Claim → Type 0
AreSound notion known c claims = AllByRecursion (SoundClaim notion known c) claims

pub all_left : {A : Type 0} (P : A → Type 0) (xs ys : List A) → AllByRecursion P (xs ++ ys) → AllByRecursion P xs
all_left P [] ys h = tt
all_left P (x ∷ xs) ys h = (h.0, all_left P xs ys h.1)

pub all_right : {A : Type 0} (P : A → Type 0) (xs ys : List A) → AllByRecursion P (xs ++ ys) → AllByRecursion P ys
all_right P [] ys h = h
all_right P (x ∷ xs) ys h = all_right P xs ys h.1

pub int_of : (kind : Kind) (heap : Heap) (v : Value) → IsOf kind.asked heap types.Int v → is_int (word_of v) ≡ true
int_of kind heap (Num z) h = h
int_of kind heap v h = absurd h

pub text_of : (kind : Kind) (heap : Heap) (v : Value) → IsOf kind.asked heap types.Str v → is_string (bytes_of v) ≡ true
text_of kind heap (Text bytes) h = h
text_of kind heap v h = absurd h

pub sound_args : (notion : Notion) {heap : Heap} {known : notion.Standing} {ty : TyView} {args : Nodes} {tys : TyViews} {claims : List Claim} {next : List Value → Meaning}
    (c : Context) → Arguments args tys claims → AreSound notion known c claims →
    ((new : Heap) (vs : List Value) → Grows heap new → ValuesOf notion.kind new tys vs → Sound notion new known known ty (next vs)) →
    Sound notion heap known known ty (eval_each c args next)
unfolding eval_each
sound_args notion {heap = heap} c typed.Arguments.no_more h k = k heap [] (grows_not heap) tt
sound_args notion {heap = heap} c (typed.Arguments.one_more {t = t} rest) h k =
    sound_then notion (h.0 heap) (λ new v g is. sound_args notion c rest h.1
    (λ last vs more_grows are. k last (v ∷ vs) (grows_then heap new last g more_grows) (of_kept notion.kind new last more_grows t v is, are)))

pub sound_items : (notion : Notion) {heap : Heap} {known : notion.Standing} {ty : TyView} {next : List Value → Meaning} (c : Context) (t : TyView) (items : Nodes) →
    AreSound notion known c (all_have t items) →
    ((new : Heap) (vs : List Value) → Grows heap new → AllByRecursion (IsOf notion.kind.asked new t) vs → Sound notion new known known ty (next vs)) →
    Sound notion heap known known ty (eval_each c items next)
unfolding eval_each
sound_items notion {heap = heap} c t none h k = k heap [] (grows_not heap) tt
sound_items notion {heap = heap} c t (more item items) h k =
    sound_then notion (h.0 heap) (λ new v g is. sound_items notion c t items h.1
    (λ last vs more_grows are. k last (v ∷ vs) (grows_then heap new last g more_grows) (of_kept notion.kind new last more_grows t v is, are)))

pub sound_labels : (notion : Notion) {heap : Heap} {known : notion.Standing} (c : Context) (value : TyView) (v : Value) (labels : Nodes) → AreSound notion known c (all_have value labels) →
    Sound notion heap known known types.Bool (eval_labels c value v labels)
unfolding eval_labels
sound_labels notion c value v none h = sound_give notion (Flag false) tt
sound_labels notion {heap = heap} c value v (more label rest) h =
    sound_then notion (h.0 heap) (λ new w g is. sound_choose notion (is_equal value v w) (sound_give notion (Flag true) tt) (sound_labels notion c value v rest h.1))

pub sound_arms : (notion : Notion) {heap : Heap} {known : notion.Standing} {default : Meaning} (c : Context) (value ty : TyView) (v : Value) (arms : Arms) →
    AreSound notion known c (arms_have value ty arms) → ((new : Heap) → Sound notion new known known ty default) →
    Sound notion heap known known ty (eval_arms c value v arms default)
unfolding eval_arms
sound_arms notion {heap = heap} c value ty v no_arms h d = d heap
sound_arms notion {known = known} c value ty v (more_arms (arm labels a) rest) h d =
    let behind_labels = all_right (SoundClaim notion known c) (all_have value labels) (a has ty ∷ arms_have value ty rest) h in
    let of_labels = all_left (SoundClaim notion known c) (all_have value labels) (a has ty ∷ arms_have value ty rest) h in
    sound_then notion (sound_labels notion c value v labels of_labels)
    (λ new found g is. sound_choose notion (flag_of found) (behind_labels.0 new) (sound_arms notion c value ty v rest behind_labels.1 d))
