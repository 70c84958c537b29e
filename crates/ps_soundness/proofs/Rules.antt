-- A clause by a rule yields a value of its type where its parts do.
use Rattle.std.proofs.Common.{◌≡◌, ℕ, ◌+◌, Bool, true, false, not, List, [], ◌∷◌, length, Some, None, refl, sym, ap, ◌∙◌, subst, arith}
use Rattle.std.specs.Prelude.{if◌then◌else◌}
use Rattle.ps_meaning.specs.ps_base.TyView.{TyView, TyViews}
use Rattle.ps_meaning.specs.ps_base.TyView as types
use Rattle.ps_meaning.specs.ps_program.Node.{Node, Nodes}
use Rattle.ps_meaning.specs.ps_program.Node as node
use Rattle.ps_type_text.specs.Texts.{Field, type_text}
use Rattle.ps_meaning.specs.text_forms.Forms.{forms_of, form_in, element_of}
use Rattle.ps_meaning.specs.ps_typing.WellTyped.{Local, Claim, ◌has◌, arms_have, types_of_fields, IsClass, Rule, Arguments}
use Rattle.ps_meaning.specs.ps_typing.WellTyped as typed
use Rattle.ps_heap.specs.Operators.{is_int, neg_of, arith_of}
use Rattle.ps_heap.specs.Texts.{is_string, join_of, part_of}
use Rattle.ps_heap.specs.Values.{Value, Num, Flag, Text, Nil, Pointer, Vector, word_of, flag_of, bytes_of, shown}
use Rattle.ps_heap.specs.Objects.{Heap, Object, Structure, is_class, field_of, with_field, vector_of, filled_vector, vector_in, type_in, with_element, low_of, high_of, id_of, element_of as element_at}
use Rattle.ps_heap.specs.Held as held
use Rattle.ps_heap.specs.Held.{element_place}
use Rattle.ps_meaning.specs.Meaning.{made}
use Rattle.ps_meaning.specs.Operations.{kept_as, kept_all, kept_elements, compares, make_meant}
use Rattle.ps_meaning.specs.Evaluation.{Context, call_meant, eval, eval_each}
use Rattle.std.specs.List.{AllByRecursion}
use Rattle.ps_meaning.specs.ps_typing.Checking.{isnt_void}
use Rattle.ps_soundness.specs.Valued.{IsValued}
use Rattle.ps_soundness.specs.Running.{AreAsMany, HasField, HasAsMany}
use Rattle.ps_soundness.specs.Over.{IsOf, AreOf, IsTypedStructure, IsTypedHeap}
use Rattle.ps_soundness.specs.Shapes.{at_structure}
use Rattle.ps_soundness.proofs.Notion.{Kind, Notion}
use Rattle.ps_soundness.proofs.Telling.{Told}
use Rattle.ps_soundness.proofs.Operators.{OnYield, arith_gives, neg_gives, join_yields, part_yields}
use Rattle.ps_soundness.proofs.Growing.{of_kept}
use Rattle.ps_soundness.proofs.Combining.{Sound, sound_then, sound_give, sound_nothing, sound_stop, sound_choose, sound_answer, sound_attempt, sound_with_heap, sound_put, sound_read, sound_made, sound_made_text, sound_written}
use Rattle.ps_soundness.proofs.Calling.{ValuesOf}
use Rattle.ps_soundness.proofs.Fields.{kept_in_class, all_kept_in_vector}
use Rattle.ps_soundness.proofs.Reading.{same_types}
use Rattle.ps_soundness.proofs.Objects.{field_yields, kept_field_yields, element_yields, kept_element_yields, low_is_int, high_in_range, IsNewVector, vector_yields, filled_yields}
use Rattle.ps_soundness.proofs.Loops.{sound_while}
use Rattle.ps_soundness.proofs.Sequences.{SoundClaim, AreSound, all_left, all_right, int_of, text_of, sound_args, sound_items, sound_arms}
use Rattle.ps_soundness.proofs.Library.{sound_library}

-- the values of arguments are those of the fields
count : TyViews → ℕ
count types.none = 0
count (types.more t ts) = count ts + 1

count_fields : (fields : List Field) → count (types_of_fields fields) ≡ length fields
unfolding count
count_fields [] = refl
count_fields (field ∷ fields) = omega (arith, count_fields fields)

count_args : {args : Nodes} {tys : TyViews} {claims : List Claim} (fields : List Field) → Arguments args tys claims → AreAsMany args fields →
    count tys ≡ length fields
unfolding count
count_args [] typed.Arguments.no_more h = refl
count_args (field ∷ fields) typed.Arguments.no_more h = absurd h
count_args [] (typed.Arguments.one_more rest) h = absurd h
count_args (field ∷ fields) (typed.Arguments.one_more rest) h = omega (arith, count_args fields rest h)

pub as_many : {args : Nodes} {tys : TyViews} {claims : List Claim} (fields others : List Field) → Arguments args tys claims → AreAsMany args fields →
    tys ≡ types_of_fields others → length fields ≡ length others
as_many fields others are many e = sym (count_args fields are many) ∙ ap count e ∙ count_fields others

values_are : (kind : Kind) (heap : Heap) (fields : List Field) (vs : List Value) → ValuesOf kind heap (types_of_fields fields) vs → AreOf kind.asked heap fields vs
values_are kind heap [] [] h = tt
values_are kind heap [] (v ∷ vs) h = absurd h
values_are kind heap (f ∷ fs) [] h = absurd h
values_are kind heap (f ∷ fs) (v ∷ vs) h = (h.0, values_are kind heap fs vs h.1)

pub valued_nonvoid : (ty : TyView) → IsValued ty → isnt_void ty ≡ true
valued_nonvoid types.Int h = refl
valued_nonvoid types.Bool h = refl
valued_nonvoid types.Str h = refl
valued_nonvoid types.Pntr h = refl
valued_nonvoid types.Void h = absurd h
valued_nonvoid (types.Vector element) h = refl
valued_nonvoid (types.Proc parameters gives) h = refl

fields_nonvoid : (fields : List Field) → AllByRecursion (λ (field : Field). IsValued field.ty) fields → AllByRecursion (λ (field : Field). isnt_void field.ty ≡ true) fields
fields_nonvoid [] h = tt
fields_nonvoid (field ∷ fields) h = (valued_nonvoid field.ty h.0, fields_nonvoid fields h.1)

made_typed : (kind : Kind) (told : Told) (heap : Heap) (class : List ℕ) (args : Nodes) (tys : TyViews) (claims : List Claim) (vs : List Value) →
    HasAsMany class args →
    IsClass class tys → Arguments args tys claims → ValuesOf kind heap tys vs → IsTypedStructure kind.asked heap class (kept_all (forms_of class) vs)
made_typed kind told heap class args tys claims vs h (name, others, text_is, tys_are) are of =
    let many = as_many h.class.fields others are h.are tys_are in
    let same = same_types told h.class.name name h.class.fields others h.class.named many (sym h.class.text_is ∙ text_is) in
    let values = values_are kind heap h.class.fields vs (subst (λ (ts : TyViews). ValuesOf kind heap ts vs) (tys_are ∙ sym same) of) in
    let kept = ap (λ (text : List ℕ). kept_all (forms_of text) vs) h.class.text_is ∙ kept_in_class kind heap h.class.name h.class.fields vs h.class.named
    values in
    record {
      name = h.class.name;
      fields = h.class.fields;
      named = h.class.named;
      class_is = h.class.text_is;
      nonvoid = fields_nonvoid h.class.fields h.class.valued;
      are = subst (AreOf kind.asked heap h.class.fields) (sym kept) values;
    }

sound_make : (notion : Notion) {heap : Heap} {known : notion.Standing} {args : Nodes} {tys : TyViews} {claims : List Claim} (told : Told) (c : Context) (class : List ℕ) →
    HasAsMany class args → IsClass class tys → Arguments args tys claims → AreSound notion known c claims →
    Sound notion heap known known types.Pntr (eval_each c args (make_meant class))
sound_make notion {args = args} {tys = tys} {claims = claims} told c class many is are h =
    sound_args notion c are h (λ new vs g of.
    sound_made notion Pointer (Structure class (kept_all (forms_of class) vs)) (made_typed notion.kind told new class args tys claims vs many is are of)
    (λ at id e. at_structure class (kept_all (forms_of class) vs) e))

-- the vector that is made
sound_vector : (notion : Notion) {heap : Heap} {known : notion.Standing} (element : TyView) (object : Object) → IsNewVector notion.kind heap element object →
    Sound notion heap known known (types.Vector element) (made Vector object)
sound_vector notion element object h = sound_made notion Vector object h.typed (λ at id e. record { low = h.low; elements = h.elements; is = e ∙ ap Some h.is })

bound_is : (kind : Kind) (heap : Heap) (v : Value) (element : TyView) (upper : Bool) → IsTypedHeap kind.asked heap → IsOf kind.asked heap (types.Vector element) v →
    is_int (if upper then high_of heap v else low_of heap v) ≡ true
bound_is kind heap v element true typed h = high_in_range kind heap v element typed h
bound_is kind heap v element false typed h = low_is_int kind heap v element typed h

-- what a clause names is as the texts of classes say, and what it writes are an int and a string; the elements of a vector have values
abbrev pub NamesRightly : Node → Type 0
NamesRightly (node.Int value) = is_int value ≡ true
NamesRightly (node.Text bytes) = is_string bytes ≡ true
NamesRightly (node.Make class args) = HasAsMany class args
NamesRightly (node.Field e class index ty line) = HasField class index ty
NamesRightly (node.SetField p class index ty e line) = HasField class index ty
NamesRightly (node.Elems l items ty line) = IsValued ty
NamesRightly t = Unit {0}

-- where a clause is a call, calls yield values
abbrev pub CallsYield : (notion : Notion) → notion.Standing → Context → Node → Type 0
CallsYield notion known c (node.Call f args line) =
    (heap : Heap) (v : Value) (args : List Value) (ps : TyViews) (g : TyView) → IsOf notion.kind.asked heap (types.Proc ps g) v → ValuesOf notion.kind heap ps args →
    Sound notion heap known known g (call_meant c line v args)
CallsYield notion known c t = Unit {0}

pub rule_sound : (notion : Notion) (told : Told) {known : notion.Standing} {t : Node} {claims : List Claim} {ty : TyView} → Rule t claims ty → (c : Context) → AreSound notion known c claims →
    NamesRightly t → CallsYield notion known c t → (heap : Heap) → Sound notion heap known known ty (eval c t)
unfolding eval
rule_sound notion told (typed.int {v = v}) c h r calls heap = sound_give notion (Num v) r
rule_sound notion told (typed.flag {v = v}) c h r calls heap = sound_give notion (Flag v) tt
rule_sound notion told (typed.text {bytes = bytes}) c h r calls heap = sound_give notion (Text bytes) r
rule_sound notion told typed.nil c h r calls heap = sound_give notion Nil tt
rule_sound notion told typed.class c h r calls heap = sound_nothing notion
rule_sound notion told typed.empty c h r calls heap = sound_nothing notion
rule_sound notion told typed.abort c h r calls heap = sound_stop notion _
rule_sound notion told typed.if_do c h r calls heap = sound_then notion (h.0 heap) (λ h1 v g is. sound_choose notion (flag_of v) (h.1.0 h1) (sound_nothing notion))
rule_sound notion told typed.if_else c h r calls heap =
    sound_then notion (h.0 heap) (λ h1 v g is. sound_choose notion (flag_of v) (h.1.0 h1) (h.1.1.0 h1))
rule_sound notion told typed.while c h r calls heap = sound_while notion c.bound (h.0 heap) (h.1.0 heap)
rule_sound notion told typed.repeat c h r calls heap =
    sound_while notion c.bound (sound_then notion (h.0 heap) (λ h1 u g is. h.1.0 h1)) (h.1.1.0 heap)
rule_sound notion told {known = known} (typed.case {d = d} {arms = arms} {value = value} {t = t} equated) c h r calls heap =
    let of_arms = all_left (SoundClaim notion known c) (arms_have value t arms) (d has t ∷ []) h.1 in
    let of_default = all_right (SoundClaim notion known c) (arms_have value t arms) (d has t ∷ []) h.1 in
    sound_then notion (h.0 heap) (λ h1 v g is. sound_arms notion c value t v arms of_arms (λ new. of_default.0 new))
rule_sound notion told typed.and c h r calls heap = sound_then notion (h.0 heap) (λ h1 v g is. sound_choose notion (flag_of v) (h.1.0 h1) (sound_give notion v is))
rule_sound notion told typed.or c h r calls heap = sound_then notion (h.0 heap) (λ h1 v g is. sound_choose notion (flag_of v) (sound_give notion v is) (h.1.0 h1))
rule_sound notion told typed.not c h r calls heap = sound_then notion (h.0 heap) (λ h1 v g is. sound_give notion (Flag (not (flag_of v))) tt)
rule_sound notion told (typed.neg {line = line}) c h r calls heap =
    sound_then notion (h.0 heap) (λ h1 v g is. sound_answer notion line (neg_of (word_of v)) (neg_gives (word_of v)))
rule_sound notion told typed.plus c h r calls heap = h.0 heap
rule_sound notion told (typed.arith {op = op} {line = line}) c h r calls heap =
    sound_then notion (h.0 heap) (λ h1 v g is. sound_then notion (h.1.0 h1)
    (λ h2 w k of. sound_answer notion line (arith_of op (word_of v) (word_of w)) (arith_gives op (word_of v) (word_of w) (int_of notion.kind h2 w of))))
rule_sound notion told (typed.compare {op = op} {t = t} comparable) c h r calls heap =
    sound_then notion (h.0 heap) (λ h1 v g is. sound_then notion (h.1.0 h1) (λ h2 w k of. sound_give notion (Flag (compares op t v w)) tt))
rule_sound notion told (typed.is {class = class} of_class) c h r calls heap =
    sound_then notion (h.0 heap) (λ h1 v g is. sound_with_heap notion (λ now k typed. sound_give notion (Flag (is_class now v class)) tt))
rule_sound notion told (typed.join {line = line}) c h r calls heap =
    sound_then notion (h.0 heap) (λ h1 v g is. sound_then notion (h.1.0 h1)
    (λ h2 w k of. sound_attempt notion (λ (bytes : List ℕ). is_string bytes ≡ true) line (join_of (bytes_of v) (bytes_of w))
    (join_yields (bytes_of v) (bytes_of w))
    (λ bytes short. sound_made_text notion bytes short)))
rule_sound notion told (typed.part {line = line}) c h r calls heap =
    sound_then notion (h.0 heap) (λ h1 v g is. sound_then notion (h.1.0 h1) (λ h2 from k of. sound_then notion (h.1.1.0 h2)
    (λ h3 count l some. sound_attempt notion (λ (bytes : List ℕ). is_string bytes ≡ true) line (part_of (bytes_of v) (word_of from) (word_of count))
    (part_yields (bytes_of v) (word_of from) (word_of count) (text_of notion.kind h1 v is)) (λ bytes short. sound_made_text notion bytes short))))
rule_sound notion told (typed.make {class = class} is are) c h r calls heap = sound_make notion told c class r is are h
rule_sound notion told (typed.field {class = class} {index = index} {t = t} {line = line} is_field) c h r calls heap =
    sound_then notion (h.0 heap) (λ h1 o g is. sound_with_heap notion (λ now k typed.
    sound_attempt notion (IsOf notion.kind.asked now t) line (field_of now o class index) (field_yields notion.kind told now o class index t typed r) (λ v of. sound_read notion v of)))
rule_sound notion told (typed.set_field {class = class} {index = index} {t = t} {line = line} is_field) c h r calls heap =
    sound_then notion (h.0 heap) (λ h1 o g is. sound_then notion (h.1.0 h1) (λ h2 v k of.
    sound_put notion line (λ now. with_field now o class index (kept_as (form_in (forms_of class) index) v)) (λ now. held.Part (id_of o) index)
    (λ now l typed. kept_field_yields notion.kind told now o class index t v typed r (of_kept notion.kind h2 now l t v of))))
rule_sound notion told (typed.fill {t = t} {line = line} isnt) c h r calls heap =
    sound_then notion (h.0 heap) (λ h1 low g is. sound_then notion (h.1.0 h1) (λ h2 high k of. sound_then notion (h.1.1.0 h2) (λ h3 v l such.
    sound_attempt notion (IsNewVector notion.kind h3 t) line
    (filled_vector (type_text (types.Vector t)) (word_of low) (word_of high) (kept_as (Some (element_of (type_text (types.Vector t)))) v))
    (filled_yields notion.kind h3 t (word_of low) (word_of high) v isnt (int_of notion.kind h1 low is) such) (λ object new. sound_vector notion t object new))))
rule_sound notion told (typed.elems {items = items} {t = t} {line = line}) c h r calls heap =
    sound_then notion (h.0 heap) (λ h1 low g is. sound_items notion c t items h.1 (λ h2 vs k are.
    sound_attempt notion (IsNewVector notion.kind h2 t) line (vector_of (type_text (types.Vector t)) (word_of low) (kept_elements (type_text (types.Vector t)) vs))
    (subst (λ (ws : List Value). OnYield (IsNewVector notion.kind h2 t) (vector_of (type_text (types.Vector t)) (word_of low) ws))
    (sym (all_kept_in_vector notion.kind h2 t vs are)) (vector_yields notion.kind h2 t (word_of low) vs (valued_nonvoid t r) (int_of notion.kind h1 low is) are))
    (λ object new. sound_vector notion t object new)))
rule_sound notion told (typed.element {t = t} {line = line}) c h r calls heap =
    sound_then notion (h.0 heap) (λ h1 v g is. sound_then notion (h.1.0 h1) (λ h2 i k of. sound_with_heap notion (λ now l typed.
    sound_attempt notion (IsOf notion.kind.asked now t) line (element_at now v (word_of i))
    (element_yields notion.kind told now v t (word_of i) typed (of_kept notion.kind h2 now l (types.Vector t) v (of_kept notion.kind h1 h2 k (types.Vector t) v is)))
    (λ w such. sound_read notion w such))))
rule_sound notion told (typed.set_element {t = t} {line = line}) c h r calls heap =
    sound_then notion (h.0 heap) (λ h1 v g is. sound_then notion (h.1.0 h1) (λ h2 i k of. sound_then notion (h.1.1.0 h2) (λ h3 e l such.
    sound_put notion line (λ now. with_element now v (word_of i) (kept_as (Some (element_of (type_in (vector_in now v)))) e)) (λ now. element_place now v (word_of i))
    (λ now m typed. kept_element_yields notion.kind told now v t (word_of i) e typed
    (of_kept notion.kind h3 now m (types.Vector t) v (of_kept notion.kind h2 h3 l (types.Vector t) v (of_kept notion.kind h1 h2 k (types.Vector t) v is))) (of_kept notion.kind h3 now m t e such)))))
rule_sound notion told (typed.bound {upper = upper} {t = t}) c h r calls heap =
    sound_then notion (h.0 heap) (λ h1 v g is. sound_with_heap notion (λ now k typed.
    sound_give notion (Num (if upper then high_of now v else low_of now v)) (bound_is notion.kind now v t upper typed (of_kept notion.kind h1 now k (types.Vector t) v is))))
rule_sound notion told (typed.call {tys = tys} {t = t} are) c h r calls heap =
    sound_then notion (h.0 heap) (λ h1 v g is. sound_args notion c are h.1 (λ new vs k of. calls new v vs tys t (of_kept notion.kind h1 new k (types.Proc tys t) v is) of))
rule_sound notion told {known = known} (typed.lib {code = code} {line = line} {tys = tys} {t = t} is are) c h r calls heap =
    sound_args notion c are h (λ new vs g of. sound_library notion line code tys t is.0 vs is.1 of)
rule_sound notion told (typed.write {t = t} {line = line} writable) c h r calls heap =
    sound_then notion (h.0 heap) (λ h1 v g is. sound_written notion line None (shown t v))
rule_sound notion told (typed.write_wide {t = t} {line = line} writable) c h r calls heap =
    sound_then notion (h.0 heap) (λ h1 v g is. sound_then notion (h.1.0 h1) (λ h2 w k of. sound_written notion line (Some (word_of w)) (shown t v)))
