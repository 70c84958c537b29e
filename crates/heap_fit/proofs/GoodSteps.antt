-- Meanings that keep what a run asks of its databases, and commit fit ones, over values that refer to what is there; and how they combine.
use Rattle.std.proofs.Common.{Bool, true, false, inl, inr, ◌≡◌, ℕ, zero, suc, ◌+◌, ◌<◌, ◌≤◌, ℤ, pos, negsuc, ◌-ℤ◌, List, [], ◌∷◌, ◌++◌, map, length, set, refl, sym, subst, arith, Option, Some, None, if◌then◌else◌, nat_eq}
use Rattle.std.specs.Prelude.{nat_lt}
use Rattle.std.proofs.lemmas.Bool.{ltb-true}
use Rattle.std.proofs.lemmas.List.{length-append, length-set}
use Rattle.reaching.proofs.Lists.{in-append, in-front, in-behind}
use Rattle.ps_heap.specs.text_forms.declared.forms.Form.{Form}
use Rattle.ps_heap.specs.text_forms.declared.forms.Form.TheVariants as form
use Rattle.ps_heap.specs.text_forms.Forms.{forms_of, form_in}
use Rattle.ps_heap.specs.ps_base.TyView.{TyView}
use Rattle.ps_heap.specs.ps_base.declared.line.Line.{Line}
use Rattle.ps_heap.specs.ps_base.declared.trap.Trap.TheVariants as trap
use Rattle.ps_soundness.specs.ps_program.declared.place.Place.{Place}
use Rattle.ps_soundness.specs.ps_program.declared.place.Place.TheVariants.{Plain, Kept}
use Rattle.ps_soundness.specs.ps_program.Node.{BodyNode}
use Rattle.ps_soundness.specs.ps_typing.Placing.{is_number}
use Rattle.ps_heap.specs.Operators.{Answer, Gives, Traps}
use Rattle.ps_heap.specs.Ends.{End}
use Rattle.ps_heap.specs.Values.{Value, Num, Flag, Text, Nil, Pointer, Vector, Procedure, Nothing}
use Rattle.ps_heap.specs.Texts.{Attempt, Yields, Fails, is_same_text}
use Rattle.ps_heap.specs.Objects.{Heap, Object, Structure, Elements, Scope, Keyed, object_at, value_at, kept_as, is_of, fields_in, field_of, with_field, vector_in, low_in, elements_in, type_in, element_of, place_from, place_of, found_at, put_at, with_element, id_of}
use Rattle.ps_heap.specs.Scopes.{first_value, new_scope, names_in, scope_out, name_in, with_name_in, with_name, kept_name}
use Rattle.ps_heap.specs.References.{scope_ids, value_ids, values_ids, object_ids, next_in}
use Rattle.ps_heap.specs.Weights.{own_weight, text_weight, closure_weight}
use Rattle.ps_heap.specs.Held.{Held, counting, noted, with_object, put_part, assigned_part, touching, reading, denoted, way_out, reading_name, places_with_name, assigned_name, assigning, element_place, place_or_first}
use Rattle.ps_heap.specs.Held as held
use Rattle.ps_heap.specs.Calls as calls
use Rattle.ps_heap.specs.Events.{Event, Out, Turn, Ask, Commit, Finish}
use Rattle.ps_heap.specs.reaching.Reaching.{IsIn}
use Rattle.ps_soundness.specs.ps_meaning.Meaning.{Frame, State, Outcome, Value_is, Ends, Meaning, give, stop, after, ◌>>=◌, choose, answer, attempt, with_heap, change, touch, touch_scope, read, assign, put_answer, answered, made, made_text, made_procedure, with_input, put_input, enter, back_in, back_to, scoped, in_scope, in_frame, some_out, emit, in_places, is_width, written, with_turns, turned, take_turn, frame_with, with_local, get, set as put}
use Rattle.database_meaning.specs.Sound.{AreThere}
use Rattle.database_meaning.proofs.KeptLaws.{change-right}
use Rattle.ps_soundness.proofs.Operators.{same_text_is}
use Rattle.heap_fit.specs.Kept.{KeepsDatabases, AreFitCommits}
use Rattle.heap_fit.proofs.KeptDatabases.{keeps-on, makes-keeps, counts-keeps, assigns-keeps, touches-keeps, stay-self}

-- Ids of what is there.

abbrev pub Low : ℕ → List ℕ → Type 0
Low n ids = (x : ℕ) → IsIn x ids → x < n

pub low_more : {n m : ℕ} (ids : List ℕ) → n ≤ m → Low n ids → Low m ids
low_more ids l low x i = omega (arith, l, low x i)

pub low_none : {n : ℕ} → Low n []
low_none x l = absurd l

pub low_both : {n : ℕ} (xs ys : List ℕ) → Low n xs → Low n ys → Low n (xs ++ ys)
low_both xs ys h k x l = elim (in-append x xs ys l) [ inl a ↦ h x a | inr b ↦ k x b ]

pub low_one : {n id : ℕ} → id < n → Low n (id ∷ [])
low_one {n = n} l x (inl e) = subst (λ k. k < n) (sym e) l
low_one l x (inr no_more) = absurd no_more

-- the value at a place of a list whose values refer to what is there
pub low_at : {n : ℕ} (vs : List Value) (k : ℕ) → Low n (values_ids vs) → Low n (value_ids (value_at vs k))
low_at [] k low x l = absurd l
low_at (v ∷ vs) zero low x l = low x (in-front x (value_ids v) (values_ids vs) l)
low_at (v ∷ vs) (suc k) low x l = low_at vs k (λ y m. low y (in-behind y (value_ids v) (values_ids vs) m)) x l

pub low_kept : {n : ℕ} (form : Option Form) (v : Value) → Low n (value_ids v) → Low n (value_ids (kept_as form v))
low_kept None v low = low
low_kept (Some form.Number) v low = low_none
low_kept (Some form.Flag) v low = low_none
low_kept (Some form.Reference) v low = low

-- Frames, states and outcomes.

pub record IsFrame (n : ℕ) (f : Frame) : Type 0 where
  pub nums : (slot : ℕ) → Low n (value_ids (f.nums slot))
  pub refs : (slot : ℕ) → Low n (value_ids (f.refs slot))
  pub scope : Low n (scope_ids f.scope)

frame_more : {n m : ℕ} {f : Frame} → n ≤ m → IsFrame n f → IsFrame m f
frame_more l h = record { nums = λ slot. low_more _ l (h.nums slot); refs = λ slot. low_more _ l (h.refs slot); scope = low_more _ l h.scope }

pub record IsGood (s : State) : Type 0 where
  pub keeps : KeepsDatabases s.store.held
  pub commits : AreFitCommits s.events

abbrev pub size : State → ℕ
size s = length s.store.held.objects

abbrev pub GoodOutcome : ℕ → Outcome → Type 0
GoodOutcome n (Value_is v f s) = (n ≤ size s) × IsFrame (size s) f × Low (size s) (value_ids v) × IsGood s
GoodOutcome n (Ends e s) = IsGood s

-- from each state with as many objects or more
abbrev pub Good : ℕ → Meaning → Type 0
Good n m = (f : Frame) (s : State) → n ≤ size s → IsFrame (size s) f → IsGood s → GoodOutcome (size s) (m f s)

outcome_less : {n m : ℕ} (o : Outcome) → n ≤ m → GoodOutcome m o → GoodOutcome n o
outcome_less (Value_is v f s) l h = (omega (arith, l, h.0), h.1, h.2, h.3)
outcome_less (Ends e s) l h = h

pub good_more : {n m : ℕ} (a : Meaning) → n ≤ m → Good n a → Good m a
good_more a l h f s long frame good = h f s (omega (arith, l, long)) frame good

good_after : {n : ℕ} (least : ℕ) (o : Outcome) (b : Value → Meaning) → n ≤ least → GoodOutcome least o → ((m : ℕ) (v : Value) → n ≤ m → Low m (value_ids v) → Good m (b v)) → GoodOutcome least (after o b)
unfolding after
good_after least (Value_is v f s) b l h g = outcome_less (b v f s) h.0 (g (size s) v (omega (arith, l, h.0)) h.2 f s (omega arith) h.1 h.3)
good_after least (Ends e s) b l h g = h

pub good_then : {n : ℕ} (a : Meaning) (b : Value → Meaning) → Good n a → ((m : ℕ) (v : Value) → n ≤ m → Low m (value_ids v) → Good m (b v)) → Good n (a >>= b)
unfolding ◌>>=◌
good_then a b h g f s long frame good = good_after (size s) (a f s) b long (h f s long frame good) g

pub good_give : {n : ℕ} (v : Value) → Low n (value_ids v) → Good n (give v)
unfolding give
good_give v low f s long frame good = (omega arith, frame, low_more _ long low, good)

pub good_stop : {n : ℕ} (e : End) → Good n (stop e)
unfolding stop
good_stop e f s long frame good = good

pub good_choose : {n : ℕ} (b : Bool) (x y : Meaning) → Good n x → Good n y → Good n (choose b x y)
unfolding choose
good_choose true x y h k = h
good_choose false x y h k = k

pub good_answer : {n : ℕ} (line : Line) (a : Answer) → Good n (answer line a)
unfolding answer
good_answer line (Gives z) = good_give (Num z) low_none
good_answer line (Traps trap) = good_stop _

-- what is so of that which an attempt yields
abbrev pub OnYields : {A : Type 0} → (A → Type 0) → Attempt A → Type 0
OnYields P (Yields a) = P a
OnYields P (Fails trap) = Unit {0}

pub good_attempt : {A : Type 0} {n : ℕ} (P : A → Type 0) (line : Line) (a : Attempt A) (next : A → Meaning) → OnYields P a → ((x : A) → P x → Good n (next x)) → Good n (attempt line a next)
unfolding attempt
good_attempt P line (Yields x) next h g = g x h
good_attempt P line (Fails trap) next h g = good_stop _

pub yields_any : {A : Type 0} (a : Attempt A) → OnYields (λ x. Unit {0}) a
yields_any (Yields x) = tt
yields_any (Fails trap) = tt

-- What changes what is held.

abbrev pub Changes : ℕ → (Held → Held) → Type 0
Changes n does = (h : Held) → n ≤ length h.objects → KeepsDatabases h → KeepsDatabases (does h) × (length (does h).objects ≡ length h.objects)

good_changed : (v : Value) (does : Held → Held) (f : Frame) (s : State) → IsFrame (size s) f → IsGood s → Low (size s) (value_ids v)
    → KeepsDatabases (does s.store.held) × (length (does s.store.held).objects ≡ length s.store.held.objects) → GoodOutcome (size s) (change v does f s)
unfolding change
good_changed v does f s frame good low c =
    let l : size s ≤ length (does s.store.held).objects = omega (arith, c.1) in (l, frame_more l frame, low_more _ l low, record { keeps = c.0; commits = good.commits })

pub good_change : {n : ℕ} (v : Value) (does : Held → Held) → Low n (value_ids v) → Changes n does → Good n (change v does)
good_change v does low c f s long frame good = good_changed v does f s frame good (low_more _ long low) (c s.store.held long good.keeps)

pub touching_changes : (n : ℕ) (ids : List ℕ) → Changes n (touching ids)
touching_changes n ids h long k = (touches-keeps ids h k, refl)

pub good_touch : {n : ℕ} (ids : List ℕ) → Good n (touch ids)
good_touch {n = n} ids = good_change Nothing (touching ids) low_none (touching_changes n ids)

pub good_touch_scope : {n : ℕ} → Good n touch_scope
good_touch_scope f s long frame good = good_touch (scope_ids f.scope) f s long frame good

pub good_read : {n : ℕ} (v : Value) → Low n (value_ids v) → Good n (read v)
good_read {n = n} v low = good_change v (reading v) low (touching_changes n (denoted v))

-- Values in the heap refer to what is there.

module _ (heap : Heap) (there : AreThere heap) where
  object-low : (id : ℕ) → Low (length heap) (object_ids (object_at heap id))
  unfolding next_in
  object-low id x l = there id x l

  values-low : (o : Option Object) → Low (length heap) (object_ids o) → Low (length heap) (values_ids (fields_in o)) × Low (length heap) (values_ids (elements_in o)) × Low (length heap) (values_ids (names_in o))
  values-low None low = (low_none, low_none, low_none)
  values-low (Some (Structure class fields)) low = (low, low_none, low_none)
  values-low (Some (Elements ty first elements)) low = (low_none, low, low_none)
  values-low (Some (Scope text parent names)) low = (low_none, low_none, λ x l. low x (in-behind x (scope_ids parent) (values_ids names) l))
  values-low (Some (Keyed table)) low = (low_none, low_none, low_none)

  name-low : (scope : Option ℕ) (position : ℕ) → Low (length heap) (value_ids (name_in heap scope position))
  unfolding name_in
  name-low None position = low_none
  name-low (Some id) position = low_at (names_in (object_at heap id)) position (values-low (object_at heap id) (object-low id)).2

  pub field-low : (o : Value) (class : List ℕ) (n : ℕ) → OnYields (λ v. Low (length heap) (value_ids v)) (field_of heap o class n)
  unfolding field_of
  field-low (Pointer id) class n = go (is_of (object_at heap id) class)
    where
      go : (b : Bool) → OnYields (λ v. Low (length heap) (value_ids v)) (if b then Yields (value_at (fields_in (object_at heap id)) n) else Fails trap.WrongClass)
      go true = low_at (fields_in (object_at heap id)) n (values-low (object_at heap id) (object-low id)).0
      go false = tt
  field-low Nil class n = tt
  field-low (Num z) class n = tt
  field-low (Flag b) class n = tt
  field-low (Text bytes) class n = tt
  field-low (Vector id) class n = tt
  field-low (Procedure does scope) class n = tt
  field-low Nothing class n = tt

  found-low : (place : Option ℕ) (vs : List Value) → Low (length heap) (values_ids vs) → OnYields (λ v. Low (length heap) (value_ids v)) (found_at place vs)
  found-low None vs low = tt
  found-low (Some n) vs low = low_at vs n low

  vector-low : (v : Value) → Low (length heap) (values_ids (elements_in (vector_in heap v)))
  vector-low (Vector id) = (values-low (object_at heap id) (object-low id)).1
  vector-low Nil = low_none
  vector-low (Num z) = low_none
  vector-low (Flag b) = low_none
  vector-low (Text bytes) = low_none
  vector-low (Pointer id) = low_none
  vector-low (Procedure does scope) = low_none
  vector-low Nothing = low_none

  pub element-low : (v : Value) (at : ℤ) → OnYields (λ e. Low (length heap) (value_ids e)) (element_of heap v at)
  unfolding element_of
  element-low v at = found-low (place_of (low_in (vector_in heap v)) (length (elements_in (vector_in heap v))) at) (elements_in (vector_in heap v)) (vector-low v)

-- Names.

pub good_get : {n : ℕ} (place : Place) (ty : TyView) → Good n (get place ty)
unfolding get
good_get (Plain slot) ty f s long frame good = (omega arith, frame, go (is_number ty), good)
  where
    go : (b : Bool) → Low (size s) (value_ids (if b then f.nums slot else f.refs slot))
    go true = frame.nums slot
    go false = frame.refs slot
good_get (Kept up position) ty f s long frame good =
    good_changed (kept_name s.store.held.objects f.scope up position) (reading_name f.scope up position) f s frame good
    (name-low s.store.held.objects good.keeps.right.there (scope_out s.store.held.objects f.scope up) position) (touches-keeps _ s.store.held good.keeps, refl)

frame_put : {n : ℕ} (f : Frame) (ty : TyView) (slot : ℕ) (v : Value) → IsFrame n f → Low n (value_ids v) → IsFrame n (frame_with f ty slot v)
frame_put {n = n} f ty slot v frame low = go (is_number ty)
  where
    row : (values : ℕ → Value) → ((k : ℕ) → Low n (value_ids (values k))) → (k : ℕ) → Low n (value_ids (with_local values slot v k))
    row values lows k = pick (nat_eq k slot)
      where
        pick : (b : Bool) → Low n (value_ids (if b then v else values k))
        pick true = low
        pick false = lows k

    go : (b : Bool) → IsFrame n (if b then record f { nums = with_local f.nums slot v } else record f { refs = with_local f.refs slot v })
    go true = record { nums = row f.nums frame.nums; refs = frame.refs; scope = frame.scope }
    go false = record { nums = frame.nums; refs = row f.refs frame.refs; scope = frame.scope }

-- a place is noted
notes-keeps : (place : held.Place) (h : Held) → KeepsDatabases h → KeepsDatabases (noted place h)
notes-keeps place h k = keeps-on h (noted place h) k (change-right h h.objects place k.right refl (λ x y goes. inl goes)) (stay-self h.objects) refl refl refl refl

-- an object that has a place gets another value there
part-keeps : (id n : ℕ) (v : Value) (o : Object) (h : Held) → KeepsDatabases h → Low (length h.objects) (value_ids v) → object_at h.objects id ≡ Some o
    → KeepsDatabases (noted (held.Part id n) (record h { objects = put_part (Some o) id n v h.objects }))
part-keeps id n v o h k low is = subst (λ p. KeepsDatabases (noted (held.Part id n) (record h { objects = put_part p id n v h.objects }))) is (assigns-keeps id n v h k low)

named-keeps : (id n : ℕ) (v : Value) (h : Held) → KeepsDatabases h → Low (length h.objects) (value_ids v)
    → KeepsDatabases (noted (held.Part id n) (record h { objects = with_name_in h.objects id (object_at h.objects id) n v })) × (length (with_name_in h.objects id (object_at h.objects id) n v) ≡ length h.objects)
named-keeps id n v h k low = go (object_at h.objects id) refl
  where
    go : (o : Option Object) → object_at h.objects id ≡ o → KeepsDatabases (noted (held.Part id n) (record h { objects = with_name_in h.objects id o n v })) × (length (with_name_in h.objects id o n v) ≡ length h.objects)
    go None e = (notes-keeps (held.Part id n) h k, refl)
    go (Some (Structure class fields)) e = (notes-keeps (held.Part id n) h k, refl)
    go (Some (Elements ty first elements)) e = (notes-keeps (held.Part id n) h k, refl)
    go (Some (Keyed table)) e = (notes-keeps (held.Part id n) h k, refl)
    go (Some (Scope text parent names)) e =
        let w = kept_as (form_in (forms_of text) n) v in
        (part-keeps id n w (Scope text parent names) h k (low_kept (form_in (forms_of text) n) v low) e, length-set h.objects id (Scope text parent (set names n w)))

assigned-keeps : (scope : Option ℕ) (up n : ℕ) (v : Value) (h : Held) → KeepsDatabases h → Low (length h.objects) (value_ids v)
    → KeepsDatabases (assigned_name scope up n v h) × (length (assigned_name scope up n v h).objects ≡ length h.objects)
unfolding with_name
assigned-keeps scope up n v h k low = go (scope_out h.objects scope up)
  where
    now : Held
    now = touching (way_out h.objects scope up) h

    keeps : KeepsDatabases (touching (way_out h.objects scope up) h)
    keeps = touches-keeps (way_out h.objects scope up) h k

    go : (out : Option ℕ) → KeepsDatabases (record (touching (way_out h.objects scope up) h) { objects = with_name h.objects out n v; assigned = places_with_name h.homes out n h.assigned })
        × (length (with_name h.objects out n v) ≡ length h.objects)
    go None = (keeps, refl)
    go (Some id) = named-keeps id n v (touching (way_out h.objects scope up) h) keeps low

pub good_put : {n : ℕ} (place : Place) (ty : TyView) (v : Value) → Low n (value_ids v) → Good n (put place ty v)
unfolding put
good_put (Plain slot) ty v low f s long frame good = (omega arith, frame_put f ty slot v frame (low_more _ long low), low_none, good)
good_put (Kept up position) ty v low f s long frame good =
    good_changed Nothing (assigned_name f.scope up position v) f s frame good low_none (assigned-keeps f.scope up position v s.store.held good.keeps (low_more _ long low))

-- Fields and elements.

-- with the heap as it is
pub good_with_heap : {n : ℕ} (next : Heap → Meaning) → ((heap : Heap) → AreThere heap → n ≤ length heap → Good (length heap) (next heap)) → Good n (with_heap next)
unfolding with_heap
good_with_heap next h f s long frame good = h s.store.held.objects good.keeps.right.there long f s (omega arith) frame good

-- an object that is assigned, over the heap as it is
good_assigned : (place : held.Place) (heap : Heap) (f : Frame) (s : State) → IsFrame (size s) f → IsGood s
    → KeepsDatabases (noted place (record s.store.held { objects = heap })) × (length heap ≡ length s.store.held.objects) → GoodOutcome (size s) (assign place heap f s)
good_assigned place heap f s frame good c = good_changed Nothing (assigning place heap) f s frame good low_none c

abbrev AssignedFit : Held → held.Place → Heap → Type 0
AssignedFit h place heap = KeepsDatabases (noted place (record h { objects = heap })) × (length heap ≡ length h.objects)

field-kept : (h : Held) (o : Value) (class : List ℕ) (n : ℕ) (v : Value) → KeepsDatabases h → Low (length h.objects) (value_ids v)
    → OnYields (AssignedFit h (held.Part (id_of o) n)) (with_field h.objects o class n v)
unfolding with_field
field-kept h (Pointer id) class n v k low = at_object (object_at h.objects id) refl
  where
    of_class : (text : List ℕ) (fields : List Value) (b : Bool) → is_same_text text class ≡ b → object_at h.objects id ≡ Some (Structure text fields)
        → OnYields (AssignedFit h (held.Part id n)) (if b then Yields (set h.objects id (Structure class (set fields n v))) else Fails trap.WrongClass)
    of_class text fields false same e = tt
    of_class text fields true same e =
        let objects : List ℕ → Heap = λ t. set h.objects id (Structure t (set fields n v)) in (
          subst (λ t. KeepsDatabases (noted (held.Part id n) (record h { objects = objects t }))) (same_text_is text class same) (part-keeps id n v (Structure text fields) h k low e),
          length-set h.objects id (Structure class (set fields n v)),
        )

    at_object : (o : Option Object) → object_at h.objects id ≡ o
        → OnYields (AssignedFit h (held.Part id n)) (if is_of o class then Yields (set h.objects id (Structure class (set (fields_in o) n v))) else Fails trap.WrongClass)
    at_object None e = tt
    at_object (Some (Structure text fields)) e = of_class text fields (is_same_text text class) refl e
    at_object (Some (Elements ty first elements)) e = tt
    at_object (Some (Scope text parent names)) e = tt
    at_object (Some (Keyed table)) e = tt
field-kept h Nil class n v k low = tt
field-kept h (Num z) class n v k low = tt
field-kept h (Flag b) class n v k low = tt
field-kept h (Text bytes) class n v k low = tt
field-kept h (Vector id) class n v k low = tt
field-kept h (Procedure does scope) class n v k low = tt
field-kept h Nothing class n v k low = tt

-- nothing has no place
no-place : (at : ℤ) → place_from at 0 ≡ None
no-place (pos n) = go (nat_lt n 0) refl
  where
    go : (b : Bool) → nat_lt n 0 ≡ b → (if b then Some n else None) ≡ None
    go true e = absurd (omega (arith, ltb-true n 0 e))
    go false e = refl
no-place (negsuc n) = refl

element-kept : (h : Held) (v : Value) (at : ℤ) (e : Value) → KeepsDatabases h → Low (length h.objects) (value_ids e)
    → OnYields (AssignedFit h (element_place h.objects v at)) (with_element h.objects v at e)
unfolding with_element
element-kept h (Vector id) at e k low = at_object (object_at h.objects id) refl
  where
    nowhere : (o : Option Object) (place : Option ℕ) → place ≡ None → OnYields (AssignedFit h (held.Part id (place_or_first place))) (put_at h.objects (Vector id) place e)
    nowhere o None same = tt
    nowhere o (Some n) same = absurd cc

    at_object : (o : Option Object) → object_at h.objects id ≡ o
        → OnYields (AssignedFit h (held.Part id (place_or_first (place_of (low_in o) (length (elements_in o)) at)))) (put_at h.objects (Vector id) (place_of (low_in o) (length (elements_in o)) at) e)
    at_object None is = nowhere None (place_of (pos 0) 0 at) (no-place (at -ℤ pos 0))
    at_object (Some (Structure text fields)) is = nowhere None (place_of (pos 0) 0 at) (no-place (at -ℤ pos 0))
    at_object (Some (Scope text parent names)) is = nowhere None (place_of (pos 0) 0 at) (no-place (at -ℤ pos 0))
    at_object (Some (Keyed table)) is = nowhere None (place_of (pos 0) 0 at) (no-place (at -ℤ pos 0))
    at_object (Some (Elements ty first elements)) is = put (place_of first (length elements) at)
      where
        put : (place : Option ℕ) → OnYields (AssignedFit h (held.Part id (place_or_first place))) (put_at h.objects (Vector id) place e)
        put None = tt
        put (Some n) = (
          subst (λ o. KeepsDatabases (noted (held.Part id n) (record h { objects = set h.objects id (Elements (type_in o) (low_in o) (set (elements_in o) n e)) }))) (sym is)
              (part-keeps id n e (Elements ty first elements) h k low is),
          length-set h.objects id (Elements (type_in (object_at h.objects id)) (low_in (object_at h.objects id)) (set (elements_in (object_at h.objects id)) n e)),
        )
element-kept h Nil at e k low = tt
element-kept h (Num z) at e k low = tt
element-kept h (Flag b) at e k low = tt
element-kept h (Text bytes) at e k low = tt
element-kept h (Pointer id) at e k low = tt
element-kept h (Procedure does scope) at e k low = tt
element-kept h Nothing at e k low = tt

good_attempted : (line : Line) (place : held.Place) (a : Attempt Heap) (f : Frame) (s : State) → IsFrame (size s) f → IsGood s → OnYields (AssignedFit s.store.held place) a
    → GoodOutcome (size s) (attempt line a (assign place) f s)
unfolding attempt stop
good_attempted line place (Yields heap) f s frame good c = good_assigned place heap f s frame good c
good_attempted line place (Fails trap) f s frame good c = good

pub good_set_field : {n : ℕ} (line : Line) (class : List ℕ) (k : ℕ) (o v : Value) → Low n (value_ids v) → Good n (with_heap (λ heap. attempt line (with_field heap o class k v) (assign (held.Part (id_of o) k))))
unfolding with_heap
good_set_field line class k o v low f s long frame good = good_attempted line _ _ f s frame good (field-kept s.store.held o class k v good.keeps (low_more _ long low))

pub good_set_element : {n : ℕ} (line : Line) (v : Value) (at : ℤ) (keep : Heap → Value) → ((heap : Heap) → Low n (value_ids (keep heap)))
    → Good n (with_heap (λ heap. attempt line (with_element heap v at (keep heap)) (assign (element_place heap v at))))
unfolding with_heap
good_set_element line v at keep low f s long frame good =
    good_attempted line _ _ f s frame good (element-kept s.store.held v at (keep s.store.held.objects) good.keeps (low_more _ long (low s.store.held.objects)))

-- What is made, told and taken.

makes-good : (object : Object) (h : Held) → KeepsDatabases h → Low (length h.objects) (object_ids (Some object)) → KeepsDatabases (held.made object h) × (length (held.made object h).objects ≡ length h.objects + 1)
makes-good object h k low = (counts-keeps (own_weight object) (with_object object h) (makes-keeps object h k low), length-append h.objects (object ∷ []))

pub good_made : {n : ℕ} (denoting : ℕ → Value) (object : Object) → ((id : ℕ) → value_ids (denoting id) ≡ id ∷ []) → Low n (object_ids (Some object)) → Good n (made denoting object)
unfolding made
good_made denoting object one low f s long frame good =
    let m = makes-good object s.store.held good.keeps (low_more _ long low) in
    let l : size s ≤ length (held.made object s.store.held).objects = omega (arith, m.1) in (
      l,
      frame_more l frame,
      subst (Low (length (held.made object s.store.held).objects)) (sym (one (size s))) (low_one (omega (arith, m.1))),
      record { keeps = m.0; commits = good.commits },
    )

pub good_made_text : {n : ℕ} (bytes : List ℕ) → Good n (made_text bytes)
unfolding made_text
good_made_text bytes f s long frame good =
    (omega arith, frame, low_none, record { keeps = counts-keeps (text_weight bytes) s.store.held good.keeps; commits = good.commits })

pub good_made_procedure : {n : ℕ} (of : BodyNode) → Good n (made_procedure of)
unfolding made_procedure
good_made_procedure of f s long frame good =
    (omega arith, frame, frame.scope, record { keeps = counts-keeps closure_weight s.store.held good.keeps; commits = good.commits })

pub commits_append : (xs ys : List Event) → AreFitCommits xs → AreFitCommits ys → AreFitCommits (xs ++ ys)
commits_append [] ys h k = k
commits_append (Commit heap counted ∷ xs) ys h k = (h.0, commits_append xs ys h.1 k)
commits_append (Out bytes counted ∷ xs) ys h k = commits_append xs ys h k
commits_append (Turn counted ∷ xs) ys h k = commits_append xs ys h k
commits_append (Ask for_what counted ∷ xs) ys h k = commits_append xs ys h k
commits_append (Finish e counted ∷ xs) ys h k = commits_append xs ys h k

out-commits : (bytes : List ℕ) (counted : ℕ) → AreFitCommits (some_out bytes counted)
out-commits [] counted = tt
out-commits (byte ∷ bytes) counted = tt

good_emit : {n : ℕ} (bytes : List ℕ) → Good n (emit bytes)
unfolding emit
good_emit bytes f s long frame good =
    (omega arith, frame, low_none, record { keeps = good.keeps; commits = commits_append s.events (some_out bytes s.store.held.counted) good.commits (out-commits bytes s.store.held.counted) })

good_either : {n : ℕ} (b : Bool) (x y : Meaning) → Good n x → Good n y → Good n (if b then x else y)
good_either true x y h k = h
good_either false x y h k = k

pub good_written : {n : ℕ} (line : Line) (width : Option ℤ) (bytes : List ℕ) → Good n (written line width bytes)
unfolding written
good_written line width bytes = good_either (is_width width) _ _ (good_emit (in_places width bytes)) (good_stop _)

turned_good : (f : Frame) (s : State) (turns : ℕ) → IsFrame (size s) f → IsGood s → GoodOutcome (size s) (turned (with_turns s.store turns) f s)
turned_good f s zero frame good = good
turned_good f s (suc left) frame good =
    (omega arith, frame, low_none, record { keeps = good.keeps; commits = commits_append s.events (Turn s.store.held.counted ∷ []) good.commits tt })

pub good_turn : {n : ℕ} → Good n take_turn
unfolding take_turn
good_turn f s long frame good = turned_good f s s.store.turns frame good

pub good_with_input : {n : ℕ} (next : List ℕ → Meaning) → ((input : List ℕ) → Good n (next input)) → Good n (with_input next)
unfolding with_input
good_with_input next h f s long frame good = h s.store.input f s long frame good

pub good_put_input : {n : ℕ} (input : List ℕ) → Good n (put_input input)
unfolding put_input
good_put_input input f s long frame good = (omega arith, frame, low_none, record { keeps = good.keeps; commits = good.commits })

-- Scopes and frames.

first-low : {n : ℕ} (forms : List Form) → Low n (values_ids (map first_value forms))
first-low [] = low_none
first-low (form.Number ∷ forms) = first-low forms
first-low (form.Flag ∷ forms) = first-low forms
first-low (form.Reference ∷ forms) = first-low forms

good_enter : {n : ℕ} (text : List ℕ) → Good n (enter text)
unfolding enter new_scope
good_enter text f s long frame good =
    let m = makes-good (new_scope text f.scope) s.store.held good.keeps (low_both _ _ frame.scope (first-low (forms_of text))) in
    let l : size s ≤ length (held.made (new_scope text f.scope) s.store.held).objects = omega (arith, m.1) in (
      l,
      record { nums = λ slot. low_more _ l (frame.nums slot); refs = λ slot. low_more _ l (frame.refs slot); scope = low_one (omega (arith, m.1)) },
      low_none,
      record { keeps = m.0; commits = good.commits },
    )

good_back_in : (least : ℕ) (scope : Option ℕ) (o : Outcome) → Low least (scope_ids scope) → GoodOutcome least o → GoodOutcome least (back_in scope o)
unfolding back_in
good_back_in least scope (Value_is v f s) low h = (h.0, record { nums = h.1.nums; refs = h.1.refs; scope = low_more _ h.0 low }, h.2, h.3)
good_back_in least scope (Ends e s) low h = h

good_back_to : (least : ℕ) (own : Frame) (o : Outcome) → IsFrame least own → GoodOutcome least o → GoodOutcome least (back_to own o)
unfolding back_to
good_back_to least own (Value_is v f s) frame h = (h.0, frame_more h.0 frame, h.2, h.3)
good_back_to least own (Ends e s) frame h = h

pub good_scope : {n : ℕ} (scope : Option (List ℕ)) (m : Meaning) → Good n m → Good n (in_scope scope m)
unfolding scoped
good_scope None m h f s long frame good = h f s long frame good
good_scope (Some text) m h f s long frame good =
    good_back_in (size s) f.scope ((enter text >>= λ u. m) f s) frame.scope (good_then (enter text) (λ u. m) (good_enter text) (λ k v l low. good_more m l h) f s long frame good)

pub good_in_frame : {n : ℕ} (other : Frame) (m : Meaning) → IsFrame n other → Good n m → Good n (in_frame other m)
unfolding in_frame
good_in_frame other m inner h f s long frame good = good_back_to (size s) f (m other s) frame (h other s long (frame_more long inner) good)

-- Calls of the library.

pub record IsGoodAnswer (h : Held) (a : calls.Answer) : Type 0 where
  pub keeps : KeepsDatabases a.held
  pub long : length h.objects ≤ length a.held.objects
  pub low : Low (length a.held.objects) (value_ids a.value)
  pub commits : AreFitCommits a.events

answered_good : (line : Line) (f : Frame) (s : State) (a : Attempt calls.Answer) → IsFrame (size s) f → IsGood s → OnYields (IsGoodAnswer s.store.held) a → GoodOutcome (size s) (attempt line a put_answer f s)
unfolding attempt put_answer stop
answered_good line f s (Yields a) frame good g =
    (g.long, frame_more g.long frame, g.low, record { keeps = g.keeps; commits = commits_append s.events a.events good.commits g.commits })
answered_good line f s (Fails trap) frame good g = good

pub good_answered : {n : ℕ} (line : Line) (call : Held → Attempt calls.Answer) → ((h : Held) → n ≤ length h.objects → KeepsDatabases h → OnYields (IsGoodAnswer h) (call h)) → Good n (answered line call)
unfolding answered
good_answered line call c f s long frame good = answered_good line f s (call s.store.held) frame good (c s.store.held long good.keeps)
