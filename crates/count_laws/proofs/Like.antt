-- Meanings that do the same where code weighs more, and how they combine.
use Rattle.std.proofs.Common.{◌≡◌, ℕ, zero, suc, ◌+◌, ◌≤◌, ℤ, Bool, true, false, List, [], ◌∷◌, ◌++◌, Option, Some, None, refl, sym, ap, subst, arith}
use Rattle.std.specs.Prelude.{if◌then◌else◌}
use Rattle.ps_meaning.specs.ps_base.TyView.{TyView}
use Rattle.ps_meaning.specs.ps_base.declared.line.Line.{Line}
use Rattle.ps_meaning.specs.ps_program.declared.place.Place.{Place}
use Rattle.ps_meaning.specs.ps_program.declared.place.Place.TheVariants.{Plain, Kept}
use Rattle.ps_meaning.specs.ps_program.Node.{BodyNode}
use Rattle.ps_heap.specs.Operators.{Answer, Gives, Traps}
use Rattle.ps_heap.specs.Ends.{End}
use Rattle.ps_heap.specs.Values.{Value, Num, Flag, Text, Nil, Pointer, Vector, Procedure, Nothing, Routine}
use Rattle.ps_heap.specs.Texts.{Attempt, Yields, Fails}
use Rattle.ps_heap.specs.Objects.{Heap, Object, object_at}
use Rattle.ps_heap.specs.References.{scope_ids, values_of}
use Rattle.ps_heap.specs.Weights.{own_weight, text_weight, closure_weight, value_weight, values_weight, whole_weight, full_weight}
use Rattle.ps_heap.specs.Scopes.{new_scope}
use Rattle.ps_heap.specs.Held.{Held, home_at, weight_at, is_first_touch, touched_with, touched_weight, touching, reading, reading_name, assigning, assigned_name}
use Rattle.ps_heap.specs.Held as held
use Rattle.ps_heap.specs.Calls as calls
use Rattle.ps_heap.specs.Events.{Event, Out, Turn}
use Rattle.ps_meaning.specs.Meaning.{Frame, Store, State, Outcome, Value_is, Ends, Meaning, give, stop, after, ◌>>=◌, choose, answer, attempt, with_heap, change, touch, touch_scope, read, assign, put_answer, answered, made, made_text, made_procedure, with_input, put_input, enter, back_in, back_to, scoped, in_scope, in_frame, some_out, emit, in_places, is_width, written, with_turns, turned, take_turn, get, set}
use Rattle.count_laws.specs.Heavier.{Weighs, IsLess, AreLess}

pub less_append : (xs bs cs ds : List Event) → AreLess xs bs → AreLess cs ds → AreLess (xs ++ cs) (bs ++ ds)
less_append [] [] cs ds h k = k
less_append [] (b ∷ bs) cs ds h k = absurd h
less_append (a ∷ xs) [] cs ds h k = absurd h
less_append (a ∷ xs) (b ∷ bs) cs ds h k = (h.0, less_append xs bs cs ds h.1 k)

-- what is held where so many bytes are counted, and this is what code weighs
abbrev pub heavier : ℕ → (Routine → ℕ) → Held → Held
heavier counted weigh h = record h { counted = counted; weigh = weigh }

pub record HeldLike (h now : Held) : Type 0 where
  pub counted : ℕ
  pub weigh : Routine → ℕ
  pub is : now ≡ heavier counted weigh h
  pub less : h.counted ≤ counted
  pub weighs : Weighs h.weigh weigh

-- a state in which code weighs more
pub record Heavier (s : State) : Type 0 where
  pub events : List Event
  pub counted : ℕ
  pub weigh : Routine → ℕ
  pub are : AreLess s.events events
  pub less : s.store.held.counted ≤ counted
  pub weighs : Weighs s.store.held.weigh weigh

abbrev pub heavier_state : (s : State) → Heavier s → State
heavier_state s r = record { events = r.events; store = record s.store { held = heavier r.counted r.weigh s.store.held } }

abbrev pub IsLike : Outcome → Outcome → Type 0
IsLike (Value_is v f s) o = (r : Heavier s) × (o ≡ Value_is v f (heavier_state s r))
IsLike (Ends e s) o = (r : Heavier s) × (o ≡ Ends e (heavier_state s r))

abbrev pub Alike : Meaning → Type 0
Alike m = (f : Frame) (s : State) (r : Heavier s) → IsLike (m f s) (m f (heavier_state s r))

alike_after : (o other : Outcome) (b : Value → Meaning) → IsLike o other → ((v : Value) → Alike (b v)) → IsLike (after o b) (after other b)
unfolding after
alike_after (Value_is v f s) other b (r, e) g = subst (λ (x : Outcome). IsLike (b v f s) (after x b)) (sym e) (g v f s r)
alike_after (Ends e s) other b (r, is) g = (r, ap (λ (x : Outcome). after x b) is)

pub alike_then : (a : Meaning) (b : Value → Meaning) → Alike a → ((v : Value) → Alike (b v)) → Alike (a >>= b)
unfolding ◌>>=◌
alike_then a b h g f s r = alike_after (a f s) (a f (heavier_state s r)) b (h f s r) g

pub alike_give : (v : Value) → Alike (give v)
unfolding give
alike_give v f s r = (r, refl)

pub alike_stop : (e : End) → Alike (stop e)
unfolding stop
alike_stop e f s r = (r, refl)

pub alike_choose : (b : Bool) (m n : Meaning) → Alike m → Alike n → Alike (choose b m n)
unfolding choose
alike_choose true m n h k = h
alike_choose false m n h k = k

pub alike_answer : (line : Line) (a : Answer) → Alike (answer line a)
unfolding answer
alike_answer line (Gives z) = alike_give (Num z)
alike_answer line (Traps trap) = alike_stop _

pub alike_attempt : {A : Type 0} (line : Line) (a : Attempt A) (next : A → Meaning) → ((v : A) → Alike (next v)) → Alike (attempt line a next)
unfolding attempt
alike_attempt line (Yields v) next h = h v
alike_attempt line (Fails trap) next h = alike_stop _

pub alike_with_heap : (next : Heap → Meaning) → ((heap : Heap) → Alike (next heap)) → Alike (with_heap next)
unfolding with_heap
alike_with_heap next h f s r = h s.store.held.objects f s r

-- What changes what is held.

abbrev pub Changes : (Held → Held) → Type 0
Changes does = (h : Held) (n : ℕ) (w : Routine → ℕ) → h.counted ≤ n → Weighs h.weigh w → HeldLike (does h) (does (heavier n w h))

pub alike_change : (v : Value) (does : Held → Held) → Changes does → Alike (change v does)
unfolding change
alike_change v does c f s r =
    let k = c s.store.held r.counted r.weigh r.less r.weighs in (
      record { events = r.events; counted = k.counted; weigh = k.weigh; are = r.are; less = k.less; weighs = k.weighs },
      ap (λ (x : Held). Value_is v f (record { events = r.events; store = record s.store { held = x } })) k.is,
    )

value_less : (light heavy : Routine → ℕ) → Weighs light heavy → (v : Value) → value_weight light v ≤ value_weight heavy v
value_less light heavy h (Num z) = omega arith
value_less light heavy h (Flag b) = omega arith
value_less light heavy h (Text bytes) = omega arith
value_less light heavy h Nil = omega arith
value_less light heavy h (Pointer id) = omega arith
value_less light heavy h (Vector id) = omega arith
value_less light heavy h (Procedure does scope) = let less = h does in omega (arith, less)
value_less light heavy h Nothing = omega arith

values_less : (light heavy : Routine → ℕ) → Weighs light heavy → (vs : List Value) → values_weight light vs ≤ values_weight heavy vs
values_less light heavy h [] = omega arith
values_less light heavy h (v ∷ vs) = omega (arith, value_less light heavy h v, values_less light heavy h vs)

weight_less : (light heavy : Routine → ℕ) → Weighs light heavy → (found : Option Object) → weight_at light found ≤ weight_at heavy found
weight_less light heavy h None = omega arith
weight_less light heavy h (Some object) = let less = values_less light heavy h (values_of object) in omega (arith, less)

either_less : (b : Bool) (m n : ℕ) → m ≤ n → (if b then m else 0) ≤ (if b then n else 0)
either_less true m n h = h
either_less false m n h = omega arith

pub touched_less : (light heavy : Routine → ℕ) → Weighs light heavy → (heap : Heap) (homes : List (Option ℕ)) (ids touched : List ℕ) →
    touched_weight light heap homes ids touched ≤ touched_weight heavy heap homes ids touched
unfolding touched_weight
touched_less light heavy h heap homes [] touched = omega arith
touched_less light heavy h heap homes (id ∷ ids) touched =
    omega (
      arith,
      either_less (is_first_touch homes id touched) (weight_at light (object_at heap id)) (weight_at heavy (object_at heap id))
          (weight_less light heavy h (object_at heap id)),
      touched_less light heavy h heap homes ids (touched_with homes id touched),
    )

abbrev pub touching_changes : (ids : List ℕ) → Changes (touching ids)
touching_changes ids h n w less weighs = record {
  counted = n + touched_weight w h.objects h.homes ids h.touched;
  weigh = w;
  is = refl;
  less = omega (arith, less, touched_less h.weigh w weighs h.objects h.homes ids h.touched);
  weighs = weighs;
}

pub alike_touch : (ids : List ℕ) → Alike (touch ids)
alike_touch ids = alike_change Nothing (touching ids) (touching_changes ids)

pub alike_touch_scope : Alike touch_scope
alike_touch_scope f s r = alike_touch (scope_ids f.scope) f s r

pub alike_read : (v : Value) → Alike (read v)
alike_read v = alike_change v (reading v) (λ h n w less weighs. touching_changes _ h n w less weighs)

pub alike_assign : (place : held.Place) (heap : Heap) → Alike (assign place heap)
alike_assign place heap =
    alike_change Nothing (assigning place heap) (λ h n w less weighs. record { counted = n; weigh = w; is = refl; less = less; weighs = weighs })

name_assigned_changes : (scope : Option ℕ) (up n : ℕ) (v : Value) → Changes (assigned_name scope up n v)
name_assigned_changes scope up n v h m w less weighs =
    let k = touching_changes (held.way_out h.objects scope up) h m w less weighs in
    record { counted = k.counted; weigh = w; is = refl; less = k.less; weighs = weighs }

pub alike_get : (place : Place) (ty : TyView) → Alike (get place ty)
unfolding get
alike_get (Plain slot) ty f s r = (r, refl)
alike_get (Kept up position) ty f s r =
    alike_change _ (reading_name f.scope up position) (λ h n w less weighs. touching_changes _ h n w less weighs) f s r

pub alike_set : (place : Place) (ty : TyView) (v : Value) → Alike (set place ty v)
unfolding set
alike_set (Plain slot) ty v f s r = (r, refl)
alike_set (Kept up position) ty v f s r = alike_change Nothing (assigned_name f.scope up position v) (name_assigned_changes f.scope up position v) f s r

-- What is made, told and taken.

pub alike_made : (denoting : ℕ → Value) (object : Object) → Alike (made denoting object)
unfolding made
alike_made denoting object f s r = (
  record { events = r.events; counted = r.counted + own_weight object; weigh = r.weigh; are = r.are; less = let less = r.less in omega (arith, less); weighs = r.weighs },
  refl,
)

pub alike_made_text : (bytes : List ℕ) → Alike (made_text bytes)
unfolding made_text
alike_made_text bytes f s r = (
  record { events = r.events; counted = r.counted + text_weight bytes; weigh = r.weigh; are = r.are; less = let less = r.less in omega (arith, less); weighs = r.weighs },
  refl,
)

pub alike_made_procedure : (of : BodyNode) → Alike (made_procedure of)
unfolding made_procedure
alike_made_procedure of f s r = (
  record { events = r.events; counted = r.counted + closure_weight; weigh = r.weigh; are = r.are; less = let less = r.less in omega (arith, less); weighs = r.weighs },
  refl,
)

out_less : (bytes : List ℕ) (m n : ℕ) → m ≤ n → AreLess (some_out bytes m) (some_out bytes n)
out_less [] m n h = tt
out_less (byte ∷ bytes) m n h = ((refl, h), tt)

alike_emit : (bytes : List ℕ) → Alike (emit bytes)
unfolding emit
alike_emit bytes f s r = (
  record {
    events = r.events ++ some_out bytes r.counted;
    counted = r.counted;
    weigh = r.weigh;
    are = less_append s.events r.events (some_out bytes s.store.held.counted) (some_out bytes r.counted) r.are (out_less bytes s.store.held.counted r.counted r.less);
    less = r.less;
    weighs = r.weighs;
  },
  refl,
)

alike_either : (b : Bool) (m n : Meaning) → Alike m → Alike n → Alike (if b then m else n)
alike_either true m n h k = h
alike_either false m n h k = k

pub alike_written : (line : Line) (width : Option ℤ) (bytes : List ℕ) → Alike (written line width bytes)
unfolding written
alike_written line width bytes = alike_either (is_width width) _ _ (alike_emit (in_places width bytes)) (alike_stop _)

turned_alike : (f : Frame) (s : State) (r : Heavier s) (turns : ℕ) →
    IsLike (turned (with_turns s.store turns) f s) (turned (with_turns (heavier_state s r).store turns) f (heavier_state s r))
turned_alike f s r zero = (r, refl)
turned_alike f s r (suc left) = (
  record {
    events = r.events ++ Turn r.counted ∷ [];
    counted = r.counted;
    weigh = r.weigh;
    are = less_append s.events r.events (Turn s.store.held.counted ∷ []) (Turn r.counted ∷ []) r.are (r.less, tt);
    less = r.less;
    weighs = r.weighs;
  },
  refl,
)

pub alike_turn : Alike take_turn
unfolding take_turn
alike_turn f s r = turned_alike f s r s.store.turns

pub alike_with_input : (next : List ℕ → Meaning) → ((input : List ℕ) → Alike (next input)) → Alike (with_input next)
unfolding with_input
alike_with_input next h f s r = h s.store.input f s r

pub alike_put_input : (input : List ℕ) → Alike (put_input input)
unfolding put_input
alike_put_input input f s r =
    (record { events = r.events; counted = r.counted; weigh = r.weigh; are = r.are; less = r.less; weighs = r.weighs }, refl)

-- Scopes and frames.

alike_enter : (text : List ℕ) → Alike (enter text)
unfolding enter
alike_enter text f s r = (
  record {
    events = r.events;
    counted = r.counted + own_weight (new_scope text f.scope);
    weigh = r.weigh;
    are = r.are;
    less = let less = r.less in omega (arith, less);
    weighs = r.weighs;
  },
  refl,
)

alike_back_in : (scope : Option ℕ) (o other : Outcome) → IsLike o other → IsLike (back_in scope o) (back_in scope other)
unfolding back_in
alike_back_in scope (Value_is v f s) other (r, e) = (r, ap (back_in scope) e)
alike_back_in scope (Ends e s) other (r, is) = (r, ap (back_in scope) is)

alike_back_to : (own : Frame) (o other : Outcome) → IsLike o other → IsLike (back_to own o) (back_to own other)
unfolding back_to
alike_back_to own (Value_is v f s) other (r, e) = (r, ap (back_to own) e)
alike_back_to own (Ends e s) other (r, is) = (r, ap (back_to own) is)

pub alike_scoped : (text : List ℕ) (m : Meaning) → Alike m → Alike (scoped text m)
unfolding scoped
alike_scoped text m h f s r =
    alike_back_in f.scope ((enter text >>= λ u. m) f s) ((enter text >>= λ u. m) f (heavier_state s r))
    (alike_then (enter text) (λ u. m) (alike_enter text) (λ u. h) f s r)

pub alike_scope : (scope : Option (List ℕ)) (m : Meaning) → Alike m → Alike (in_scope scope m)
alike_scope None m h = h
alike_scope (Some text) m h = alike_scoped text m h

pub alike_in_frame : (other : Frame) (m : Meaning) → Alike m → Alike (in_frame other m)
unfolding in_frame
alike_in_frame other m h f s r = alike_back_to f (m other s) (m other (heavier_state s r)) (h other s r)

-- Calls of the library.

pub record AnswerLike (a : calls.Answer) : Type 0 where
  pub events : List Event
  pub counted : ℕ
  pub weigh : Routine → ℕ
  pub are : AreLess a.events events
  pub less : a.held.counted ≤ counted
  pub weighs : Weighs a.held.weigh weigh

abbrev pub heavier_answer : (a : calls.Answer) → AnswerLike a → calls.Answer
heavier_answer a r = record { value = a.value; held = heavier r.counted r.weigh a.held; events = r.events }

abbrev pub AttemptLike : Attempt calls.Answer → Attempt calls.Answer → Type 0
AttemptLike (Yields a) x = (r : AnswerLike a) × (x ≡ Yields (heavier_answer a r))
AttemptLike (Fails trap) x = x ≡ Fails trap

abbrev pub CallLike : (Held → Attempt calls.Answer) → Type 0
CallLike call = (h : Held) (n : ℕ) (w : Routine → ℕ) → h.counted ≤ n → Weighs h.weigh w → AttemptLike (call h) (call (heavier n w h))

answered_like : (line : Line) (f : Frame) (s : State) (r : Heavier s) (a x : Attempt calls.Answer) → AttemptLike a x →
    IsLike (attempt line a put_answer f s) (attempt line x put_answer f (heavier_state s r))
unfolding attempt put_answer stop
answered_like line f s r (Yields a) x (k, e) =
    subst (λ (y : Attempt calls.Answer). IsLike (put_answer a f s) (attempt line y put_answer f (heavier_state s r))) (sym e) (
      record {
        events = r.events ++ k.events;
        counted = k.counted;
        weigh = k.weigh;
        are = less_append s.events r.events a.events k.events r.are k.are;
        less = k.less;
        weighs = k.weighs;
      },
      refl,
    )
answered_like line f s r (Fails trap) x e =
    subst (λ (y : Attempt calls.Answer). IsLike (attempt line (Fails trap) put_answer f s) (attempt line y put_answer f (heavier_state s r))) (sym e) (r, refl)

pub alike_answered : (line : Line) (call : Held → Attempt calls.Answer) → CallLike call → Alike (answered line call)
unfolding answered
alike_answered line call c f s r =
    answered_like line f s r (call s.store.held) (call (heavier r.counted r.weigh s.store.held)) (c s.store.held r.counted r.weigh r.less r.weighs)
