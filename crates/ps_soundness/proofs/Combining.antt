-- Meanings that come to values of a type where what is held is typed and what is known is so, and how they combine.
use Rattle.std.proofs.Common.{◌≡◌, ℕ, zero, suc, ℤ, Bool, true, false, List, [], ◌∷◌, ◌++◌, Option, Some, None, refl, sym, subst, if◌then◌else◌}
use Rattle.ps_meaning.specs.ps_base.TyView.{TyView}
use Rattle.ps_meaning.specs.ps_base.TyView as types
use Rattle.ps_meaning.specs.ps_base.declared.line.Line.{Line}
use Rattle.ps_meaning.specs.ps_program.declared.place.Place.TheVariants.{Plain}
use Rattle.ps_heap.specs.Operators.{Answer, Gives, Traps}
use Rattle.ps_heap.specs.Ends.{End, Trapped}
use Rattle.ps_heap.specs.Events.{Event, Out, Turn, Ask, Commit, Finish}
use Rattle.ps_heap.specs.Values.{Value, Num, Nothing}
use Rattle.ps_heap.specs.Texts.{Attempt, Yields, Fails, is_string}
use Rattle.ps_heap.specs.Objects.{Heap, Object, object_at, with_new, new_number}
use Rattle.ps_heap.specs.Held.{Held, Place}
use Rattle.ps_heap.specs.Calls as calls
use Rattle.ps_heap.specs.References.{scope_ids}
use Rattle.ps_meaning.specs.Meaning.{Frame, Store, State, Outcome, Value_is, Ends, Meaning, give, stop, after, ◌>>=◌, choose, answer, attempt, with_heap, made, made_text, some_out, emit, counted_in, in_places, is_width, written, turned, with_turns, spent, take_turn, local_of, frame_with, get, set, change, read, touch, touch_scope, assign, put_answer, answered}
use Rattle.ps_soundness.specs.Over.{IsOf, IsTypedObject, IsTypedHeap, IsTypedHeld, AreTypedCommits}
use Rattle.ps_soundness.specs.Shapes.{Grows}
use Rattle.ps_soundness.proofs.Notion.{Kind, Notion}
use Rattle.ps_soundness.proofs.Operators.{GivesInt, OnYield}
use Rattle.ps_soundness.proofs.Growing.{grows_not, grows_then, of_kept, object_kept, roots_kept, at_new, grows_new, typed_new}

-- a value of a type, where the heap has grown and is typed, and what is known is so
pub record IsDone (notion : Notion) (before : State) (known : notion.Standing) (ty : TyView) (v : Value) (frame : Frame) (state : State) : Type 0 where
  pub grows : Grows before.store.held.objects state.store.held.objects
  pub typed : IsTypedHeld notion.kind.asked state.store.held
  pub are : notion.IsStanding state.store.held.objects frame known
  pub value : IsOf notion.kind.asked state.store.held.objects ty v
  pub commits : AreTypedCommits notion.kind.asked before.events → AreTypedCommits notion.kind.asked state.events

abbrev pub Comes : (notion : Notion) → State → notion.Standing → TyView → Outcome → Type 0
Comes notion before known ty (Value_is v frame state) = IsDone notion before known ty v frame state
Comes notion before known ty (Ends e state) =
    Grows before.store.held.objects state.store.held.objects × IsTypedHeld notion.kind.asked state.store.held
    × (AreTypedCommits notion.kind.asked before.events → AreTypedCommits notion.kind.asked state.events)

-- From each state whose heap has grown from this one, where the first is known, a meaning yields a value of the type, and then the last is.
pub record Sound (notion : Notion) (heap : Heap) (first last : notion.Standing) (ty : TyView) (m : Meaning) : Type 0 where
  pub runs : (frame : Frame) (state : State) → Grows heap state.store.held.objects → IsTypedHeld notion.kind.asked state.store.held → notion.IsStanding state.store.held.objects frame first →
      Comes notion state last ty (m frame state)

pub later : (notion : Notion) {heap : Heap} {first last : notion.Standing} {ty : TyView} {m : Meaning} (new : Heap) → Grows heap new → Sound notion heap first last ty m →
    Sound notion new first last ty m
later notion {heap = heap} new g h =
    record { runs = λ frame state k typed known. h.runs frame state (grows_then heap new state.store.held.objects g k) typed known }

comes_narrow : (notion : Notion) (before : State) (wide last : notion.Standing) (ty : TyView) (o : Outcome) →
    ((new : Heap) (frame : Frame) → notion.IsStanding new frame wide → notion.IsStanding new frame last) → Comes notion before wide ty o → Comes notion before last ty o
comes_narrow notion before wide last ty (Value_is v frame state) k h =
    record { grows = h.grows; typed = h.typed; are = k state.store.held.objects frame h.are; value = h.value; commits = h.commits }
comes_narrow notion before wide last ty (Ends e state) k h = h

-- less is known after it
pub narrowed : (notion : Notion) {heap : Heap} {first wide last : notion.Standing} {ty : TyView} {m : Meaning} →
    ((new : Heap) (frame : Frame) → notion.IsStanding new frame wide → notion.IsStanding new frame last) → Sound notion heap first wide ty m → Sound notion heap first last ty m
narrowed notion {wide = wide} {last = last} {ty = ty} {m = m} k h = record {
  runs = λ frame state g typed are.
      comes_narrow notion state wide last ty (m frame state) k (h.runs frame state g typed are);
}

comes_from : (notion : Notion) (old new : State) (known : notion.Standing) (ty : TyView) (o : Outcome) → Grows old.store.held.objects new.store.held.objects →
    (AreTypedCommits notion.kind.asked old.events → AreTypedCommits notion.kind.asked new.events) → Comes notion new known ty o → Comes notion old known ty o
comes_from notion old new known ty (Value_is v frame state) g c h = record {
  grows = grows_then old.store.held.objects new.store.held.objects state.store.held.objects g h.grows;
  typed = h.typed;
  are = h.are;
  value = h.value;
  commits = λ e. h.commits (c e);
}
comes_from notion old new known ty (Ends e state) g c h =
    (grows_then old.store.held.objects new.store.held.objects state.store.held.objects g h.0, h.1, λ e. h.2 (c e))

comes_after : (notion : Notion) (heap : Heap) (old : State) (between last : notion.Standing) (a ty : TyView) (o : Outcome) (next : Value → Meaning) → Grows heap old.store.held.objects →
    Comes notion old between a o →
    ((new : Heap) (v : Value) → Grows heap new → IsOf notion.kind.asked new a v → Sound notion new between last ty (next v)) → Comes notion old last ty (after o next)
unfolding after
comes_after notion heap old between last a ty (Value_is v frame state) next g h k =
    let new = state.store.held.objects in
    let then_sound = k new v (grows_then heap old.store.held.objects new g h.grows) h.value in
    comes_from notion old state last ty (next v frame state) h.grows h.commits (then_sound.runs frame state (grows_not new) h.typed h.are)
comes_after notion heap old between last a ty (Ends e state) next g h k = h

pub sound_then : (notion : Notion) {heap : Heap} {first between last : notion.Standing} {a ty : TyView} {m : Meaning} {next : Value → Meaning} →
    Sound notion heap first between a m →
    ((new : Heap) (v : Value) → Grows heap new → IsOf notion.kind.asked new a v → Sound notion new between last ty (next v)) → Sound notion heap first last ty (m >>= next)
unfolding ◌>>=◌
sound_then notion {heap = heap} {between = between} {last = last} {a = a} {ty = ty} {m = m} {next = next} h k = record {
  runs = λ frame state g typed known.
      comes_after notion heap state between last a ty (m frame state) next g (h.runs frame state g typed known) k;
}

pub sound_give : (notion : Notion) {heap : Heap} {known : notion.Standing} {ty : TyView} (v : Value) → IsOf notion.kind.asked heap ty v → Sound notion heap known known ty (give v)
unfolding give
sound_give notion {heap = heap} {ty = ty} v h = record {
  runs = λ frame state g typed known.
      record { grows = grows_not state.store.held.objects; typed = typed; are = known; value = of_kept notion.kind heap state.store.held.objects g ty v h; commits = λ e. e };
}

pub sound_nothing : (notion : Notion) {heap : Heap} {known : notion.Standing} → Sound notion heap known known types.Void (give Nothing)
sound_nothing notion = sound_give notion Nothing tt

pub sound_stop : (notion : Notion) {heap : Heap} {first last : notion.Standing} {ty : TyView} (e : End) → Sound notion heap first last ty (stop e)
unfolding stop
sound_stop notion e = record { runs = λ frame state g typed known. (grows_not state.store.held.objects, typed, λ e. e) }

pub sound_choose : (notion : Notion) {heap : Heap} {first last : notion.Standing} {ty : TyView} {m n : Meaning} (b : Bool) → Sound notion heap first last ty m →
    Sound notion heap first last ty n → Sound notion heap first last ty (choose b m n)
unfolding choose
sound_choose notion true h k = h
sound_choose notion false h k = k

pub sound_if : (notion : Notion) {heap : Heap} {first last : notion.Standing} {ty : TyView} {m n : Meaning} (b : Bool) → (b ≡ true → Sound notion heap first last ty m) →
    Sound notion heap first last ty n → Sound notion heap first last ty (choose b m n)
unfolding choose
sound_if notion true h k = h refl
sound_if notion false h k = k

pub sound_answer : (notion : Notion) {heap : Heap} {known : notion.Standing} (line : Line) (a : Answer) → GivesInt a → Sound notion heap known known types.Int (answer line a)
unfolding answer
sound_answer notion line (Gives z) h = sound_give notion (Num z) h
sound_answer notion line (Traps trap) h = sound_stop notion (Trapped trap line)

pub sound_attempt : (notion : Notion) {A : Type 0} {heap : Heap} {first last : notion.Standing} {ty : TyView} {next : A → Meaning} (P : A → Type 0) (line : Line)
    (a : Attempt A) →
    OnYield P a → ((x : A) → P x → Sound notion heap first last ty (next x)) → Sound notion heap first last ty (attempt line a next)
unfolding attempt
sound_attempt notion P line (Yields x) h k = k x h
sound_attempt notion P line (Fails trap) h k = sound_stop notion (Trapped trap line)

pub sound_with_heap : (notion : Notion) {heap : Heap} {first last : notion.Standing} {ty : TyView} {next : Heap → Meaning} →
    ((new : Heap) → Grows heap new → IsTypedHeap notion.kind.asked new → Sound notion new first last ty (next new)) → Sound notion heap first last ty (with_heap next)
unfolding with_heap
sound_with_heap notion h = record {
  runs = λ frame state g typed known.
      (h state.store.held.objects g typed.0).runs frame state (grows_not state.store.held.objects) typed known;
}

-- a heap that an operation yields is typed, and grown
abbrev pub IsNext : (kind : Kind) → Heap → Heap → Type 0
IsNext kind heap new = Grows heap new × IsTypedHeap kind.asked new

comes_put : (notion : Notion) (known : notion.Standing) (line : Line) (a : Attempt Heap) (place : Place) (frame : Frame) (state : State) → OnYield (IsNext notion.kind state.store.held.objects) a →
    IsTypedHeld notion.kind.asked state.store.held → notion.IsStanding state.store.held.objects frame known →
    Comes notion state known types.Void (attempt line a (assign place) frame state)
unfolding attempt change stop
comes_put notion known line (Yields new) place frame state h typed are = record {
  grows = h.0;
  typed = (h.1, roots_kept state.store.held.objects new h.0 state.store.held.directory typed.1);
  are = notion.kept state.store.held.objects new h.0 frame known are;
  value = tt;
  commits = λ e. e;
}
comes_put notion known line (Fails trap) place frame state h typed are = (grows_not state.store.held.objects, typed, λ e. e)

pub sound_put : (notion : Notion) {heap : Heap} {known : notion.Standing} (line : Line) (a : Heap → Attempt Heap) (place : Heap → Place) →
    ((new : Heap) → Grows heap new → IsTypedHeap notion.kind.asked new → OnYield (IsNext notion.kind new) (a new)) →
    Sound notion heap known known types.Void (with_heap (λ now. attempt line (a now) (assign (place now))))
unfolding with_heap
sound_put notion {known = known} line a place h = record {
  runs = λ frame state g typed are.
      let now = state.store.held.objects in
      comes_put notion known line (a now) (place now) frame state (h now g typed.0) typed are;
}

-- a value that is read from a place, and objects that are touched
pub sound_read : (notion : Notion) {heap : Heap} {known : notion.Standing} {ty : TyView} (v : Value) → IsOf notion.kind.asked heap ty v → Sound notion heap known known ty (read v)
unfolding change
sound_read notion {heap = heap} {ty = ty} v h = record {
  runs = λ frame state g typed known.
      record { grows = grows_not state.store.held.objects; typed = typed; are = known; value = of_kept notion.kind heap state.store.held.objects g ty v h; commits = λ e. e };
}

pub sound_touch : (notion : Notion) {heap : Heap} {known : notion.Standing} (ids : List ℕ) → Sound notion heap known known types.Void (touch ids)
unfolding change
sound_touch notion ids = record {
  runs = λ frame state g typed are. record { grows = grows_not state.store.held.objects; typed = typed; are = are; value = tt; commits = λ e. e };
}

pub sound_touch_scope : (notion : Notion) {heap : Heap} {known : notion.Standing} → Sound notion heap known known types.Void touch_scope
sound_touch_scope notion = record { runs = λ frame state g typed are. (sound_touch notion (scope_ids frame.scope)).runs frame state g typed are }

-- what a call of the library answers
pub record IsAnswered (kind : Kind) (before : Held) (ty : TyView) (a : calls.Answer) : Type 0 where
  pub grows : Grows before.objects a.held.objects
  pub typed : IsTypedHeld kind.asked a.held
  pub value : IsOf kind.asked a.held.objects ty a.value
  pub commits : AreTypedCommits kind.asked a.events

-- more events
pub commits_more : (kind : Kind) (events more : List Event) → AreTypedCommits kind.asked events → AreTypedCommits kind.asked more → AreTypedCommits kind.asked (events ++ more)
commits_more kind [] more h k = k
commits_more kind (Out bytes counted ∷ events) more h k = commits_more kind events more h k
commits_more kind (Turn counted ∷ events) more h k = commits_more kind events more h k
commits_more kind (Ask asked counted ∷ events) more h k = commits_more kind events more h k
commits_more kind (Finish e counted ∷ events) more h k = commits_more kind events more h k
commits_more kind (Commit heap counted ∷ events) more h k = (h.0, commits_more kind events more h.1 k)

comes_answered : (notion : Notion) (known : notion.Standing) (ty : TyView) (line : Line) (a : Attempt calls.Answer) (frame : Frame) (state : State) → OnYield (IsAnswered notion.kind state.store.held ty) a →
    IsTypedHeld notion.kind.asked state.store.held → notion.IsStanding state.store.held.objects frame known →
    Comes notion state known ty (attempt line a put_answer frame state)
unfolding attempt put_answer stop
comes_answered notion known ty line (Yields a) frame state h typed are =
    record {
      grows = h.grows;
      typed = h.typed;
      are = notion.kept state.store.held.objects a.held.objects h.grows frame known are;
      value = h.value;
      commits = λ e. commits_more notion.kind state.events a.events e h.commits;
    }
comes_answered notion known ty line (Fails trap) frame state h typed are = (grows_not state.store.held.objects, typed, λ e. e)

pub sound_answered : (notion : Notion) {heap : Heap} {known : notion.Standing} {ty : TyView} (line : Line) (call : Held → Attempt calls.Answer) →
    ((held : Held) → Grows heap held.objects → IsTypedHeld notion.kind.asked held → OnYield (IsAnswered notion.kind held ty) (call held)) → Sound notion heap known known ty (answered line call)
unfolding answered
sound_answered notion {known = known} {ty = ty} line call h = record {
  runs = λ frame state g typed are. comes_answered notion known ty line (call state.store.held) frame state (h state.store.held g typed) typed are;
}

pub sound_made : (notion : Notion) {heap : Heap} {known : notion.Standing} {ty : TyView} (denoting : ℕ → Value) (object : Object) → IsTypedObject notion.kind.asked heap object →
    ((new : Heap) (id : ℕ) → object_at new id ≡ Some object → IsOf notion.kind.asked new ty (denoting id)) → Sound notion heap known known ty (made denoting object)
unfolding made
sound_made notion {heap = heap} {known = known} denoting object h k = record {
  runs = λ frame state g typed are.
      let old = state.store.held.objects in
      let new = with_new old object in
      record {
        grows = grows_new old object;
        typed = (typed_new notion.kind old object typed.0 (object_kept notion.kind heap old g object h), roots_kept old new (grows_new old object) state.store.held.directory typed.1);
        are = notion.kept old new (grows_new old object) frame known are;
        value = k new (new_number old) (at_new old object);
        commits = λ e. e;
      };
}

pub sound_made_text : (notion : Notion) {heap : Heap} {known : notion.Standing} (bytes : List ℕ) → is_string bytes ≡ true →
    Sound notion heap known known types.Str (made_text bytes)
unfolding made_text
sound_made_text notion bytes short = record {
  runs = λ frame state g typed are.
      record { grows = grows_not state.store.held.objects; typed = typed; are = are; value = short; commits = λ e. e };
}

no_commit_out : (kind : Kind) (bytes : List ℕ) (counted : ℕ) → AreTypedCommits kind.asked (some_out bytes counted)
no_commit_out kind [] counted = tt
no_commit_out kind (byte ∷ bytes) counted = tt

sound_emit : (notion : Notion) {heap : Heap} {known : notion.Standing} (bytes : List ℕ) → Sound notion heap known known types.Void (emit bytes)
unfolding emit
sound_emit notion bytes = record {
  runs = λ frame state g typed are.
      record {
        grows = grows_not state.store.held.objects;
        typed = typed;
        are = are;
        value = tt;
        commits = λ e. commits_more notion.kind state.events (some_out bytes (counted_in state.store)) e (no_commit_out notion.kind bytes (counted_in state.store));
      };
}

sound_either : (notion : Notion) {heap : Heap} {first last : notion.Standing} {ty : TyView} {m n : Meaning} (b : Bool) → Sound notion heap first last ty m →
    Sound notion heap first last ty n → Sound notion heap first last ty (if b then m else n)
sound_either notion true h k = h
sound_either notion false h k = k

pub sound_written : (notion : Notion) {heap : Heap} {known : notion.Standing} (line : Line) (width : Option ℤ) (bytes : List ℕ) →
    Sound notion heap known known types.Void (written line width bytes)
unfolding written
sound_written notion line width bytes = sound_either notion (is_width width) (sound_emit notion (in_places width bytes)) (sound_stop notion _)

-- what is held after a turn is what was held
abbrev Holds : Held → Option Store → Type 0
Holds held None = Unit {0}
Holds held (Some store) = store.held ≡ held

spent_holds : (store : Store) (turns : ℕ) → Holds store.held (with_turns store turns)
spent_holds store zero = tt
spent_holds store (suc turns) = refl

comes_turned : (notion : Notion) (known : notion.Standing) (left : Option Store) (frame : Frame) (state : State) → Holds state.store.held left →
    IsTypedHeld notion.kind.asked state.store.held → notion.IsStanding state.store.held.objects frame known → Comes notion state known types.Void (turned left frame state)
comes_turned notion known None frame state h typed are = (grows_not state.store.held.objects, typed, λ e. e)
comes_turned notion known (Some store) frame state h typed are = record {
  grows = subst (λ (held : Held). Grows state.store.held.objects held.objects) (sym h) (grows_not state.store.held.objects);
  typed = subst (IsTypedHeld notion.kind.asked) (sym h) typed;
  are = subst (λ (held : Held). notion.IsStanding held.objects frame known) (sym h) are;
  value = tt;
  commits = λ e. commits_more notion.kind state.events (Turn (counted_in store) ∷ []) e tt;
}

pub sound_turn : (notion : Notion) {heap : Heap} {known : notion.Standing} → Sound notion heap known known types.Void take_turn
unfolding take_turn
sound_turn notion {known = known} = record {
  runs = λ frame state g typed are.
      comes_turned notion known (spent state.store) frame state (spent_holds state.store state.store.turns) typed are;
}

pub sound_get : (notion : Notion) {heap : Heap} {known : notion.Standing} (slot : ℕ) (ty : TyView) →
    ((now : Heap) (frame : Frame) → notion.IsStanding now frame known → IsOf notion.kind.asked now ty (local_of frame ty slot)) → Sound notion heap known known ty (get (Plain slot) ty)
unfolding get
sound_get notion slot ty h = record {
  runs = λ frame state g typed are.
      record { grows = grows_not state.store.held.objects; typed = typed; are = are; value = h state.store.held.objects frame are; commits = λ e. e };
}

pub sound_set : (notion : Notion) {heap : Heap} {first last : notion.Standing} (slot : ℕ) (ty : TyView) (v : Value) →
    ((new : Heap) (frame : Frame) → Grows heap new → notion.IsStanding new frame first → notion.IsStanding new (frame_with frame ty slot v) last) →
    Sound notion heap first last types.Void (set (Plain slot) ty v)
unfolding set
sound_set notion slot ty v h = record {
  runs = λ frame state g typed are.
      record { grows = grows_not state.store.held.objects; typed = typed; are = h state.store.held.objects frame g are; value = tt; commits = λ e. e };
}
