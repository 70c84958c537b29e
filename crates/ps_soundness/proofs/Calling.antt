-- What calls return, and how the names that scopes keep are read and set, whichever scopes these are.
use Rattle.std.proofs.Common.{◌≡◌, ℕ, Bool, true, false, List, [], ◌∷◌, Option, Some, refl, if◌then◌else◌}
use Rattle.std.specs.Prelude.{nat_lt}
use Rattle.ps_meaning.specs.ps_base.TyView.{TyView, TyViews}
use Rattle.ps_meaning.specs.ps_base.TyView as types
use Rattle.ps_meaning.specs.ps_base.declared.line.Line.{Line}
use Rattle.ps_meaning.specs.ps_base.declared.trap.Trap.TheVariants.{TooLong}
use Rattle.ps_meaning.specs.ps_program.Node.{BodyNode}
use Rattle.ps_meaning.specs.ps_program.declared.place.Place.TheVariants.{Kept}
use Rattle.ps_meaning.specs.ps_typing.WellTyped.{Local}
use Rattle.ps_heap.specs.Values.{Value, Procedure, as_written}
use Rattle.ps_heap.specs.Texts.{Yields, Fails, is_string, line_of, line_read, behind_line}
use Rattle.ps_heap.specs.Objects.{Heap, with_new, new_number}
use Rattle.ps_heap.specs.Scopes.{new_scope, kept_name, with_kept_name}
use Rattle.ps_meaning.specs.Meaning.{Frame, State, Outcome, Value_is, Ends, Meaning, ◌>>=◌, after, change, get, set as set_at, with_input, put_input, made_procedure, enter, back_in, back_to, scoped, in_frame}
use Rattle.ps_meaning.specs.Frames.{frame_of_call}
use Rattle.ps_meaning.specs.Operations.{read_line, at_end}
use Rattle.ps_meaning.specs.Evaluation.{Context, most_calls, call_meant}
use Rattle.ps_soundness.specs.Over.{IsOf, AreLocals, IsTypedHeap, IsTypedHeld, AreTypedCommits}
use Rattle.ps_soundness.specs.Shapes.{Grows}
use Rattle.ps_soundness.proofs.Notion.{Kind, Notion}
use Rattle.ps_soundness.proofs.Operators.{OnYield}
use Rattle.ps_soundness.proofs.Growing.{grows_not, roots_kept, grows_then, grows_new, of_kept}
use Rattle.ps_soundness.proofs.Combining.{Comes, Sound, sound_then, sound_give, sound_stop, sound_choose, sound_attempt, sound_made_text}

-- values of these types
abbrev pub ValuesOf : (kind : Kind) → Heap → TyViews → List Value → Type 0
ValuesOf kind heap types.none [] = Unit {0}
ValuesOf kind heap (types.more t ts) (v ∷ vs) = IsOf kind.asked heap t v × ValuesOf kind heap ts vs
ValuesOf kind heap ts vs = ⊥

pub values_kept : (kind : Kind) (heap new : Heap) → Grows heap new → (tys : TyViews) (vs : List Value) → ValuesOf kind heap tys vs → ValuesOf kind new tys vs
values_kept kind heap new g types.none [] h = tt
values_kept kind heap new g types.none (v ∷ vs) h = absurd h
values_kept kind heap new g (types.more t ts) [] h = absurd h
values_kept kind heap new g (types.more t ts) (v ∷ vs) h = (of_kept kind heap new g t v h.0, values_kept kind heap new g ts vs h.1)

-- Bodies that are called answer: with values of their parameters' types they yield a value of the type that they give.
pub record Answers (notion : Notion) (call : BodyNode → List Value → Meaning) : Type 0 where
  pub answers : (of : BodyNode) (scope : Option ℕ) (args : List Value) (ps : TyViews) (g : TyView) (state : State) → IsTypedHeld notion.kind.asked state.store.held →
      notion.kind.asked.procedures state.store.held.objects (types.Proc ps g) of scope → ValuesOf notion.kind state.store.held.objects ps args →
      Comes notion state notion.nothing g (call of args (frame_of_call of scope args) state)

comes_back : (notion : Notion) (before : State) (known : notion.Standing) (ty : TyView) (frame : Frame) (o : Outcome) → Comes notion before notion.nothing ty o →
    notion.IsStanding before.store.held.objects frame known → Comes notion before known ty (back_to frame o)
unfolding back_to
comes_back notion before known ty frame (Value_is v other state) h are = record {
  grows = h.grows;
  typed = h.typed;
  are = notion.kept before.store.held.objects state.store.held.objects h.grows frame known are;
  value = h.value;
  commits = h.commits;
}
comes_back notion before known ty frame (Ends e state) h are = h

pub sound_call : (notion : Notion) {heap : Heap} {known : notion.Standing} (c : Context) → Answers notion c.call → (line : Line) (v : Value) (args : List Value) (ps : TyViews)
    (g : TyView) → IsOf notion.kind.asked heap (types.Proc ps g) v → ValuesOf notion.kind heap ps args → Sound notion heap known known g (call_meant c line v args)
unfolding call_meant in_frame
sound_call notion {heap = heap} {known = known} c calls line (Procedure (as_written of) scope) args ps g is are =
    sound_choose notion (nat_lt c.depth most_calls)
    (record {
      runs = λ frame state grown typed standing.
          let now = state.store.held.objects in
          comes_back notion state known g frame (c.call of args (frame_of_call of scope args) state) (calls.answers of scope args ps g state typed
          (notion.kind.kept heap now grown (types.Proc ps g) of scope is) (values_kept notion.kind heap now grown ps args are)) standing;
    })
    (sound_stop notion _)
sound_call notion c calls line v args ps g is are = absurd is

-- Input.
pub sound_with_input : (notion : Notion) {heap : Heap} {first last : notion.Standing} {ty : TyView} {next : List ℕ → Meaning} →
    ((input : List ℕ) → Sound notion heap first last ty (next input)) → Sound notion heap first last ty (with_input next)
unfolding with_input
sound_with_input notion h = record { runs = λ frame state g typed are. (h state.store.input).runs frame state g typed are }

sound_put_input : (notion : Notion) {heap : Heap} {known : notion.Standing} (input : List ℕ) → Sound notion heap known known types.Void (put_input input)
unfolding put_input
sound_put_input notion input = record {
  runs = λ frame state g typed are. record { grows = grows_not state.store.held.objects; typed = typed; are = are; value = tt; commits = λ e. e };
}

string_yields : (bytes : List ℕ) (b : Bool) → is_string bytes ≡ b →
    OnYield (λ (text : List ℕ). is_string text ≡ true) (if b then Yields bytes else Fails TooLong)
string_yields bytes true e = e
string_yields bytes false e = tt

line_yields : (input : List ℕ) → OnYield (λ (text : List ℕ). is_string text ≡ true) (line_read input)
unfolding line_read
line_yields [] = tt
line_yields (byte ∷ bytes) = string_yields (line_of (byte ∷ bytes)) (is_string (line_of (byte ∷ bytes))) refl

pub sound_read_line : (notion : Notion) {heap : Heap} {known : notion.Standing} (line : Line) → Sound notion heap known known types.Str (read_line line)
unfolding read_line
sound_read_line notion line = sound_with_input notion (λ input.
    sound_attempt notion (λ (text : List ℕ). is_string text ≡ true) line (line_read input) (line_yields input) (λ bytes short.
    sound_then notion (sound_put_input notion (behind_line input)) (λ new u g is. sound_made_text notion bytes short)))

pub sound_at_end : (notion : Notion) {heap : Heap} {known : notion.Standing} → Sound notion heap known known types.Bool at_end
unfolding at_end
sound_at_end notion = sound_with_input notion (λ input. sound_give notion _ tt)

-- Names that scopes keep.
pub sound_kept_get : (notion : Notion) {heap : Heap} {known : notion.Standing} (up position : ℕ) (ty : TyView) →
    ((now : Heap) (frame : Frame) → IsTypedHeap notion.kind.asked now → notion.IsStanding now frame known → IsOf notion.kind.asked now ty (kept_name now frame.scope up position)) →
    Sound notion heap known known ty (get (Kept up position) ty)
unfolding get change
sound_kept_get notion up position ty h = record {
  runs = λ frame state g typed are.
      let now = state.store.held.objects in
      record { grows = grows_not now; typed = typed; are = are; value = h now frame typed.0 are; commits = λ e. e };
}

-- what is so of a heap in which a name has another value
abbrev pub IsPut : (notion : Notion) → Heap → Heap → Frame → notion.Standing → Type 0
IsPut notion now new frame last = Grows now new × IsTypedHeap notion.kind.asked new × notion.IsStanding new frame last

pub sound_kept_set : (notion : Notion) {heap : Heap} {first last : notion.Standing} (up position : ℕ) (ty : TyView) (v : Value) →
    ((now : Heap) (frame : Frame) → Grows heap now → IsTypedHeap notion.kind.asked now → notion.IsStanding now frame first →
    IsPut notion now (with_kept_name now frame.scope up position v) frame last) →
    Sound notion heap first last types.Void (set_at (Kept up position) ty v)
unfolding set_at change
sound_kept_set notion up position ty v h = record {
  runs = λ frame state g typed are.
      let now = state.store.held.objects in
      let new = with_kept_name now frame.scope up position v in
      let put = h now frame g typed.0 are in
      record {
        grows = put.0;
        typed = (put.1, roots_kept now new put.0 state.store.held.directory typed.1);
        are = put.2;
        value = tt;
        commits = λ e. e;
      };
}

-- a name that gets a procedure made there, which may mention it
pub sound_kept_literal : (notion : Notion) {heap : Heap} {first last : notion.Standing} (up position : ℕ) (ty : TyView) (of : BodyNode) →
    ((now : Heap) (frame : Frame) → IsTypedHeap notion.kind.asked now → notion.IsStanding now frame first →
    IsPut notion now (with_kept_name now frame.scope up position (Procedure (as_written of) frame.scope)) frame last) →
    Sound notion heap first last types.Void (made_procedure of >>= λ v. set_at (Kept up position) ty v)
unfolding set_at change made_procedure ◌>>=◌ after
sound_kept_literal notion up position ty of h = record {
  runs = λ frame state g typed are.
      let now = state.store.held.objects in
      let new = with_kept_name now frame.scope up position (Procedure (as_written of) frame.scope) in
      let put = h now frame typed.0 are in
      record {
        grows = put.0;
        typed = (put.1, roots_kept now new put.0 state.store.held.directory typed.1);
        are = put.2;
        value = tt;
        commits = λ e. e;
      };
}

-- Scopes: a clause in a new one.
pub locals_in_scope : (kind : Kind) (heap : Heap) (frame : Frame) (scope : Option ℕ) (locals : List Local) → AreLocals kind.asked heap frame locals →
    AreLocals kind.asked heap (record frame { scope = scope }) locals
locals_in_scope kind heap frame scope [] h = tt
locals_in_scope kind heap frame scope (local ∷ locals) h = (h.0, locals_in_scope kind heap frame scope locals h.1)

-- what is known in a new scope of this text, and what is known again where it is left
abbrev pub Enters : (notion : Notion) → List ℕ → notion.Standing → notion.Standing → Type 0
Enters notion text first inside =
    (now : Heap) (frame : Frame) → IsTypedHeap notion.kind.asked now → notion.IsStanding now frame first →
    IsTypedHeap notion.kind.asked (with_new now (new_scope text frame.scope))
    × notion.IsStanding (with_new now (new_scope text frame.scope)) (record frame { scope = Some (new_number now) }) inside

abbrev pub Leaves : (notion : Notion) → notion.Standing → notion.Standing → notion.Standing → Type 0
Leaves notion first inner last =
    (old now : Heap) (frame behind : Frame) → Grows old now → notion.IsStanding old frame first → notion.IsStanding now behind inner →
    notion.IsStanding now (record behind { scope = frame.scope }) last

comes_out : (notion : Notion) (before entered : State) (outer : Frame) (first inner last : notion.Standing) (ty : TyView) (o : Outcome) →
    Grows before.store.held.objects entered.store.held.objects → (AreTypedCommits notion.kind.asked before.events → AreTypedCommits notion.kind.asked entered.events) →
    notion.IsStanding before.store.held.objects outer first → Leaves notion first inner last → Comes notion entered inner ty o → Comes notion before last ty (back_in outer.scope o)
unfolding back_in
comes_out notion before entered outer first inner last ty (Value_is v frame state) g c stand leaves h =
    let grows = grows_then before.store.held.objects entered.store.held.objects state.store.held.objects g h.grows in
    record {
      grows = grows;
      typed = h.typed;
      are = leaves before.store.held.objects state.store.held.objects outer frame grows stand h.are;
      value = h.value;
      commits = λ e. h.commits (c e);
    }
comes_out notion before entered outer first inner last ty (Ends e state) g c stand leaves h =
    (grows_then before.store.held.objects entered.store.held.objects state.store.held.objects g h.0, h.1, λ e. h.2 (c e))

pub sound_inside : (notion : Notion) {heap : Heap} {first inside inner last : notion.Standing} {ty : TyView} {m : Meaning} (text : List ℕ) → Enters notion text first inside →
    Leaves notion first inner last → ((new : Heap) → Grows heap new → Sound notion new inside inner ty m) → Sound notion heap first last ty (scoped text m)
unfolding scoped ◌>>=◌ after enter
sound_inside notion {heap = heap} {first = first} {inner = inner} {last = last} {ty = ty} {m = m} text enters leaves h = record {
  runs = λ frame state g typed are.
      let old = state.store.held.objects in
      let made = enters old frame typed.0 are in
      let object = new_scope text frame.scope in
      let new = with_new old object in
      let further = grows_new old object in
      comes_out notion state _ frame first inner last ty _ further (λ e. e) are leaves
      ((h new (grows_then heap old new g further)).runs _ _ (grows_not new) (made.0, roots_kept old new further state.store.held.directory typed.1) made.1);
}

-- a literal gives a procedure
pub sound_procedure : (notion : Notion) {heap : Heap} {known : notion.Standing} (of : BodyNode) (ty : TyView) →
    ((now : Heap) (frame : Frame) → notion.IsStanding now frame known → IsOf notion.kind.asked now ty (Procedure (as_written of) frame.scope)) →
    Sound notion heap known known ty (made_procedure of)
unfolding made_procedure
sound_procedure notion of ty h = record {
  runs = λ frame state g typed are.
      record { grows = grows_not state.store.held.objects; typed = typed; are = are; value = h state.store.held.objects frame are; commits = λ e. e };
}
