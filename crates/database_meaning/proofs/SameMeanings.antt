-- Names, and what is made, told and called, do the same but for ids.
use Rattle.std.proofs.Common.{Bool, true, false, inl, inr, ◌≡◌, ℕ, zero, suc, ◌+◌, ◌*◌, ℤ, pos, List, [], ◌∷◌, ◌++◌, map, set, refl, sym, ap, ◌∙◌, subst, Option, Some, None, if◌then◌else◌, nat_eq}
use Rattle.std.specs.Option.{option_map}
use Rattle.std.proofs.lemmas.List.{map-append, length-map}
use Rattle.reaching.specs.Reaching.{IsIn}
use Rattle.reaching.proofs.Lists.{in-append, in-front, in-behind}
use Rattle.ps_heap.specs.text_forms.declared.forms.Form.{Form}
use Rattle.ps_heap.specs.text_forms.declared.forms.Form.TheVariants as form
use Rattle.ps_heap.specs.text_forms.Forms.{forms_of, form_in}
use Rattle.ps_heap.specs.ps_base.TyView.{TyView}
use Rattle.ps_heap.specs.ps_base.declared.line.Line.{Line}
use Rattle.ps_meaning.specs.ps_program.declared.place.Place.{Place}
use Rattle.ps_meaning.specs.ps_program.declared.place.Place.TheVariants.{Plain, Kept}
use Rattle.ps_meaning.specs.ps_program.Node.{BodyNode}
use Rattle.ps_meaning.specs.ps_typing.Placing.{is_number}
use Rattle.ps_heap.specs.Ends.{Trapped}
use Rattle.ps_heap.specs.Values.{Value, Num, Flag, Text, Nil, Procedure, Nothing, as_written, is_one}
use Rattle.ps_heap.specs.Texts.{Attempt, Yields, Fails}
use Rattle.ps_heap.specs.Objects.{Object, Structure, Elements, Scope, Keyed, object_at, value_at, kept_as}
use Rattle.ps_heap.specs.Scopes.{first_value, new_scope, scope_at, names_in, parent_in, scope_out, name_in, with_name_in, with_name, kept_name}
use Rattle.ps_heap.specs.References.{values_of, scope_ids, value_ids, values_ids, object_ids}
use Rattle.ps_heap.specs.Weights.{own_weight, text_weight, closure_weight}
use Rattle.ps_heap.specs.Held.{Held, counting, noted, new_id, touching, denoted, way_out, reading_name, places_with_name, assigned_name}
use Rattle.ps_heap.specs.Held as held
use Rattle.ps_heap.specs.Calls as calls
use Rattle.ps_heap.specs.Events.{Event, Out, Turn}
use Rattle.ps_meaning.specs.Meaning.{Frame, State, Outcome, Value_is, Ends, Meaning, stop, ◌>>=◌, attempt, change, put_answer, answered, made, made_text, made_procedure, with_input, put_input, enter, back_in, back_to, scoped, in_scope, in_frame, some_out, emit, in_places, is_width, written, with_turns, turned, take_turn, frame_with, with_local, get, set as put}
use Rattle.database_meaning.specs.Same.{renamed_value, renamed}
use Rattle.database_meaning.specs.SameRuns.{Pairing, AreAmong, GoesOn, IsSameHeld, AreSameEvents, IsSameAnswer, AreBoth}
use Rattle.database_meaning.specs.SamePrograms.{IsSameValue, IsSameFrame, IsSameState}
use Rattle.database_meaning.proofs.KeptLaws.{set-ids}
use Rattle.database_meaning.proofs.RenamedObjects.{agrees, option-agrees, parent-renamed}
use Rattle.database_meaning.proofs.GrownPairs.{goes_same, counting-same, grown, last, new-last, grown-goes, made-same}
use Rattle.database_meaning.proofs.SameTouches.{touching-same}
use Rattle.database_meaning.proofs.SamePlaces.{changed-same, noted-same, set-map}
use Rattle.database_meaning.proofs.SameCalls.{word-renamed}
use Rattle.database_meaning.proofs.SameSteps.{value_on, frame_on, plain_value, nothing_same, SameOutcome, Same, same_then, same_next, same_stop, same_changed, object-known, at-same, denoted-renamed, denoted-in}

-- Values as they are kept.

pub kept-renamed : (f : ℕ → ℕ) (form : Option Form) (v : Value) → kept_as form (renamed_value f v) ≡ renamed_value f (kept_as form v)
kept-renamed f None v = refl
kept-renamed f (Some form.Number) v = ap Num (word-renamed f v)
kept-renamed f (Some form.Flag) v = ap (λ z. Flag (is_one z)) (word-renamed f v)
kept-renamed f (Some form.Reference) v = refl

pub kept-in : (form : Option Form) (v : Value) (x : ℕ) → IsIn x (value_ids (kept_as form v)) → IsIn x (value_ids v)
kept-in None v x l = l
kept-in (Some form.Number) v x l = absurd l
kept-in (Some form.Flag) v x l = absurd l
kept-in (Some form.Reference) v x l = l

-- Scopes.

names-renamed : (f : ℕ → ℕ) (o : Option Object) → names_in (option_map (renamed f) o) ≡ map (renamed_value f) (names_in o)
names-renamed f None = refl
names-renamed f (Some (Structure text fields)) = refl
names-renamed f (Some (Elements ty first elements)) = refl
names-renamed f (Some (Scope text parent names)) = refl
names-renamed f (Some (Keyed table)) = refl

parent-same : (f : ℕ → ℕ) (o : Option Object) → parent_in (option_map (renamed f) o) ≡ option_map f (parent_in o)
parent-same f None = refl
parent-same f (Some o) = parent-renamed f o

names-in : (o : Option Object) (x : ℕ) → IsIn x (values_ids (names_in o)) → IsIn x (object_ids o)
names-in None x l = l
names-in (Some (Structure text fields)) x l = absurd l
names-in (Some (Elements ty first elements)) x l = absurd l
names-in (Some (Scope text parent names)) x l = in-behind x (scope_ids parent) (values_ids names) l
names-in (Some (Keyed table)) x l = absurd l

parent-in : (o : Option Object) (x : ℕ) → IsIn x (scope_ids (parent_in o)) → IsIn x (object_ids o)
parent-in None x l = l
parent-in (Some o) x l = in-front x (scope_ids (parent_in (Some o))) (values_ids (values_of o)) l

module _ {p : Pairing} {a b : Held} (s : IsSameHeld p a b) where
  scope-same : (scope : Option ℕ) → AreAmong (scope_ids scope) p.ids → scope_at b.objects (option_map p.new scope) ≡ option_map (renamed p.new) (scope_at a.objects scope)
  scope-same None known = refl
  scope-same (Some id) known = s.objects.same id (known id (inl refl))

  scope-known : (scope : Option ℕ) → AreAmong (scope_ids scope) p.ids → AreAmong (object_ids (scope_at a.objects scope)) p.ids
  scope-known None known = λ x l. absurd l
  scope-known (Some id) known = object-known s id (known id (inl refl))

  out-known : (scope : Option ℕ) (up : ℕ) → AreAmong (scope_ids scope) p.ids → AreAmong (scope_ids (scope_out a.objects scope up)) p.ids
  unfolding scope_out
  out-known scope zero known = known
  out-known scope (suc up) known = out-known (parent_in (scope_at a.objects scope)) up (λ x l. scope-known scope known x (parent-in (scope_at a.objects scope) x l))

  out-same : (scope : Option ℕ) (up : ℕ) → AreAmong (scope_ids scope) p.ids → scope_out b.objects (option_map p.new scope) up ≡ option_map p.new (scope_out a.objects scope up)
  unfolding scope_out
  out-same scope zero known = refl
  out-same scope (suc up) known =
      ap (λ o. scope_out b.objects o up) (ap parent_in (scope-same scope known) ∙ parent-same p.new (scope_at a.objects scope))
      ∙ out-same (parent_in (scope_at a.objects scope)) up (λ x l. scope-known scope known x (parent-in (scope_at a.objects scope) x l))

  name-same : (scope : Option ℕ) (n : ℕ) → AreAmong (scope_ids scope) p.ids → IsSameValue p (name_in a.objects scope n) (name_in b.objects (option_map p.new scope) n)
  unfolding name_in
  name-same scope n known =
      subst (λ o. IsSameValue p (value_at (names_in (scope_at a.objects scope)) n) (value_at (names_in o) n)) (sym (scope-same scope known))
      (subst (λ vs. IsSameValue p (value_at (names_in (scope_at a.objects scope)) n) (value_at vs n)) (sym (names-renamed p.new (scope_at a.objects scope)))
      (at-same s (names_in (scope_at a.objects scope)) n (λ x l. scope-known scope known x (names-in (scope_at a.objects scope) x l))))

  way-same : (scope : Option ℕ) (up : ℕ) → AreAmong (scope_ids scope) p.ids → way_out b.objects (option_map p.new scope) up ≡ map p.new (way_out a.objects scope up)
  unfolding way_out
  way-same None up known = refl
  way-same (Some id) zero known = refl
  way-same (Some id) (suc up) known =
      let o = object_at a.objects id in
      ap (λ ids. p.new id ∷ ids) (ap (λ q. way_out b.objects q up) (ap parent_in (s.objects.same id (known id (inl refl))) ∙ parent-same p.new o)
      ∙ way-same (parent_in o) up (λ x l. object-known s id (known id (inl refl)) x (parent-in o x l)))

  way-known : (scope : Option ℕ) (up : ℕ) → AreAmong (scope_ids scope) p.ids → AreAmong (way_out a.objects scope up) p.ids
  unfolding way_out
  way-known None up known x l = absurd l
  way-known (Some id) zero known x l = known x l
  way-known (Some id) (suc up) known x (inl e) = known x (inl e)
  way-known (Some id) (suc up) known x (inr l) =
      let o = object_at a.objects id in way-known (parent_in o) up (λ y m. object-known s id (known id (inl refl)) y (parent-in o y m)) x l

  reading-same : (scope : Option ℕ) (up n : ℕ) → AreAmong (scope_ids scope) p.ids → IsSameHeld p (reading_name scope up n a) (reading_name (option_map p.new scope) up n b)
  reading-same scope up n known =
      let out = scope_out a.objects scope up in
      let name = name-same out n (out-known scope up known) in
      let ids = way_out a.objects scope up ++ denoted (name_in a.objects out n) in
      subst (λ xs. IsSameHeld p (touching ids a) (touching xs b))
      (map-append p.new (way_out a.objects scope up) (denoted (name_in a.objects out n))
      ∙ (ap (λ xs. map p.new (way_out a.objects scope up) ++ xs) (sym (ap denoted (ap (λ o. name_in b.objects o n) (out-same scope up known) ∙ name.is) ∙ denoted-renamed p.new (name_in a.objects out n)))
      ∙ ap (λ xs. xs ++ denoted (name_in b.objects (scope_out b.objects (option_map p.new scope) up) n)) (sym (way-same scope up known))))
      (touching-same s ids (λ x l. elim (in-append x (way_out a.objects scope up) (denoted (name_in a.objects out n)) l) [
        | inl k ↦ way-known scope up known x k
        | inr k ↦ name.known x (denoted-in (name_in a.objects out n) x k)
      ]))

  -- a name of a scope gets a value
  module _ (id n : ℕ) (v : Value) (here : IsIn id p.ids) (known : AreAmong (value_ids v) p.ids) where
    abbrev Named : Option Object → Option Object → Type 0
    Named o q = IsSameHeld p (noted (held.Part id n) (record a { objects = with_name_in a.objects id o n v }))
        (noted (held.Part (p.new id) n) (record b { objects = with_name_in b.objects (p.new id) q n (renamed_value p.new v) }))

    named-with : (o : Option Object) → AreAmong (object_ids o) p.ids → Named o (option_map (renamed p.new) o)
    named-with None l = noted-same s (held.Part id n) here
    named-with (Some (Structure text fields)) l = noted-same s (held.Part id n) here
    named-with (Some (Elements ty first elements)) l = noted-same s (held.Part id n) here
    named-with (Some (Keyed table)) l = noted-same s (held.Part id n) here
    named-with (Some (Scope text parent names)) l =
        let form = form_in (forms_of text) n in
        let now : Object = Scope text parent (set names n (kept_as form v)) in
        let among : AreAmong (object_ids (Some now)) p.ids = λ x m. elim (in-append x (scope_ids parent) (values_ids (set names n (kept_as form v))) m) [
          | inl k ↦ l x (in-front x (scope_ids parent) (values_ids names) k)
          | inr k ↦ elim (set-ids names n (kept_as form v) x k) [ inl was ↦ l x (in-behind x (scope_ids parent) (values_ids names) was) | inr new ↦ known x (kept-in form v x new) ]
        ] in
        subst (λ vs. IsSameHeld p (noted (held.Part id n) (record a { objects = set a.objects id now }))
        (noted (held.Part (p.new id) n) (record b { objects = set b.objects (p.new id) (Scope text (option_map p.new parent) vs) })))
        (sym (ap (set (map (renamed_value p.new) names) n) (kept-renamed p.new form v) ∙ set-map p.new names n (kept_as form v)))
        (noted-same (changed-same s id here now among) (held.Part id n) here)

    named-same : Named (object_at a.objects id) (object_at b.objects (p.new id))
    named-same = subst (Named (object_at a.objects id)) (sym (s.objects.same id here)) (named-with (object_at a.objects id) (object-known s id here))

assigned-name-same : {p : Pairing} {a b : Held} (s : IsSameHeld p a b) (scope : Option ℕ) (up n : ℕ) (v : Value) → AreAmong (scope_ids scope) p.ids → AreAmong (value_ids v) p.ids
    → IsSameHeld p (assigned_name scope up n v a) (assigned_name (option_map p.new scope) up n (renamed_value p.new v) b)
unfolding with_name
assigned-name-same {p = p} {a = a} {b = b} s scope up n v known also =
    subst (λ o. IsSameHeld p (assigned_name scope up n v a) (record (touching (way_out b.objects (option_map p.new scope) up) b) { objects = with_name b.objects o n (renamed_value p.new v); assigned = places_with_name b.homes o n b.assigned }))
    (sym (out-same s scope up known))
    (subst (λ ids. IsSameHeld p (assigned_name scope up n v a) (record (touching ids b) { objects = with_name b.objects (option_map p.new (scope_out a.objects scope up)) n (renamed_value p.new v); assigned = places_with_name b.homes (option_map p.new (scope_out a.objects scope up)) n b.assigned }))
    (sym (way-same s scope up known)) (go (scope_out a.objects scope up) (out-known s scope up known)))
  where
    touched : IsSameHeld p (touching (way_out a.objects scope up) a) (touching (map p.new (way_out a.objects scope up)) b)
    touched = touching-same s (way_out a.objects scope up) (way-known s scope up known)

    go : (out : Option ℕ) → AreAmong (scope_ids out) p.ids
        → IsSameHeld p (record (touching (way_out a.objects scope up) a) { objects = with_name a.objects out n v; assigned = places_with_name a.homes out n a.assigned })
        (record (touching (map p.new (way_out a.objects scope up)) b) { objects = with_name b.objects (option_map p.new out) n (renamed_value p.new v); assigned = places_with_name b.homes (option_map p.new out) n b.assigned })
    go None l = touched
    go (Some id) l = named-same touched id n v (l id (inl refl)) also

pub same_get : {p : Pairing} (place : Place) (ty : TyView) → Same p (get place ty) (get place ty)
unfolding get
same_get (Plain slot) ty = record {
  run = λ q f g s t go frame state. record { pairs = q; goes_on = goes_same q; value = local q f g frame (is_number ty); frame = frame; state = state };
}
  where
    local : (q : Pairing) (f g : Frame) → IsSameFrame q f g → (b : Bool) → IsSameValue q (if b then f.nums slot else f.refs slot) (if b then g.nums slot else g.refs slot)
    local q f g frame true = frame.nums slot
    local q f g frame false = frame.refs slot
same_get (Kept up position) ty = record {
  run = λ q f g s t go frame state.
      let h = state.held in
      let out = scope_out s.store.held.objects f.scope up in
      let name = name-same h out position (out-known h f.scope up frame.scope_known) in
      subst (λ scope. SameOutcome q (change (kept_name s.store.held.objects f.scope up position) (reading_name f.scope up position) f s)
      (change (kept_name t.store.held.objects scope up position) (reading_name scope up position) g t)) (sym frame.scope)
      (same_changed (kept_name s.store.held.objects f.scope up position) (kept_name t.store.held.objects (option_map q.new f.scope) up position) (reading_name f.scope up position) (reading_name (option_map q.new f.scope) up position)
      frame state (subst (λ o. IsSameValue q (name_in s.store.held.objects out position) (name_in t.store.held.objects o position)) (sym (out-same h f.scope up frame.scope_known)) name)
      (reading-same h f.scope up position frame.scope_known));
}

frame_put : {q : Pairing} (f g : Frame) (ty : TyView) (slot : ℕ) (v w : Value) → IsSameFrame q f g → IsSameValue q v w → IsSameFrame q (frame_with f ty slot v) (frame_with g ty slot w)
frame_put {q = q} f g ty slot v w frame is = go (is_number ty)
  where
    row : (xs ys : ℕ → Value) → ((k : ℕ) → IsSameValue q (xs k) (ys k)) → (k : ℕ) → IsSameValue q (with_local xs slot v k) (with_local ys slot w k)
    row xs ys same k = pick (nat_eq k slot)
      where
        pick : (b : Bool) → IsSameValue q (if b then v else xs k) (if b then w else ys k)
        pick true = is
        pick false = same k

    go : (b : Bool) → IsSameFrame q (if b then record f { nums = with_local f.nums slot v } else record f { refs = with_local f.refs slot v })
        (if b then record g { nums = with_local g.nums slot w } else record g { refs = with_local g.refs slot w })
    go true = record { nums = row f.nums g.nums frame.nums; refs = frame.refs; scope = frame.scope; scope_known = frame.scope_known }
    go false = record { nums = frame.nums; refs = row f.refs g.refs frame.refs; scope = frame.scope; scope_known = frame.scope_known }

pub same_put : {p : Pairing} (place : Place) (ty : TyView) (v w : Value) → IsSameValue p v w → Same p (put place ty v) (put place ty w)
unfolding put
same_put (Plain slot) ty v w is = record {
  run = λ q f g s t go frame state.
      record { pairs = q; goes_on = goes_same q; value = nothing_same; frame = frame_put f g ty slot v w frame (value_on v w go is); state = state };
}
same_put (Kept up position) ty v w is = record {
  run = λ q f g s t go frame state.
      let now = value_on v w go is in
      subst (λ x. SameOutcome q (change Nothing (assigned_name f.scope up position v) f s) (change Nothing (assigned_name g.scope up position x) g t)) (sym now.is)
      (subst (λ scope. SameOutcome q (change Nothing (assigned_name f.scope up position v) f s) (change Nothing (assigned_name scope up position (renamed_value q.new v)) g t)) (sym frame.scope)
      (same_changed Nothing Nothing (assigned_name f.scope up position v) (assigned_name (option_map q.new f.scope) up position (renamed_value q.new v)) frame state nothing_same
      (assigned-name-same state.held f.scope up position v frame.scope_known now.known)));
}

-- What is made.

own-weighs : (f : ℕ → ℕ) (o : Object) → own_weight (renamed f o) ≡ own_weight o
own-weighs f (Structure class fields) = ap (λ n. 48 + 8 * n) (length-map fields (renamed_value f))
own-weighs f (Elements ty first elements) = ap (λ n. 56 + 8 * n) (length-map elements (renamed_value f))
own-weighs f (Scope text parent names) = ap (λ n. 56 + 8 * n) (length-map names (renamed_value f))
own-weighs f (Keyed table) = refl

held-made : {p : Pairing} {a b : Held} (s : IsSameHeld p a b) (o : Object) → AreAmong (object_ids (Some o)) p.ids → IsSameHeld (grown s) (held.made o a) (held.made (renamed p.new o) b)
held-made {p = p} s o known = counting-same (own_weight o) (own_weight (renamed p.new o)) (own-weighs p.new o) (made-same s o known)

-- how a new object is denoted: by its id alone
pub record Denotes (denoting : ℕ → Value) : Type 0 where
  pub renames : (f : ℕ → ℕ) (id : ℕ) → renamed_value f (denoting id) ≡ denoting (f id)
  pub ids : (id : ℕ) → value_ids (denoting id) ≡ id ∷ []

pub same_made : {p : Pairing} (denoting : ℕ → Value) (o also : Object) → Denotes denoting → also ≡ renamed p.new o → AreAmong (object_ids (Some o)) p.ids → Same p (made denoting o) (made denoting also)
unfolding made
same_made {p = p} denoting o also d is known = record {
  run = λ q f g s t go frame state.
      let h = state.held in
      let now : also ≡ renamed q.new o = is ∙ agrees p.new q.new o (λ x l. sym (go.new x (known x l))) in
      subst (λ x. SameOutcome q (made denoting o f s) (made denoting x g t)) (sym now) (record {
        pairs = grown h;
        goes_on = grown-goes h;
        value = record {
          is = sym (d.renames (grown h).new (last h) ∙ ap denoting (new-last h));
          known = λ x l. elim (subst (IsIn x) (d.ids (last h)) l) [ inl e ↦ inl e | inr no_more ↦ absurd no_more ];
        };
        frame = frame_on (grown-goes h) frame;
        state = record { held = held-made h o (λ x l. go.ids x (known x l)); events = state.events; turns = state.turns; input = state.input };
      });
}

pub same_made_text : {p : Pairing} (bytes : List ℕ) → Same p (made_text bytes) (made_text bytes)
unfolding made_text
same_made_text bytes = record {
  run = λ q f g s t go frame state. record {
    pairs = q;
    goes_on = goes_same q;
    value = plain_value (Text bytes) refl (λ x l. absurd l);
    frame = frame;
    state = record { held = counting-same (text_weight bytes) (text_weight bytes) refl state.held; events = state.events; turns = state.turns; input = state.input };
  };
}

pub same_made_procedure : {p : Pairing} (of : BodyNode) → Same p (made_procedure of) (made_procedure of)
unfolding made_procedure
same_made_procedure of = record {
  run = λ q f g s t go frame state. record {
    pairs = q;
    goes_on = goes_same q;
    value = record { is = ap (Procedure (as_written of)) frame.scope; known = frame.scope_known };
    frame = frame;
    state = record { held = counting-same closure_weight closure_weight refl state.held; events = state.events; turns = state.turns; input = state.input };
  };
}

-- What is told and taken.

pub same_append : (xs ys us ws : List Event) → AreSameEvents xs ys → AreSameEvents us ws → AreSameEvents (xs ++ us) (ys ++ ws)
same_append [] [] us ws h k = k
same_append [] (y ∷ ys) us ws h k = absurd h
same_append (x ∷ xs) [] us ws h k = absurd h
same_append (x ∷ xs) (y ∷ ys) us ws h k = (h.0, same_append xs ys us ws h.1 k)

out-same-event : (bytes : List ℕ) (m n : ℕ) → n ≡ m → AreSameEvents (some_out bytes m) (some_out bytes n)
out-same-event [] m n e = tt
out-same-event (byte ∷ bytes) m n e = (ap (Out (byte ∷ bytes)) e, tt)

same_emit : {p : Pairing} (bytes : List ℕ) → Same p (emit bytes) (emit bytes)
unfolding emit
same_emit bytes = record {
  run = λ q f g s t go frame state. record {
    pairs = q;
    goes_on = goes_same q;
    value = nothing_same;
    frame = frame;
    state = record {
      held = state.held;
      events = same_append s.events t.events (some_out bytes s.store.held.counted) (some_out bytes t.store.held.counted) state.events
          (out-same-event bytes s.store.held.counted t.store.held.counted state.held.counted);
      turns = state.turns;
      input = state.input;
    };
  };
}

same_either : {p : Pairing} (b : Bool) {x y u w : Meaning} → Same p x u → Same p y w → Same p (if b then x else y) (if b then u else w)
same_either true h k = h
same_either false h k = k

pub same_written : {p : Pairing} (line : Line) (width : Option ℤ) (bytes : List ℕ) → Same p (written line width bytes) (written line width bytes)
unfolding written
same_written line width bytes = same_either (is_width width) (same_emit (in_places width bytes)) (same_stop _)

pub same_turn : {p : Pairing} → Same p take_turn take_turn
unfolding take_turn
same_turn = record {
  run = λ q f g s t go frame state.
      subst (λ n. SameOutcome q (turned (with_turns s.store s.store.turns) f s) (turned (with_turns t.store n) g t)) (sym state.turns) (spend q f g s t frame state s.store.turns);
}
  where
    spend : (q : Pairing) (f g : Frame) (s t : State) → IsSameFrame q f g → IsSameState q s t → (n : ℕ) → SameOutcome q (turned (with_turns s.store n) f s) (turned (with_turns t.store n) g t)
    spend q f g s t frame state zero = record { pairs = q; goes_on = goes_same q; end_is = refl; state = state }
    spend q f g s t frame state (suc left) = record {
      pairs = q;
      goes_on = goes_same q;
      value = nothing_same;
      frame = frame;
      state = record {
        held = state.held;
        events = same_append s.events t.events (Turn s.store.held.counted ∷ []) (Turn t.store.held.counted ∷ []) state.events (ap Turn state.held.counted, tt);
        turns = refl;
        input = state.input;
      };
    }

pub same_with_input : {p : Pairing} (next also : List ℕ → Meaning) → ((input : List ℕ) → Same p (next input) (also input)) → Same p (with_input next) (with_input also)
unfolding with_input
same_with_input next also h = record {
  run = λ q f g s t go frame state.
      subst (λ input. SameOutcome q (next s.store.input f s) (also input g t)) (sym state.input) ((h s.store.input).run q f g s t go frame state);
}

pub same_put_input : {p : Pairing} (input : List ℕ) → Same p (put_input input) (put_input input)
unfolding put_input
same_put_input input = record {
  run = λ q f g s t go frame state. record {
    pairs = q;
    goes_on = goes_same q;
    value = nothing_same;
    frame = frame;
    state = record { held = state.held; events = state.events; turns = state.turns; input = refl };
  };
}

-- Scopes and frames.

first-renamed : (f : ℕ → ℕ) (forms : List Form) → map (renamed_value f) (map first_value forms) ≡ map first_value forms
first-renamed f [] = refl
first-renamed f (form.Number ∷ forms) = ap (λ vs. Num (pos 0) ∷ vs) (first-renamed f forms)
first-renamed f (form.Flag ∷ forms) = ap (λ vs. Flag false ∷ vs) (first-renamed f forms)
first-renamed f (form.Reference ∷ forms) = ap (λ vs. Nil ∷ vs) (first-renamed f forms)

first-none : (forms : List Form) (x : ℕ) → IsIn x (values_ids (map first_value forms)) → ⊥
first-none [] x l = l
first-none (form.Number ∷ forms) x l = first-none forms x l
first-none (form.Flag ∷ forms) x l = first-none forms x l
first-none (form.Reference ∷ forms) x l = first-none forms x l

same_enter : {p : Pairing} (text : List ℕ) → Same p (enter text) (enter text)
unfolding enter new_scope
same_enter text = record {
  run = λ q f g s t go frame state.
      let h = state.held in
      let o : Object = Scope text f.scope (map first_value (forms_of text)) in
      let also : Scope text g.scope (map first_value (forms_of text)) ≡ renamed q.new o
      = ap (λ x. Scope text x (map first_value (forms_of text))) frame.scope ∙ ap (Scope text (option_map q.new f.scope)) (sym (first-renamed q.new (forms_of text))) in
      let known : AreAmong (object_ids (Some o)) q.ids = λ x l. elim (in-append x (scope_ids f.scope) (values_ids (map first_value (forms_of text))) l) [
        | inl k ↦ frame.scope_known x k
        | inr k ↦ absurd (first-none (forms_of text) x k)
      ] in
      let on = frame_on (grown-goes h) frame in
      record {
        pairs = grown h;
        goes_on = grown-goes h;
        value = nothing_same;
        frame = record {
          nums = on.nums;
          refs = on.refs;
          scope = ap Some (sym (new-last h));
          scope_known = λ x l. elim l [ inl e ↦ inl e | inr no_more ↦ absurd no_more ];
        };
        state = record {
          held = subst (λ x. IsSameHeld (grown h) (held.made o s.store.held) (held.made x t.store.held)) (sym also) (held-made h o known);
          events = state.events;
          turns = state.turns;
          input = state.input;
        };
      };
}

back_in-same : (p : Pairing) (scope other : Option ℕ) (x y : Outcome) → other ≡ option_map p.new scope → AreAmong (scope_ids scope) p.ids → SameOutcome p x y → SameOutcome p (back_in scope x) (back_in other y)
unfolding back_in
back_in-same p scope other (Value_is v f s) (Value_is w g t) e known h = record {
  pairs = h.pairs;
  goes_on = h.goes_on;
  value = h.value;
  frame = record {
    nums = h.frame.nums;
    refs = h.frame.refs;
    scope = e ∙ option-agrees p.new h.pairs.new scope (λ x l. sym (h.goes_on.new x (known x l)));
    scope_known = λ x l. h.goes_on.ids x (known x l);
  };
  state = h.state;
}
back_in-same p scope other (Ends d s) (Ends e t) is known h = h
back_in-same p scope other (Value_is v f s) (Ends d t) is known h = absurd h
back_in-same p scope other (Ends d s) (Value_is w g t) is known h = absurd h

back_to-same : {p : Pairing} (own other : Frame) (x y : Outcome) → IsSameFrame p own other → SameOutcome p x y → SameOutcome p (back_to own x) (back_to other y)
unfolding back_to
back_to-same own other (Value_is v f s) (Value_is w g t) frame h = record { pairs = h.pairs; goes_on = h.goes_on; value = h.value; frame = frame_on h.goes_on frame; state = h.state }
back_to-same own other (Ends d s) (Ends e t) frame h = h
back_to-same own other (Value_is v f s) (Ends d t) frame h = absurd h
back_to-same own other (Ends d s) (Value_is w g t) frame h = absurd h

pub same_scope : {p : Pairing} (scope : Option (List ℕ)) {m n : Meaning} → Same p m n → Same p (in_scope scope m) (in_scope scope n)
unfolding scoped
same_scope None h = h
same_scope (Some text) {m = m} {n = n} h = record {
  run = λ q f g s t go frame state.
      back_in-same q f.scope g.scope ((enter text >>= λ u. m) f s) ((enter text >>= λ u. n) g t) frame.scope frame.scope_known
      ((same_then {a = λ u. m} {b = λ u. n} (same_enter text) (same_next h)).run q f g s t go frame state);
}

pub same_in_frame : {p : Pairing} (own other : Frame) {m n : Meaning} → IsSameFrame p own other → Same p m n → Same p (in_frame own m) (in_frame other n)
unfolding in_frame
same_in_frame own other {m = m} {n = n} inner h = record {
  run = λ q f g s t go frame state. back_to-same f g (m own s) (n other t) frame (h.run q own other s t go (frame_on go inner) state);
}

-- Calls of the library.

answered-same : {q : Pairing} (line : Line) (f g : Frame) (s t : State) (x y : Attempt calls.Answer) → IsSameFrame q f g → IsSameState q s t → AreBoth (IsSameAnswer q) x y
    → SameOutcome q (attempt line x put_answer f s) (attempt line y put_answer g t)
unfolding attempt put_answer stop
answered-same line f g s t (Yields x) (Yields y) frame state h = record {
  pairs = h.pairs;
  goes_on = h.goes_on;
  value = record { is = h.value; known = h.denoted };
  frame = frame_on h.goes_on frame;
  state = record { held = h.held; events = same_append s.events t.events x.events y.events state.events h.events; turns = state.turns; input = state.input };
}
answered-same {q = q} line f g s t (Fails u) (Fails w) frame state h = record { pairs = q; goes_on = goes_same q; end_is = ap (λ x. Trapped x line) h; state = state }
answered-same line f g s t (Yields x) (Fails w) frame state h = absurd h
answered-same line f g s t (Fails u) (Yields y) frame state h = absurd h

pub same_answered : {p : Pairing} (line : Line) (call also : Held → Attempt calls.Answer)
    → ((q : Pairing) (a b : Held) → GoesOn p q → IsSameHeld q a b → AreBoth (IsSameAnswer q) (call a) (also b)) → Same p (answered line call) (answered line also)
unfolding answered
same_answered line call also c = record {
  run = λ q f g s t go frame state. answered-same line f g s t (call s.store.held) (also t.store.held) frame state (c q s.store.held t.store.held go state.held);
}
