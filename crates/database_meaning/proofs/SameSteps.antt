-- What clauses are made of does the same but for ids.
use Rattle.std.proofs.Common.{Bool, true, false, inl, inr, ◌≡◌, ℕ, ℤ, List, [], ◌∷◌, map, length, set, refl, sym, ap, ◌∙◌, subst, Option, Some, None, if◌then◌else◌}
use Rattle.std.specs.Option.{option_map}
use Rattle.std.proofs.lemmas.List.{length-map}
use Rattle.reaching.specs.Reaching.{IsIn}
use Rattle.reaching.proofs.Lists.{in-append}
use Rattle.ps_heap.specs.ps_base.declared.line.Line.{Line}
use Rattle.ps_heap.specs.ps_base.declared.trap.Trap.TheVariants as trap
use Rattle.ps_heap.specs.Operators.{Answer, Gives, Traps}
use Rattle.ps_heap.specs.Ends.{End, Trapped}
use Rattle.ps_heap.specs.Values.{Value, Num, Flag, Text, Nil, Pointer, Vector, Procedure, Nothing, word_of, flag_of, is_one}
use Rattle.ps_heap.specs.Texts.{Attempt, Yields, Fails, is_same_text}
use Rattle.ps_heap.specs.Objects.{Heap, Object, Structure, Elements, Scope, Keyed, object_at, value_at, is_of, fields_in, field_of, with_field, vector_in, low_in, elements_in, type_in, element_of, place_of, found_at, put_at, with_element, id_of}
use Rattle.ps_heap.specs.References.{scope_ids, value_ids, values_ids, object_ids, next_in}
use Rattle.ps_heap.specs.Held.{Held, counting, noted, with_object, new_id, touching, reading, denoted, way_out, reading_name, places_with_name, assigned_name, assigning, element_place, place_or_first}
use Rattle.ps_heap.specs.Held as held
use Rattle.ps_meaning.specs.Meaning.{Frame, State, Outcome, Value_is, Ends, Meaning, give, stop, after, ◌>>=◌, choose, answer, attempt, change, touch, touch_scope, read}
use Rattle.database_meaning.specs.Same.{renamed_value, renamed}
use Rattle.database_meaning.specs.SameRuns.{Pairing, AreAmong, GoesOn, IsSameHeld, AreBoth}
use Rattle.database_meaning.specs.SamePrograms.{IsSameValue, IsSameFrame, IsSameState}
use Rattle.database_meaning.proofs.KeptLaws.{set-ids}
use Rattle.database_meaning.proofs.RenamedObjects.{value-agrees, option-agrees}
use Rattle.database_meaning.proofs.GrownPairs.{goes_same}
use Rattle.database_meaning.proofs.SameTouches.{touching-same}
use Rattle.database_meaning.proofs.SamePlaces.{changed-same, noted-same, set-map}
use Rattle.database_meaning.proofs.SameCalls.{argument, argument-in, word-renamed}

-- What goes together goes on.

pub goes_then : {p q r : Pairing} → GoesOn p q → GoesOn q r → GoesOn p r
goes_then g h = record { ids = λ x l. h.ids x (g.ids x l); new = λ x l. h.new x (g.ids x l) ∙ g.new x l }

pub value_on : {p q : Pairing} (v w : Value) → GoesOn p q → IsSameValue p v w → IsSameValue q v w
value_on {p = p} {q = q} v w go is = record { is = is.is ∙ value-agrees p.new q.new v (λ x l. sym (go.new x (is.known x l))); known = λ x l. go.ids x (is.known x l) }

pub frame_on : {p q : Pairing} {f g : Frame} → GoesOn p q → IsSameFrame p f g → IsSameFrame q f g
frame_on {p = p} {q = q} {f = f} {g = g} go h = record {
  nums = λ slot. value_on (f.nums slot) (g.nums slot) go (h.nums slot);
  refs = λ slot. value_on (f.refs slot) (g.refs slot) go (h.refs slot);
  scope = h.scope ∙ option-agrees p.new q.new f.scope (λ x l. sym (go.new x (h.scope_known x l)));
  scope_known = λ x l. go.ids x (h.scope_known x l);
}

-- values that go together, one after the other
pub record AreSameValues (p : Pairing) (vs ws : List Value) : Type 0 where
  pub are : ws ≡ map (renamed_value p.new) vs
  pub known : AreAmong (values_ids vs) p.ids

pub no_values : {p : Pairing} → AreSameValues p [] []
no_values = record { are = refl; known = λ x l. absurd l }

pub and_value : {p : Pairing} (v w : Value) (vs ws : List Value) → IsSameValue p v w → AreSameValues p vs ws → AreSameValues p (v ∷ vs) (w ∷ ws)
and_value {p = p} v w vs ws is are = record {
  are = ap (λ x. x ∷ ws) is.is ∙ ap (λ xs. renamed_value p.new v ∷ xs) are.are;
  known = λ x l. elim (in-append x (value_ids v) (values_ids vs) l) [ inl a ↦ is.known x a | inr b ↦ are.known x b ];
}

pub plain_value : {p : Pairing} (v : Value) → renamed_value p.new v ≡ v → AreAmong (value_ids v) p.ids → IsSameValue p v v
plain_value v is known = record { is = sym is; known = known }

-- Outcomes.

pub record SameGiven (p : Pairing) (v : Value) (f : Frame) (s : State) (w : Value) (g : Frame) (t : State) : Type 0 where
  pub pairs : Pairing
  pub goes_on : GoesOn p pairs
  pub value : IsSameValue pairs v w
  pub frame : IsSameFrame pairs f g
  pub state : IsSameState pairs s t

pub record SameEnd (p : Pairing) (e : End) (s : State) (d : End) (t : State) : Type 0 where
  pub pairs : Pairing
  pub goes_on : GoesOn p pairs
  pub end_is : d ≡ e
  pub state : IsSameState pairs s t

abbrev pub SameOutcome : Pairing → Outcome → Outcome → Type 0
SameOutcome p (Value_is v f s) (Value_is w g t) = SameGiven p v f s w g t
SameOutcome p (Ends e s) (Ends d t) = SameEnd p e s d t
SameOutcome p x y = ⊥

-- two meanings, of which the values that they know go together
pub record Same (p : Pairing) (m n : Meaning) : Type 0 where
  pub run : (q : Pairing) (f g : Frame) (s t : State) → GoesOn p q → IsSameFrame q f g → IsSameState q s t → SameOutcome q (m f s) (n g t)

outcome_from : {p q : Pairing} (x y : Outcome) → GoesOn p q → SameOutcome q x y → SameOutcome p x y
outcome_from (Value_is v f s) (Value_is w g t) go h = record { pairs = h.pairs; goes_on = goes_then go h.goes_on; value = h.value; frame = h.frame; state = h.state }
outcome_from (Ends e s) (Ends d t) go h = record { pairs = h.pairs; goes_on = goes_then go h.goes_on; end_is = h.end_is; state = h.state }
outcome_from (Value_is v f s) (Ends d t) go h = absurd h
outcome_from (Ends e s) (Value_is w g t) go h = absurd h

pub same_on : {p q : Pairing} {m n : Meaning} → GoesOn p q → Same p m n → Same q m n
same_on go h = record { run = λ r f g s t on frame state. h.run r f g s t (goes_then go on) frame state }

-- what goes on with values that go together
pub record SameNext (p : Pairing) (a b : Value → Meaning) : Type 0 where
  pub goes : (q : Pairing) (v w : Value) → GoesOn p q → IsSameValue q v w → Same q (a v) (b w)

same_after : {p q : Pairing} (x y : Outcome) (a b : Value → Meaning) → GoesOn p q → SameOutcome q x y → SameNext p a b → SameOutcome q (after x a) (after y b)
unfolding after
same_after (Value_is v f s) (Value_is w g t) a b go h k =
    outcome_from (a v f s) (b w g t) h.goes_on ((k.goes h.pairs v w (goes_then go h.goes_on) h.value).run h.pairs f g s t (goes_same h.pairs) h.frame h.state)
same_after (Ends e s) (Ends d t) a b go h k = h
same_after (Value_is v f s) (Ends d t) a b go h k = absurd h
same_after (Ends e s) (Value_is w g t) a b go h k = absurd h

pub same_then : {p : Pairing} {m n : Meaning} {a b : Value → Meaning} → Same p m n → SameNext p a b → Same p (m >>= a) (n >>= b)
unfolding ◌>>=◌
same_then {m = m} {n = n} {a = a} {b = b} h k = record { run = λ q f g s t go frame state. same_after (m f s) (n g t) a b go (h.run q f g s t go frame state) k }

pub same_next : {p : Pairing} {m n : Meaning} → Same p m n → SameNext p (λ u. m) (λ u. n)
same_next h = record { goes = λ q v w go is. same_on go h }

pub same_give : {p : Pairing} (v w : Value) → IsSameValue p v w → Same p (give v) (give w)
unfolding give
same_give v w is = record { run = λ q f g s t go frame state. record { pairs = q; goes_on = goes_same q; value = value_on v w go is; frame = frame; state = state } }

pub same_stop : {p : Pairing} (e : End) → Same p (stop e) (stop e)
unfolding stop
same_stop e = record { run = λ q f g s t go frame state. record { pairs = q; goes_on = goes_same q; end_is = refl; state = state } }

pub same_choose : {p : Pairing} (b : Bool) {x y u w : Meaning} → Same p x u → Same p y w → Same p (choose b x y) (choose b u w)
unfolding choose
same_choose true h k = h
same_choose false h k = k

pub flag_same : {p : Pairing} (v w : Value) → IsSameValue p v w → flag_of w ≡ flag_of v
flag_same {p = p} v w is = ap is_one (ap word_of is.is ∙ word-renamed p.new v)

pub word_same : {p : Pairing} (v w : Value) → IsSameValue p v w → word_of w ≡ word_of v
word_same {p = p} v w is = ap word_of is.is ∙ word-renamed p.new v

-- a choice by a flag that goes together
pub same_choice : {p : Pairing} (v w : Value) {x y u o : Meaning} → IsSameValue p v w → Same p x u → Same p y o → Same p (choose (flag_of v) x y) (choose (flag_of w) u o)
same_choice {p = p} v w {x = x} {y = y} {u = u} {o = o} is h k = subst (λ b. Same p (choose (flag_of v) x y) (choose b u o)) (sym (flag_same v w is)) (same_choose (flag_of v) h k)

pub number_same : {p : Pairing} (z : ℤ) → IsSameValue p (Num z) (Num z)
number_same z = plain_value (Num z) refl (λ x l. absurd l)

pub nothing_same : {p : Pairing} → IsSameValue p Nothing Nothing
nothing_same = plain_value Nothing refl (λ x l. absurd l)

pub same_answer : {p : Pairing} (line : Line) (a : Answer) → Same p (answer line a) (answer line a)
unfolding answer
same_answer line (Gives z) = same_give (Num z) (Num z) (number_same z)
same_answer line (Traps trap) = same_stop _

pub same_attempt : {A B : Type 0} {p : Pairing} (goes : A → B → Type 0) (line : Line) (x : Attempt A) (y : Attempt B) (a : A → Meaning) (b : B → Meaning) → AreBoth goes x y
    → ((i : A) (j : B) → goes i j → Same p (a i) (b j)) → Same p (attempt line x a) (attempt line y b)
unfolding attempt
same_attempt goes line (Yields i) (Yields j) a b h k = k i j h
same_attempt {p = p} goes line (Fails u) (Fails w) a b h k = subst (λ x. Same p (stop (Trapped u line)) (stop (Trapped x line))) (sym h) (same_stop (Trapped u line))
same_attempt goes line (Yields i) (Fails w) a b h k = absurd h
same_attempt goes line (Fails u) (Yields j) a b h k = absurd h

pub same_self : {A : Type 0} {p : Pairing} (line : Line) (x : Attempt A) (a : A → Meaning) → ((i : A) → Same p (a i) (a i)) → Same p (attempt line x a) (attempt line x a)
unfolding attempt
same_self line (Yields i) a k = k i
same_self line (Fails u) a k = same_stop _

-- What changes what is held.

pub same_changed : {q : Pairing} {f g : Frame} {s t : State} (v w : Value) (does also : Held → Held) → IsSameFrame q f g → IsSameState q s t → IsSameValue q v w
    → IsSameHeld q (does s.store.held) (also t.store.held) → SameOutcome q (change v does f s) (change w also g t)
unfolding change
same_changed {q = q} v w does also frame state is h =
    record { pairs = q; goes_on = goes_same q; value = is; frame = frame; state = record { held = h; events = state.events; turns = state.turns; input = state.input } }

touch_known : {q : Pairing} {f g : Frame} {s t : State} (ids : List ℕ) → AreAmong ids q.ids → IsSameFrame q f g → IsSameState q s t → SameOutcome q (touch ids f s) (touch (map q.new ids) g t)
touch_known {q = q} ids known frame state = same_changed Nothing Nothing (touching ids) (touching (map q.new ids)) frame state nothing_same (touching-same state.held ids known)

pub same_touch_one : {p : Pairing} (id : ℕ) → IsIn id p.ids → Same p (touch (id ∷ [])) (touch (p.new id ∷ []))
same_touch_one {p = p} id known = record {
  run = λ q f g s t go frame state.
      subst (λ x. SameOutcome q (touch (id ∷ []) f s) (touch (x ∷ []) g t)) (go.new id known)
      (touch_known (id ∷ []) (λ x l. elim l [ inl e ↦ subst (λ k. IsIn k q.ids) (sym e) (go.ids id known) | inr no_more ↦ absurd no_more ]) frame state);
}

scope-ids-renamed : (f : ℕ → ℕ) (scope : Option ℕ) → scope_ids (option_map f scope) ≡ map f (scope_ids scope)
scope-ids-renamed f None = refl
scope-ids-renamed f (Some id) = refl

pub same_touch_scope : {p : Pairing} → Same p touch_scope touch_scope
same_touch_scope = record {
  run = λ q f g s t go frame state.
      subst (λ ids. SameOutcome q (touch (scope_ids f.scope) f s) (touch ids g t)) (sym (ap scope_ids frame.scope ∙ scope-ids-renamed q.new f.scope))
      (touch_known (scope_ids f.scope) frame.scope_known frame state);
}

pub denoted-renamed : (f : ℕ → ℕ) (v : Value) → denoted (renamed_value f v) ≡ map f (denoted v)
denoted-renamed f (Num z) = refl
denoted-renamed f (Flag b) = refl
denoted-renamed f (Text bytes) = refl
denoted-renamed f Nil = refl
denoted-renamed f (Pointer id) = refl
denoted-renamed f (Vector id) = refl
denoted-renamed f (Procedure does scope) = refl
denoted-renamed f Nothing = refl

pub denoted-in : (v : Value) (x : ℕ) → IsIn x (denoted v) → IsIn x (value_ids v)
denoted-in (Num z) x l = l
denoted-in (Flag b) x l = l
denoted-in (Text bytes) x l = l
denoted-in Nil x l = l
denoted-in (Pointer id) x l = l
denoted-in (Vector id) x l = l
denoted-in (Procedure does scope) x l = absurd l
denoted-in Nothing x l = l

pub same_read : {p : Pairing} (v w : Value) → IsSameValue p v w → Same p (read v) (read w)
same_read v w is = record {
  run = λ q f g s t go frame state.
      let now = value_on v w go is in
      same_changed v w (reading v) (reading w) frame state now
      (subst (λ ids. IsSameHeld q (reading v s.store.held) (touching ids t.store.held)) (sym (ap denoted now.is ∙ denoted-renamed q.new v))
      (touching-same state.held (denoted v) (λ x l. now.known x (denoted-in v x l))));
}

-- Objects that go together.

module _ {p : Pairing} {a b : Held} (s : IsSameHeld p a b) where
  pub object-known : (id : ℕ) → IsIn id p.ids → AreAmong (object_ids (object_at a.objects id)) p.ids
  unfolding next_in
  object-known id l = s.objects.closed id l

  -- a row of values, at a place
  pub at-same : (vs : List Value) (n : ℕ) → AreAmong (values_ids vs) p.ids → IsSameValue p (value_at vs n) (value_at (map (renamed_value p.new) vs) n)
  at-same vs n known = record { is = argument p.new vs n; known = λ x l. known x (argument-in vs n x l) }

  pub field-same : (v : Value) (class : List ℕ) (n : ℕ) → AreAmong (value_ids v) p.ids → AreBoth (IsSameValue p) (field_of a.objects v class n) (field_of b.objects (renamed_value p.new v) class n)
  unfolding field_of
  field-same (Pointer id) class n known =
      subst (λ o. AreBoth (IsSameValue p) (if is_of (object_at a.objects id) class then Yields (value_at (fields_in (object_at a.objects id)) n) else Fails trap.WrongClass)
      (if is_of o class then Yields (value_at (fields_in o) n) else Fails trap.WrongClass)) (sym (s.objects.same id (known id (inl refl))))
      (go (object_at a.objects id) (object-known id (known id (inl refl))))
    where
      test : (text : List ℕ) (fields : List Value) (r : Bool) → AreAmong (values_ids fields) p.ids → AreBoth (IsSameValue p) (if r then Yields (value_at fields n) else Fails trap.WrongClass)
          (if r then Yields (value_at (map (renamed_value p.new) fields) n) else Fails trap.WrongClass)
      test text fields true l = at-same fields n l
      test text fields false l = refl

      go : (o : Option Object) → AreAmong (object_ids o) p.ids → AreBoth (IsSameValue p) (if is_of o class then Yields (value_at (fields_in o) n) else Fails trap.WrongClass)
          (if is_of (option_map (renamed p.new) o) class then Yields (value_at (fields_in (option_map (renamed p.new) o)) n) else Fails trap.WrongClass)
      go None l = refl
      go (Some (Structure text fields)) l = test text fields (is_same_text text class) l
      go (Some (Elements ty first elements)) l = refl
      go (Some (Scope text parent names)) l = refl
      go (Some (Keyed table)) l = refl
  field-same Nil class n known = refl
  field-same (Num z) class n known = refl
  field-same (Flag f) class n known = refl
  field-same (Text bytes) class n known = refl
  field-same (Vector id) class n known = refl
  field-same (Procedure does scope) class n known = refl
  field-same Nothing class n known = refl

  -- heaps in which one place was assigned
  abbrev pub AssignedSame : held.Place → held.Place → Heap → Heap → Type 0
  AssignedSame place also x y = IsSameHeld p (noted place (record a { objects = x })) (noted also (record b { objects = y }))

  pub set-known : (vs : List Value) (n : ℕ) (v : Value) → AreAmong (values_ids vs) p.ids → AreAmong (value_ids v) p.ids → AreAmong (values_ids (set vs n v)) p.ids
  set-known vs n v known also x l = elim (set-ids vs n v x l) [ inl was ↦ known x was | inr new ↦ also x new ]

  pub set_field-same : (o v : Value) (class : List ℕ) (n : ℕ) → AreAmong (value_ids o) p.ids → AreAmong (value_ids v) p.ids
      → AreBoth (AssignedSame (held.Part (id_of o) n) (held.Part (id_of (renamed_value p.new o)) n)) (with_field a.objects o class n v) (with_field b.objects (renamed_value p.new o) class n (renamed_value p.new v))
  unfolding with_field
  set_field-same (Pointer id) v class n known also =
      subst (λ o. AreBoth (AssignedSame (held.Part id n) (held.Part (p.new id) n)) (if is_of (object_at a.objects id) class then Yields (set a.objects id (Structure class (set (fields_in (object_at a.objects id)) n v))) else Fails trap.WrongClass)
      (if is_of o class then Yields (set b.objects (p.new id) (Structure class (set (fields_in o) n (renamed_value p.new v)))) else Fails trap.WrongClass)) (sym (s.objects.same id here))
      (go (object_at a.objects id) (object-known id here))
    where
      here : IsIn id p.ids
      here = known id (inl refl)

      test : (text : List ℕ) (fields : List Value) (r : Bool) → AreAmong (values_ids fields) p.ids
          → AreBoth (AssignedSame (held.Part id n) (held.Part (p.new id) n)) (if r then Yields (set a.objects id (Structure class (set fields n v))) else Fails trap.WrongClass)
          (if r then Yields (set b.objects (p.new id) (Structure class (set (map (renamed_value p.new) fields) n (renamed_value p.new v)))) else Fails trap.WrongClass)
      test text fields false l = refl
      test text fields true l =
          subst (λ vs. AssignedSame (held.Part id n) (held.Part (p.new id) n) (set a.objects id (Structure class (set fields n v))) (set b.objects (p.new id) (Structure class vs))) (sym (set-map p.new fields n v))
          (noted-same (changed-same s id (known id (inl refl)) (Structure class (set fields n v)) (set-known fields n v l also)) (held.Part id n) (known id (inl refl)))

      go : (o : Option Object) → AreAmong (object_ids o) p.ids
          → AreBoth (AssignedSame (held.Part id n) (held.Part (p.new id) n)) (if is_of o class then Yields (set a.objects id (Structure class (set (fields_in o) n v))) else Fails trap.WrongClass)
          (if is_of (option_map (renamed p.new) o) class then Yields (set b.objects (p.new id) (Structure class (set (fields_in (option_map (renamed p.new) o)) n (renamed_value p.new v)))) else Fails trap.WrongClass)
      go None l = refl
      go (Some (Structure text fields)) l = test text fields (is_same_text text class) l
      go (Some (Elements ty first elements)) l = refl
      go (Some (Scope text parent names)) l = refl
      go (Some (Keyed table)) l = refl
  set_field-same Nil v class n known also = refl
  set_field-same (Num z) v class n known also = refl
  set_field-same (Flag f) v class n known also = refl
  set_field-same (Text bytes) v class n known also = refl
  set_field-same (Vector id) v class n known also = refl
  set_field-same (Procedure does scope) v class n known also = refl
  set_field-same Nothing v class n known also = refl

  pub vector-same : (v : Value) → AreAmong (value_ids v) p.ids → vector_in b.objects (renamed_value p.new v) ≡ option_map (renamed p.new) (vector_in a.objects v)
  vector-same (Vector id) known = s.objects.same id (known id (inl refl))
  vector-same Nil known = refl
  vector-same (Num z) known = refl
  vector-same (Flag f) known = refl
  vector-same (Text bytes) known = refl
  vector-same (Pointer id) known = refl
  vector-same (Procedure does scope) known = refl
  vector-same Nothing known = refl

  vector-known : (v : Value) → AreAmong (value_ids v) p.ids → AreAmong (object_ids (vector_in a.objects v)) p.ids
  vector-known (Vector id) known = object-known id (known id (inl refl))
  vector-known Nil known = (λ x l. absurd l)
  vector-known (Num z) known = (λ x l. absurd l)
  vector-known (Flag f) known = (λ x l. absurd l)
  vector-known (Text bytes) known = (λ x l. absurd l)
  vector-known (Pointer id) known = (λ x l. absurd l)
  vector-known (Procedure does scope) known = (λ x l. absurd l)
  vector-known Nothing known = (λ x l. absurd l)

pub low-renamed : (f : ℕ → ℕ) (o : Option Object) → low_in (option_map (renamed f) o) ≡ low_in o
low-renamed f None = refl
low-renamed f (Some (Structure text fields)) = refl
low-renamed f (Some (Elements ty first elements)) = refl
low-renamed f (Some (Scope text parent names)) = refl
low-renamed f (Some (Keyed table)) = refl

pub type-renamed : (f : ℕ → ℕ) (o : Option Object) → type_in (option_map (renamed f) o) ≡ type_in o
type-renamed f None = refl
type-renamed f (Some (Structure text fields)) = refl
type-renamed f (Some (Elements ty first elements)) = refl
type-renamed f (Some (Scope text parent names)) = refl
type-renamed f (Some (Keyed table)) = refl

pub elements-renamed : (f : ℕ → ℕ) (o : Option Object) → elements_in (option_map (renamed f) o) ≡ map (renamed_value f) (elements_in o)
elements-renamed f None = refl
elements-renamed f (Some (Structure text fields)) = refl
elements-renamed f (Some (Elements ty first elements)) = refl
elements-renamed f (Some (Scope text parent names)) = refl
elements-renamed f (Some (Keyed table)) = refl

many-renamed : (f : ℕ → ℕ) (o : Option Object) → length (elements_in (option_map (renamed f) o)) ≡ length (elements_in o)
many-renamed f o = ap length (elements-renamed f o) ∙ length-map (elements_in o) (renamed_value f)

-- the place of a subscript
place-renamed : (f : ℕ → ℕ) (o : Option Object) (at : ℤ) → place_of (low_in (option_map (renamed f) o)) (length (elements_in (option_map (renamed f) o))) at ≡ place_of (low_in o) (length (elements_in o)) at
place-renamed f o at =
    ap (λ low. place_of low (length (elements_in (option_map (renamed f) o))) at) (low-renamed f o) ∙ ap (λ n. place_of (low_in o) n at) (many-renamed f o)

elements-in : (o : Option Object) (x : ℕ) → IsIn x (values_ids (elements_in o)) → IsIn x (object_ids o)
elements-in None x l = l
elements-in (Some (Structure text fields)) x l = absurd l
elements-in (Some (Elements ty first elements)) x l = l
elements-in (Some (Scope text parent names)) x l = absurd l
elements-in (Some (Keyed table)) x l = absurd l

module _ {p : Pairing} {a b : Held} (s : IsSameHeld p a b) where
  pub element-same : (v : Value) (at : ℤ) → AreAmong (value_ids v) p.ids → AreBoth (IsSameValue p) (element_of a.objects v at) (element_of b.objects (renamed_value p.new v) at)
  unfolding element_of
  element-same v at known =
      subst (λ o. AreBoth (IsSameValue p) (element_of a.objects v at) (found_at (place_of (low_in o) (length (elements_in o)) at) (elements_in o))) (sym (vector-same s v known))
      (subst (λ place. AreBoth (IsSameValue p) (element_of a.objects v at) (found_at place (elements_in (option_map (renamed p.new) (vector_in a.objects v))))) (sym (place-renamed p.new (vector_in a.objects v) at))
      (subst (λ vs. AreBoth (IsSameValue p) (element_of a.objects v at) (found_at (place_of (low_in (vector_in a.objects v)) (length (elements_in (vector_in a.objects v))) at) vs)) (sym (elements-renamed p.new (vector_in a.objects v)))
      (go (place_of (low_in (vector_in a.objects v)) (length (elements_in (vector_in a.objects v))) at))))
    where
      go : (place : Option ℕ) → AreBoth (IsSameValue p) (found_at place (elements_in (vector_in a.objects v))) (found_at place (map (renamed_value p.new) (elements_in (vector_in a.objects v))))
      go None = refl
      go (Some n) = at-same s (elements_in (vector_in a.objects v)) n (λ x l. vector-known s v known x (elements-in (vector_in a.objects v) x l))

  put-same : (id : ℕ) (place : Option ℕ) (e : Value) → IsIn id p.ids → AreAmong (value_ids e) p.ids
      → AreBoth (AssignedSame s (held.Part id (place_or_first place)) (held.Part (p.new id) (place_or_first place))) (put_at a.objects (Vector id) place e) (put_at b.objects (Vector (p.new id)) place (renamed_value p.new e))
  put-same id None e here also = refl
  put-same id (Some n) e here also =
      let o = object_at a.objects id in
      let new : Object = Elements (type_in o) (low_in o) (set (elements_in o) n e) in
      let done = noted-same (changed-same s id here new (set-known s (elements_in o) n e (λ x l. object-known s id here x (elements-in o x l)) also)) (held.Part id n) here in
      subst (λ q. AssignedSame s (held.Part id n) (held.Part (p.new id) n) (set a.objects id new) (set b.objects (p.new id) (Elements (type_in q) (low_in q) (set (elements_in q) n (renamed_value p.new e))))) (sym (s.objects.same id here))
      (subst (λ ty. AssignedSame s (held.Part id n) (held.Part (p.new id) n) (set a.objects id new) (set b.objects (p.new id) (Elements ty (low_in (option_map (renamed p.new) o)) (set (elements_in (option_map (renamed p.new) o)) n (renamed_value p.new e))))) (sym (type-renamed p.new o))
      (subst (λ low. AssignedSame s (held.Part id n) (held.Part (p.new id) n) (set a.objects id new) (set b.objects (p.new id) (Elements (type_in o) low (set (elements_in (option_map (renamed p.new) o)) n (renamed_value p.new e))))) (sym (low-renamed p.new o))
      (subst (λ vs. AssignedSame s (held.Part id n) (held.Part (p.new id) n) (set a.objects id new) (set b.objects (p.new id) (Elements (type_in o) (low_in o) vs))) (sym (ap (λ vs. set vs n (renamed_value p.new e)) (elements-renamed p.new o) ∙ set-map p.new (elements_in o) n e)) done)))

  pub set_element-same : (v : Value) (at : ℤ) (e : Value) → AreAmong (value_ids v) p.ids → AreAmong (value_ids e) p.ids
      → AreBoth (AssignedSame s (element_place a.objects v at) (element_place b.objects (renamed_value p.new v) at)) (with_element a.objects v at e) (with_element b.objects (renamed_value p.new v) at (renamed_value p.new e))
  unfolding with_element
  set_element-same v at e known also =
      subst (λ o. AreBoth (AssignedSame s (element_place a.objects v at) (held.Part (id_of (renamed_value p.new v)) (place_or_first (place_of (low_in o) (length (elements_in o)) at)))) (with_element a.objects v at e)
      (put_at b.objects (renamed_value p.new v) (place_of (low_in o) (length (elements_in o)) at) (renamed_value p.new e)))
      (sym (vector-same s v known))
      (subst (λ place. AreBoth (AssignedSame s (element_place a.objects v at) (held.Part (id_of (renamed_value p.new v)) (place_or_first place))) (with_element a.objects v at e) (put_at b.objects (renamed_value p.new v) place (renamed_value p.new e)))
      (sym (place-renamed p.new (vector_in a.objects v) at)) (go v known (place_of (low_in (vector_in a.objects v)) (length (elements_in (vector_in a.objects v))) at)))
    where
      go : (w : Value) → AreAmong (value_ids w) p.ids → (place : Option ℕ)
          → AreBoth (AssignedSame s (held.Part (id_of w) (place_or_first place)) (held.Part (id_of (renamed_value p.new w)) (place_or_first place))) (put_at a.objects w place e) (put_at b.objects (renamed_value p.new w) place (renamed_value p.new e))
      go (Vector id) l place = put-same id place e (l id (inl refl)) also
      go Nil l place = refl
      go (Num z) l place = refl
      go (Flag f) l place = refl
      go (Text bytes) l place = refl
      go (Pointer id) l place = refl
      go (Procedure does scope) l place = refl
      go Nothing l place = refl
