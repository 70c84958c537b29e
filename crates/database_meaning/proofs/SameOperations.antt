-- What clauses do to structures, vectors, texts and values is the same but for ids.
use Rattle.std.proofs.Common.{Bool, true, false, inl, inr, ◌≡◌, ℕ, zero, suc, ℤ, pos, ◌+ℤ◌, ◌-ℤ◌, List, [], ◌∷◌, map, length, replicate, refl, sym, ap, ◌∙◌, subst, Option, Some, None, if◌then◌else◌}
use Rattle.std.specs.Prelude.{not}
use Rattle.std.specs.Option.{option_map}
use Rattle.std.specs.Fmt.{signed_decimal}
use Rattle.std.proofs.lemmas.List.{length-map}
use Rattle.reaching.specs.Reaching.{IsIn}
use Rattle.reaching.proofs.Lists.{in-append, in-front, in-behind}
use Rattle.ps_heap.specs.text_forms.declared.forms.Form.{Form}
use Rattle.ps_heap.specs.text_forms.Forms.{forms_of, form_in, element_of}
use Rattle.ps_heap.specs.ps_base.TyView.{TyView}
use Rattle.ps_heap.specs.ps_base.TyView as types
use Rattle.ps_heap.specs.ps_base.declared.line.Line.{Line}
use Rattle.ps_heap.specs.ps_base.declared.operator.Relation.{Relation}
use Rattle.ps_heap.specs.ps_base.declared.operator.Relation.TheVariants.{Equal as IsEqual, NotEqual}
use Rattle.ps_heap.specs.Operators.{relation_of}
use Rattle.ps_heap.specs.Ends.{Trapped}
use Rattle.ps_heap.specs.Values.{Flag, Value, Num, Text, Nil, Pointer, Vector, Procedure, Nothing, word_of, flag_text, bytes_of, shown}
use Rattle.ps_heap.specs.Texts.{Attempt, Yields, Fails}
use Rattle.ps_heap.specs.Objects.{Heap, Object, Structure, Elements, Scope, Keyed, object_at, kept_as, is_of, is_class, field_of, with_field, element_of as element_at, with_element, vector_of, filled_vector, count_from, is_made, is_vector, vector_in, low_in, elements_in, type_in, is_one_object, id_of, low_of, high_of}
use Rattle.ps_heap.specs.References.{value_ids, values_ids}
use Rattle.ps_heap.specs.Held.{Held, Reply, StoredHeap, element_place, assigning}
use Rattle.ps_heap.specs.Held as held
use Rattle.ps_meaning.specs.Meaning.{Frame, State, Meaning, give, stop, choose, attempt, with_heap, assign, made, read}
use Rattle.ps_meaning.specs.Operations.{compares, text_relation, object_relation, is_equal, kept_all, kept_elements, make_meant, elements_meant, fill_meant, field_meant, set_field_meant, element_meant, set_element_meant, bound_meant}
use Rattle.database_meaning.specs.Same.{renamed_value, renamed}
use Rattle.database_meaning.specs.SameRuns.{Pairing, AreAmong, GoesOn, IsSameHeld, AreBoth}
use Rattle.database_meaning.specs.SamePrograms.{IsSameValue, IsSameFrame, IsSameState}
use Rattle.database_meaning.proofs.GrownPairs.{goes_same}
use Rattle.database_meaning.proofs.SameTouches.{same-id}
use Rattle.database_meaning.proofs.SameCalls.{bytes-renamed, word-renamed}
use Rattle.database_meaning.proofs.SameSteps.{value_on, AreSameValues, SameOutcome, Same, same_give, same_stop, same_choose, flag_same, word_same, nothing_same, same_attempt, same_changed, same_read, field-same, set_field-same, AssignedSame, vector-same, element-same, set_element-same, low-renamed, type-renamed, elements-renamed}
use Rattle.database_meaning.proofs.SameMeanings.{kept-renamed, kept-in, Denotes, same_made}

-- Values by their numbers, texts and objects.

pub bytes_same : {p : Pairing} (v w : Value) → IsSameValue p v w → bytes_of w ≡ bytes_of v
bytes_same {p = p} v w is = ap bytes_of is.is ∙ bytes-renamed p.new v

pub shown_same : {p : Pairing} (ty : TyView) (v w : Value) → IsSameValue p v w → shown ty w ≡ shown ty v
shown_same types.Int v w is = ap signed_decimal (word_same v w is)
shown_same types.Bool v w is = ap flag_text (flag_same v w is)
shown_same other v w is = bytes_same v w is

module _ {p : Pairing} {a b : Held} (s : IsSameHeld p a b) where
  nil-one : (w : Value) → is_one_object Nil (renamed_value p.new w) ≡ is_one_object Nil w
  unfolding is_one_object
  nil-one Nil = refl
  nil-one other = refl

  pointer-one : (x : ℕ) → IsIn x p.ids → (w : Value) → AreAmong (value_ids w) p.ids → is_one_object (Pointer (p.new x)) (renamed_value p.new w) ≡ is_one_object (Pointer x) w
  unfolding is_one_object
  pointer-one x l (Pointer y) known = same-id s x y l (known y (inl refl))
  pointer-one x l other known = refl

  vector-one : (x : ℕ) → IsIn x p.ids → (w : Value) → AreAmong (value_ids w) p.ids → is_one_object (Vector (p.new x)) (renamed_value p.new w) ≡ is_one_object (Vector x) w
  unfolding is_one_object
  vector-one x l (Vector y) known = same-id s x y l (known y (inl refl))
  vector-one x l other known = refl

  one-same : (v w : Value) → AreAmong (value_ids v) p.ids → AreAmong (value_ids w) p.ids → is_one_object (renamed_value p.new v) (renamed_value p.new w) ≡ is_one_object v w
  unfolding is_one_object
  one-same Nil w known also = nil-one w
  one-same (Pointer x) w known also = pointer-one x (known x (inl refl)) w also
  one-same (Vector x) w known also = vector-one x (known x (inl refl)) w also
  one-same (Num z) w known also = refl
  one-same (Flag f) w known also = refl
  one-same (Text bytes) w known also = refl
  one-same (Procedure does scope) w known also = refl
  one-same Nothing w known also = refl

  objects-same : (op : Relation) (v w : Value) → AreAmong (value_ids v) p.ids → AreAmong (value_ids w) p.ids → object_relation op (renamed_value p.new v) (renamed_value p.new w) ≡ object_relation op v w
  objects-same NotEqual v w known also = ap not (one-same v w known also)
  objects-same other v w known also = one-same v w known also

  compares-same : (op : Relation) (ty : TyView) (v w : Value) → AreAmong (value_ids v) p.ids → AreAmong (value_ids w) p.ids → compares op ty (renamed_value p.new v) (renamed_value p.new w) ≡ compares op ty v w
  compares-same op types.Int v w known also = ap (λ z. relation_of op z (word_of (renamed_value p.new w))) (word-renamed p.new v) ∙ ap (relation_of op (word_of v)) (word-renamed p.new w)
  compares-same op types.Bool v w known also = ap (λ z. relation_of op z (word_of (renamed_value p.new w))) (word-renamed p.new v) ∙ ap (relation_of op (word_of v)) (word-renamed p.new w)
  compares-same op types.Str v w known also = ap (λ z. text_relation op z (bytes_of (renamed_value p.new w))) (bytes-renamed p.new v) ∙ ap (text_relation op (bytes_of v)) (bytes-renamed p.new w)
  compares-same op other v w known also = objects-same op v w known also

-- the same, of values that went together before
compared : {p q : Pairing} {a b : Held} (op : Relation) (ty : TyView) (v w x y : Value) → GoesOn p q → IsSameHeld q a b → IsSameValue p v w → IsSameValue p x y → compares op ty w y ≡ compares op ty v x
compared op ty v w x y go s is also =
    let f = value_on v w go is in
    let g = value_on x y go also in
    ap (λ z. compares op ty z y) f.is ∙ (ap (compares op ty (renamed_value _ v)) g.is ∙ compares-same s op ty v x f.known g.known)

pub same_compare : {p : Pairing} (op : Relation) (ty : TyView) (v w x y : Value) → IsSameValue p v w → IsSameValue p x y → Same p (give (Flag (compares op ty v x))) (give (Flag (compares op ty w y)))
unfolding give
same_compare op ty v w x y is also = record {
  run = λ q f g s t go frame state. record {
    pairs = q;
    goes_on = goes_same q;
    value = record { is = ap Flag (compared op ty v w x y go state.held is also); known = λ i l. absurd l };
    frame = frame;
    state = state;
  };
}

pub same_equal : {p : Pairing} (ty : TyView) (v w x y : Value) {m n u o : Meaning} → IsSameValue p v w → IsSameValue p x y → Same p m u → Same p n o
    → Same p (choose (is_equal ty v x) m n) (choose (is_equal ty w y) u o)
same_equal ty v w x y {m = m} {n = n} {u = u} {o = o} is also h k = record {
  run = λ q f g s t go frame state.
      subst (λ c. SameOutcome q (choose (is_equal ty v x) m n f s) (choose c u o g t)) (sym (compared IsEqual ty v w x y go state.held is also))
      ((same_choose (is_equal ty v x) h k).run q f g s t go frame state);
}

-- What reads the heap.

-- with the heaps as they are
pub same_with_heap : {p : Pairing} (next also : Heap → Meaning) → ((q : Pairing) (a b : Held) → GoesOn p q → IsSameHeld q a b → Same q (next a.objects) (also b.objects)) → Same p (with_heap next) (with_heap also)
unfolding with_heap
same_with_heap next also h = record { run = λ q f g s t go frame state. (h q s.store.held t.store.held go state.held).run q f g s t (goes_same q) frame state }

is-renamed : (f : ℕ → ℕ) (o : Option Object) (class : List ℕ) → is_of (option_map (renamed f) o) class ≡ is_of o class
is-renamed f None class = refl
is-renamed f (Some (Structure text fields)) class = refl
is-renamed f (Some (Elements ty first elements)) class = refl
is-renamed f (Some (Scope text parent names)) class = refl
is-renamed f (Some (Keyed table)) class = refl

class-same : {p : Pairing} {a b : Held} (s : IsSameHeld p a b) (v : Value) (class : List ℕ) → AreAmong (value_ids v) p.ids → is_class b.objects (renamed_value p.new v) class ≡ is_class a.objects v class
unfolding is_class
class-same {p = p} {a = a} s (Pointer id) class known = ap (λ o. is_of o class) (s.objects.same id (known id (inl refl))) ∙ is-renamed p.new (object_at a.objects id) class
class-same s Nil class known = refl
class-same s (Num z) class known = refl
class-same s (Flag f) class known = refl
class-same s (Text bytes) class known = refl
class-same s (Vector id) class known = refl
class-same s (Procedure does scope) class known = refl
class-same s Nothing class known = refl

pub same_is : {p : Pairing} (class : List ℕ) (v w : Value) → IsSameValue p v w → Same p (with_heap (λ heap. give (Flag (is_class heap v class)))) (with_heap (λ heap. give (Flag (is_class heap w class))))
same_is class v w is = same_with_heap _ _ (λ q a b go s.
    let now = value_on v w go is in
    same_give _ _ (record { is = ap Flag (ap (λ x. is_class b.objects x class) now.is ∙ class-same s v class now.known); known = λ x l. absurd l }))

pub same_field : {p : Pairing} (line : Line) (class : List ℕ) (n : ℕ) (v w : Value) → IsSameValue p v w → Same p (field_meant line class n v) (field_meant line class n w)
same_field line class n v w is = same_with_heap _ _ (λ q a b go s.
    let now = value_on v w go is in
    same_attempt (IsSameValue q) line (field_of a.objects v class n) (field_of b.objects w class n) read read
    (subst (λ x. AreBoth (IsSameValue q) (field_of a.objects v class n) (field_of b.objects x class n)) (sym now.is) (field-same s v class n now.known)) (λ i j same. same_read i j same))

pub same_element : {p : Pairing} (line : Line) (v w x y : Value) → IsSameValue p v w → IsSameValue p x y → Same p (element_meant line v x) (element_meant line w y)
same_element line v w x y is also = same_with_heap _ _ (λ q a b go s.
    let now = value_on v w go is in
    subst (λ z. Same q (attempt line (element_at a.objects v (word_of x)) read) (attempt line (element_at b.objects w z) read)) (sym (word_same x y also))
    (same_attempt (IsSameValue q) line (element_at a.objects v (word_of x)) (element_at b.objects w (word_of x)) read read
    (subst (λ u. AreBoth (IsSameValue q) (element_at a.objects v (word_of x)) (element_at b.objects u (word_of x))) (sym now.is) (element-same s v (word_of x) now.known)) (λ i j same. same_read i j same)))

bound-same : {p : Pairing} {a b : Held} (s : IsSameHeld p a b) (upper : Bool) (v : Value) → AreAmong (value_ids v) p.ids
    → (if upper then high_of b.objects (renamed_value p.new v) else low_of b.objects (renamed_value p.new v)) ≡ (if upper then high_of a.objects v else low_of a.objects v)
unfolding low_of high_of
bound-same {p = p} {a = a} {b = b} s upper v known = go upper
  where
    low : low_in (vector_in b.objects (renamed_value p.new v)) ≡ low_in (vector_in a.objects v)
    low = ap low_in (vector-same s v known) ∙ low-renamed p.new (vector_in a.objects v)

    many : length (elements_in (vector_in b.objects (renamed_value p.new v))) ≡ length (elements_in (vector_in a.objects v))
    many = ap (λ o. length (elements_in o)) (vector-same s v known) ∙ (ap length (elements-renamed p.new (vector_in a.objects v)) ∙ length-map (elements_in (vector_in a.objects v)) (renamed_value p.new))

    go : (u : Bool) → (if u then low_in (vector_in b.objects (renamed_value p.new v)) +ℤ (pos (length (elements_in (vector_in b.objects (renamed_value p.new v)))) -ℤ pos 1) else low_in (vector_in b.objects (renamed_value p.new v)))
        ≡ (if u then low_in (vector_in a.objects v) +ℤ (pos (length (elements_in (vector_in a.objects v))) -ℤ pos 1) else low_in (vector_in a.objects v))
    go true = ap (λ z. z +ℤ (pos (length (elements_in (vector_in b.objects (renamed_value p.new v)))) -ℤ pos 1)) low ∙ ap (λ n. low_in (vector_in a.objects v) +ℤ (pos n -ℤ pos 1)) many
    go false = low

pub same_bound : {p : Pairing} (upper : Bool) (v w : Value) → IsSameValue p v w → Same p (bound_meant upper v) (bound_meant upper w)
same_bound upper v w is = same_with_heap _ _ (λ q a b go s.
    let now = value_on v w go is in
    same_give _ _ (record { is = ap Num (ap (λ x. if upper then high_of b.objects x else low_of b.objects x) now.is ∙ bound-same s upper v now.known); known = λ x l. absurd l }))

-- What writes the heap.

assigned-same-at : {q : Pairing} (line : Line) (place also : held.Place) (f g : Frame) (s t : State) (x y : Attempt Heap) → IsSameFrame q f g → (state : IsSameState q s t)
    → AreBoth (AssignedSame state.held place also) x y → SameOutcome q (attempt line x (assign place) f s) (attempt line y (assign also) g t)
unfolding attempt stop
assigned-same-at line place also f g s t (Yields x) (Yields y) frame state h = same_changed Nothing Nothing (assigning place x) (assigning also y) frame state nothing_same h
assigned-same-at {q = q} line place also f g s t (Fails u) (Fails w) frame state h = record { pairs = q; goes_on = goes_same q; end_is = ap (λ x. Trapped x line) h; state = state }
assigned-same-at line place also f g s t (Yields x) (Fails w) frame state h = absurd h
assigned-same-at line place also f g s t (Fails u) (Yields y) frame state h = absurd h

pub same_set_field : {p : Pairing} (line : Line) (class : List ℕ) (n : ℕ) (v w x y : Value) → IsSameValue p v w → IsSameValue p x y → Same p (set_field_meant line class n v x) (set_field_meant line class n w y)
unfolding with_heap
same_set_field line class n v w x y is also = record {
  run = λ q f g s t go frame state.
      let form = form_in (forms_of class) n in
      let o = value_on v w go is in
      let e = value_on x y go also in
      let kept : kept_as form y ≡ renamed_value q.new (kept_as form x) = ap (kept_as form) e.is ∙ kept-renamed q.new form x in
      let first = attempt line (with_field s.store.held.objects v class n (kept_as form x)) (assign (held.Part (id_of v) n)) f s in
      subst (λ k. SameOutcome q first (attempt line (with_field t.store.held.objects w class n k) (assign (held.Part (id_of w) n)) g t)) (sym kept)
      (subst (λ k. SameOutcome q first (attempt line (with_field t.store.held.objects k class n (renamed_value q.new (kept_as form x))) (assign (held.Part (id_of k) n)) g t)) (sym o.is)
      (assigned-same-at line (held.Part (id_of v) n) (held.Part (id_of (renamed_value q.new v)) n) f g s t _ _ frame state
      (set_field-same state.held v (kept_as form x) class n o.known (λ i l. e.known i (kept-in form x i l)))));
}

pub same_set_element : {p : Pairing} (line : Line) (v w x y d e : Value) → IsSameValue p v w → IsSameValue p x y → IsSameValue p d e → Same p (set_element_meant line v x d) (set_element_meant line w y e)
unfolding with_heap
same_set_element line v w x y d e is index also = record {
  run = λ q f g s t go frame state.
      let at = word_of x in
      let form = Some (element_of (type_in (vector_in s.store.held.objects v))) in
      let o = value_on v w go is in
      let i = value_on d e go also in
      let same_form : Some (element_of (type_in (vector_in t.store.held.objects w))) ≡ form
      = ap (λ k. Some (element_of (type_in (vector_in t.store.held.objects k)))) o.is
      ∙ ap (λ k. Some (element_of k)) (ap type_in (vector-same state.held v o.known) ∙ type-renamed q.new (vector_in s.store.held.objects v)) in
      let kept : kept_as (Some (element_of (type_in (vector_in t.store.held.objects w)))) e ≡ renamed_value q.new (kept_as form d)
      = ap (λ k. kept_as k e) same_form ∙ (ap (kept_as form) i.is ∙ kept-renamed q.new form d) in
      let first = attempt line (with_element s.store.held.objects v at (kept_as form d)) (assign (element_place s.store.held.objects v at)) f s in
      subst (λ z. SameOutcome q first (attempt line (with_element t.store.held.objects w z (kept_as (Some (element_of (type_in (vector_in t.store.held.objects w)))) e)) (assign (element_place t.store.held.objects w z)) g t))
      (sym (word_same x y index))
      (subst (λ k. SameOutcome q first (attempt line (with_element t.store.held.objects w at k) (assign (element_place t.store.held.objects w at)) g t)) (sym kept)
      (subst (λ k. SameOutcome q first (attempt line (with_element t.store.held.objects k at (renamed_value q.new (kept_as form d))) (assign (element_place t.store.held.objects k at)) g t)) (sym o.is)
      (assigned-same-at line (element_place s.store.held.objects v at) (element_place t.store.held.objects (renamed_value q.new v) at) f g s t _ _ frame state
      (set_element-same state.held v at (kept_as form d) o.known (λ j l. i.known j (kept-in form d j l))))));
}

-- What is made of values.

kept_all-renamed : (f : ℕ → ℕ) (forms : List Form) (vs : List Value) → kept_all forms (map (renamed_value f) vs) ≡ map (renamed_value f) (kept_all forms vs)
unfolding kept_all
kept_all-renamed f [] vs = refl
kept_all-renamed f (form ∷ forms) [] = refl
kept_all-renamed f (form ∷ forms) (v ∷ vs) =
    ap (λ x. x ∷ kept_all forms (map (renamed_value f) vs)) (kept-renamed f (Some form) v) ∙ ap (λ xs. renamed_value f (kept_as (Some form) v) ∷ xs) (kept_all-renamed f forms vs)

kept_all-in : (forms : List Form) (vs : List Value) (x : ℕ) → IsIn x (values_ids (kept_all forms vs)) → IsIn x (values_ids vs)
unfolding kept_all
kept_all-in [] vs x l = l
kept_all-in (form ∷ forms) [] x l = l
kept_all-in (form ∷ forms) (v ∷ vs) x l = elim (in-append x (value_ids (kept_as (Some form) v)) (values_ids (kept_all forms vs)) l) [
  | inl k ↦ in-front x (value_ids v) (values_ids vs) (kept-in (Some form) v x k)
  | inr k ↦ in-behind x (value_ids v) (values_ids vs) (kept_all-in forms vs x k)
]

elements-kept : (f : ℕ → ℕ) (text : List ℕ) (vs : List Value) → kept_elements text (map (renamed_value f) vs) ≡ map (renamed_value f) (kept_elements text vs)
elements-kept f text [] = refl
elements-kept f text (v ∷ vs) =
    ap (λ x. x ∷ kept_elements text (map (renamed_value f) vs)) (kept-renamed f (Some (element_of text)) v) ∙ ap (λ xs. renamed_value f (kept_as (Some (element_of text)) v) ∷ xs) (elements-kept f text vs)

kept_elements-in : (text : List ℕ) (vs : List Value) (x : ℕ) → IsIn x (values_ids (kept_elements text vs)) → IsIn x (values_ids vs)
kept_elements-in text [] x l = l
kept_elements-in text (v ∷ vs) x l = elim (in-append x (value_ids (kept_as (Some (element_of text)) v)) (values_ids (kept_elements text vs)) l) [
  | inl k ↦ in-front x (value_ids v) (values_ids vs) (kept-in (Some (element_of text)) v x k)
  | inr k ↦ in-behind x (value_ids v) (values_ids vs) (kept_elements-in text vs x k)
]

replicate-renamed : (f : ℕ → ℕ) (count : ℕ) (v : Value) → replicate count (renamed_value f v) ≡ map (renamed_value f) (replicate count v)
replicate-renamed f zero v = refl
replicate-renamed f (suc count) v = ap (λ vs. renamed_value f v ∷ vs) (replicate-renamed f count v)

replicate-in : (count : ℕ) (v : Value) (x : ℕ) → IsIn x (values_ids (replicate count v)) → IsIn x (value_ids v)
replicate-in zero v x l = absurd l
replicate-in (suc count) v x l = elim (in-append x (value_ids v) (values_ids (replicate count v)) l) [ inl k ↦ k | inr k ↦ replicate-in count v x k ]

points : Denotes Pointer
points = record { renames = λ f id. refl; ids = λ id. refl }

vectors : Denotes Vector
vectors = record { renames = λ f id. refl; ids = λ id. refl }

pub same_make : {p : Pairing} (class : List ℕ) (vs ws : List Value) → AreSameValues p vs ws → Same p (make_meant class vs) (make_meant class ws)
same_make {p = p} class vs ws are =
    same_made Pointer (Structure class (kept_all (forms_of class) vs)) (Structure class (kept_all (forms_of class) ws)) points
    (ap (Structure class) (ap (kept_all (forms_of class)) are.are ∙ kept_all-renamed p.new (forms_of class) vs)) (λ x l. are.known x (kept_all-in (forms_of class) vs x l))

-- a vector of elements that go together
vector_made : {p : Pairing} (line : Line) (text : List ℕ) (low : ℤ) (vs : List Value) → AreAmong (values_ids vs) p.ids
    → Same p (attempt line (vector_of text low vs) (made Vector)) (attempt line (vector_of text low (map (renamed_value p.new) vs)) (made Vector))
unfolding vector_of attempt
vector_made {p = p} line text low vs known =
    subst (λ n. Same p (attempt line (vector_of text low vs) (made Vector)) (attempt line (is_made (is_vector low n) (Elements text low (map (renamed_value p.new) vs))) (made Vector)))
    (sym (length-map vs (renamed_value p.new))) (go (is_vector low (length vs)))
  where
    go : (b : Bool) → Same p (attempt line (is_made b (Elements text low vs)) (made Vector)) (attempt line (is_made b (Elements text low (map (renamed_value p.new) vs))) (made Vector))
    go true = same_made Vector (Elements text low vs) (Elements text low (map (renamed_value p.new) vs)) vectors refl known
    go false = same_stop _

pub same_elements : {p : Pairing} (line : Line) (text : List ℕ) (v w : Value) (vs ws : List Value) → IsSameValue p v w → AreSameValues p vs ws → Same p (elements_meant line text v vs) (elements_meant line text w ws)
same_elements {p = p} line text v w vs ws is are =
    subst (λ z. Same p (elements_meant line text v vs) (attempt line (vector_of text z (kept_elements text ws)) (made Vector))) (sym (word_same v w is))
    (subst (λ xs. Same p (elements_meant line text v vs) (attempt line (vector_of text (word_of v) xs) (made Vector))) (sym (ap (kept_elements text) are.are ∙ elements-kept p.new text vs))
    (vector_made line text (word_of v) (kept_elements text vs) (λ x l. are.known x (kept_elements-in text vs x l))))

pub same_fill : {p : Pairing} (line : Line) (text : List ℕ) (v w x y d e : Value) → IsSameValue p v w → IsSameValue p x y → IsSameValue p d e → Same p (fill_meant line text v x d) (fill_meant line text w y e)
unfolding filled_vector
same_fill {p = p} line text v w x y d e is also last =
    let form = Some (element_of text) in
    let count = count_from (word_of x -ℤ word_of v) in
    let first = fill_meant line text v x d in
    subst (λ z. Same p first (attempt line (vector_of text z (replicate (count_from (word_of y -ℤ z)) (kept_as form e))) (made Vector))) (sym (word_same v w is))
    (subst (λ z. Same p first (attempt line (vector_of text (word_of v) (replicate (count_from (z -ℤ word_of v)) (kept_as form e))) (made Vector))) (sym (word_same x y also))
    (subst (λ xs. Same p first (attempt line (vector_of text (word_of v) xs) (made Vector)))
    (sym (ap (replicate count) (ap (kept_as form) last.is ∙ kept-renamed p.new form d) ∙ replicate-renamed p.new count (kept_as form d)))
    (vector_made line text (word_of v) (replicate count (kept_as form d)) (λ i l. last.known i (kept-in form d i (replicate-in count (kept_as form d) i l))))))
