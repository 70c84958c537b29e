-- The names in an object's row, and the ids that its values lead to.
use Rattle.std.proofs.Common.{inl, inr, ◌⊎◌, ◌≡◌, ℕ, List, [], ◌∷◌, ◌++◌, length, replicate, refl, sym, subst, Option, Some, None}
use Rattle.joint_ops.specs.heap_meaning.ps_base.CodeUnit.{UnitView}
use Rattle.joint_ops.specs.obj_layout.declared.kind.Kind.TheVariants as kind
use Rattle.joint_ops.specs.obj_layout.declared.reference.Reference.{Reference}
use Rattle.joint_ops.specs.obj_layout.declared.reference.Reference.TheVariants as name
use Rattle.joint_ops.specs.swizzle.Joint.{Shown}
use Rattle.joint_ops.specs.text_forms.declared.forms.Form.{Form}
use Rattle.joint_ops.specs.text_forms.declared.forms.Form.TheVariants as form
use Rattle.joint_ops.specs.text_forms.Forms.{forms_of, element_of}
use Rattle.joint_ops.specs.heap_places.Shapes.{IsText}
use Rattle.joint_ops.specs.ps_heap.Values.{Value, Num, Flag, Text, Nil, Pointer, Vector, Procedure, Nothing, as_written, as_compiled}
use Rattle.joint_ops.specs.ps_heap.Objects.{Object, Structure, Elements, Scope, Keyed}
use Rattle.joint_ops.specs.heap_meaning.Standing.{Seen, Pairing, IsKindOf, StandsForScope, IsClosure, StandsFor, IsWordOf, AreFor, IsAs, IsLike, IsPlain}
use Rattle.reaching.specs.Reaching.{IsIn}
use Rattle.reaching.proofs.Lists.{in-append, in-front, in-behind}
use Rattle.joint_ops.specs.ps_heap.References.{scope_ids, value_ids, values_ids}
use Rattle.joint_ops.specs.heap_meaning.node_rows.Nodes.{IsAmong}
use Rattle.joint_reach.proofs.SeenLaws.{ids_in}

-- a closure, and the ids that its scope leads to
pub record ClosureOf (seen : Seen) (pair : Pairing) (n : Reference) (ids : List ℕ) : Type 0 where
  pub it : Shown
  pub there : seen n it
  pub of : UnitView
  pub scope : Option ℕ
  pub is : IsClosure seen pair it of scope
  pub within : (j : ℕ) → IsIn j (scope_ids scope) → IsIn j ids

pub record ObjectOf (pair : Pairing) (n : Reference) (ids : List ℕ) : Type 0 where
  pub id : ℕ
  pub is : pair n id
  pub within : IsIn id ids

-- what a name of a row leads to: nothing, a text, an object with one of these ids, or a closure whose scope has one
pub data Means (seen : Seen) (pair : Pairing) (n : Reference) (ids : List ℕ) : Type 0 where
  to_none : (is : n ≡ name.Nil) → Means seen pair n ids
  to_text : (is : IsKindOf seen n kind.Text) → Means seen pair n ids
  to_object : (is : ObjectOf pair n ids) → Means seen pair n ids
  to_closure : (is : ClosureOf seen pair n ids) → Means seen pair n ids

means-more : (seen : Seen) (pair : Pairing) (n : Reference) (ids more : List ℕ) → ((j : ℕ) → IsIn j ids → IsIn j more) → Means seen pair n ids → Means seen pair n more
means-more seen pair n ids more w (to_none is) = to_none is
means-more seen pair n ids more w (to_text is) = to_text is
means-more seen pair n ids more w (to_object o) = to_object (record { id = o.id; is = o.is; within = w o.id o.within })
means-more seen pair n ids more w (to_closure c) = to_closure (record { it = c.it; there = c.there; of = c.of; scope = c.scope; is = c.is; within = λ j l. w j (c.within j l) })

text-means : (seen : Seen) (pair : Pairing) (n : Reference) (bytes ids : List ℕ) → IsText seen n bytes → Means seen pair n ids
text-means seen pair n bytes ids t = to_text (record { it = t.it; there = t.there; kind_is = t.kind })

value-means : (seen : Seen) (pair : Pairing) (n : Reference) (v : Value) → StandsFor seen pair n v → Means seen pair n (value_ids v)
value-means seen pair n Nil s = to_none s
value-means seen pair n (Text bytes) s = text-means seen pair n bytes [] s
value-means seen pair n (Pointer id) s = to_object (record { id = id; is = s.0; within = inl refl })
value-means seen pair n (Vector id) s = to_object (record { id = id; is = s.0; within = inl refl })
value-means seen pair n (Num z) s = absurd s
value-means seen pair n (Flag b) s = absurd s
value-means seen pair n (Procedure (as_written of) scope) s = absurd s
value-means seen pair n (Procedure (as_compiled of) scope) s = to_closure (record { it = s.it; there = s.there; of = of; scope = scope; is = s.is; within = λ j l. l })
value-means seen pair n Nothing s = absurd s

row-means : (seen : Seen) (pair : Pairing) (forms : List Form) (ns : List Reference) (words : List ℕ) (vs : List Value) (n : Reference) → AreFor seen pair forms ns words vs → IsAmong n ns → Means seen pair n (values_ids vs)
row-means seen pair (form.Reference ∷ forms) (m ∷ ns) words (v ∷ vs) n a (inl e) =
    means-more seen pair n (value_ids v) (value_ids v ++ values_ids vs) (λ j l. in-front j (value_ids v) (values_ids vs) l) (subst (λ k. Means seen pair k (value_ids v)) (sym e) (value-means seen pair m v a.0))
row-means seen pair (form.Reference ∷ forms) (m ∷ ns) words (v ∷ vs) n a (inr k) =
    means-more seen pair n (values_ids vs) (value_ids v ++ values_ids vs) (λ j l. in-behind j (value_ids v) (values_ids vs) l) (row-means seen pair forms ns words vs n a.1 k)
row-means seen pair (form.Reference ∷ forms) (m ∷ ns) words [] n a k = absurd a
row-means seen pair (form.Reference ∷ forms) [] words vs n a k = absurd k
row-means seen pair (form.Number ∷ forms) ns (word ∷ words) (v ∷ vs) n a k =
    means-more seen pair n (values_ids vs) (value_ids v ++ values_ids vs) (λ j l. in-behind j (value_ids v) (values_ids vs) l) (row-means seen pair forms ns words vs n a.1 k)
row-means seen pair (form.Number ∷ forms) ns (word ∷ words) [] n a k = absurd a
row-means seen pair (form.Number ∷ forms) ns [] vs n a k = absurd a
row-means seen pair (form.Flag ∷ forms) ns (word ∷ words) (v ∷ vs) n a k =
    means-more seen pair n (values_ids vs) (value_ids v ++ values_ids vs) (λ j l. in-behind j (value_ids v) (values_ids vs) l) (row-means seen pair forms ns words vs n a.1 k)
row-means seen pair (form.Flag ∷ forms) ns (word ∷ words) [] n a k = absurd a
row-means seen pair (form.Flag ∷ forms) ns [] vs n a k = absurd a
row-means seen pair [] [] words vs n a k = absurd k
row-means seen pair [] (m ∷ ns) words vs n a k = absurd a

scope-means : (seen : Seen) (pair : Pairing) (n : Reference) (scope : Option ℕ) → StandsForScope seen pair n scope → Means seen pair n (scope_ids scope)
scope-means seen pair n None s = to_none s
scope-means seen pair n (Some id) s = to_object (record { id = id; is = s.0; within = inl refl })

as-means : (seen : Seen) (pair : Pairing) (it : Shown) (of : Rattle.joint_ops.specs.obj_layout.declared.kind.Kind.Kind) (text : List ℕ) (first : ℕ → List ℕ) (forms : List Form) (vs : List Value) (n : Reference)
    → IsAs seen pair it of text first forms vs → IsAmong n it.refs → Means seen pair n (values_ids vs)
as-means seen pair it of text first forms vs n a k =
    elim (subst (IsAmong n) a.refs k) [
      | inl e ↦ subst (λ m. Means seen pair m (values_ids vs)) (sym e) (text-means seen pair a.text_name text (values_ids vs) a.is_text)
      | inr l ↦ row-means seen pair forms a.names a.words vs n a.are l
    ]

-- every name of an object leads to one of its ids, or to nothing that has one
pub like-means : (seen : Seen) (pair : Pairing) (it : Shown) (object : Object) (n : Reference) → IsPlain object → IsLike seen pair it object → IsAmong n it.refs → Means seen pair n (ids_in object)
like-means seen pair it (Structure class fields) n plain l k = as-means seen pair it kind.Structure class (λ home. home ∷ []) (forms_of class) fields n l k
like-means seen pair it (Keyed table) n plain l k = absurd plain
like-means seen pair it (Elements ty low elements) n plain l k = as-means seen pair it kind.Vector ty (λ home. home ∷ l.bound ∷ []) (replicate (length elements) (element_of ty)) elements n l.rows k
like-means seen pair it (Scope text parent values) n plain l k =
    let ids = scope_ids parent ++ values_ids values in
    elim (subst (IsAmong n) l.refs k) [
      | inl e ↦ subst (λ m. Means seen pair m ids) (sym e) (text-means seen pair l.text_name text ids l.is_text)
      | inr r ↦ elim r [
        | inl e ↦
            means-more seen pair n (scope_ids parent) ids (λ j m. in-front j (scope_ids parent) (values_ids values) m)
            (subst (λ m. Means seen pair m (scope_ids parent)) (sym e) (scope-means seen pair l.parent_name parent l.is_parent))
        | inr q ↦ means-more seen pair n (values_ids values) ids (λ j m. in-behind j (scope_ids parent) (values_ids values) m) (row-means seen pair (forms_of text) l.names l.words values n l.are q)
      ]
    ]

-- The other way round.

pub record Through_closure (seen : Seen) (pair : Pairing) (n : Reference) (j : ℕ) : Type 0 where
  pub it : Shown
  pub there : seen n it
  pub kind_is : it.kind ≡ kind.Closure
  pub to : Reference
  pub has : IsAmong to it.refs
  pub goes : pair to j

-- a name of these leads to the id, by itself or as a closure
pub record Leads (seen : Seen) (pair : Pairing) (ns : List Reference) (j : ℕ) : Type 0 where
  pub by : Reference
  pub has : IsAmong by ns
  pub way : pair by j ⊎ Through_closure seen pair by j

leads-more : (seen : Seen) (pair : Pairing) (ns ms : List Reference) (j : ℕ) → ((n : Reference) → IsAmong n ns → IsAmong n ms) → Leads seen pair ns j → Leads seen pair ms j
leads-more seen pair ns ms j w l = record { by = l.by; has = w l.by l.has; way = l.way }

scope-leads : (seen : Seen) (pair : Pairing) (n : Reference) (scope : Option ℕ) (j : ℕ) → StandsForScope seen pair n scope → IsIn j (scope_ids scope) → pair n j
scope-leads seen pair n None j s l = absurd l
scope-leads seen pair n (Some id) j s (inl e) = subst (pair n) (sym e) s.0
scope-leads seen pair n (Some id) j s (inr l) = absurd l

value-leads : (seen : Seen) (pair : Pairing) (n : Reference) (v : Value) (j : ℕ) → StandsFor seen pair n v → IsIn j (value_ids v) → pair n j ⊎ Through_closure seen pair n j
value-leads seen pair n Nil j s l = absurd l
value-leads seen pair n (Text bytes) j s l = absurd l
value-leads seen pair n (Pointer id) j s (inl e) = inl (subst (pair n) (sym e) s.0)
value-leads seen pair n (Pointer id) j s (inr l) = absurd l
value-leads seen pair n (Vector id) j s (inl e) = inl (subst (pair n) (sym e) s.0)
value-leads seen pair n (Vector id) j s (inr l) = absurd l
value-leads seen pair n (Num z) j s l = absurd s
value-leads seen pair n (Flag b) j s l = absurd s
value-leads seen pair n (Procedure (as_written of) scope) j s l = absurd s
value-leads seen pair n (Procedure (as_compiled of) scope) j s l =
    let c = s.is in
    inr (record {
      it = s.it;
      there = s.there;
      kind_is = c.kind_is;
      to = c.scope_name;
      has = subst (IsAmong c.scope_name) (sym c.refs) (inr (inl refl));
      goes = scope-leads seen pair c.scope_name scope j c.is_scope l;
    })
value-leads seen pair n Nothing j s l = absurd s

-- a number has no id
number-none : (v : Value) (word j : ℕ) → IsWordOf word form.Number v → IsIn j (value_ids v) → ⊥
number-none (Num z) word j w l = l
number-none (Flag b) word j w l = w
number-none (Text b) word j w l = w
number-none Nil word j w l = w
number-none (Pointer i) word j w l = w
number-none (Vector i) word j w l = w
number-none (Procedure d s) word j w l = w
number-none Nothing word j w l = w

flag-none : (v : Value) (word j : ℕ) → IsWordOf word form.Flag v → IsIn j (value_ids v) → ⊥
flag-none (Num z) word j w l = w
flag-none (Flag b) word j w l = l
flag-none (Text b) word j w l = w
flag-none Nil word j w l = w
flag-none (Pointer i) word j w l = w
flag-none (Vector i) word j w l = w
flag-none (Procedure d s) word j w l = w
flag-none Nothing word j w l = w

row-leads : (seen : Seen) (pair : Pairing) (forms : List Form) (ns : List Reference) (words : List ℕ) (vs : List Value) (j : ℕ) → AreFor seen pair forms ns words vs → IsIn j (values_ids vs) → Leads seen pair ns j
row-leads seen pair (form.Reference ∷ forms) (m ∷ ns) words (v ∷ vs) j a l =
    elim (in-append j (value_ids v) (values_ids vs) l) [
      | inl k ↦ record { by = m; has = inl refl; way = value-leads seen pair m v j a.0 k }
      | inr k ↦ leads-more seen pair ns (m ∷ ns) j (λ n h. inr h) (row-leads seen pair forms ns words vs j a.1 k)
    ]
row-leads seen pair (form.Reference ∷ forms) (m ∷ ns) words [] j a l = absurd a
row-leads seen pair (form.Reference ∷ forms) [] words vs j a l = absurd a
row-leads seen pair (form.Number ∷ forms) ns (word ∷ words) (v ∷ vs) j a l =
    elim (in-append j (value_ids v) (values_ids vs) l) [ inl k ↦ absurd (number-none v word j a.0 k) | inr k ↦ row-leads seen pair forms ns words vs j a.1 k ]
row-leads seen pair (form.Number ∷ forms) ns (word ∷ words) [] j a l = absurd a
row-leads seen pair (form.Number ∷ forms) ns [] vs j a l = absurd a
row-leads seen pair (form.Flag ∷ forms) ns (word ∷ words) (v ∷ vs) j a l =
    elim (in-append j (value_ids v) (values_ids vs) l) [ inl k ↦ absurd (flag-none v word j a.0 k) | inr k ↦ row-leads seen pair forms ns words vs j a.1 k ]
row-leads seen pair (form.Flag ∷ forms) ns (word ∷ words) [] j a l = absurd a
row-leads seen pair (form.Flag ∷ forms) ns [] vs j a l = absurd a
row-leads seen pair [] [] [] [] j a l = absurd l
row-leads seen pair [] [] [] (v ∷ vs) j a l = absurd a
row-leads seen pair [] [] (word ∷ words) vs j a l = absurd a
row-leads seen pair [] (n ∷ ns) words vs j a l = absurd a

as-leads : (seen : Seen) (pair : Pairing) (it : Shown) (of : Rattle.joint_ops.specs.obj_layout.declared.kind.Kind.Kind) (text : List ℕ) (first : ℕ → List ℕ) (forms : List Form) (vs : List Value) (j : ℕ)
    → IsAs seen pair it of text first forms vs → IsIn j (values_ids vs) → Leads seen pair it.refs j
as-leads seen pair it of text first forms vs j a l =
    leads-more seen pair a.names it.refs j (λ n h. subst (IsAmong n) (sym a.refs) (inr h)) (row-leads seen pair forms a.names a.words vs j a.are l)

-- to each id of an object one of its names leads
pub like-leads : (seen : Seen) (pair : Pairing) (it : Shown) (object : Object) (j : ℕ) → IsPlain object → IsLike seen pair it object → IsIn j (ids_in object) → Leads seen pair it.refs j
like-leads seen pair it (Structure class fields) j plain l k = as-leads seen pair it kind.Structure class (λ home. home ∷ []) (forms_of class) fields j l k
like-leads seen pair it (Keyed table) j plain l k = absurd plain
like-leads seen pair it (Elements ty low elements) j plain l k = as-leads seen pair it kind.Vector ty (λ home. home ∷ l.bound ∷ []) (replicate (length elements) (element_of ty)) elements j l.rows k
like-leads seen pair it (Scope text parent values) j plain l k =
    elim (in-append j (scope_ids parent) (values_ids values) k) [
      | inl p ↦ record { by = l.parent_name; has = subst (IsAmong l.parent_name) (sym l.refs) (inr (inl refl)); way = inl (scope-leads seen pair l.parent_name parent j l.is_parent p) }
      | inr q ↦ leads-more seen pair l.names it.refs j (λ n h. subst (IsAmong n) (sym l.refs) (inr (inr h))) (row-leads seen pair (forms_of text) l.names l.words values j l.are q)
    ]
