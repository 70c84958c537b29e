-- What is reached in a heap for which a space stands has a PID there.
use Rattle.std.proofs.Common.{inl, inr, ◌≡◌, ℕ, List, [], ◌∷◌, length, replicate, refl, sym, subst, Option, Some, None}
use Rattle.reaching.specs.Reaching.{IsIn, at_start, by_step}
use Rattle.reaching.proofs.Lists.{in-append}
use Rattle.heap_meaning.specs.obj_layout.declared.kind.Kind.{Kind}
use Rattle.heap_meaning.specs.obj_layout.declared.reference.Reference.{Reference}
use Rattle.heap_meaning.specs.obj_layout.declared.reference.Reference.TheVariants.{Pid}
use Rattle.heap_meaning.specs.obj_layout.Stored.{Space}
use Rattle.heap_meaning.specs.swizzle.Joint.{Shown}
use Rattle.heap_meaning.specs.text_forms.declared.forms.Form.{Form}
use Rattle.heap_meaning.specs.text_forms.declared.forms.Form.TheVariants as form
use Rattle.heap_meaning.specs.text_forms.Forms.{element_of, forms_of}
use Rattle.heap_meaning.specs.avl_trees.Trees.{items}
use Rattle.heap_meaning.specs.avl_trees.Standing.{Item}
use Rattle.heap_meaning.specs.Standing.{IsKindOf, IsPointed, StandsForScope, StandsFor, IsWordOf, AreFor}
use Rattle.heap_meaning.specs.Tables.{ArePairs, HasNodes}
use Rattle.heap_meaning.specs.Paired.{paired}
use Rattle.heap_fit.specs.ps_heap.Values.{Value, Num, Flag, Text, Nil, Pointer, Vector, Procedure, Nothing, as_written, as_compiled}
use Rattle.heap_fit.specs.ps_heap.Tables.{Entry, Table, without_keys, by_strings, by_ints}
use Rattle.heap_fit.specs.ps_heap.Objects.{Object, Structure, Elements, Scope, Keyed, object_at}
use Rattle.heap_fit.specs.ps_heap.References.{pointers, scope_ids, value_ids, values_ids, object_ids, next_in}
use Rattle.heap_fit.specs.ps_heap.Databases.{Database, every_root}
use Rattle.heap_fit.specs.ps_heap.Held.{StoredHeap}
use Rattle.heap_fit.specs.database_meaning.Same.{IsInHeap}
use Rattle.ps_code_laws.specs.Compiled.{compiled_routine, compiled, compiled_all}
use Rattle.space_meaning.specs.Space.{SeenIn}
use Rattle.space_meaning.specs.Stands.{IsThing, AreNamed, IsDirectoryOf, stored, StandsUnder}

-- an id whose name is a PID
pub record HasPid (names : List Reference) (id : ℕ) : Type 0 where
  pub pid : ℕ
  pub named : paired names (Pid pid) id

module _ (space : Space) (names : List Reference) where
  -- what is seen in a space under a name that is paired
  seen-pid : (n : Reference) (id : ℕ) (it : Shown) → SeenIn space n it → paired names n id → HasPid names id
  seen-pid n id it s p = record { pid = s.pid; named = subst (λ (m : Reference). paired names m id) s.name_is p }

  kind-pid : (n : Reference) (id : ℕ) (of : Kind) → IsKindOf (SeenIn space) n of → paired names n id → HasPid names id
  kind-pid n id of k p = seen-pid n id k.it k.there p

  pointed-pid : (n : Reference) (id : ℕ) → IsPointed (SeenIn space) n → paired names n id → HasPid names id
  pointed-pid n id k p = elim k [ inl a ↦ kind-pid n id _ a p | inr b ↦ kind-pid n id _ b p ]

  scope-pid : (n : Reference) (scope : Option ℕ) (x : ℕ) → StandsForScope (SeenIn space) (paired names) n scope → IsIn x (scope_ids scope) → HasPid names x
  scope-pid n None x s l = absurd l
  scope-pid n (Some id) x s (inl e) = subst (HasPid names) (sym e) (kind-pid n id _ s.1 s.0)
  scope-pid n (Some id) x s (inr l) = absurd l

  value-pid : (n : Reference) (v : Value) (x : ℕ) → StandsFor (SeenIn space) (paired names) n (compiled v) → IsIn x (value_ids v) → HasPid names x
  unfolding compiled_routine
  value-pid n (Num z) x s l = absurd l
  value-pid n (Flag b) x s l = absurd l
  value-pid n (Text bytes) x s l = absurd l
  value-pid n Nil x s l = absurd l
  value-pid n (Pointer id) x s (inl e) = subst (HasPid names) (sym e) (pointed-pid n id s.1 s.0)
  value-pid n (Pointer id) x s (inr l) = absurd l
  value-pid n (Vector id) x s (inl e) = subst (HasPid names) (sym e) (kind-pid n id _ s.1 s.0)
  value-pid n (Vector id) x s (inr l) = absurd l
  value-pid n (Procedure (as_written of) scope) x s l = scope-pid s.is.scope_name scope x s.is.is_scope l
  value-pid n (Procedure (as_compiled of) scope) x s l = scope-pid s.is.scope_name scope x s.is.is_scope l
  value-pid n Nothing x s l = absurd l

  -- a number refers to nothing
  number-ids : (word : ℕ) (v : Value) (x : ℕ) → IsWordOf word form.Number (compiled v) → IsIn x (value_ids v) → ⊥
  number-ids word (Num z) x w l = l
  number-ids word (Flag b) x w l = l
  number-ids word (Text bytes) x w l = l
  number-ids word Nil x w l = l
  number-ids word (Pointer id) x w l = w
  number-ids word (Vector id) x w l = w
  number-ids word (Procedure does scope) x w l = w
  number-ids word Nothing x w l = l

  flag-ids : (word : ℕ) (v : Value) (x : ℕ) → IsWordOf word form.Flag (compiled v) → IsIn x (value_ids v) → ⊥
  flag-ids word (Num z) x w l = l
  flag-ids word (Flag b) x w l = l
  flag-ids word (Text bytes) x w l = l
  flag-ids word Nil x w l = l
  flag-ids word (Pointer id) x w l = w
  flag-ids word (Vector id) x w l = w
  flag-ids word (Procedure does scope) x w l = w
  flag-ids word Nothing x w l = l

  values-pid : (forms : List Form) (ns : List Reference) (words : List ℕ) (vs : List Value) (x : ℕ) → AreFor (SeenIn space) (paired names) forms ns words (compiled_all vs)
      → IsIn x (values_ids vs) → HasPid names x
  values-pid forms ns words [] x a l = absurd l
  values-pid [] [] [] (v ∷ vs) x a l = absurd a
  values-pid [] [] (word ∷ words) (v ∷ vs) x a l = absurd a
  values-pid [] (n ∷ ns) words (v ∷ vs) x a l = absurd a
  values-pid (form.Reference ∷ forms) [] words (v ∷ vs) x a l = absurd a
  values-pid (form.Reference ∷ forms) (n ∷ ns) words (v ∷ vs) x a l =
      elim (in-append x (value_ids v) (values_ids vs) l) [ inl k ↦ value-pid n v x a.0 k | inr k ↦ values-pid forms ns words vs x a.1 k ]
  values-pid (form.Number ∷ forms) ns [] (v ∷ vs) x a l = absurd a
  values-pid (form.Number ∷ forms) ns (word ∷ words) (v ∷ vs) x a l =
      elim (in-append x (value_ids v) (values_ids vs) l) [ inl k ↦ absurd (number-ids word v x a.0 k) | inr k ↦ values-pid forms ns words vs x a.1 k ]
  values-pid (form.Flag ∷ forms) ns [] (v ∷ vs) x a l = absurd a
  values-pid (form.Flag ∷ forms) ns (word ∷ words) (v ∷ vs) x a l =
      elim (in-append x (value_ids v) (values_ids vs) l) [ inl k ↦ absurd (flag-ids word v x a.0 k) | inr k ↦ values-pid forms ns words vs x a.1 k ]

  -- entries of a table
  pairs-pid : {K : Type 0} (is : List (Item Reference K Reference)) (es : List (Entry K)) (x : ℕ) → ArePairs (SeenIn space) (stored names) is es → IsIn x (values_ids (pointers es)) → HasPid names x
  pairs-pid [] [] x p l = absurd l
  pairs-pid [] (e ∷ es) x p l = absurd p
  pairs-pid (a ∷ is) [] x p l = absurd p
  pairs-pid (a ∷ is) (e ∷ es) x p (inl same) = subst (HasPid names) (sym same) (pointed-pid a.entry.value e.object p.1.1 p.1.0.0)
  pairs-pid (a ∷ is) (e ∷ es) x p (inr l) = pairs-pid is es x p.2 l

  nodes-pid : (root : Reference) (table : Table) (nodes : List Reference) (x : ℕ) → HasNodes (SeenIn space) (stored names) root table nodes → IsIn x (object_ids (Some (Keyed table))) → HasPid names x
  nodes-pid root without_keys nodes x h l = absurd l
  nodes-pid root (by_strings es) nodes x h l = pairs-pid (items h.tree) es x h.pairs l
  nodes-pid root (by_ints es) nodes x h l = pairs-pid (items h.tree) es x h.pairs l

  -- the roots of databases
  roots-pid : (refs : List Reference) (ds : List Database) (x : ℕ) → AreNamed (SeenIn space) (paired names) refs ds → IsIn x (every_root ds) → HasPid names x
  unfolding every_root
  roots-pid refs [] x a l = absurd l
  roots-pid [] (d ∷ ds) x a l = absurd a
  roots-pid (name ∷ []) (d ∷ ds) x a l = absurd a
  roots-pid (name ∷ password ∷ []) (d ∷ ds) x a l = absurd a
  roots-pid (name ∷ password ∷ root ∷ more) (d ∷ ds) x a (inl e) = subst (HasPid names) (sym e) (kind-pid root d.root _ a.2.1 a.2.0)
  roots-pid (name ∷ password ∷ root ∷ more) (d ∷ ds) x a (inr l) = roots-pid more ds x a.3 l

  start-pid : (pid : ℕ) (ds : List Database) (x : ℕ) → IsDirectoryOf (SeenIn space) (paired names) pid ds → IsIn x (every_root ds) → HasPid names x
  unfolding every_root
  start-pid pid [] x d l = absurd l
  start-pid pid (d ∷ ds) x s l = roots-pid s.it.refs (d ∷ ds) x s.names l

  module _ (heap : StoredHeap) (stands : StandsUnder space heap names) where
    -- what an object with a PID refers to has one
    thing-pid : (pid id : ℕ) (it : Shown) (o : Object) (x : ℕ) → paired names (Pid pid) id → object_at heap.objects id ≡ Some o → IsThing (SeenIn space) (paired names) it o
        → IsIn x (object_ids (Some o)) → HasPid names x
    thing-pid pid id it (Structure class fields) x p means t l = values-pid (forms_of class) t.0.names t.0.words fields x t.0.are l
    thing-pid pid id it (Elements ty low elements) x p means t l =
        values-pid (replicate (length (compiled_all elements)) (element_of ty)) t.0.rows.names t.0.rows.words elements x t.0.rows.are l
    thing-pid pid id it (Scope text parent values) x p means t l =
        elim (in-append x (scope_ids parent) (values_ids values) l) [
          | inl k ↦ scope-pid t.0.parent_name parent x t.0.is_parent k
          | inr k ↦ values-pid (forms_of text) t.0.names t.0.words values x t.0.are k
        ]
    thing-pid pid id it (Keyed table) x p means t l =
        let k = stands.tables.each (Pid pid) id table (p, pid, refl) means in nodes-pid k.root table (stands.tables.nodes id) x k.has l

    pub reached-pid : (id : ℕ) → IsInHeap heap id → HasPid names id
    unfolding next_in
    reached-pid id (at_start x is u) = start-pid space.directory heap.directory id stands.directory is
    reached-pid id (by_step x y before goes u) =
        let h = reached-pid x before in
        let b = stands.both h.pid x h.named in
        thing-pid h.pid x b.it b.object id h.named b.means b.like (subst (λ (o : Option Object). IsIn id (object_ids o)) b.means goes)
