-- A heap that is fit, and scopes that aren't.
use Rattle.std.proofs.Common.{inl, inr, ◌⊎◌, ◌≡◌, ℕ, true, List, [], ◌∷◌, refl, pos, subst, sym, ◌∙◌, arith, Option, Some, None}
use Rattle.std.specs.Prelude.{codes}
use Rattle.std.proofs.lemmas.Bool.{true≢false}
use Rattle.ps_heap.specs.ps_base.TyView as types
use Rattle.ps_heap.specs.ps_base.declared.operator.Operator.TheVariants.{Add}
use Rattle.ps_soundness.specs.ps_program.declared.place.Place.TheVariants.{Kept}
use Rattle.ps_soundness.specs.ps_program.Node.{none, more, BodyNode, body}
use Rattle.ps_soundness.specs.ps_program.Node as node
use Rattle.ps_soundness.specs.ps_type_text.Texts.{Field, class_text, IsNamed, is_name_byte}
use Rattle.ps_soundness.specs.ps_typing.WellTyped as typed
use Rattle.ps_heap.specs.Values.{Value, Num, Nil, Procedure, as_written}
use Rattle.ps_heap.specs.reaching.Reaching.{IsIn, at_start, by_step}
use Rattle.ps_heap.specs.Tables.{by_strings}
use Rattle.ps_heap.specs.Objects.{Heap, Object, Structure, Scope, Keyed, object_at}
use Rattle.ps_heap.specs.References.{values_of, next_in}
use Rattle.ps_heap.specs.Databases.{every_root}
use Rattle.ps_heap.specs.Held.{row, home_at, StoredHeap}
use Rattle.database_meaning.specs.Same.{IsInHeap}
use Rattle.heap_fit.specs.Slots.{mentions}
use Rattle.heap_fit.specs.Bodies.{whole, InScope, IsNameAt, IsFit, by_rule, name, set_name, a_clause, at_end, IsFitBody, of_params, unscoped}
use Rattle.heap_fit.specs.Bodies as fit
use Rattle.heap_fit.specs.Heaps.{at_structure, AreRound, none_round, one_round, IsOut, here, further, HasPart, IsMentioned, IsFitAt, IsFitHeap}
use Rattle.heap_fit.proofs.Rows.{at, num}

-- proc( -> int); { b := b + 1; b }, over a scope that keeps a string `a`, which has no value yet, and an int `b`
abbrev b : node.Node
b = node.Name (Kept 0 1) types.Int

abbrev ticks : BodyNode
ticks = body [] types.Int (node.Block None (more (node.SetName (Kept 0 1) types.Int (node.Arith Add b (num 1) at)) (more b none))) None at

abbrev kept_names : List Field
kept_names = record { ty = types.Str; name = codes "a" } ∷ record { ty = types.Int; name = codes "b" } ∷ []

abbrev stored : StoredHeap
stored = record {
  objects =
      Keyed (by_strings (record { key = codes "k"; object = 2 } ∷ []))
      ∷ Scope (codes "scope(string a;int b)") None (Nil ∷ Num (pos 1) ∷ [])
      ∷ Structure (codes "counter(proc(->int) next)") (Procedure (as_written ticks) (Some 1) ∷ []) ∷ [];
  homes = Some 1 ∷ Some 1 ∷ Some 1 ∷ [];
  directory = record { name = codes "c"; password = []; root = 0 } ∷ [];
}

scope_named : IsNamed (codes "scope") kept_names
unfolding is_name_byte
scope_named = record { class = (refl, (refl, (refl, (refl, (refl, tt))))); each = ((refl, tt), ((refl, tt), tt)) }

counter_named : IsNamed (codes "counter") (record { ty = types.Proc types.none types.Int; name = codes "next" } ∷ [])
unfolding is_name_byte
counter_named = record { class = (refl, (refl, (refl, (refl, (refl, (refl, (refl, tt))))))); each = ((refl, (refl, (refl, (refl, tt)))), tt) }

-- The body is fit.
abbrev inside : InScope
inside = record { locals = []; levels = whole kept_names ∷ [] }

b_there : IsNameAt inside (Kept 0 1) types.Int
unfolding row
b_there = inl (refl, (inr (0, refl, inl (refl, refl)), inr (inl refl)))

ticks_fit : IsFitBody (whole kept_names ∷ []) ticks
unfolding row
ticks_fit = of_params unscoped fit.no_more
    (fit.block unscoped (a_clause (set_name b_there (by_rule typed.arith tt (fit.one_more (name b_there) (fit.one_more (by_rule typed.int refl fit.no_more) fit.no_more)))) (a_clause (name b_there) at_end)))
    (tt, tt) (record { nums_apart = tt; nums_in = tt; refs_apart = tt; refs_in = tt; few = omega arith })

-- What is reached, and that no procedure mentions `a`.
three : (id : ℕ) → IsInHeap stored id → (id ≡ 0) ⊎ ((id ≡ 1) ⊎ (id ≡ 2))
unfolding every_root next_in
three id (at_start x is u) = elim is [ inl e ↦ inl e | inr no_more ↦ absurd no_more ]
three id (by_step x y before goes u) =
    elim (three x before) [
      | inl e ↦ elim (subst (λ k. IsIn id (next_in stored.objects k)) e goes) [ inl f ↦ inr (inr f) | inr no_more ↦ absurd no_more ]
      | inr (inl e) ↦ absurd (subst (λ k. IsIn id (next_in stored.objects k)) e goes)
      | inr (inr e) ↦ elim (subst (λ k. IsIn id (next_in stored.objects k)) e goes) [ inl f ↦ inr (inl f) | inr no_more ↦ absurd no_more ]
    ]

some_same : {A : Type 0} {x y : A} → Some x ≡ Some y → x ≡ y
some_same e = cc

none≢some : {A : Type 0} {a : A} → None ≡ Some a → ⊥
none≢some e = absurd (cc)

procedure_same : {of other : BodyNode} {scope round : Option ℕ} → Procedure (as_written of) scope ≡ Procedure (as_written other) round → (of ≡ other) × (scope ≡ round)
procedure_same e = (cc, cc)

one_way : (heap : Heap) (out : ℕ) (text : List ℕ) (values : List Value) → object_at heap 1 ≡ Some (Scope text None values) → IsOut heap 1 (Some 1) out → out ≡ 0
one_way heap out text values is here = refl
one_way heap out text values is (further {out = before} {text = other} {parent} {values = others} that way) =
    absurd (none_out heap before parent (parent_none (sym that ∙ is)) way)
  where
    parent_none : {text other : List ℕ} {parent round : Option ℕ} {values others : List Value} → Some (Scope text parent values) ≡ Some (Scope other round others) → parent ≡ round
    parent_none e = cc

    none_out : (heap : Heap) (out : ℕ) (parent : Option ℕ) → parent ≡ None → IsOut heap 1 parent out → ⊥
    none_out heap out parent e here = none≢some (sym e)
    none_out heap out parent e (further that way) = none≢some (sym e)

abbrev Held : ℕ → BodyNode → Option ℕ → Type 0
Held holder of scope = (object : Object) × (object_at stored.objects holder ≡ Some object) × HasPart (Procedure (as_written of) scope) (values_of object)

held_by_two : (of : BodyNode) (scope : Option ℕ) (holder : ℕ) → (holder ≡ 0) ⊎ ((holder ≡ 1) ⊎ (holder ≡ 2)) → Held holder of scope → (of ≡ ticks) × (scope ≡ Some 1)
held_by_two of scope holder which held =
    elim which [
      | inl e ↦ none_in_table (subst (λ k. Held k of scope) e held)
      | inr (inl e) ↦ none_in_scope (subst (λ k. Held k of scope) e held)
      | inr (inr e) ↦ of_counter (subst (λ k. Held k of scope) e held)
    ]
  where
    none_in_table : Held 0 of scope → (of ≡ ticks) × (scope ≡ Some 1)
    none_in_table h = elim (subst (λ o. HasPart (Procedure (as_written of) scope) (values_of o)) (sym (some_same h.1)) h.2) [ inl bad ↦ absurd (cc) | inr no_more ↦ absurd no_more ]

    none_in_scope : Held 1 of scope → (of ≡ ticks) × (scope ≡ Some 1)
    none_in_scope h =
        elim (subst (λ o. HasPart (Procedure (as_written of) scope) (values_of o)) (sym (some_same h.1)) h.2) [ inl bad ↦ absurd (cc) | inr (inl bad) ↦ absurd (cc) | inr (inr no_more) ↦ absurd no_more ]

    of_counter : Held 2 of scope → (of ≡ ticks) × (scope ≡ Some 1)
    of_counter h = elim (subst (λ o. HasPart (Procedure (as_written of) scope) (values_of o)) (sym (some_same h.1)) h.2) [ inl same ↦ procedure_same same | inr no_more ↦ absurd no_more ]

a_not_mentioned : IsMentioned stored 1 0 → ⊥
a_not_mentioned m =
    let held = held_by_two m.of m.scope m.holder (three m.holder m.there) (m.object, m.is, m.has) in
    let out = one_way stored.objects m.out (codes "scope(string a;int b)") (Nil ∷ Num (pos 1) ∷ []) refl (subst (λ s. IsOut stored.objects 1 s m.out) held.1 m.round) in
    let said : mentions 0 0 ticks ≡ true = subst (λ k. mentions k 0 ticks ≡ true) out (subst (λ o. mentions m.out 0 o ≡ true) held.0 m.mentioned) in
    true≢false (sym said)

-- The heap is fit: `a` may hold nil, since the procedure mentions `b` alone.
heap_fits : IsFitHeap stored
unfolding home_at
heap_fits = record {
  few = omega arith;
  databases = (record { named = omega arith; name = omega arith; password = omega arith; table = by_strings (record { key = codes "k"; object = 2 } ∷ []); root = refl }, tt);
  once = (tt, tt);
  each = λ id there. at_each id (three id there);
}
  where
    root_fits : IsFitAt stored 0
    root_fits = record {
      object = Keyed (by_strings (record { key = codes "k"; object = 2 } ∷ []));
      is = refl;
      fit = (((refl, at_structure (codes "counter(proc(->int) next)") (Procedure (as_written ticks) (Some 1) ∷ []) refl), tt), (tt, tt));
      home = 1;
      home_is = refl;
      first = omega arith;
      last = omega arith;
    }

    scope_fits : IsFitAt stored 1
    scope_fits = record {
      object = Scope (codes "scope(string a;int b)") None (Nil ∷ Num (pos 1) ∷ []);
      is = refl;
      fit = record { names = kept_names; named = scope_named; text_is = refl; scopes = []; round = none_round; are = (inr (refl, a_not_mentioned), (inl refl, tt)) };
      home = 1;
      home_is = refl;
      first = omega arith;
      last = omega arith;
    }

    counter_fits : IsFitAt stored 2
    counter_fits = record {
      object = Structure (codes "counter(proc(->int) next)") (Procedure (as_written ticks) (Some 1) ∷ []);
      is = refl;
      fit = record {
        name = codes "counter";
        fields = record { ty = types.Proc types.none types.Int; name = codes "next" } ∷ [];
        named = counter_named;
        class_is = refl;
        are = (record { scopes = kept_names ∷ []; round = one_round refl scope_named none_round; fit = ticks_fit; ty_is = refl }, tt);
      };
      home = 1;
      home_is = refl;
      first = omega arith;
      last = omega arith;
    }

    at_each : (id : ℕ) → (id ≡ 0) ⊎ ((id ≡ 1) ⊎ (id ≡ 2)) → IsFitAt stored id
    at_each id (inl e) = subst (IsFitAt stored) (sym e) root_fits
    at_each id (inr (inl e)) = subst (IsFitAt stored) (sym e) scope_fits
    at_each id (inr (inr e)) = subst (IsFitAt stored) (sym e) counter_fits

-- Two scopes, each round the other: the way out has no end, so no procedure over them is fit, nor is either of them.
abbrev rings : Heap
rings = Scope (codes "scope(int n)") (Some 1) (Num (pos 0) ∷ []) ∷ Scope (codes "scope(int n)") (Some 0) (Num (pos 0) ∷ []) ∷ []

endless : (scope : Option ℕ) (scopes : List (List Field)) → (scope ≡ Some 0) ⊎ (scope ≡ Some 1) → AreRound rings scope scopes → ⊥
endless None [] (inl e) none_round = none≢some e
endless None [] (inr e) none_round = none≢some e
endless None (names ∷ outer) which round = elim round [ ]
endless (Some id) [] which round = elim round [ ]
endless (Some id) (names ∷ outer) which (one_round {parent} {values} is named rest) =
    elim which [
      | inl e ↦ endless parent outer (inr (sym (round_of (subst (λ k. object_at rings k ≡ Some (Scope (class_text (codes "scope") names) parent values)) (some_same e) is)))) rest
      | inr e ↦ endless parent outer (inl (sym (round_of (subst (λ k. object_at rings k ≡ Some (Scope (class_text (codes "scope") names) parent values)) (some_same e) is)))) rest
    ]
  where
    round_of : {text other : List ℕ} {round : Option ℕ} {others : List Value} → Some (Scope other round others) ≡ Some (Scope text parent values) → round ≡ parent
    round_of e = cc

-- a reached object is at home in a database of the directory: none has the number 0
no_home : IsFitAt (record stored { homes = Some 0 ∷ Some 1 ∷ Some 1 ∷ [] }) 0 → ⊥
unfolding home_at
no_home at_zero = let home : 0 ≡ at_zero.home = some_same at_zero.home_is in omega (arith, home, at_zero.first)
