-- Scopes round one another come to an end.
use Rattle.std.proofs.Common.{◌≡◌, ℕ, suc, ◌+◌, List, ◌∷◌, length, refl, sym, ◌∙◌, ap, subst, arith, Option, Some, None}
use Rattle.std.specs.Prelude.{codes}
use Rattle.ps_soundness.specs.ps_type_text.Texts.{Field, class_text}
use Rattle.ps_heap.specs.Values.{Value}
use Rattle.ps_heap.specs.Objects.{Heap, Scope, object_at}
use Rattle.ps_heap.specs.Held.{StoredHeap}
use Rattle.database_meaning.specs.Same.{IsInHeap}
use Rattle.heap_fit.specs.Heaps.{AreRound, none_round, one_round, IsOut, here, further, IsFitScope, IsFitObject, IsFitHeap}

some_same : {A : Type 0} {a b : A} → Some a ≡ Some b → a ≡ b
some_same e = cc

parent_same : {text other : List ℕ} {parent round : Option ℕ} {values others : List Value} → Some (Scope text parent values) ≡ Some (Scope other round others) → parent ≡ round
parent_same e = cc

-- a scope that has a scope round it, taken apart
record Inner (heap : Heap) (id : ℕ) (scopes : List (List Field)) : Type 0 where
  names : List Field
  parent : Option ℕ
  values : List Value
  more : List (List Field)
  is : object_at heap id ≡ Some (Scope (class_text (codes "scope") names) parent values)
  rest : AreRound heap parent more
  longer : length scopes ≡ suc (length more)

inner : (heap : Heap) (id : ℕ) (scopes : List (List Field)) → AreRound heap (Some id) scopes → Inner heap id scopes
inner heap id scopes (one_round {names} {parent} {values} {more} is named rest) = record { names = names; parent = parent; values = values; more = more; is = is; rest = rest; longer = refl }

none_only : (heap : Heap) (scopes : List (List Field)) → AreRound heap None scopes → length scopes ≡ 0
none_only heap scopes none_round = refl

-- from a scope there is one way out
one_length : (heap : Heap) (scope : Option ℕ) (a b : List (List Field)) → AreRound heap scope a → AreRound heap scope b → length a ≡ length b
one_length heap scope a b none_round r = sym (none_only heap b r)
one_length heap scope a b (one_round {id} {names} {parent} {values} {more} is named rest) r =
    let i = inner heap id b r in
    omega (arith, i.longer, one_length heap parent more i.more rest (subst (λ p. AreRound heap p i.more) (parent_same (sym i.is ∙ is)) i.rest))

-- after so many levels as many scopes fewer are round
record After (heap : Heap) (id out : ℕ) (scopes : List (List Field)) : Type 0 where
  rest : List (List Field)
  round : AreRound heap (Some id) rest
  fewer : length rest + out ≡ length scopes

after : (heap : Heap) (id : ℕ) (scope : Option ℕ) (out : ℕ) (scopes : List (List Field)) → IsOut heap id scope out → AreRound heap scope scopes → After heap id out scopes
after heap id scope out scopes here r = record { rest = scopes; round = r; fewer = omega arith }
after heap id scope out scopes (further {other} {out = before} {text} {parent} {values} is way) r =
    let i = inner heap other scopes r in
    let a = after heap id parent before i.more way (subst (λ p. AreRound heap p i.more) (parent_same (sym i.is ∙ is)) i.rest) in
    record { rest = a.rest; round = a.round; fewer = omega (arith, a.fewer, i.longer) }

pub no_own_parent : (stored : StoredHeap) (id out : ℕ) (text : List ℕ) (parent : Option ℕ) (values : List Value) → IsFitHeap stored → IsInHeap stored id
    → object_at stored.objects id ≡ Some (Scope text parent values) → IsOut stored.objects id parent out → ⊥
no_own_parent stored id out text parent values fit there is way =
    let at = fit.each id there in
    let s : IsFitScope stored id text parent values = subst (IsFitObject stored id) (some_same (sym at.is ∙ is)) at.fit in
    let a = after stored.objects id parent out s.scopes way s.round in
    let own : AreRound stored.objects (Some id) (s.names ∷ s.scopes) = one_round (is ∙ ap (λ t. Some (Scope t parent values)) s.text_is) s.named s.round in
    let same = one_length stored.objects (Some id) a.rest (s.names ∷ s.scopes) a.round own in
    omega (arith, a.fewer, same)
