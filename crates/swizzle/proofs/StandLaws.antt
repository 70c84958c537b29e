-- Objects stay where they are as one is changed, comes, or is marked.
use Rattle.std.proofs.Common.{inl, inr, ◌≡◌, ℕ, List, [], refl, sym, ap, ◌∙◌, subst}
use Rattle.std.proofs.lemmas.Bool.{cases_eq}
use Rattle.swizzle.specs.Objects.{Object}
use Rattle.swizzle.specs.Heap.{Heap, IsHeld, Stand, Stands, object_at, with_object, with_new, with_no_marks, flagged, without_mark, with_none_reached, without_reach, reach_flagged}
use Rattle.swizzle.proofs.HeapLaws.{held-replaced, held-new}
use Rattle.swizzle.proofs.KeptLaws.{held_is}
use Rattle.swizzle.proofs.JointLaws.{IsLike, like_long, object-replaced, object-replaced_other, object-append}
use Rattle.swizzle.proofs.MarkLaws.{bare, bare-reach, object-less, held-less}

stand_by : (old new : Heap) (at : ℕ) → IsHeld new at → IsLike (object_at old at) (object_at new at) → Stand old new at
stand_by old new at held like = record { held = held; kind = like.kind; refs = like.refs; nums = like.nums; bytes = like.bytes; pid = like.pid }

pub stands-same : (old new : Heap) → new ≡ old → Stands old new
stands-same old new e = subst (Stands old) (sym e) (λ at held. record { held = held; kind = refl; refs = refl; nums = refl; bytes = refl; pid = refl })

-- one object is changed
pub stands-object : (old new : Heap) (at : ℕ) (o : Object) → new ≡ with_object old at o → IsHeld old at → IsLike (object_at old at) o → Stands old new
stands-object old new at o e held like =
    let long = like_long (object_at old at) o like in
    let now = with_object old at o in
    subst (Stands old) (sym e) (λ j there.
    let held_now = held-replaced old at (object_at old at) o j (held_is old at held) long there in
    elim (cases_eq j at) [
      | inl same ↦
          let it : o ≡ object_at now j = sym (ap (object_at now) same ∙ object-replaced old at o held) in
          let was : object_at old at ≡ object_at old j = ap (object_at old) (sym same) in
          stand_by old now j held_now (subst (λ (x : Object). IsLike x (object_at now j)) was (subst (IsLike (object_at old at)) it like))
      | inr apart ↦
          let it : object_at old j ≡ object_at now j = sym (object-replaced_other old at j o held long apart) in
          stand_by old now j held_now (subst (IsLike (object_at old j)) it (record { kind = refl; refs = refl; nums = refl; bytes = refl; pid = refl }))
    ])

-- an object comes
pub stands-new : (old new : Heap) (o : Object) → new ≡ with_new old o → Stands old new
stands-new old new o e =
    subst (Stands old) (sym e) (λ j there.
    stand_by old (with_new old o) j (held-new old o j there)
    (subst (IsLike (object_at old j)) (sym (object-append old o j there)) (record { kind = refl; refs = refl; nums = refl; bytes = refl; pid = refl })))

-- the lists of the assigned and of the reached change
pub stands-lists : (old mid new : Heap) (assigned reached : List ℕ) → new ≡ record mid { assigned = assigned; reached = reached } → Stands old mid → Stands old new
stands-lists old mid new assigned reached e s =
    subst (Stands old) (sym e) (λ j there.
    let t = s j there in
    record { held = record { object = t.held.object; is = t.held.is }; kind = t.kind; refs = t.refs; nums = t.nums; bytes = t.bytes; pid = t.pid })

pub stands-listed : (old mid new : Heap) (list : List ℕ) → new ≡ record mid { assigned = list } → Stands old mid → Stands old new
stands-listed old mid new list e s = stands-lists old mid new list mid.reached e s

-- no object is assigned
pub stands-cleared : (old new : Heap) → new ≡ with_no_marks old → Stands old new
stands-cleared old new e =
    subst (Stands old) (sym e) (λ j there.
    stand_by old (with_no_marks old) j (held-less without_mark bare refl old [] old.reached j there)
    (subst (IsLike (object_at old j)) (sym (object-less without_mark bare refl old [] old.reached j)) ((bare (object_at old j)).like)))

-- none is noted as reached
pub stands-left : (old new : Heap) → new ≡ with_none_reached old → Stands old new
stands-left old new e =
    subst (Stands old) (sym e) (λ j there.
    stand_by old (with_none_reached old) j (held-less without_reach bare-reach refl old old.assigned [] j there)
    (subst (IsLike (object_at old j)) (sym (object-less without_reach bare-reach refl old old.assigned [] j)) ((bare-reach (object_at old j)).like)))

pub like_nums : (o : Object) (nums : List ℕ) → IsLike o (record o { nums = nums })
like_nums o nums = record { kind = refl; refs = refl; nums = refl; bytes = refl; pid = refl }

pub like_flags : (o : Object) → IsLike o (flagged o)
like_flags o = record { kind = refl; refs = refl; nums = refl; bytes = refl; pid = refl }

pub like_reach_flags : (o : Object) → IsLike o (reach_flagged o)
like_reach_flags o = record { kind = refl; refs = refl; nums = refl; bytes = refl; pid = refl }
