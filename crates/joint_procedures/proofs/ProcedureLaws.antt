-- Procedures that are made beside a vault, and the code and the scope of one, wherever those lie.
use Rattle.std.proofs.Common.{nat_eq, arith, inl, inr, ◌⊎◌, ◌≡◌, ℕ, zero, suc, Bool, true, false, ◌*◌, List, [], ◌∷◌, length, get_or, refl, sym, ap, ◌∙◌, subst, Option, Some, None, IfSome}
use Rattle.std.specs.Prelude.{Result, Ok, Err, IfOk, OnOk, MatchResult}
use Rattle.std.proofs.lemmas.Grind.{common_steps}
use Rattle.ps_base.specs.CodeUnit as units
use Rattle.ps_base.specs.CodeUnit.{UnitView}
use Rattle.joint_ops.specs.ps_outside.Outside.{Outside}
use Rattle.joint_ops.specs.obj_layout.Kind.{kind_number}
use Rattle.joint_ops.specs.obj_layout.Objects as layout
use Rattle.joint_ops.specs.obj_layout.Objects.{HasContents}
use Rattle.joint_ops.specs.obj_layout.Stored.{Space, Holds, damage}
use Rattle.joint_ops.specs.obj_layout.declared.kind.Kind.TheVariants as kind
use Rattle.joint_ops.specs.obj_layout.declared.reference.Reference as reference
use Rattle.joint_ops.specs.obj_layout.declared.reference.Reference.TheVariants as name
use Rattle.joint_ops.specs.swizzle.declared.fault.SwizzleFault.{SwizzleFault}
use Rattle.joint_ops.specs.swizzle.Objects as area_objects
use Rattle.joint_ops.specs.swizzle.Objects.{size_of}
use Rattle.joint_ops.specs.swizzle.Heap as area
use Rattle.joint_ops.specs.swizzle.Heap.{IsHeap, IsHeld, IsInside, IsMade, IsFull, header_at, top_of, reference_to}
use Rattle.joint_ops.specs.swizzle.Joint.{Shown, shown, shown_at, name_at, name_by, name_of}
use Rattle.joint_ops.specs.swizzle.Changes.{Within}
use Rattle.joint_ops.specs.swizzle.Touch.{Denotes, Keeps}
use Rattle.joint_ops.specs.swizzle.Reading.{joint, Reads, LeavesOutside}
use Rattle.joint_ops.proofs.of_swizzle.NameLaws.{name-none, name-not_nil}
use Rattle.joint_ops.proofs.of_swizzle.MadeLaws.{made-held, made-object}
use Rattle.scopes.specs.heap_places.Shapes.{slot_of, shape_damage}
use Rattle.joint_ops.proofs.of_heap_places.TouchedLaws.{kinds-same}
use Rattle.joint_ops.specs.proc_values.Loaded.{IsFitUnit}
use Rattle.scopes.specs.closures.Closures.{closure_of, closure_damage, IsOther, FailsPart, HasNoCode, TellsCode, TellsScope}
use Rattle.joint_ops.specs.ps_heap.Values.{Procedure, as_compiled}
use Rattle.joint_ops.specs.ps_heap.Objects.{Heap}
use Rattle.joint_ops.specs.ps_heap.Weights.{closure_weight}
use Rattle.joint_ops.specs.heap_meaning.Standing.{StandsForScope, IsClosure}
use Rattle.joint_ops.specs.heap_meaning.Units.{IsUnitSeen}
use Rattle.joint_ops.specs.heap_meaning.Paired.{paired}
use Rattle.joint_ops.proofs.of_heap_meaning.StandingLaws.{unit-more, scope-more, closure-more}
use Rattle.joint_ops.proofs.of_heap_meaning.PlaceLaws.{shape}
use Rattle.joint_ops.specs.World.{IsWorld, seen, DenotesIn, DenotesScopeIn, IsUnitIn, FailsAsReading}
use Rattle.joint_ops.specs.Made.{FailsAsMaking}
use Rattle.joint_ops.proofs.SeenLaws.{seen-is, joint-is, seen-joint, nil-unseen, keeps-passes, reads-within, Known, IsCaused, caused-touch, breaks, no-damage}
use Rattle.joint_ops.proofs.GainLaws.{made-gains, gains-stands, reads-stands}
use Rattle.joint_ops.proofs.GrowthLaws.{made-keeps, same-keeps, made-top, made-changed, full-breaks}
use Rattle.joint_procedures.specs.Procedures.{MakesProcedure, AnswersCode, AnswersScope, HasSlot}

-- the name that a reference to an object is
pub named-of : (here : area.Heap) (to : Option ℕ) (n : reference.Reference) → Denotes here to n → n ≡ name_of here (reference_to to)
named-of here None n d = d
named-of here (Some at) n d = sym d.1

pub scope-named : (here : area.Heap) (outside : Outside Space) (names : List reference.Reference) (to scope : Option ℕ) → DenotesScopeIn here outside names to scope
    → StandsForScope (seen here outside) (paired names) (name_of here (reference_to to)) scope
scope-named here outside names to scope d =
    subst (λ (n : reference.Reference). StandsForScope (seen here outside) (paired names) n scope) (named-of here to d.name d.denotes) d.stands

-- A new closure.

inside-closure : (here : area.Heap) (code : ℕ) (scope : Option ℕ) → IsHeld here code → IfSome scope (IsHeld here) → IsInside here (closure_of code scope)
unfolding closure_of
inside-closure here code scope held there zero to e = let same : code ≡ to = cc in subst (IsHeld here) same held
inside-closure here code None held there (suc zero) to e = absurd (cc)
inside-closure here code (Some at) held there (suc zero) to e = let same : at ≡ to = cc in subst (IsHeld here) same there
inside-closure here code scope held there (suc (suc slot)) to e = absurd (cc)

closure-like : (here : area.Heap) (outside : Outside Space) (names : List reference.Reference) (code : ℕ) (scope : Option ℕ) (u : UnitView) (within : Option ℕ)
    → IsUnitIn here outside code u → IsFitUnit u → DenotesScopeIn here outside names scope within
    → IsClosure (seen here outside) (paired names) (shown (name_of here) (closure_of code scope)) u within
unfolding closure_of
closure-like here outside names code scope u within is fit d = record {
  kind_is = refl;
  code_name = name_at here code;
  scope_name = name_of here (reference_to scope);
  home = 0;
  refs = refl;
  nums = refl;
  is_unit = is.is;
  fit = fit;
  is_scope = scope-named here outside names scope within d;
}

closure-weight : (code : ℕ) (scope : Option ℕ) → 8 * size_of (closure_of code scope) ≡ closure_weight
unfolding closure_of
closure-weight code scope = omega arith

closure-whole : (code : ℕ) (scope : Option ℕ) → HasContents (closure_of code scope).header layout.closure
unfolding closure_of
closure-whole code scope = record { kind = refl; counted = refl; allowed = tt }

closure-pid : (code : ℕ) (scope : Option ℕ) → (closure_of code scope).header.pid ≡ 0
unfolding closure_of
closure-pid code scope = refl

new-procedure : (old new : area.Heap) (outside : Outside Space) (of : Heap) (names : List reference.Reference) (code at : ℕ) (scope : Option ℕ)
    (u : UnitView) (within : Option ℕ) → IsHeap old → IsHeap new → IsWorld old outside of names → IsHeld old code → IfSome scope (IsHeld old)
    → IsUnitIn old outside code u → IsFitUnit u → DenotesScopeIn old outside names scope within → IsMade old new at (closure_of code scope)
    → MakesProcedure old new outside of names u within (Ok at)
new-procedure old new outside of names code at scope u within h now w held there is fit d m =
    let o = closure_of code scope in
    let a = seen old outside in
    let b = seen new outside in
    let inside = inside-closure old code scope held there in
    let gains = made-gains old new outside at o layout.closure h now inside (closure-pid code scope) (closure-whole code scope) m in
    let passes = keeps-passes old new a b gains.keeps gains.grows in
    let n = name.Local (top_of old) in
    let lies = made-held old new at o m in
    let changed = made-changed old new outside at o h inside (closure-pid code scope) m in
    let named : name_at new at ≡ n = ap (λ (x : area_objects.Object). name_by x.header at) (made-object old new at o m)
    ∙ name-none (o.header) at (closure-pid code scope) ∙ ap (λ (i : ℕ). name.Local i) m.place in
    record {
      held = lies;
      stands = gains-stands old new outside outside of names gains w;
      top = omega (arith, made-top old new at o m, closure-weight code scope);
      denotes = record {
        name = n;
        denotes = (lies, named);
        stands = record {
          it = shown (name_of old) o;
          there = changed.there;
          is = closure-more a b (paired names) (paired names) (shown (name_of old) o) u within passes.fixed passes.kinds (λ i id p. p)
              (closure-like old outside names code scope u within is fit d);
        };
      };
    }

pub makes-procedure : (old new : area.Heap) (outside : Outside Space) (of : Heap) (names : List reference.Reference) (code : ℕ) (scope : Option ℕ)
    (u : UnitView) (within : Option ℕ) (result : Result ℕ SwizzleFault) → IsHeap old → IsHeap new → IsWorld old outside of names → IsHeld old code
    → IfSome scope (IsHeld old) → IsUnitIn old outside code u → IsFitUnit u → DenotesScopeIn old outside names scope within
    → MatchResult result (λ at. IsMade old new at (closure_of code scope)) (λ fault. IsFull old new 7 fault)
    → MakesProcedure old new outside of names u within result
makes-procedure old new outside of names code scope u within (Ok at) h now w held there is fit d m =
    new-procedure old new outside of names code at scope u within h now w held there is fit d m
makes-procedure old new outside of names code scope u within (Err fault) h now w held there is fit d full =
    record { wanted = 7; fault_is = full.fault_is; full = full.full; words = inl refl; stays = full.stays }

-- An object that denotes a procedure: what is seen of it is a closure.
pub record ProcedureAt (here : area.Heap) (outside : Outside Space) (names : List reference.Reference) (at : ℕ) (of : UnitView) (scope : Option ℕ) : Type 0 where
  pub held : IsHeld here at
  pub is : IsClosure (seen here outside) (paired names) (shown_at here at) of scope

pub procedure-denoted : (here : area.Heap) (outside : Outside Space) (names : List reference.Reference) (at : ℕ) (of : UnitView) (scope : Option ℕ)
    → IsHeap here → DenotesIn here outside names (Some at) (Procedure (as_compiled of) scope) → ProcedureAt here outside names at of scope
procedure-denoted here outside names at of scope h d =
    let s = d.stands in
    let is = seen-is here outside at d.name s.it h d.denotes.0 d.denotes.1 s.there in
    record { held = d.denotes.0; is = subst (λ (x : Shown). IsClosure (seen here outside) (paired names) x of scope) is s.is }

-- A closure that is read.

module _ (old new : area.Heap) (before after : Outside Space) (of : Heap) (names : List reference.Reference) (at : ℕ) (u : UnitView) (within : Option ℕ)
    (h : IsHeap old) (now : IsHeap new) (w : IsWorld old before of names) (p : ProcedureAt old before names at u within) where
  sound : closure_damage (shown_at old at) ≡ None
  sound = shape (shown_at old at) kind.Closure 2 1 p.is.kind_is (ap length p.is.refs) (ap length p.is.nums)

  code-slot : slot_of (shown_at old at) 0 ≡ p.is.code_name
  code-slot = ap (λ (r : List reference.Reference). get_or r 0 name.Nil) p.is.refs

  scope-slot : slot_of (shown_at old at) 1 ≡ p.is.scope_name
  scope-slot = ap (λ (r : List reference.Reference). get_or r 1 name.Nil) p.is.refs

  code-is : IsUnitSeen (seen old before) (slot_of (shown_at old at) 0) u
  code-is = subst (λ (n : reference.Reference). IsUnitSeen (seen old before) n u) (sym code-slot) p.is.is_unit

  scope-is : StandsForScope (seen old before) (paired names) (slot_of (shown_at old at) 1) within
  scope-is = subst (λ (n : reference.Reference). StandsForScope (seen old before) (paired names) n within) (sym scope-slot) p.is.is_scope

  -- both names are known
  record CodeThere (n : reference.Reference) : Type 0 where
    it : Shown
    there : seen old before n it
    kind_is : it.kind ≡ kind.Code

  code-there : (n : reference.Reference) (v : UnitView) → IsUnitSeen (seen old before) n v → CodeThere n
  unfolding IsUnitSeen
  code-there n (units.unit code cs frame) i = record { it = i.0; there = i.1; kind_is = i.2.kind_is }

  code-known : Known old before (slot_of (shown_at old at) 0)
  code-known = let c = code-there (slot_of (shown_at old at) 0) u code-is in inr (record { it = c.it; is = c.there })

  scope-known : Known old before (slot_of (shown_at old at) 1)
  scope-known = known within (slot_of (shown_at old at) 1) scope-is
    where
      known : (s : Option ℕ) (n : reference.Reference) → StandsForScope (seen old before) (paired names) n s → Known old before n
      known None n s = inl s
      known (Some id) n s = inr (record { it = s.1.it; is = s.1.there })

  -- an object of another kind has another name
  kind-there : (n : reference.Reference) (it : Shown) (other : ℕ) → Within (joint old before) (joint new after) → seen old before n it
      → Denotes new (Some other) n → it.kind ≡ (header_at new other).kind
  kind-there n it other grows s d =
      ap (λ (x : Shown). x.kind) (joint-is new (Holds after) other n it now d.0 d.1 (grows n it (seen-joint old before n it s)))

  no-other_code : (fault : SwizzleFault) → IsOther old new before after at 0 kind.Code fault → ⊥
  no-other_code fault o =
      let c = code-there (slot_of (shown_at old at) 0) u code-is in
      o.2 (sym (kind-there (slot_of (shown_at old at) 0) c.it o.0 o.4 c.there o.1) ∙ c.kind_is)

  no-other_scope : (fault : SwizzleFault) → IsOther old new before after at 1 kind.Scope fault → ⊥
  no-other_scope fault o = cases within scope-is
    where
      cases : (s : Option ℕ) → StandsForScope (seen old before) (paired names) (slot_of (shown_at old at) 1) s → ⊥
      cases None s = name-not_nil new o.0 (o.1.1 ∙ s)
      cases (Some id) s = o.2 (sym (kind-there (slot_of (shown_at old at) 1) s.1.it o.0 o.4 s.1.there o.1) ∙ s.1.kind_is)

  caused-code : (fault : SwizzleFault) → FailsPart old new before after at 0 kind.Code fault ⊎ HasNoCode old at fault
      → IsCaused old new before after fault
  caused-code fault (inl (inl damaged)) = absurd (no-damage old at (closure_damage (shown_at old at)) fault sound damaged)
  caused-code fault (inl (inr why)) =
      elim why.1 [ inl other ↦ absurd (no-other_code fault other) | inr touch ↦ caused-touch old new before after at 0 fault h code-known touch ]
  caused-code fault (inr none) =
      let c = code-there (slot_of (shown_at old at) 0) u code-is in
      absurd (nil-unseen old before c.it (subst (λ (n : reference.Reference). seen old before n c.it) none.1 c.there))

  caused-scope : (fault : SwizzleFault) → FailsPart old new before after at 1 kind.Scope fault → IsCaused old new before after fault
  caused-scope fault (inl damaged) = absurd (no-damage old at (closure_damage (shown_at old at)) fault sound damaged)
  caused-scope fault (inr why) =
      elim why.1 [ inl other ↦ absurd (no-other_scope fault other) | inr touch ↦ caused-touch old new before after at 1 fault h scope-known touch ]

  pub answers-code : (result : Result ℕ SwizzleFault) → TellsCode old new before after at result → AnswersCode old new before after of names u result
  answers-code (Ok code) t =
      let n = slot_of (shown_at old at) 0 in
      let passes = keeps-passes old new (seen old before) (seen new after) t.reads.keeps (reads-within old new before after (n ∷ []) t.reads) in
      record {
        is = record {
          held = t.held;
          is = subst (λ (m : reference.Reference). IsUnitSeen (seen new after) m u) (sym t.denotes.1)
              (unit-more (seen old before) (seen new after) n u passes.fixed code-is);
        };
        fit = p.is.fit;
        stands = reads-stands old new before after (n ∷ []) of names h now (code-known, tt) t.reads w;
      }
  answers-code (Err fault) t = breaks old new before after fault (t.0) (caused-code fault (t.1))

  round : (to : Option ℕ) → Denotes new to (slot_of (shown_at old at) 1) → Reads old new before after (slot_of (shown_at old at) 1 ∷ [])
      → AnswersScope old new before after of names within (Ok to)
  round to d reads =
      let n = slot_of (shown_at old at) 1 in
      let passes = keeps-passes old new (seen old before) (seen new after) reads.keeps (reads-within old new before after (n ∷ []) reads) in (
        record {
          name = n;
          denotes = d;
          stands = scope-more (seen old before) (seen new after) (paired names) (paired names) n within passes.kinds (λ m id q. q) scope-is;
        },
        reads-stands old new before after (n ∷ []) of names h now (scope-known, tt) reads w,
      )

  pub answers-scope : (result : Result (Option ℕ) SwizzleFault) → TellsScope old new before after at result
      → AnswersScope old new before after of names within result
  answers-scope (Ok (Some scope)) t = round (Some scope) t.denotes t.reads
  answers-scope (Ok None) t = round None t.none t.reads
  answers-scope (Err fault) t = breaks old new before after fault (t.0) (caused-scope fault (t.1))

-- What is said whatever the vault.

pub code-leaves : (old new : area.Heap) (before after : Outside Space) (at : ℕ) (result : Result ℕ SwizzleFault) → TellsCode old new before after at result
    → LeavesOutside before after
code-leaves old new before after at (Ok code) t = t.reads.outside
code-leaves old new before after at (Err fault) t = t.0.outside

pub scope-leaves : (old new : area.Heap) (before after : Outside Space) (at : ℕ) (result : Result (Option ℕ) SwizzleFault)
    → TellsScope old new before after at result → LeavesOutside before after
scope-leaves old new before after at (Ok (Some scope)) t = t.reads.outside
scope-leaves old new before after at (Ok None) t = t.reads.outside
scope-leaves old new before after at (Err fault) t = t.0.outside

pub code-fails : (old new : area.Heap) (before after : Outside Space) (at : ℕ) (result : Result ℕ SwizzleFault) → TellsCode old new before after at result
    → FailsAsReading before after result
code-fails old new before after at (Ok code) t = tt
code-fails old new before after at (Err fault) t = t.0

pub scope-fails : (old new : area.Heap) (before after : Outside Space) (at : ℕ) (result : Result (Option ℕ) SwizzleFault)
    → TellsScope old new before after at result → FailsAsReading before after result
scope-fails old new before after at (Ok (Some scope)) t = tt
scope-fails old new before after at (Ok None) t = tt
scope-fails old new before after at (Err fault) t = t.0

pub closure-fails : (old new : area.Heap) (code : ℕ) (scope : Option ℕ) (result : Result ℕ SwizzleFault)
    → MatchResult result (λ at. IsMade old new at (closure_of code scope)) (λ fault. IsFull old new 7 fault) → FailsAsMaking old new result
closure-fails old new code scope (Ok at) m = tt
closure-fails old new code scope (Err fault) full = full-breaks old new 7 fault full

pub code-keeps : (old new : area.Heap) (before after : Outside Space) (at : ℕ) (result : Result ℕ SwizzleFault) → TellsCode old new before after at result
    → OnOk result (Keeps old new)
code-keeps old new before after at (Ok code) t = t.reads.keeps
code-keeps old new before after at (Err fault) t = tt

pub scope-keeps : (old new : area.Heap) (before after : Outside Space) (at : ℕ) (result : Result (Option ℕ) SwizzleFault)
    → TellsScope old new before after at result → OnOk result (Keeps old new)
scope-keeps old new before after at (Ok (Some scope)) t = t.reads.keeps
scope-keeps old new before after at (Ok None) t = t.reads.keeps
scope-keeps old new before after at (Err fault) t = tt

-- What has no damage of a closure is one.

closure-other : (it : Shown) → nat_eq (kind_number it.kind) (kind_number kind.Closure) ≡ false
    → closure_damage it ≡ damage (kind_number it.kind) (kind_number kind.Closure)
unfolding shape_damage
closure-other it other = grind (arith, common_steps)

closure-kind : (it : Shown) → closure_damage it ≡ None → it.kind ≡ kind.Closure
closure-kind it none = of (nat_eq (kind_number it.kind) (kind_number kind.Closure)) refl
  where
    of : (b : Bool) → nat_eq (kind_number it.kind) (kind_number kind.Closure) ≡ b → it.kind ≡ kind.Closure
    of true same = kinds-same it.kind kind.Closure same
    of false other = let no = sym (closure-other it other) ∙ none in absurd (cc)

-- The slots that were read, as they lie in the area then.

slot-read : (old new : area.Heap) (before after : Outside Space) (at slot : ℕ) (to : Option ℕ) → IsHeld old at → closure_damage (shown_at old at) ≡ None
    → Keeps old new → Denotes new to (slot_of (shown_at old at) slot) → HasSlot new at slot to
slot-read old new before after at slot to held sound keeps d =
    let s = keeps.objects at held in
    record {
      held = s.held;
      kind = ap (λ (it : Shown). it.kind) s.shown_as ∙ closure-kind (shown_at old at) sound;
      denotes = subst (λ (it : Shown). Denotes new to (slot_of it slot)) (sym s.shown_as) d;
    }

pub code-slot_of : (old new : area.Heap) (before after : Outside Space) (at : ℕ) (result : Result ℕ SwizzleFault) → IsHeld old at
    → TellsCode old new before after at result → IfOk result (λ code. HasSlot new at 0 (Some code))
code-slot_of old new before after at (Ok code) held t = slot-read old new before after at 0 (Some code) held t.shape t.reads.keeps t.denotes
code-slot_of old new before after at (Err fault) held t = tt

pub scope-slot_of : (old new : area.Heap) (before after : Outside Space) (at : ℕ) (result : Result (Option ℕ) SwizzleFault) → IsHeld old at
    → TellsScope old new before after at result → IfOk result (HasSlot new at 1)
scope-slot_of old new before after at (Ok (Some scope)) held t =
    slot-read old new before after at 1 (Some scope) held t.shape t.reads.keeps t.denotes
scope-slot_of old new before after at (Ok None) held t = slot-read old new before after at 1 None held t.shape t.reads.keeps t.none
scope-slot_of old new before after at (Err fault) held t = tt

pub code-kind : (old new : area.Heap) (before after : Outside Space) (at : ℕ) (result : Result ℕ SwizzleFault) → TellsCode old new before after at result
    → IfOk result (λ code. (header_at new code).kind ≡ kind.Code)
code-kind old new before after at (Ok code) t = t.kind_is
code-kind old new before after at (Err fault) t = tt

-- What a procedure's slots denote are the code object of its unit and its scope.
module _ (here : area.Heap) (outside : Outside Space) (names : List reference.Reference) (at : ℕ) (u : UnitView) (within : Option ℕ)
    (p : ProcedureAt here outside names at u within) where
  pub slot-code : (code : ℕ) → HasSlot here at 0 (Some code) → IsUnitIn here outside code u
  slot-code code s =
      let named : p.is.code_name ≡ name_at here code = sym (ap (λ (r : List reference.Reference). get_or r 0 name.Nil) p.is.refs) ∙ sym s.denotes.1 in
      record { held = s.denotes.0; is = subst (λ (n : reference.Reference). IsUnitSeen (seen here outside) n u) named p.is.is_unit }

  pub slot-scope : (to : Option ℕ) → HasSlot here at 1 to → DenotesScopeIn here outside names to within
  slot-scope to s = record {
    name = slot_of (shown_at here at) 1;
    denotes = s.denotes;
    stands = subst (λ (n : reference.Reference). StandsForScope (seen here outside) (paired names) n within)
        (sym (ap (λ (r : List reference.Reference). get_or r 1 name.Nil) p.is.refs)) p.is.is_scope;
  }

-- What is held.

pub closure-held : (old new : area.Heap) (code : ℕ) (scope : Option ℕ) (result : Result ℕ SwizzleFault)
    → MatchResult result (λ at. IsMade old new at (closure_of code scope)) (λ fault. IsFull old new 7 fault) → IfOk result (IsHeld new)
closure-held old new code scope (Ok at) m = made-held old new at (closure_of code scope) m
closure-held old new code scope (Err fault) m = tt

pub code-held : (old new : area.Heap) (before after : Outside Space) (at : ℕ) (result : Result ℕ SwizzleFault) → TellsCode old new before after at result
    → IfOk result (IsHeld new)
code-held old new before after at (Ok code) t = t.held
code-held old new before after at (Err fault) t = tt

pub round-held : (old new : area.Heap) (before after : Outside Space) (at : ℕ) (result : Result (Option ℕ) SwizzleFault)
    → TellsScope old new before after at result → IfOk result (λ to. IfSome to (IsHeld new))
round-held old new before after at (Ok (Some scope)) t = t.held
round-held old new before after at (Ok None) t = tt
round-held old new before after at (Err fault) t = tt

pub closure-keeps : (old new : area.Heap) (code : ℕ) (scope : Option ℕ) (result : Result ℕ SwizzleFault) → IsHeap old
    → MatchResult result (λ at. IsMade old new at (closure_of code scope)) (λ fault. IsFull old new 7 fault) → Keeps old new
closure-keeps old new code scope (Ok at) h m = made-keeps old new at (closure_of code scope) h m
closure-keeps old new code scope (Err fault) h full = same-keeps old new full.stays
