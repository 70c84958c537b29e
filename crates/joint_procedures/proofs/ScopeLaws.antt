-- Scopes that are made beside a vault, and the way out of one, wherever its scopes lie.
use Rattle.std.proofs.Common.{arith, inl, inr, ◌⊎◌, ◌≡◌, ℕ, zero, suc, ◌+◌, ◌*◌, ◌<◌, List, [], ◌∷◌, length, map, replicate, get_or, refl, sym, ap, ◌∙◌, subst, Option, Some, None, IfSome}
use Rattle.std.specs.Prelude.{Result, Ok, Err, IfOk, OnOk}
use Rattle.std.proofs.lemmas.Bool.{eq-eqb}
use Rattle.std.proofs.lemmas.List.{length-map}
use Rattle.joint_ops.specs.ps_outside.Outside.{Outside, SameContents}
use Rattle.joint_ops.specs.obj_layout.Kind.{kind_number}
use Rattle.joint_ops.specs.obj_layout.Objects as layout
use Rattle.joint_ops.specs.obj_layout.Objects.{HasContents}
use Rattle.joint_ops.specs.obj_layout.Stored.{Space, Holds, Damage, damage}
use Rattle.joint_ops.specs.obj_layout.declared.kind.Kind.TheVariants as kind
use Rattle.joint_ops.specs.obj_layout.declared.reference.Reference as reference
use Rattle.joint_ops.specs.obj_layout.declared.reference.Reference.TheVariants as name
use Rattle.joint_ops.specs.swizzle.declared.fault.SwizzleFault.{SwizzleFault}
use Rattle.joint_ops.specs.swizzle.Objects.{size_of}
use Rattle.joint_ops.specs.swizzle.Heap as area
use Rattle.joint_ops.specs.swizzle.Heap.{IsHeap, IsHeld, IsInside, header_at, reference_to}
use Rattle.joint_ops.specs.swizzle.Joint.{Shown, shown, shown_at, name_at, name_of}
use Rattle.joint_ops.specs.swizzle.Changes.{Within}
use Rattle.joint_ops.specs.swizzle.Touch.{Denotes, Keeps}
use Rattle.joint_ops.specs.swizzle.Reading.{joint, AreKnown, LeavesOutside}
use Rattle.joint_ops.specs.swizzle.Text.{text_at}
use Rattle.joint_ops.proofs.of_swizzle.NameLaws.{name-not_nil, shown-counts}
use Rattle.joint_ops.proofs.of_swizzle.MadeLaws.{made-held}
use Rattle.joint_ops.specs.text_forms.declared.forms.Rows.{Rows}
use Rattle.joint_ops.specs.text_forms.Forms.{forms_of, rows_of}
use Rattle.joint_ops.proofs.of_text_forms.Places.{counted}
use Rattle.scopes.specs.heap_places.Shapes.{IsText, slot_of}
use Rattle.scopes.specs.heap_places.Places.{NamesDamage}
use Rattle.scopes.specs.Making as making
use Rattle.scopes.specs.Making.{scope_object, scope_words}
use Rattle.scopes.specs.Way.{way_damage, TellsParent, LeadsOver, end_of, EndsEarly, GoesOut}
use Rattle.scopes.proofs.WayLaws.{not-damaged}
use Rattle.joint_ops.specs.ps_heap.Values.{Value, Text}
use Rattle.joint_ops.specs.ps_heap.Objects.{Heap, Object, Structure, Elements, Scope, Keyed, object_at}
use Rattle.joint_ops.specs.ps_heap.Scopes.{first_value, new_scope, scope_at, parent_in, scope_out}
use Rattle.joint_ops.specs.ps_heap.Weights.{own_weight}
use Rattle.joint_ops.specs.heap_meaning.Tables.{IsNewTable}
use Rattle.joint_ops.specs.heap_meaning.Standing.{IsKindOf, StandsForScope, IsScope, IsLike}
use Rattle.joint_ops.specs.heap_meaning.Paired.{paired}
use Rattle.joint_ops.proofs.of_heap_meaning.StandingLaws.{scope-more}
use Rattle.joint_ops.proofs.of_heap_meaning.PairedLaws.{row-within}
use Rattle.joint_ops.proofs.of_heap_meaning.ScopeLaws.{scope-parent, first-are}
use Rattle.joint_ops.specs.World.{IsWorld, seen, DenotesIn, DenotesScopeIn, FailsAsReading}
use Rattle.joint_ops.specs.Made.{IsFresh, FailsAsMaking}
use Rattle.joint_ops.proofs.SeenLaws.{seen-held, seen-one, joint-is, joint-one, seen-joint, nil-unseen, keeps-passes, grows-within, reads-within, Known, IsCaused, caused-touch, caused-later, breaks, no-damage}
use Rattle.joint_ops.proofs.GainLaws.{reads-stands}
use Rattle.joint_ops.proofs.GrowthLaws.{made-keeps, same-keeps, full-breaks}
use Rattle.joint_ops.proofs.MadeLaws.{object-made}
use Rattle.joint_procedures.specs.Scopes.{IsDamage, MakesScope, AnswersParent, AnswersOut}
use Rattle.joint_procedures.proofs.ProcedureLaws.{scope-named}

-- A new scope.

inside-scope : (here : area.Heap) (text : ℕ) (parent : Option ℕ) (bytes : List ℕ) → IsHeld here text → IfSome parent (IsHeld here)
    → IsInside here (scope_object text parent (rows_of (forms_of bytes)))
unfolding scope_object
inside-scope here text parent bytes held there zero to e = let same : text ≡ to = cc in subst (IsHeld here) same held
inside-scope here text None bytes held there (suc zero) to e = absurd (cc)
inside-scope here text (Some at) bytes held there (suc zero) to e = let same : at ≡ to = cc in subst (IsHeld here) same there
inside-scope here text parent bytes held there (suc (suc slot)) to e = nils (rows_of (forms_of bytes)).refs slot e
  where
    nils : (n slot : ℕ) → get_or (replicate n name.Nil) slot name.Nil ≡ name.Local to → IsHeld here to
    nils zero slot e = absurd (cc)
    nils (suc n) zero e = absurd (cc)
    nils (suc n) (suc slot) e = nils n slot e

named-nils : (here : area.Heap) (n : ℕ) → replicate n name.Nil ≡ map (name_of here) (replicate n name.Nil)
named-nils here zero = refl
named-nils here (suc n) = ap (λ (r : List reference.Reference). name.Nil ∷ r) (named-nils here n)

one : (n : ℕ) → 1 + n ≡ suc n
one n = omega arith

scope-like : (here : area.Heap) (outside : Outside Space) (names : List reference.Reference) (text : ℕ) (parent : Option ℕ) (bytes : List ℕ) (round : Option ℕ)
    → DenotesIn here outside names (Some text) (Text bytes) → DenotesScopeIn here outside names parent round
    → IsLike (seen here outside) (paired names) (shown (name_of here) (scope_object text parent (rows_of (forms_of bytes)))) (new_scope bytes round)
unfolding scope_object new_scope
scope-like here outside names text parent bytes round dt dp =
    let rows = rows_of (forms_of bytes) in
    record {
      kind_is = refl;
      text_name = name_at here text;
      parent_name = name_of here (reference_to parent);
      home = 0;
      names = replicate rows.refs name.Nil;
      words = replicate rows.nums 0;
      refs = ap (λ (r : List reference.Reference). name_at here text ∷ name_of here (reference_to parent) ∷ r) (sym (named-nils here rows.refs));
      nums = ap (λ (k : ℕ). replicate k 0) (one rows.nums);
      is_text = subst (λ (n : reference.Reference). IsText (seen here outside) n bytes) (sym dt.denotes.1) dt.stands;
      is_parent = scope-named here outside names parent round dp;
      are = first-are (seen here outside) (paired names) (forms_of bytes);
    }

scope-weight : (text : ℕ) (parent : Option ℕ) (bytes : List ℕ) (round : Option ℕ)
    → 8 * size_of (scope_object text parent (rows_of (forms_of bytes))) ≡ own_weight (new_scope bytes round)
unfolding scope_object new_scope
scope-weight text parent bytes round = omega (arith, length-map (forms_of bytes) first_value, counted (forms_of bytes))

words-weight : (bytes : List ℕ) (round : Option ℕ) → 8 * scope_words (rows_of (forms_of bytes)) ≡ own_weight (new_scope bytes round)
unfolding scope_words new_scope
words-weight bytes round = omega (arith, length-map (forms_of bytes) first_value, counted (forms_of bytes))

scope-blank : (it : Shown) (bytes : List ℕ) (round : Option ℕ) → IsNewTable it (new_scope bytes round)
unfolding new_scope
scope-blank it bytes round = tt

scope-fresh : (bytes : List ℕ) (round : Option ℕ) → IsFresh (new_scope bytes round)
unfolding new_scope
scope-fresh bytes round = tt

scope-whole : (text : ℕ) (parent : Option ℕ) (rows : Rows) → HasContents (scope_object text parent rows).header (layout.scope rows.refs rows.nums)
unfolding scope_object
scope-whole text parent rows = record { kind = refl; counted = refl; allowed = tt }

scope-pid : (text : ℕ) (parent : Option ℕ) (bytes : List ℕ) → (scope_object text parent (rows_of (forms_of bytes))).header.pid ≡ 0
unfolding scope_object
scope-pid text parent bytes = refl

scope-kind : (text : ℕ) (parent : Option ℕ) (bytes : List ℕ) → (scope_object text parent (rows_of (forms_of bytes))).header.kind ≡ kind.Scope
unfolding scope_object
scope-kind text parent bytes = refl

makes-of : (old new : area.Heap) (outside : Outside Space) (of : Heap) (names : List reference.Reference) (text : ℕ) (parent : Option ℕ) (bytes : List ℕ) (round : Option ℕ)
    (result : Result ℕ SwizzleFault) → IsHeap old → IsHeap new → IsWorld old outside of names → IsHeld old text → IfSome parent (IsHeld old)
    → DenotesIn old outside names (Some text) (Text bytes) → DenotesScopeIn old outside names parent round
    → making.MakesScope old new text bytes parent result → MakesScope old new outside of names (new_scope bytes round) result
makes-of old new outside of names text parent bytes round (Ok at) h now w held there dt dp m =
    let o = scope_object text parent (rows_of (forms_of bytes)) in
    let made = object-made outside old new of names at o (new_scope bytes round) (layout.scope (rows_of (forms_of bytes)).refs (rows_of (forms_of bytes)).nums) h now w
    (inside-scope old text parent bytes held there) (scope-pid text parent bytes) (scope-whole text parent (rows_of (forms_of bytes))) m
    (scope-like old outside names text parent bytes round dt dp) (scope-blank (shown (name_of old) o) bytes round) (scope-weight text parent bytes round) in
    record {
      held = made.held;
      unstored = made.unstored;
      fresh = scope-fresh bytes round;
      world = made.world;
      carries = made.carries;
      gains = made.gains;
      top = made.top;
      denotes = record {
        name = name_at new at;
        denotes = (made.held, refl);
        stands = (made.pair, subst (IsKindOf (seen new outside) (name_at new at)) (scope-kind text parent bytes) made.kinds);
      };
    }
makes-of old new outside of names text parent bytes round (Err fault) h now w held there dt dp full = record {
  wanted = scope_words (rows_of (forms_of bytes));
  fault_is = full.fault_is;
  full = full.full;
  words = inl (words-weight bytes round);
  stays = full.stays;
}

pub makes-scope : (old new : area.Heap) (outside : Outside Space) (of : Heap) (names : List reference.Reference) (text : ℕ) (parent : Option ℕ) (bytes : List ℕ) (round : Option ℕ)
    (result : Result ℕ SwizzleFault) → IsHeap old → IsHeap new → IsWorld old outside of names → IsHeld old text → IfSome parent (IsHeld old) → text_at old text ≡ bytes
    → DenotesIn old outside names (Some text) (Text bytes) → DenotesScopeIn old outside names parent round
    → making.MakesScope old new text (text_at old text) parent result → MakesScope old new outside of names (new_scope bytes round) result
makes-scope old new outside of names text parent bytes round result h now w held there are dt dp m =
    makes-of old new outside of names text parent bytes round result h now w held there dt dp
    (subst (λ (b : List ℕ). making.MakesScope old new text b parent result) are m)

-- A scope, on both sides.

pub record ScopeSeen (here : area.Heap) (outside : Outside Space) (of : Heap) (names : List reference.Reference) (id : ℕ) (it : Shown) : Type 0 where
  pub text : List ℕ
  pub parent : Option ℕ
  pub values : List Value
  pub means : object_at of id ≡ Some (Scope text parent values)
  pub is : IsScope (seen here outside) (paired names) it text parent values

module _ (here : area.Heap) (outside : Outside Space) (of : Heap) (names : List reference.Reference) (h : IsHeap here) (w : IsWorld here outside of names)
    (one : (a b : Space) → outside.contents a → outside.contents b → a ≡ b) where
  pub scope-seen : (n : reference.Reference) (id : ℕ) (it : Shown) → StandsForScope (seen here outside) (paired names) n (Some id) → seen here outside n it
      → ScopeSeen here outside of names id it
  scope-seen n id it s there =
      let b = w.row.stands.both n id s.0 in
      let scope : it.kind ≡ kind.Scope = sym (ap (λ (x : Shown). x.kind) (seen-one here outside h one n s.1.it it s.1.there there)) ∙ s.1.kind_is in
      cases b.object b.means
      (subst (λ (x : Shown). IsLike (seen here outside) (paired names) x b.object) (seen-one here outside h one n b.it it b.there there) b.like) scope
    where
      cases : (o : Object) → object_at of id ≡ Some o → IsLike (seen here outside) (paired names) it o → it.kind ≡ kind.Scope
          → ScopeSeen here outside of names id it
      cases (Structure class fields) means like scope = let bad : kind.Scope ≡ kind.Structure = sym scope ∙ like.kind_is in absurd (cc)
      cases (Elements ty low elements) means like scope = let bad : kind.Scope ≡ kind.Vector = sym scope ∙ like.rows.kind_is in absurd (cc)
      cases (Scope text parent values) means like scope = record { text = text; parent = parent; values = values; means = means; is = like }
      cases (Keyed table) means like scope = let bad : kind.Scope ≡ kind.Table = sym scope ∙ like in absurd (cc)

-- an object that denotes a scope
pub record ScopeAt (here : area.Heap) (outside : Outside Space) (of : Heap) (names : List reference.Reference) (at : ℕ) (within : Option ℕ) : Type 0 where
  pub id : ℕ
  pub within_is : within ≡ Some id
  pub held : IsHeld here at
  pub pair : paired names (name_at here at) id
  pub there : ScopeSeen here outside of names id (shown_at here at)

pub scope-denoted : (here : area.Heap) (outside : Outside Space) (of : Heap) (names : List reference.Reference) (at : ℕ) (within : Option ℕ) → IsHeap here
    → IsWorld here outside of names → ((a b : Space) → outside.contents a → outside.contents b → a ≡ b)
    → DenotesScopeIn here outside names (Some at) within → ScopeAt here outside of names at within
scope-denoted here outside of names at within h w one d = cases within d.stands
  where
    cases : (s : Option ℕ) → StandsForScope (seen here outside) (paired names) d.name s → ScopeAt here outside of names at s
    cases None s = absurd (name-not_nil here at (d.denotes.1 ∙ s))
    cases (Some id) s = record {
      id = id;
      within_is = refl;
      held = d.denotes.0;
      pair = subst (λ (n : reference.Reference). paired names n id) (sym d.denotes.1) s.0;
      there = scope-seen here outside of names h w one d.name id (shown_at here at) s
          (subst (λ (n : reference.Reference). seen here outside n (shown_at here at)) d.denotes.1 (seen-held here outside at d.denotes.0));
    }

-- what it refers to as the scope round it
parent-stands : (here : area.Heap) (outside : Outside Space) (of : Heap) (names : List reference.Reference) (id : ℕ) (it : Shown)
    → (s : ScopeSeen here outside of names id it) → StandsForScope (seen here outside) (paired names) (slot_of it 1) s.parent
parent-stands here outside of names id it s =
    subst (λ (n : reference.Reference). StandsForScope (seen here outside) (paired names) n s.parent)
    (sym (scope-parent (seen here outside) (paired names) it s.text s.parent s.values s.is)) s.is.is_parent

pub scope-known : (here : area.Heap) (outside : Outside Space) (names : List reference.Reference) (n : reference.Reference) (s : Option ℕ)
    → StandsForScope (seen here outside) (paired names) n s → Known here outside n
scope-known here outside names n None s = inl s
scope-known here outside names n (Some id) s = inr (record { it = s.1.it; is = s.1.there })

way-sound : (here : area.Heap) (outside : Outside Space) (of : Heap) (names : List reference.Reference) (at id : ℕ) → IsHeap here → IsHeld here at
    → ScopeSeen here outside of names id (shown_at here at) → way_damage (shown_at here at) ≡ None
way-sound here outside of names at id h held s =
    not-damaged here at (header_at here at).refs h held (eq-eqb (kind_number (header_at here at).kind) 4 (ap kind_number s.is.kind_is)) refl
    (omega (arith, (shown-counts here at h held).0, ap length s.is.refs))

-- The scope round it.

pub answers-parent : (old new : area.Heap) (before after : Outside Space) (of : Heap) (names : List reference.Reference) (at : ℕ) (within : Option ℕ)
    (result : Result (Option ℕ) SwizzleFault) → IsHeap old → IsHeap new → IsWorld old before of names → ScopeAt old before of names at within
    → TellsParent old new before after at result → AnswersParent old new before after of names within result
answers-parent old new before after of names at within (Ok to) h now w s t =
    let n = slot_of (shown_at old at) 1 in
    let passes = keeps-passes old new (seen old before) (seen new after) t.reads.keeps (reads-within old new before after (n ∷ []) t.reads) in
    let round = parent-stands old before of names s.id (shown_at old at) s.there in
    record {
      text = s.there.text;
      parent = s.there.parent;
      is = record { values = s.there.values; is = ap (scope_at of) s.within_is ∙ s.there.means };
      denotes = record {
        name = n;
        denotes = t.denotes;
        stands = scope-more (seen old before) (seen new after) (paired names) (paired names) n s.there.parent passes.kinds (λ m id q. q) round;
      };
      stands = reads-stands old new before after (n ∷ []) of names h now (scope-known old before names n s.there.parent round, tt) t.reads w;
    }
answers-parent old new before after of names at within (Err fault) h now w s t =
    let n = slot_of (shown_at old at) 1 in
    let round = parent-stands old before of names s.id (shown_at old at) s.there in
    breaks old new before after fault (t.0) (elim t.1 [
      | inl damaged ↦ absurd (no-damage old at (way_damage (shown_at old at)) fault (way-sound old before of names at s.id h s.held s.there) damaged)
      | inr touch ↦ caused-touch old new before after at 1 fault h (scope-known old before names n s.there.parent round) touch.1
    ])

-- The way out.

-- nil has no object, in the area or in the vault
nil-nowhere : (here : area.Heap) (out : Outside Space) (n : reference.Reference) (it : Shown) → n ≡ name.Nil → joint here out n it → ⊥
nil-nowhere here out n it nil (inl a) = name-not_nil here a.at (sym a.name_is ∙ nil)
nil-nowhere here out n it nil (inr v) = let bad : name.Nil ≡ name.Pid v.pid = sym nil ∙ v.name_is in cc

-- beyond a scope that lies in none there is none
pub out-none : (of : Heap) (up : ℕ) → scope_out of None up ≡ None
unfolding scope_out
out-none of zero = refl
out-none of (suc up) = out-none of up

out-beyond : (of : Heap) (s : Option ℕ) (k up : ℕ) → k < up → parent_in (scope_at of (scope_out of s k)) ≡ None → scope_out of s up ≡ None
unfolding scope_out
out-beyond of s k zero lt e = absurd (omega (arith, lt))
out-beyond of s zero (suc up) lt e = ap (λ (x : Option ℕ). scope_out of x up) e ∙ out-none of up
out-beyond of s (suc k) (suc up) lt e = out-beyond of (parent_in (scope_at of s)) k up (omega (arith, lt)) e

-- a scope that refers to none lies in none
level-none : (of : Heap) (s : Option ℕ) (id : ℕ) (text : List ℕ) (parent : Option ℕ) (values : List Value) → s ≡ Some id
    → object_at of id ≡ Some (Scope text parent values) → parent ≡ None → parent_in (scope_at of s) ≡ None
level-none of s id text parent values is means none = ap (λ (x : Option ℕ). parent_in (scope_at of x)) is ∙ ap parent_in means ∙ none

-- what nil stands for as a scope
nil-scope : (here : area.Heap) (outside : Outside Space) (names : List reference.Reference) (n : reference.Reference) (s : Option ℕ) → n ≡ name.Nil
    → StandsForScope (seen here outside) (paired names) n s → s ≡ None
nil-scope here outside names n None e s = refl
nil-scope here outside names n (Some id) e s =
    absurd (nil-unseen here outside s.1.it (subst (λ (m : reference.Reference). seen here outside m s.1.it) e s.1.there))

pub is-damage : (here : area.Heap) (at : ℕ) (damaged : Option Damage) (fault : SwizzleFault) → NamesDamage here at damaged fault → IsDamage fault
is-damage here at damaged fault d = ((header_at here at).pid, d.0.found, d.0.wanted, d.2)

module _ (old : area.Heap) (before : Outside Space) (of : Heap) (names : List reference.Reference) (h : IsHeap old) (w : IsWorld old before of names)
    (was_one : (a b : Space) → before.contents a → before.contents b → a ≡ b) where
  -- where it comes to, by what was seen before
  led : (new : area.Heap) (out : Outside Space) (n : reference.Reference) (s : Option ℕ) (ps : List reference.Reference) → IsHeap new
      → ((a b : Space) → out.contents a → out.contents b → a ≡ b) → Within (joint old before) (joint new out)
      → StandsForScope (seen old before) (paired names) n s → LeadsOver (joint new out) n ps
      → StandsForScope (seen old before) (paired names) (end_of n ps) (scope_out of s (length ps))
  unfolding scope_out
  led new out n s [] now one grows st l = st
  led new out n None (p ∷ ps) now one grows st l = absurd (nil-nowhere new out n l.0.it st l.0.there)
  led new out n (Some id) (p ∷ ps) now one grows st l =
      let it = st.1.it in
      let a = scope-seen old before of names h w was_one n id it st st.1.there in
      let same : it ≡ l.0.it = joint-one new out now one n it l.0.it (grows n it (seen-joint old before n it st.1.there)) l.0.there in
      let named : slot_of it 1 ≡ p = ap (λ (x : Shown). slot_of x 1) same ∙ l.0.parent_is in
      let round = subst (λ (m : reference.Reference). StandsForScope (seen old before) (paired names) m a.parent) named
      (parent-stands old before of names id it a) in
      subst (λ (x : Option ℕ). StandsForScope (seen old before) (paired names) (end_of p ps) x)
      (sym (ap (λ (o : Option Object). scope_out of (parent_in o) (length ps)) a.means))
      (led new out p a.parent ps now one grows round l.1)

  -- each scope on the way is known
  way-known : (new : area.Heap) (out : Outside Space) (n : reference.Reference) (s : Option ℕ) (ps : List reference.Reference) → IsHeap new
      → ((a b : Space) → out.contents a → out.contents b → a ≡ b) → Within (joint old before) (joint new out)
      → StandsForScope (seen old before) (paired names) n s → LeadsOver (joint new out) n ps → AreKnown (seen old before) ps
  way-known new out n s [] now one grows st l = tt
  way-known new out n None (p ∷ ps) now one grows st l = absurd (nil-nowhere new out n l.0.it st l.0.there)
  way-known new out n (Some id) (p ∷ ps) now one grows st l =
      let it = st.1.it in
      let a = scope-seen old before of names h w was_one n id it st st.1.there in
      let same : it ≡ l.0.it = joint-one new out now one n it l.0.it (grows n it (seen-joint old before n it st.1.there)) l.0.there in
      let named : slot_of it 1 ≡ p = ap (λ (x : Shown). slot_of x 1) same ∙ l.0.parent_is in
      let round = subst (λ (m : reference.Reference). StandsForScope (seen old before) (paired names) m a.parent) named
      (parent-stands old before of names id it a) in
      (scope-known old before names p a.parent round, way-known new out p a.parent ps now one grows round l.1)

  -- the object that it comes to denotes it
  end-denotes : (new : area.Heap) (out : Outside Space) (n : reference.Reference) (s : Option ℕ) (at : ℕ) → Keeps old new
      → Within (seen old before) (seen new out) → StandsForScope (seen old before) (paired names) n s → Denotes new (Some at) n
      → DenotesScopeIn new out names (Some at) s
  end-denotes new out n s at keeps grows st d =
      let passes = keeps-passes old new (seen old before) (seen new out) keeps grows in
      record {
        name = n;
        denotes = d;
        stands = scope-more (seen old before) (seen new out) (paired names) (paired names) n s passes.kinds (λ m id q. q) st;
      }

  -- the scope round the one where it comes to is known
  end-known : (mid : area.Heap) (n : reference.Reference) (s : Option ℕ) (at : ℕ) → IsHeap mid → Within (joint old before) (joint mid before)
      → StandsForScope (seen old before) (paired names) n s → Denotes mid (Some at) n → Known old before (slot_of (shown_at mid at) 1)
  end-known mid n None at now grows st d = absurd (name-not_nil mid at (d.1 ∙ st))
  end-known mid n (Some id) at now grows st d =
      let it = st.1.it in
      let a = scope-seen old before of names h w was_one n id it st st.1.there in
      let same : it ≡ shown_at mid at = joint-is mid (Holds before) at n it now d.0 d.1 (grows n it (seen-joint old before n it st.1.there)) in
      subst (λ (x : Shown). Known old before (slot_of x 1)) same
      (scope-known old before names (slot_of it 1) a.parent (parent-stands old before of names id it a))

module _ (old new : area.Heap) (before after : Outside Space) (of : Heap) (names : List reference.Reference) (scope up : ℕ) (within : Option ℕ)
    (h : IsHeap old) (now : IsHeap new) (w : IsWorld old before of names)
    (was_one : (a b : Space) → before.contents a → before.contents b → a ≡ b) (is_one : (a b : Space) → after.contents a → after.contents b → a ≡ b)
    (d : DenotesScopeIn old before names (Some scope) within) where
  start : StandsForScope (seen old before) (paired names) (name_at old scope) within
  start = subst (λ (n : reference.Reference). StandsForScope (seen old before) (paired names) n within) (sym d.denotes.1) d.stands

  -- there is no scope so far out, or the way to it broke off
  ends : (fault : SwizzleFault) → EndsEarly old before scope up fault
      → ((scope_out of within up ≡ None) × IsDamage fault) ⊎ IsCaused old new before after fault
  ends fault e =
      let end = end_of (name_at old scope) e.parents in
      let k = length e.parents in
      let stands = led old before of names h w was_one e.mid before (name_at old scope) within e.parents e.heap was_one e.grows start e.way in
      let same : SameContents before before = record { kept = λ x is. is; no_other = λ x is. is } in
      let grows = grows-within old e.mid before before e.keeps e.grows same in
      let mid_w : IsWorld e.mid before of names = record { row = row-within (seen old before) (seen e.mid before) of names grows w.row } in
      let there = end-denotes old before of names h w was_one e.mid before end (scope_out of within k) e.at e.keeps grows stands e.denotes in
      let s = scope-denoted e.mid before of names e.at (scope_out of within k) e.heap mid_w was_one there in
      let round = parent-stands e.mid before of names s.id (shown_at e.mid e.at) s.there in
      elim e.why [
        | inl damaged ↦ absurd (no-damage e.mid e.at (way_damage (shown_at e.mid e.at)) fault
            (way-sound e.mid before of names e.at s.id e.heap s.held s.there) damaged)
        | inr other ↦ elim other [
          | inl none ↦ inl (
            out-beyond of within k up e.levels
                (level-none of (scope_out of within k) s.id s.there.text s.there.parent s.there.values s.within_is s.there.means
                (nil-scope e.mid before names (slot_of (shown_at e.mid e.at) 1) s.there.parent none.1 round)),
            is-damage e.mid e.at (damage 0 1) fault none.2,
          )
          | inr fetch ↦ inr (caused-later old e.mid new before after (slot_of (shown_at e.mid e.at) 1) fault e.heap e.keeps
              (end-known old before of names h w was_one e.mid end (scope_out of within k) e.at e.heap e.grows stands e.denotes) fetch.1)
        ]
      ]

  pub answers-out : (result : Result ℕ SwizzleFault) → GoesOut old new before after scope up result → AnswersOut old new before after of names within up result
  answers-out (Ok at) t =
      let stands = led old before of names h w was_one new after (name_at old scope) within t.parents now is_one t.reads.grows start t.way in
      let end = end_of (name_at old scope) t.parents in
      let grows = reads-within old new before after t.parents t.reads in
      let known = way-known old before of names h w was_one new after (name_at old scope) within t.parents now is_one t.reads.grows start t.way in
      let later = reads-stands old new before after t.parents of names h now known t.reads w in
      let there = end-denotes old before of names h w was_one new after end (scope_out of within (length t.parents)) at t.reads.keeps grows stands t.denotes in
      let out : DenotesScopeIn new after names (Some at) (scope_out of within up) =
      subst (λ (k : ℕ). DenotesScopeIn new after names (Some at) (scope_out of within k)) t.levels there in
      let s = scope-denoted new after of names at (scope_out of within up) now later.world is_one out in
      record {
        id = s.id;
        is = s.within_is;
        denotes = subst (DenotesScopeIn new after names (Some at)) s.within_is out;
        stands = later;
      }
  answers-out (Err fault) t = elim (ends fault (t.1)) [
    | inl none ↦ inl none
    | inr caused ↦ inr (breaks old new before after fault (t.0) caused)
  ]

-- What is said whatever the vault.

pub parent-leaves : (old new : area.Heap) (before after : Outside Space) (at : ℕ) (result : Result (Option ℕ) SwizzleFault)
    → TellsParent old new before after at result → LeavesOutside before after
parent-leaves old new before after at (Ok to) t = t.reads.outside
parent-leaves old new before after at (Err fault) t = t.0.outside

pub out-leaves : (old new : area.Heap) (before after : Outside Space) (scope up : ℕ) (result : Result ℕ SwizzleFault)
    → GoesOut old new before after scope up result → LeavesOutside before after
out-leaves old new before after scope up (Ok at) t = t.reads.outside
out-leaves old new before after scope up (Err fault) t = t.0.outside

pub parent-fails : (old new : area.Heap) (before after : Outside Space) (at : ℕ) (result : Result (Option ℕ) SwizzleFault)
    → TellsParent old new before after at result → FailsAsReading before after result
parent-fails old new before after at (Ok to) t = tt
parent-fails old new before after at (Err fault) t = t.0

pub out-fails : (old new : area.Heap) (before after : Outside Space) (scope up : ℕ) (result : Result ℕ SwizzleFault)
    → GoesOut old new before after scope up result → FailsAsReading before after result
out-fails old new before after scope up (Ok at) t = tt
out-fails old new before after scope up (Err fault) t = t.0

pub making-fails : (old new : area.Heap) (text : ℕ) (parent : Option ℕ) (bytes : List ℕ) (result : Result ℕ SwizzleFault)
    → making.MakesScope old new text bytes parent result → FailsAsMaking old new result
making-fails old new text parent bytes (Ok at) m = tt
making-fails old new text parent bytes (Err fault) full = full-breaks old new (scope_words (rows_of (forms_of bytes))) fault full

pub round-keeps : (old new : area.Heap) (before after : Outside Space) (at : ℕ) (result : Result (Option ℕ) SwizzleFault)
    → TellsParent old new before after at result → OnOk result (Keeps old new)
round-keeps old new before after at (Ok to) t = t.reads.keeps
round-keeps old new before after at (Err fault) t = tt

-- What is held.

pub out-held : (old new : area.Heap) (before after : Outside Space) (scope up : ℕ) (result : Result ℕ SwizzleFault)
    → GoesOut old new before after scope up result → IfOk result (IsHeld new)
out-held old new before after scope up (Ok at) t = t.denotes.0
out-held old new before after scope up (Err fault) t = tt

pub out-keeps : (old new : area.Heap) (before after : Outside Space) (scope up : ℕ) (result : Result ℕ SwizzleFault)
    → GoesOut old new before after scope up result → OnOk result (Keeps old new)
out-keeps old new before after scope up (Ok at) t = t.reads.keeps
out-keeps old new before after scope up (Err fault) t = tt

pub scope-held : (old new : area.Heap) (text : ℕ) (parent : Option ℕ) (bytes : List ℕ) (result : Result ℕ SwizzleFault)
    → making.MakesScope old new text bytes parent result → IfOk result (IsHeld new)
scope-held old new text parent bytes (Ok at) m = made-held old new at (scope_object text parent (rows_of (forms_of bytes))) m
scope-held old new text parent bytes (Err fault) m = tt

pub parent-held : (old new : area.Heap) (before after : Outside Space) (at : ℕ) (result : Result (Option ℕ) SwizzleFault)
    → TellsParent old new before after at result → IfOk result (λ to. IfSome to (IsHeld new))
parent-held old new before after at (Ok None) t = tt
parent-held old new before after at (Ok (Some parent)) t = t.denotes.0
parent-held old new before after at (Err fault) t = tt

pub making-keeps : (old new : area.Heap) (text : ℕ) (parent : Option ℕ) (bytes : List ℕ) (result : Result ℕ SwizzleFault) → IsHeap old
    → making.MakesScope old new text bytes parent result → Keeps old new
making-keeps old new text parent bytes (Ok at) h m = made-keeps old new at (scope_object text parent (rows_of (forms_of bytes))) h m
making-keeps old new text parent bytes (Err fault) h full = same-keeps old new full.stays
