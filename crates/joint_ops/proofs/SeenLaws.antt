-- What is seen of area and vault, and what becomes of it as objects are fetched.
use Rattle.std.proofs.Common.{ℤ, arith, inl, inr, ◌⊎◌, ◌≡◌, ◌≢◌, false, ℕ, ◌*◌, ◌≤◌, List, get_or, refl, sym, ap, ◌∙◌, subst, Option, Some, None}
use Rattle.std.specs.Prelude.{take, drop}
use Rattle.heap_meaning.specs.ps_base.CodeUnit.{UnitView}
use Rattle.heap_meaning.specs.ps_outside.Outside.{Outside, SameContents}
use Rattle.heap_meaning.specs.obj_area.Words.{bytes_of}
use Rattle.heap_meaning.specs.obj_layout.Stored.{Space, Holds, Damage}
use Rattle.heap_meaning.proofs.of_obj_layout.StoredLaws.{Holds-one, Holds-low}
use Rattle.heap_meaning.specs.obj_layout.declared.kind.Kind.{Kind}
use Rattle.heap_meaning.specs.obj_layout.declared.kind.Kind.TheVariants as kind
use Rattle.heap_meaning.specs.obj_layout.declared.reference.Reference as reference
use Rattle.heap_meaning.specs.obj_layout.declared.reference.Reference.TheVariants as name
use Rattle.heap_meaning.specs.obj_layout.declared.vault.VaultFault.TheVariants.{Device, Output, Full, NoPages, Damaged}
use Rattle.heap_meaning.specs.swizzle.declared.fault.SwizzleFault.{SwizzleFault}
use Rattle.heap_meaning.specs.swizzle.declared.fault.SwizzleFault.TheVariants.{AreaFull, Vault}
use Rattle.heap_meaning.specs.swizzle.Objects.{words_before}
use Rattle.heap_meaning.specs.swizzle.Heap as area
use Rattle.heap_meaning.specs.swizzle.Heap.{IsHeap, IsHeld, top_of, header_at, object_at, ref_at, local_of}
use Rattle.heap_meaning.specs.swizzle.Joint.{Shown, InArea, Joint, shown_at, name_at, name_of}
use Rattle.heap_meaning.specs.swizzle.Changes.{IsKnown, Within}
use Rattle.heap_meaning.specs.swizzle.Text.{text_at}
use Rattle.heap_meaning.specs.swizzle.Touch.{Denotes, Keeps, IsTouchFault}
use Rattle.heap_meaning.specs.swizzle.Reading.{joint, Reads, LeavesOutside, FailsReading}
use Rattle.heap_meaning.proofs.of_swizzle.DamageLaws.{far-held}
use Rattle.heap_meaning.proofs.of_swizzle.NameLaws.{Joint-one, not_away, name-not_nil, name_at-injective, pid_in}
use Rattle.heap_meaning.specs.text_forms.declared.forms.Form.{Form}
use Rattle.heap_meaning.specs.heap_places.Shapes.{IsText, slot_of, shown_text}
use Rattle.heap_meaning.specs.heap_places.Places.{FailsFetch, NoText, NamesDamage}
use Rattle.heap_meaning.proofs.of_heap_places.PlaceLaws.{slot-name}
use Rattle.heap_meaning.proofs.of_swizzle.FetchedLaws.{local-place}
use Rattle.heap_meaning.proofs.of_swizzle.TouchLaws.{keeps-refl, rose_more}
use Rattle.heap_meaning.proofs.of_proc_values.StayLaws.{keeps-code}
use Rattle.heap_meaning.specs.ps_heap.Values.{Value, Num, Flag, Text, Nil, Pointer, Vector, Procedure, Nothing, Routine, as_written, as_compiled}
use Rattle.heap_meaning.specs.ps_heap.Objects.{Heap, Object, Structure, Elements, Scope, Keyed}
use Rattle.heap_meaning.specs.ps_heap.Objects as meaning
use Rattle.heap_meaning.specs.Units.{IsUnitSeen}
use Rattle.heap_meaning.specs.Standing.{Seen, Pairing, IsKindOf, IsPointed, StandsFor, IsAs, IsStructure, IsVector, IsLike, IsOne}
use Rattle.heap_meaning.specs.Denoting.{DenotesValue, DenotesScope}
use Rattle.heap_meaning.specs.Paired.{paired}
use Rattle.heap_meaning.proofs.StandingLaws.{Fixed, Kinds, Pairs, text-more, unit-more, as-more, stands-more, scope-more}
use Rattle.heap_meaning.proofs.PlaceLaws.{text-one}
use Rattle.joint_ops.specs.World.{IsStored, IsWorld, seen, DenotesIn, IsUnitIn, Carries, IsAway, BreaksOff}

-- an object of the area is seen
pub seen-held : (here : area.Heap) (outside : Outside Space) (at : ℕ) → IsHeld here at → seen here outside (name_at here at) (shown_at here at)
seen-held here outside at held = inl (record { at = at; held = held; name_is = refl; shown_is = refl })

-- what is seen under the name of an object of the area is what is seen of it, whatever a vault holds
pub joint-is : (here : area.Heap) (holds : ℕ → List ℕ → Type 0) (at : ℕ) (n : reference.Reference) (it : Shown) → IsHeap here → IsHeld here at
    → name_at here at ≡ n → Joint here holds n it → it ≡ shown_at here at
joint-is here holds at n it h held e (inl a) =
    a.shown_is ∙ ap (shown_at here) (name_at-injective here a.at at h a.held held (sym a.name_is ∙ sym e))
joint-is here holds at n it h held e (inr v) = absurd (not_away here at v.pid h held (sym v.name_is ∙ sym e) v.away)

pub seen-is : (here : area.Heap) (outside : Outside Space) (at : ℕ) (n : reference.Reference) (it : Shown) → IsHeap here → IsHeld here at
    → name_at here at ≡ n → seen here outside n it → it ≡ shown_at here at
seen-is here outside at n it h held e s = joint-is here (IsStored outside) at n it h held e s

-- What may come into the area is held.
pub seen-joint : (here : area.Heap) (outside : Outside Space) → Within (seen here outside) (joint here outside)
seen-joint here outside n it (inl a) = inl a
seen-joint here outside n it (inr v) =
    inr (record { pid = v.pid; words = v.words; name_is = v.name_is; there = v.there.there; away = v.away; shown_is = v.shown_is })

pub joint-one : (here : area.Heap) (outside : Outside Space) → IsHeap here
    → ((a b : Space) → outside.contents a → outside.contents b → a ≡ b) → IsOne (joint here outside)
joint-one here outside h one n a b s t = Joint-one here (Holds outside) n a b h (λ pid x y p q. Holds-one outside pid x y one p q) s t

pub seen-one : (here : area.Heap) (outside : Outside Space) → IsHeap here
    → ((a b : Space) → outside.contents a → outside.contents b → a ≡ b) → IsOne (seen here outside)
seen-one here outside h one n a b s t = joint-one here outside h one n a b (seen-joint here outside n a s) (seen-joint here outside n b t)

-- what may come into the area may do so still, where what is held stays
pub stored-stays : (before after : Outside Space) (pid : ℕ) (words : List ℕ) → SameContents before after → IsStored before pid words
    → IsStored after pid words
stored-stays before after pid words same s = record {
  there = record { space = s.there.space; is = same.kept s.there.space s.there.is; has = s.there.has };
  header = s.header;
  far = s.far;
  clean = s.clean;
}

-- What is seen of the area is so still, where its objects stay.
pub area-stays : (old new : area.Heap) (n : reference.Reference) (it : Shown) → Keeps old new → InArea old n it → InArea new n it
area-stays old new n it keeps a =
    let stays = keeps.objects a.at a.held in
    record { at = a.at; held = stays.held; name_is = a.name_is ∙ sym stays.name; shown_is = a.shown_is ∙ sym stays.shown_as }

-- Where objects of the area stay and none that is held is lost, nothing that is seen is lost: so after a reading.
pub grows-within : (old new : area.Heap) (before after : Outside Space) → Keeps old new → Within (joint old before) (joint new after)
    → SameContents before after → Within (seen old before) (seen new after)
unfolding pid_in
grows-within old new before after keeps grows same n it (inl a) = inl (area-stays old new n it keeps a)
grows-within old new before after keeps grows same n it (inr v) =
    let j : joint old before n it = inr (record { pid = v.pid; words = v.words; name_is = v.name_is; there = v.there.there; away = v.away; shown_is = v.shown_is }) in
    elim (grows n it j) [
      | inl a ↦ inl a
      | inr w ↦
          let pids : w.pid ≡ v.pid = ap pid_in (sym w.name_is ∙ v.name_is) in
          inr (record {
            pid = v.pid;
            words = v.words;
            name_is = v.name_is;
            there = stored-stays before after v.pid v.words same v.there;
            away = subst (λ (p : ℕ). local_of new p ≡ None) pids w.away;
            shown_is = v.shown_is;
          })
    ]

pub reads-within : (old new : area.Heap) (before after : Outside Space) (touched : List reference.Reference) → Reads old new before after touched
    → Within (seen old before) (seen new after)
reads-within old new before after touched r = grows-within old new before after r.keeps r.grows r.outside.contents

-- What values need to be denoted still: names stay, texts, code and closures stay, and names keep their kinds.
pub record Passes (old new : area.Heap) (a b : Seen) : Type 0 where
  pub names : (at : ℕ) → IsHeld old at → IsHeld new at × (name_at new at ≡ name_at old at)
  pub fixed : Fixed a b
  pub kinds : Kinds a b

denotes-passes : (old new : area.Heap) (a b : Seen) (to : Option ℕ) (n : reference.Reference) → Passes old new a b → Denotes old to n → Denotes new to n
denotes-passes old new a b None n p d = d
denotes-passes old new a b (Some at) n p d = let now = p.names at d.0 in (now.0, now.1 ∙ d.1)

pub carries-value : (old new : area.Heap) (a b : Seen) (pair more : Pairing) (to : Option ℕ) (v : Value) → Passes old new a b → Pairs pair more
    → DenotesValue old a pair to v → DenotesValue new b more to v
carries-value old new a b pair more to v p pairs d = record {
  name = d.name;
  denotes = denotes-passes old new a b to d.name p d.denotes;
  stands = stands-more a b pair more d.name v p.fixed p.kinds pairs d.stands;
}

pub carries-scope : (old new : area.Heap) (a b : Seen) (pair more : Pairing) (to scope : Option ℕ) → Passes old new a b → Pairs pair more
    → DenotesScope old a pair to scope → DenotesScope new b more to scope
carries-scope old new a b pair more to scope p pairs d = record {
  name = d.name;
  denotes = denotes-passes old new a b to d.name p d.denotes;
  stands = scope-more a b pair more d.name scope p.kinds pairs d.stands;
}

pub carries-unit : (old new : area.Heap) (before after : Outside Space) (code : ℕ) (u : UnitView)
    → Passes old new (seen old before) (seen new after) → IsUnitIn old before code u → IsUnitIn new after code u
carries-unit old new before after code u p i =
    let now = p.names code i.held in
    record {
      held = now.0;
      is = subst (λ (n : reference.Reference). IsUnitSeen (seen new after) n u) (sym now.1)
          (unit-more (seen old before) (seen new after) (name_at old code) u p.fixed i.is);
    }

-- So it is where objects of the area stay and nothing that is seen is lost.
pub keeps-passes : (old new : area.Heap) (a b : Seen) → Keeps old new → Within a b → Passes old new a b
keeps-passes old new a b keeps grows = record {
  names = λ at held. let s = keeps.objects at held in (s.held, s.name);
  fixed = λ n it k s. grows n it s;
  kinds = λ n it s. record { it = it; there = grows n it s; kind_is = refl };
}

pub keeps-carries : (old new : area.Heap) (before after : Outside Space) (names more : List reference.Reference) → Keeps old new
    → Within (seen old before) (seen new after) → Pairs (paired names) (paired more) → Carries old new before after names more
keeps-carries old new before after names more keeps grows pairs =
    let p = keeps-passes old new (seen old before) (seen new after) keeps grows in
    record {
      values = λ to v d. carries-value old new (seen old before) (seen new after) (paired names) (paired more) to v p pairs d;
      scopes = λ to scope d. carries-scope old new (seen old before) (seen new after) (paired names) (paired more) to scope p pairs d;
      units = λ code u i. carries-unit old new before after code u p i;
      code = keeps-code old new keeps;
      size = keeps.size;
      top = keeps.top;
    }

pub as-within : (a b : Seen) (pair : Pairing) (it : Shown) (of : Kind) (text : List ℕ) (first : ℕ → List ℕ) (forms : List Form) (vs : List Value)
    → Within a b → IsAs a pair it of text first forms vs → IsAs b pair it of text first forms vs
as-within a b pair it of text first forms vs grows s =
    as-more a b pair pair it of text first forms vs (λ n x fixed j. grows n x j)
    (λ n x j. record { it = x; there = grows n x j; kind_is = refl }) (λ n id p. p) s

-- What objects of the area denote.

-- nothing is seen under nil
pub nil-unseen : (here : area.Heap) (outside : Outside Space) (it : Shown) → seen here outside name.Nil it → ⊥
nil-unseen here outside it (inl a) = name-not_nil here a.at (sym a.name_is)
nil-unseen here outside it (inr v) = let bad : name.Nil ≡ name.Pid v.pid = v.name_is in absurd (cc)

-- a structure or a table is known
pointed-known : (here : area.Heap) (outside : Outside Space) (n : reference.Reference) → IsPointed (seen here outside) n → IsKnown (seen here outside) n
pointed-known here outside n p = elim p [ inl k ↦ record { it = k.it; is = k.there } | inr k ↦ record { it = k.it; is = k.there } ]

nil-stands : (here : area.Heap) (outside : Outside Space) (names : List reference.Reference) (n : reference.Reference) (v : Value) → n ≡ name.Nil
    → StandsFor (seen here outside) (paired names) n v → v ≡ Nil
nil-stands here outside names n Nil e s = refl
nil-stands here outside names n (Text bytes) e s = absurd (nil-unseen here outside s.it (subst (λ (m : reference.Reference). seen here outside m s.it) e s.there))
nil-stands here outside names n (Pointer id) e s = let k = pointed-known here outside n s.1 in absurd (nil-unseen here outside k.it (subst (λ (m : reference.Reference). seen here outside m k.it) e k.is))
nil-stands here outside names n (Vector id) e s = absurd (nil-unseen here outside s.1.it (subst (λ (m : reference.Reference). seen here outside m s.1.it) e s.1.there))
nil-stands here outside names n (Num z) e s = absurd s
nil-stands here outside names n (Flag b) e s = absurd s
nil-stands here outside names n (Procedure (as_written of) scope) e s = absurd s
nil-stands here outside names n (Procedure (as_compiled of) scope) e s = absurd (nil-unseen here outside s.it (subst (λ (m : reference.Reference). seen here outside m s.it) e s.there))
nil-stands here outside names n Nothing e s = absurd s

pub none-nil : (here : area.Heap) (outside : Outside Space) (names : List reference.Reference) (v : Value) → DenotesIn here outside names None v → v ≡ Nil
none-nil here outside names v d = nil-stands here outside names d.name v d.denotes d.stands

pub some-not_nil : (here : area.Heap) (outside : Outside Space) (names : List reference.Reference) (at : ℕ) → DenotesIn here outside names (Some at) Nil → ⊥
some-not_nil here outside names at d = name-not_nil here at (d.denotes.1 ∙ d.stands)

kind-at : (here : area.Heap) (outside : Outside Space) (at : ℕ) (n : reference.Reference) (of : Kind) → IsHeap here → IsHeld here at → name_at here at ≡ n
    → IsKindOf (seen here outside) n of → (header_at here at).kind ≡ of
kind-at here outside at n of h held e k = sym (ap (λ (x : Shown). x.kind) (seen-is here outside at n k.it h held e k.there)) ∙ k.kind_is

-- an object that denotes a text
pub record TextAt (here : area.Heap) (at : ℕ) (bytes : List ℕ) : Type 0 where
  pub held : IsHeld here at
  pub kind : (header_at here at).kind ≡ kind.Text
  pub bytes_are : text_at here at ≡ bytes

pub shown-bytes : (here : area.Heap) (at : ℕ) → (header_at here at).kind ≡ kind.Text → text_at here at ≡ shown_text (shown_at here at)
shown-bytes here at is = ap (λ (k : Kind). take (header_at here at).bytes (drop (8 * words_before k) (bytes_of (object_at here at).nums))) is

pub text-denoted : (here : area.Heap) (outside : Outside Space) (names : List reference.Reference) (at : ℕ) (bytes : List ℕ) → IsHeap here
    → DenotesIn here outside names (Some at) (Text bytes) → TextAt here at bytes
text-denoted here outside names at bytes h d =
    let t = d.stands in
    let is = seen-is here outside at d.name t.it h d.denotes.0 d.denotes.1 t.there in
    let kinds : (header_at here at).kind ≡ kind.Text = sym (ap (λ (x : Shown). x.kind) is) ∙ t.kind in
    record { held = d.denotes.0; kind = kinds; bytes_are = shown-bytes here at kinds ∙ sym (ap shown_text is) ∙ t.bytes_are }

-- An object that denotes a vector, or is a structure: its name is paired with the number, and its kind is known.
pub record ObjectAt (here : area.Heap) (names : List reference.Reference) (at id : ℕ) (of : Kind) : Type 0 where
  pub held : IsHeld here at
  pub pair : paired names (name_at here at) id
  pub kind : (header_at here at).kind ≡ of

object-denoted : (here : area.Heap) (outside : Outside Space) (names : List reference.Reference) (at id : ℕ) (n : reference.Reference) (of : Kind) → IsHeap here
    → IsHeld here at → name_at here at ≡ n → paired names n id × IsKindOf (seen here outside) n of → ObjectAt here names at id of
object-denoted here outside names at id n of h held e s = record {
  held = held;
  pair = subst (λ (m : reference.Reference). paired names m id) (sym e) s.0;
  kind = kind-at here outside at n of h held e s.1;
}

-- An object that denotes a pointer is a structure or a table.
pub record PointedAt (here : area.Heap) (names : List reference.Reference) (at id : ℕ) : Type 0 where
  pub held : IsHeld here at
  pub pair : paired names (name_at here at) id
  pub kind : ((header_at here at).kind ≡ kind.Structure) ⊎ ((header_at here at).kind ≡ kind.Table)

pub pointer-denoted : (here : area.Heap) (outside : Outside Space) (names : List reference.Reference) (at id : ℕ) → IsHeap here
    → DenotesIn here outside names (Some at) (Pointer id) → PointedAt here names at id
pointer-denoted here outside names at id h d = record {
  held = d.denotes.0;
  pair = subst (λ (m : reference.Reference). paired names m id) (sym d.denotes.1) d.stands.0;
  kind = elim d.stands.1 [
    | inl k ↦ inl (kind-at here outside at d.name kind.Structure h d.denotes.0 d.denotes.1 k)
    | inr k ↦ inr (kind-at here outside at d.name kind.Table h d.denotes.0 d.denotes.1 k)
  ];
}

pub vector-denoted : (here : area.Heap) (outside : Outside Space) (names : List reference.Reference) (at id : ℕ) → IsHeap here
    → DenotesIn here outside names (Some at) (Vector id) → ObjectAt here names at id kind.Vector
vector-denoted here outside names at id h d = object-denoted here outside names at id d.name kind.Vector h d.denotes.0 d.denotes.1 d.stands

pub procedure-kind : (here : area.Heap) (outside : Outside Space) (names : List reference.Reference) (at : ℕ) (does : Routine) (scope : Option ℕ) → IsHeap here
    → DenotesIn here outside names (Some at) (Procedure does scope) → (header_at here at).kind ≡ kind.Closure
procedure-kind here outside names at (as_written of) scope h d = absurd (d.stands)
procedure-kind here outside names at (as_compiled of) scope h d =
    let s = d.stands in
    let is = seen-is here outside at d.name s.it h d.denotes.0 d.denotes.1 s.there in
    sym (ap (λ (x : Shown). x.kind) is) ∙ s.is.kind_is

-- The object of a pair, on both sides.

pub both-at : (here : area.Heap) (outside : Outside Space) (of : Heap) (names : List reference.Reference) (at id : ℕ) → IsHeap here → IsWorld here outside of names
    → IsHeld here at → paired names (name_at here at) id
    → (o : Object) × (meaning.object_at of id ≡ Some o) × IsLike (seen here outside) (paired names) (shown_at here at) o
both-at here outside of names at id h w held p =
    let b = w.row.stands.both (name_at here at) id p in (
      b.object,
      b.means,
      subst (λ (it : Shown). IsLike (seen here outside) (paired names) it b.object)
          (seen-is here outside at (name_at here at) b.it h held refl b.there) b.like,
    )

pub record StructureAt (here : area.Heap) (outside : Outside Space) (of : Heap) (names : List reference.Reference) (at id : ℕ) : Type 0 where
  pub held : IsHeld here at
  pub pair : paired names (name_at here at) id
  pub class : List ℕ
  pub fields : List Value
  pub means : meaning.object_at of id ≡ Some (Structure class fields)
  pub is : IsStructure (seen here outside) (paired names) (shown_at here at) class fields

pub structure-at : (here : area.Heap) (outside : Outside Space) (of : Heap) (names : List reference.Reference) (at id : ℕ) → IsHeap here
    → IsWorld here outside of names → ObjectAt here names at id kind.Structure → StructureAt here outside of names at id
structure-at here outside of names at id h w p = let b = both-at here outside of names at id h w p.held p.pair in cases (b.0) (b.1) (b.2)
  where
    cases : (o : Object) → meaning.object_at of id ≡ Some o → IsLike (seen here outside) (paired names) (shown_at here at) o → StructureAt here outside of names at id
    cases (Structure class fields) means like = record { held = p.held; pair = p.pair; class = class; fields = fields; means = means; is = like }
    cases (Elements ty low elements) means like = let bad : kind.Structure ≡ kind.Vector = sym p.kind ∙ like.rows.kind_is in absurd (cc)
    cases (Scope text parent values) means like = let bad : kind.Structure ≡ kind.Scope = sym p.kind ∙ like.kind_is in absurd (cc)
    cases (Keyed table) means like = let bad : kind.Structure ≡ kind.Table = sym p.kind ∙ like in absurd (cc)

-- the structure, where the object of a pointer is one
pub structure-pointed : (here : area.Heap) (outside : Outside Space) (of : Heap) (names : List reference.Reference) (at id : ℕ) → IsHeap here
    → IsWorld here outside of names → DenotesIn here outside names (Some at) (Pointer id) → (header_at here at).kind ≡ kind.Structure
    → StructureAt here outside of names at id
structure-pointed here outside of names at id h w d k =
    let p = pointer-denoted here outside names at id h d in structure-at here outside of names at id h w (record { held = p.held; pair = p.pair; kind = k })

-- what is no structure is of no class
pub no-class : (here : area.Heap) (outside : Outside Space) (of : Heap) (names : List reference.Reference) (at id : ℕ) (class : List ℕ) → IsHeap here
    → IsWorld here outside of names → DenotesIn here outside names (Some at) (Pointer id) → (header_at here at).kind ≢ kind.Structure
    → meaning.is_of (meaning.object_at of id) class ≡ false
no-class here outside of names at id class h w d ne =
    let p = pointer-denoted here outside names at id h d in
    let b = both-at here outside of names at id h w p.held p.pair in
    ap (λ (o : Option Object). meaning.is_of o class) (b.1) ∙ cases (b.0) (b.2)
  where
    cases : (o : Object) → IsLike (seen here outside) (paired names) (shown_at here at) o → meaning.is_of (Some o) class ≡ false
    cases (Structure text fields) like = absurd (ne like.kind_is)
    cases (Elements ty low elements) like = refl
    cases (Scope text parent values) like = refl
    cases (Keyed table) like = refl

pub record VectorAt (here : area.Heap) (outside : Outside Space) (of : Heap) (names : List reference.Reference) (at id : ℕ) : Type 0 where
  pub held : IsHeld here at
  pub pair : paired names (name_at here at) id
  pub ty : List ℕ
  pub low : ℤ
  pub elements : List Value
  pub means : meaning.object_at of id ≡ Some (Elements ty low elements)
  pub is : IsVector (seen here outside) (paired names) (shown_at here at) ty low elements

pub vector-at : (here : area.Heap) (outside : Outside Space) (of : Heap) (names : List reference.Reference) (at id : ℕ) → IsHeap here
    → IsWorld here outside of names → ObjectAt here names at id kind.Vector → VectorAt here outside of names at id
vector-at here outside of names at id h w p = let b = both-at here outside of names at id h w p.held p.pair in cases (b.0) (b.1) (b.2)
  where
    cases : (o : Object) → meaning.object_at of id ≡ Some o → IsLike (seen here outside) (paired names) (shown_at here at) o → VectorAt here outside of names at id
    cases (Structure class fields) means like = let bad : kind.Vector ≡ kind.Structure = sym p.kind ∙ like.kind_is in absurd (cc)
    cases (Elements ty low elements) means like =
        record { held = p.held; pair = p.pair; ty = ty; low = low; elements = elements; means = means; is = like }
    cases (Scope text parent values) means like = let bad : kind.Vector ≡ kind.Scope = sym p.kind ∙ like.kind_is in absurd (cc)
    cases (Keyed table) means like = let bad : kind.Vector ≡ kind.Table = sym p.kind ∙ like in absurd (cc)

-- The text that such an object refers to first.
pub first-text : (a : Seen) (pair : Pairing) (it : Shown) (of : Kind) (text : List ℕ) (first : ℕ → List ℕ)
    (forms : List Form) (vs : List Value) → IsAs a pair it of text first forms vs → IsText a (slot_of it 0) text
first-text a pair it of text first forms vs s =
    subst (λ (ns : List reference.Reference). IsText a (get_or ns 0 name.Nil) text) (sym s.refs) s.is_text

-- What a name that stands for a value names is known.
abbrev pub Known : area.Heap → Outside Space → reference.Reference → Type 0
Known here outside n = (n ≡ name.Nil) ⊎ IsKnown (seen here outside) n

pub known-text : (here : area.Heap) (outside : Outside Space) (n : reference.Reference) (text : List ℕ) → IsText (seen here outside) n text → Known here outside n
known-text here outside n text t = inr (record { it = t.it; is = t.there })

pub known-value : (here : area.Heap) (outside : Outside Space) (names : List reference.Reference) (n : reference.Reference) (v : Value)
    → StandsFor (seen here outside) (paired names) n v → Known here outside n
known-value here outside names n Nil s = inl s
known-value here outside names n (Text bytes) s = known-text here outside n bytes s
known-value here outside names n (Pointer id) s = inr (pointed-known here outside n s.1)
known-value here outside names n (Vector id) s = inr (record { it = s.1.it; is = s.1.there })
known-value here outside names n (Num z) s = absurd s
known-value here outside names n (Flag b) s = absurd s
known-value here outside names n (Procedure (as_written of) scope) s = absurd s
known-value here outside names n (Procedure (as_compiled of) scope) s = inr (record { it = s.it; is = s.there })
known-value here outside names n Nothing s = absurd s

-- A known object that isn't in the area, even after others may have come, is stored.
away-stored : (old mid new : area.Heap) (before after : Outside Space) (n : reference.Reference) (pid : ℕ) → IsHeap mid → Keeps old mid
    → Known old before n → n ≡ name.Pid pid → local_of mid pid ≡ None → IsAway old new before after pid
unfolding pid_in
away-stored old mid new before after n pid h keeps (inl nil) e away = let bad : name.Nil ≡ name.Pid pid = sym nil ∙ e in absurd (cc)
away-stored old mid new before after n pid h keeps (inr k) e away = elim (k.is) [
  | inl a ↦
      let stays = keeps.objects a.at a.held in
      absurd (not_away mid a.at pid h stays.held (sym e ∙ a.name_is ∙ sym stays.name) away)
  | inr v ↦
      let pids : v.pid ≡ pid = ap pid_in (sym v.name_is ∙ e) in
      record {
        words = v.words;
        stored = subst (λ (p : ℕ). IsStored before p v.words) pids v.there;
        away = subst (λ (p : ℕ). local_of old p ≡ None) pids v.away;
      }
]

-- Why an object wasn't got that was known.
abbrev pub IsCaused : area.Heap → area.Heap → Outside Space → Outside Space → SwizzleFault → Type 0
IsCaused old new before after (AreaFull top wanted size) = BreaksOff old new before after (AreaFull top wanted size)
IsCaused old new before after (Vault (Damaged at found wanted)) = ⊥
IsCaused old new before after (Vault other) = Unit {0}

pub caused-touch : (old new : area.Heap) (before after : Outside Space) (at slot : ℕ) (fault : SwizzleFault) → IsHeap old
    → Known old before (slot_of (shown_at old at) slot) → IsTouchFault old before (ref_at old at slot) fault → IsCaused old new before after fault
caused-touch old new before after at slot (AreaFull top wanted size) h k t =
    let a = away-stored old old new before after (slot_of (shown_at old at) slot) (t.3.0) h (keeps-refl old) k (slot-name old at slot ∙ ap (name_of old) (t.3.1)) (t.3.2) in
    (omega (arith, t.0), t.1, t.2, (t.3.0, a, t.3.4 a.words a.stored.there))
caused-touch old new before after at slot (Vault Device) h k t = tt
caused-touch old new before after at slot (Vault Output) h k t = tt
caused-touch old new before after at slot (Vault (Full used wanted capacity)) h k t = tt
caused-touch old new before after at slot (Vault (NoPages held wanted pages)) h k t = tt
caused-touch old new before after at slot (Vault (Damaged where_at found wanted)) h k t =
    let a = away-stored old old new before after (slot_of (shown_at old at) slot) (t.0) h (keeps-refl old) k (slot-name old at slot ∙ ap (name_of old) (t.1)) (t.2) in
    far-held before t.0 (record { found = found; wanted = wanted }) a.words a.stored.header (t.3 where_at found wanted refl).1 a.stored.there a.stored.far

-- the same of a fetch after others may have come
pub caused-later : (old mid new : area.Heap) (before after : Outside Space) (n : reference.Reference) (fault : SwizzleFault) → IsHeap mid → Keeps old mid
    → Known old before n → FailsFetch mid before n fault → IsCaused old new before after fault
caused-later old mid new before after n (AreaFull top wanted size) h keeps k t =
    let a = away-stored old mid new before after n (t.3.0) h keeps k (t.3.1) (t.3.2) in
    (omega (arith, t.0, keeps.top), t.1 ∙ keeps.size, t.2, (t.3.0, a, t.3.4 a.words a.stored.there))
caused-later old mid new before after n (Vault Device) h keeps k t = tt
caused-later old mid new before after n (Vault Output) h keeps k t = tt
caused-later old mid new before after n (Vault (Full used wanted capacity)) h keeps k t = tt
caused-later old mid new before after n (Vault (NoPages held wanted pages)) h keeps k t = tt
caused-later old mid new before after n (Vault (Damaged where_at found wanted)) h keeps k t =
    let a = away-stored old mid new before after n (t.0) h keeps k (t.1) (t.2) in
    far-held before t.0 (record { found = found; wanted = wanted }) a.words a.stored.header (t.3 where_at found wanted refl).1 a.stored.there a.stored.far

pub caused-fetch : (old new : area.Heap) (before after : Outside Space) (n : reference.Reference) (fault : SwizzleFault) → IsHeap old
    → Known old before n → FailsFetch old before n fault → IsCaused old new before after fault
caused-fetch old new before after n fault h k t = caused-later old old new before after n fault h (keeps-refl old) k t

-- A reading that failed broke off.
pub breaks : (old new : area.Heap) (before after : Outside Space) (fault : SwizzleFault) → FailsReading before after fault
    → IsCaused old new before after fault → BreaksOff old new before after fault
breaks old new before after (AreaFull top wanted size) f caused = caused
breaks old new before after (Vault Device) f caused = f.cause refl
breaks old new before after (Vault Output) f caused = f.other refl
breaks old new before after (Vault (Full used wanted capacity)) f caused = f.full used wanted capacity refl
breaks old new before after (Vault (NoPages held wanted pages)) f caused = f.pages held wanted pages refl
breaks old new before after (Vault (Damaged at found wanted)) f caused = caused

-- An operation broke off that went on after a reading: so did the whole.

-- a PID that no object of the area has now, none had before others came
pub still-away : (old mid : area.Heap) (pid : ℕ) → IsHeap mid → Keeps old mid → 1 ≤ pid → local_of mid pid ≡ None → local_of old pid ≡ None
still-away old mid pid h keeps low away = cases (local_of old pid) refl
  where
    cases : (o : Option ℕ) → local_of old pid ≡ o → local_of old pid ≡ None
    cases None e = e
    cases (Some at) e =
        let l = local-place old pid at low e in
        let stays = keeps.objects at l.held in
        absurd (not_away mid at pid h stays.held (sym (stays.name ∙ l.name)) away)

pub breaks-earlier : (old mid new : area.Heap) (start before after : Outside Space) (fault : SwizzleFault) → IsHeap mid → Keeps old mid
    → LeavesOutside start before → BreaksOff mid new before after fault → BreaksOff old new start after fault
breaks-earlier old mid new start before after (AreaFull top wanted size) h keeps leaves b =
    let a = b.3.1 in
    let back : SameContents before start = record { kept = leaves.contents.no_other; no_other = leaves.contents.kept } in (
      omega (arith, b.0, keeps.top),
      b.1 ∙ keeps.size,
      b.2,
      (
        b.3.0,
        record {
          words = a.words;
          stored = stored-stays before start (b.3.0) a.words back a.stored;
          away = still-away old mid (b.3.0) h keeps (Holds-low before (b.3.0) a.words a.stored.there) a.away;
        },
        b.3.2,
      ),
    )
breaks-earlier old mid new start before after (Vault Device) h keeps leaves b =
    rose_more start.device_faults before.device_faults after.device_faults leaves.counts b
breaks-earlier old mid new start before after (Vault Output) h keeps leaves b = b
breaks-earlier old mid new start before after (Vault (Full used wanted capacity)) h keeps leaves b = b
breaks-earlier old mid new start before after (Vault (NoPages held wanted pages)) h keeps leaves b = b
breaks-earlier old mid new start before after (Vault (Damaged at found wanted)) h keeps leaves b = b

-- What was seen under a name is what is seen, where no object was lost.

-- a text
pub text-is : (old new : area.Heap) (before after : Outside Space) (n : reference.Reference) (text now : List ℕ)
    → Within (joint old before) (joint new after) → IsOne (joint new after) → IsText (seen old before) n text → IsText (joint new after) n now → text ≡ now
text-is old new before after n text now grows one t s =
    text-one (joint new after) n text now one
    (text-more (seen old before) (joint new after) n text (λ it k there. grows n it (seen-joint old before n it there)) t) s

-- what refers to a text refers to one
pub no-text : (old new : area.Heap) (before after : Outside Space) (at : ℕ) (text : List ℕ) (fault : SwizzleFault) → IsHeap new
    → IsText (seen old before) (slot_of (shown_at old at) 0) text → NoText old new before after at fault → ⊥
no-text old new before after at text fault h t (inl nil) =
    nil-unseen old before t.it (subst (λ (n : reference.Reference). seen old before n t.it) (nil.0) t.there)
no-text old new before after at text fault h t (inr o) =
    let n = slot_of (shown_at old at) 0 in
    let is = joint-is new (Holds after) (o.0) n t.it h (o.1.0) (o.1.1) (o.4 n t.it (seen-joint old before n t.it t.there)) in
    o.2 (sym (ap (λ (x : Shown). x.kind) is) ∙ t.kind)

-- nothing is damaged whose damage is none
pub no-damage : (here : area.Heap) (at : ℕ) (damaged : Option Damage) (fault : SwizzleFault) → damaged ≡ None → NamesDamage here at damaged fault → ⊥
no-damage here at damaged fault none d = let bad : None ≡ Some (d.0) = sym none ∙ d.1 in absurd (cc)
