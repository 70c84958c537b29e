-- Units of code that are loaded beside a vault, and their constants, wherever those lie.
use Rattle.std.proofs.Common.{get_or, arith, inl, inr, ◌⊎◌, ◌≡◌, ℕ, zero, suc, ◌+◌, ◌*◌, ◌<◌, ◌≤◌, List, [], ◌∷◌, ◌++◌, length, take, drop, refl, sym, ap, ◌∙◌, subst, Option, Some, None}
use Rattle.std.specs.Prelude.{Result, Ok, Err, IfOk, OnOk, unwrap_or}
use Rattle.std.proofs.lemmas.Bool.{cases_eq}
use Rattle.heap_meaning.specs.ps_base.CodeUnit as units
use Rattle.heap_meaning.specs.ps_base.CodeUnit.{UnitView, unit, ConstantView, text, literal, ConstantsView, no_constants, constant_then}
use Rattle.heap_meaning.specs.ps_base.declared.code_unit.Frame.{Frame}
use Rattle.heap_meaning.specs.ps_outside.Outside.{Outside}
use Rattle.heap_meaning.specs.obj_area.Words.{bytes_of}
use Rattle.heap_meaning.specs.obj_layout.Objects as layout
use Rattle.heap_meaning.specs.obj_layout.Objects.{Contents, HasContents}
use Rattle.heap_meaning.specs.obj_layout.Stored.{Space}
use Rattle.heap_meaning.proofs.of_obj_layout.StoredLaws.{Holds-low}
use Rattle.heap_meaning.specs.obj_layout.declared.kind.Kind.{Kind}
use Rattle.heap_meaning.specs.obj_layout.declared.kind.Kind.TheVariants as kind
use Rattle.heap_meaning.specs.obj_layout.declared.reference.Reference as reference
use Rattle.heap_meaning.specs.obj_layout.declared.reference.Reference.TheVariants as name
use Rattle.heap_meaning.specs.obj_layout.declared.vault.VaultFault.TheVariants.{Damaged}
use Rattle.heap_meaning.specs.swizzle.declared.fault.SwizzleFault.{SwizzleFault}
use Rattle.heap_meaning.specs.swizzle.declared.fault.SwizzleFault.TheVariants.{AreaFull, Vault}
use Rattle.heap_meaning.specs.swizzle.Objects.{Object, words_before, size_of, size_of_all, find_from}
use Rattle.heap_meaning.specs.swizzle.Heap as area
use Rattle.heap_meaning.specs.swizzle.Heap.{IsHeap, IsHeld, header_at, object_at, ref_at, top_of, local_from, local_of}
use Rattle.heap_meaning.specs.swizzle.Joint.{Shown, shown_at, name_at, name_of}
use Rattle.heap_meaning.specs.swizzle.Changes.{Within}
use Rattle.heap_meaning.specs.swizzle.Text.{text_at}
use Rattle.heap_meaning.specs.swizzle.Touch.{Denotes, Keeps}
use Rattle.heap_meaning.specs.swizzle.Reading.{LeavesOutside, FailsReading}
use Rattle.heap_meaning.proofs.of_swizzle.ObjectLaws.{here, elsewhere, size_of_all-append}
use Rattle.heap_meaning.proofs.of_swizzle.NameLaws.{shown-counts, name-none}
use Rattle.heap_meaning.proofs.of_heap_places.PlaceLaws.{slot-name}
use Rattle.heap_meaning.specs.heap_places.Shapes.{slot_of}
use Rattle.heap_meaning.specs.heap_texts.Texts.{text_object, wanted_of}
use Rattle.heap_meaning.specs.proc_values.Units.{code_object, unit_objects, constants_objects, constant_objects, constants_places, constant_words, count_of, HasConstants, AllHaveConstants, Loads}
use Rattle.heap_meaning.specs.proc_values.Reading.{HasConstant, GivesConstant}
use Rattle.heap_meaning.specs.proc_values.Loaded.{IsUnit, AreNamed, IsConstant, IsFitUnit, constant_numbered}
use Rattle.heap_meaning.proofs.of_proc_values.UnitLaws.{size-unit}
use Rattle.heap_meaning.proofs.of_proc_values.LoadedLaws.{loaded-is}
use Rattle.heap_meaning.proofs.of_proc_values.StayLaws.{keeps-load}
use Rattle.heap_meaning.proofs.PairedLaws.{row-within}
use Rattle.heap_meaning.specs.Units.{shown_code, IsUnitSeen, AreSeen, IsConstantSeen}
use Rattle.heap_meaning.specs.Standing.{Seen}
use Rattle.heap_meaning.proofs.StandingLaws.{Fixed, fixed-text, unit-more}
use Rattle.joint_ops.specs.Seeing.{WasMade, Gains}
use Rattle.joint_ops.specs.World.{IsWorld, seen, IsUnitIn, FailsAsReading}
use Rattle.joint_ops.specs.Code.{unit_weight, LoadsUnit, DenotesConstant, AnswersConstant, StandsBy}
use Rattle.joint_ops.proofs.SeenLaws.{area-stays, seen-held, seen-is, nil-unseen, shown-bytes, reads-within, keeps-passes, keeps-carries, Known, caused-touch, breaks}
use Rattle.joint_ops.proofs.GainLaws.{local-place, reads-stands}
use Rattle.joint_ops.proofs.TextLaws.{text-whole}

-- Objects without PIDs that come after others bring none of those that a vault holds.

AreUnnumbered : List Object → Type 0
AreUnnumbered [] = Unit {0}
AreUnnumbered (o ∷ os) = (o.header.pid ≡ 0) × AreUnnumbered os

unnumbered-append : (os ps : List Object) → AreUnnumbered os → AreUnnumbered ps → AreUnnumbered (os ++ ps)
unfolding AreUnnumbered
unnumbered-append [] ps a b = b
unnumbered-append (o ∷ os) ps a b = (a.0, unnumbered-append os ps a.1 b)

text-pid : (bytes : List ℕ) → (text_object bytes).header.pid ≡ 0
unfolding text_object
text-pid bytes = refl

code-pid : (code : List ℕ) (frame : Frame) (constants : List reference.Reference) → (code_object code frame constants).header.pid ≡ 0
unfolding code_object
code-pid code frame constants = refl

mutual
  unfolding AreUnnumbered unit_objects constants_objects constant_objects

  unit-unnumbered : (at : ℕ) (u : UnitView) → AreUnnumbered (unit_objects at u)
  unit-unnumbered at (unit code cs frame) =
      unnumbered-append (constants_objects at cs) (code_object code frame (constants_places at cs) ∷ []) (constants-unnumbered at cs)
      (code-pid code frame (constants_places at cs), tt)

  constants-unnumbered : (at : ℕ) (cs : ConstantsView) → AreUnnumbered (constants_objects at cs)
  constants-unnumbered at no_constants = tt
  constants-unnumbered at (constant_then c cs) =
      unnumbered-append (constant_objects at c) (constants_objects (at + constant_words c) cs) (constant-unnumbered at c)
      (constants-unnumbered (at + constant_words c) cs)

  constant-unnumbered : (at : ℕ) (c : ConstantView) → AreUnnumbered (constant_objects at c)
  constant-unnumbered at (text bytes) = (text-pid bytes, tt)
  constant-unnumbered at (literal u) = unit-unnumbered at u

new-away : (at : ℕ) (ps : List Object) (pid : ℕ) → AreUnnumbered ps → 1 ≤ pid → local_from at ps pid ≡ None
unfolding AreUnnumbered
new-away at [] pid a low = refl
new-away at (p ∷ ps) pid a low =
    elsewhere pid p.header.pid (Some at) (local_from (at + size_of p) ps pid) (λ (e : pid ≡ p.header.pid). omega (arith, e, a.0, low))
    ∙ new-away (at + size_of p) ps pid a.1 low

all-away : (at : ℕ) (os ps : List Object) (pid : ℕ) → AreUnnumbered ps → 1 ≤ pid → local_from at os pid ≡ None → local_from at (os ++ ps) pid ≡ None
all-away at [] ps pid a low e = new-away at ps pid a low
all-away at (o ∷ os) ps pid a low e =
    elim (cases_eq pid o.header.pid) [
      | inl same ↦ let some = sym (here pid o.header.pid (Some at) (local_from (at + size_of o) os pid) same) ∙ e in absurd (cc)
      | inr apart ↦
          elsewhere pid o.header.pid (Some at) (local_from (at + size_of o) (os ++ ps) pid) apart
          ∙ all-away (at + size_of o) os ps pid a low (sym (elsewhere pid o.header.pid (Some at) (local_from (at + size_of o) os pid) apart) ∙ e)
    ]

-- So what was seen is seen still.
load-within : (old new : area.Heap) (outside : Outside Space) (u : UnitView) (at : ℕ) → Keeps old new → Loads old new u (Ok at)
    → Within (seen old outside) (seen new outside)
load-within old new outside u at keeps l n it (inl a) = inl (area-stays old new n it keeps a)
load-within old new outside u at keeps l n it (inr v) =
    inr (record {
      pid = v.pid;
      words = v.words;
      name_is = v.name_is;
      there = v.there;
      away = ap (λ (x : area.Heap). local_of x v.pid) (l.0)
          ∙ all-away 1 old.objects (unit_objects (top_of old) u) v.pid (unit-unnumbered (top_of old) u) (Holds-low outside v.pid v.words v.there.there) v.away;
      shown_is = v.shown_is;
    })

-- The objects of a unit whose units have constants have the counts of their kinds.

record IsUnstored (o : Object) : Type 0 where
  pid : o.header.pid ≡ 0
  contents : Contents
  has : HasContents o.header contents

AreUnstored : List Object → Type 0
AreUnstored [] = Unit {0}
AreUnstored (o ∷ os) = IsUnstored o × AreUnstored os

unstored-append : (os ps : List Object) → AreUnstored os → AreUnstored ps → AreUnstored (os ++ ps)
unfolding AreUnstored
unstored-append [] ps a b = b
unstored-append (o ∷ os) ps a b = (a.0, unstored-append os ps a.1 b)

places-counted : (at : ℕ) (cs : ConstantsView) → length (constants_places at cs) ≡ count_of cs
unfolding constants_places count_of
places-counted at no_constants = refl
places-counted at (constant_then c cs) = omega (arith, places-counted (at + constant_words c) cs)

code-unstored : (at : ℕ) (code : List ℕ) (frame : Frame) (cs : ConstantsView) → 1 ≤ count_of cs → IsUnstored (code_object code frame (constants_places at cs))
unfolding code_object
code-unstored at code frame cs some = record {
  pid = refl;
  contents = layout.code (count_of cs) (length code);
  has = record {
    kind = refl;
    counted = ap (λ (n : ℕ). layout.counts n (2 + layout.words_for (length code)) (length code)) (places-counted at cs);
    allowed = some;
  };
}

text-unstored : (bytes : List ℕ) → IsUnstored (text_object bytes)
text-unstored bytes = record { pid = text-pid bytes; contents = layout.text (length bytes); has = text-whole bytes }

mutual
  unfolding AreUnstored unit_objects constants_objects constant_objects HasConstants AllHaveConstants

  unit-unstored : (at : ℕ) (u : UnitView) → HasConstants u → AreUnstored (unit_objects at u)
  unit-unstored at (unit code cs frame) has =
      unstored-append (constants_objects at cs) (code_object code frame (constants_places at cs) ∷ []) (constants-unstored at cs has.1)
      (code-unstored at code frame cs has.0, tt)

  constants-unstored : (at : ℕ) (cs : ConstantsView) → AllHaveConstants cs → AreUnstored (constants_objects at cs)
  constants-unstored at no_constants has = tt
  constants-unstored at (constant_then (text bytes) cs) has =
      unstored-append (constant_objects at (text bytes)) (constants_objects (at + constant_words (text bytes)) cs) (text-unstored bytes, tt)
      (constants-unstored (at + constant_words (text bytes)) cs has)
  constants-unstored at (constant_then (literal u) cs) has =
      unstored-append (constant_objects at (literal u)) (constants_objects (at + constant_words (literal u)) cs) (unit-unstored at u has.0)
      (constants-unstored (at + constant_words (literal u)) cs has.1)

-- an object that is found among more lay there, or is one of those
found-new : (at : ℕ) (ps : List Object) (x : ℕ) (o : Object) → AreUnstored ps → find_from at ps x ≡ Some o → IsUnstored o
unfolding AreUnstored
found-new at [] x o a e = absurd (cc)
found-new at (p ∷ ps) x o a e = elim (cases_eq x at) [
  | inl same ↦ let both = sym (here x at (Some p) (find_from (at + size_of p) ps x) same) ∙ e in let is : p ≡ o = cc in subst IsUnstored is a.0
  | inr apart ↦ found-new (at + size_of p) ps x o a.1 (sym (elsewhere x at (Some p) (find_from (at + size_of p) ps x) apart) ∙ e)
]

found-among : (at : ℕ) (os ps : List Object) (x : ℕ) (o : Object) → AreUnstored ps → find_from at (os ++ ps) x ≡ Some o → (find_from at os x ≡ Some o) ⊎ IsUnstored o
found-among at [] ps x o a e = inr (found-new at ps x o a e)
found-among at (p ∷ os) ps x o a e = elim (cases_eq x at) [
  | inl same ↦
      inl (here x at (Some p) (find_from (at + size_of p) os x) same ∙ sym (here x at (Some p) (find_from (at + size_of p) (os ++ ps) x) same) ∙ e)
  | inr apart ↦ elim (found-among (at + size_of p) os ps x o a (sym (elsewhere x at (Some p) (find_from (at + size_of p) (os ++ ps) x) apart) ∙ e)) [
    | inl was ↦ inl (elsewhere x at (Some p) (find_from (at + size_of p) os x) apart ∙ was)
    | inr new ↦ inr new
  ]
]

option-cases : (o : Option Object) → ((p : Object) × (o ≡ Some p)) ⊎ (o ≡ None)
option-cases None = inr refl
option-cases (Some p) = inl (p, refl)

load-gains : (old new : area.Heap) (outside : Outside Space) (u : UnitView) (at : ℕ) → IsHeap old → IsHeap new → Keeps old new → HasConstants u
    → Loads old new u (Ok at) → Gains old new outside outside
load-gains old new outside u at h now keeps has l = record {
  was_sound = h;
  sound = now;
  keeps = keeps;
  grows = load-within old new outside u at keeps l;
  came = λ x held. elim (option-cases (area.found old x)) [
    | inl was ↦ inl (record { object = was.0; is = was.1 })
    | inr none ↦ elim (found-among 1 old.objects (unit_objects (top_of old) u) x held.object (unit-unstored (top_of old) u has) (sym (ap (λ (n : area.Heap). area.found n x) (l.0)) ∙ held.is)) [
      | inl was ↦ inl (record { object = held.object; is = was })
      | inr new_one ↦ inr (inr (made x held none new_one))
    ]
  ];
  contents = record { kept = λ s is. is; no_other = λ s is. is };
}
  where
    made : (x : ℕ) → (held : IsHeld new x) → area.found old x ≡ None → IsUnstored held.object → WasMade old new outside x
    made x held none k =
        let is : object_at new x ≡ held.object = ap (λ (o : Option Object). unwrap_or o area.nothing) held.is in
        let no_pid : (header_at new x).pid ≡ 0 = ap (λ (o : Object). o.header.pid) is ∙ k.pid in
        record {
          unstored = no_pid;
          unseen = λ it s. unseen x none it (subst (λ (n : reference.Reference). seen old outside n it) (name-none (header_at new x) x no_pid) s);
          whole = (k.contents, subst (λ (o : Object). HasContents o.header k.contents) (sym is) k.has);
        }
      where
        unseen : (x : ℕ) → area.found old x ≡ None → (it : Shown) → seen old outside (name.Local x) it → ⊥
        unseen x none it (inl a) =
            let same = local-place old a.at x (sym a.name_is) in
            let bad : Some a.held.object ≡ None = sym a.held.is ∙ ap (area.found old) same ∙ none in cc
        unseen x none it (inr v) = let bad : name.Local x ≡ name.Pid v.pid = v.name_is in absurd (cc)

-- What lies in the area is seen.

pub code-bytes : (here : area.Heap) (at : ℕ) → (header_at here at).kind ≡ kind.Code → text_at here at ≡ shown_code (shown_at here at)
code-bytes here at is = ap (λ (k : Kind). take (header_at here at).bytes (drop (8 * words_before k) (bytes_of (object_at here at).nums))) is

module _ (outside : Outside Space) where
  mutual
    unfolding IsUnit AreNamed IsConstant IsUnitSeen AreSeen IsConstantSeen

    unit-seen : (here : area.Heap) (at : ℕ) (u : UnitView) → IsUnit here at u → IsUnitSeen (seen here outside) (name_at here at) u
    unit-seen here at (units.unit code cs frame) i = (
      shown_at here at,
      seen-held here outside at i.0.held,
      record { kind_is = i.0.kind; code_is = sym (code-bytes here at i.0.kind) ∙ i.0.code_is; frame_is = i.0.frame_is },
      named-seen here (shown_at here at).refs cs i.1,
    )

    named-seen : (here : area.Heap) (ns : List reference.Reference) (cs : ConstantsView) → AreNamed here ns cs → AreSeen (seen here outside) ns cs
    named-seen here [] units.no_constants i = tt
    named-seen here (n ∷ ns) units.no_constants i = absurd i
    named-seen here [] (units.constant_then c cs) i = absurd i
    named-seen here (n ∷ ns) (units.constant_then c cs) i =
        let it = i.0 in
        (subst (λ (m : reference.Reference). IsConstantSeen (seen here outside) m c) it.1.1 (constant-seen here it.0 c it.2), named-seen here ns cs i.1)

    constant-seen : (here : area.Heap) (at : ℕ) (c : ConstantView) → IsConstant here at c → IsConstantSeen (seen here outside) (name_at here at) c
    constant-seen here at (units.text bytes) t = record {
      it = shown_at here at;
      there = seen-held here outside at t.held;
      kind = t.kind;
      bytes_are = sym (shown-bytes here at t.kind) ∙ t.bytes_are;
    }
    constant-seen here at (units.literal u) i = unit-seen here at u i

unit-held : (here : area.Heap) (at : ℕ) (u : UnitView) → IsUnit here at u → IsHeld here at
unfolding IsUnit
unit-held here at (unit code cs frame) i = i.0.held

-- Loading.

pub no-names : (here : area.Heap) (outside : Outside Space) → IsWorld here outside [] []
no-names here outside = record {
  row = record {
    stands = record {
      both = λ n id p. absurd (cc);
      one_number = λ n i j p q. absurd (cc);
      one_name = λ n m id p q. absurd (cc);
      tables = record { nodes = λ id. []; each = λ n id table p is. absurd (cc); are_nodes = λ id n a. absurd a; apart = λ i j n a b. absurd a };
    };
    long = refl;
  };
}

loaded-top : (old new : area.Heap) (u : UnitView) (at : ℕ) → Loads old new u (Ok at) → 8 * top_of new ≡ 8 * top_of old + unit_weight u
loaded-top old new u at l =
    let sizes = size_of_all-append old.objects (unit_objects (top_of old) u) in
    omega (arith, ap top_of (l.0), sizes, size-unit (top_of old) u)

loads-unit : (old new : area.Heap) (outside : Outside Space) (u : UnitView) (at : ℕ) → IsHeap old → IsHeap new → IsFitUnit u → Loads old new u (Ok at)
    → LoadsUnit old new outside u (Ok at)
loads-unit old new outside u at h now fit l =
    let keeps = keeps-load old new u (Ok at) h l in
    let is = loaded-is old new u at fit l in
    record {
      is = record { held = unit-held new at u is; is = unit-seen outside new at u is };
      fit = fit;
      top = loaded-top old new u at l;
      bare = no-names new outside;
      stands = λ of names w. record {
        world = record { row = row-within (seen old outside) (seen new outside) of names (load-within old new outside u at keeps l) w.row };
        carries = keeps-carries old new outside outside names names keeps (load-within old new outside u at keeps l) (λ n id p. p);
      };
      gains = λ whole. load-gains old new outside u at h now keeps whole l;
    }

loads-cut : (old new : area.Heap) (outside : Outside Space) (u : UnitView) (fault : SwizzleFault) → IsHeap new → Loads old new u (Err fault)
    → LoadsUnit old new outside u (Err fault)
loads-cut old new outside u fault h l =
    let all = ap size_of_all l.cut ∙ size_of_all-append l.front (l.next ∷ l.rest) in
    let before = ap top_of l.made ∙ ap (λ (n : ℕ). 1 + n) (size_of_all-append old.objects l.front) in
    let size : new.size ≡ old.size = ap (λ (x : area.Heap). x.size) l.made in
    record {
      top = top_of new;
      wanted = wanted_of (size_of l.next);
      fault_is = l.fault_is ∙ ap
          (λ (n : ℕ). AreaFull (top_of new) (wanted_of (size_of l.next)) n) size;
      full = omega (arith, size, l.full, h.small);
      within = omega (arith, all, before, size-unit (top_of old) u);
      words = omega (arith, all, before, size-unit (top_of old) u);
    }

pub loads : (old new : area.Heap) (outside : Outside Space) (u : UnitView) (r : Result ℕ SwizzleFault) → IsHeap old → IsHeap new → OnOk r (IsFitUnit u)
    → Loads old new u r → LoadsUnit old new outside u r
loads old new outside u (Ok at) h now fit l = loads-unit old new outside u at h now fit l
loads old new outside u (Err fault) h now fit l = loads-cut old new outside u fault now l

unit-kind : (here : area.Heap) (at : ℕ) (u : UnitView) → IsUnit here at u → (header_at here at).kind ≡ kind.Code
unfolding IsUnit
unit-kind here at (unit code cs frame) i = i.0.kind

pub load-kind : (old new : area.Heap) (u : UnitView) (r : Result ℕ SwizzleFault) → OnOk r (IsFitUnit u) → Loads old new u r
    → IfOk r (λ at. (header_at new at).kind ≡ kind.Code)
load-kind old new u (Ok at) fit l = unit-kind new at u (loaded-is old new u at fit l)
load-kind old new u (Err fault) fit l = tt

-- Constants.

-- each of the names is that of a constant
numbered-seen : (a : Seen) (ns : List reference.Reference) (cs : ConstantsView) (index : ℕ) → AreSeen a ns cs → index < length ns
    → (c : ConstantView) × (constant_numbered cs index ≡ Some c) × IsConstantSeen a (get_or ns index name.Nil) c
unfolding AreSeen
numbered-seen a [] no_constants index s lt = absurd (omega (arith, lt))
numbered-seen a (n ∷ ns) no_constants index s lt = absurd s
numbered-seen a [] (constant_then c cs) index s lt = absurd s
numbered-seen a (n ∷ ns) (constant_then c cs) zero s lt = (c, refl, s.0)
numbered-seen a (n ∷ ns) (constant_then c cs) (suc index) s lt = numbered-seen a ns cs index s.1 (omega (arith, lt))

-- and each constant has one of the names
seen-below : (a : Seen) (ns : List reference.Reference) (cs : ConstantsView) (index : ℕ) (c : ConstantView) → AreSeen a ns cs
    → constant_numbered cs index ≡ Some c → index < length ns
unfolding AreSeen
seen-below a [] no_constants index c s e = absurd (cc)
seen-below a (n ∷ ns) no_constants index c s e = absurd s
seen-below a [] (constant_then d cs) index c s e = absurd s
seen-below a (n ∷ ns) (constant_then d cs) zero c s e = omega arith
seen-below a (n ∷ ns) (constant_then d cs) (suc index) c s e = omega (arith, seen-below a ns cs index c s.1 e)

numbered-cases : (o : Option ConstantView) → (o ≡ None) ⊎ ((c : ConstantView) × (o ≡ Some c))
numbered-cases None = inl refl
numbered-cases (Some c) = inr (c, refl)

-- A constant whose object was got is denoted by it.
constant-more : (a b : Seen) (n : reference.Reference) (c : ConstantView) → Fixed a b → IsConstantSeen a n c → IsConstantSeen b n c
unfolding IsConstantSeen
constant-more a b n (text bytes) fixed i = fixed-text a b n bytes fixed i
constant-more a b n (literal u) fixed i = unit-more a b n u fixed i

constant-denotes : (new : area.Heap) (after : Outside Space) (at : ℕ) (n : reference.Reference) (c : ConstantView) → IsHeap new → Denotes new (Some at) n
    → IsConstantSeen (seen new after) n c → DenotesConstant new after at c
unfolding IsConstantSeen
constant-denotes new after at n (text bytes) h d t = (
  sym (ap (λ (x : Shown). x.kind) (seen-is new after at n t.it h d.0 d.1 t.there)) ∙ t.kind,
  λ names. record { name = n; denotes = d; stands = t },
)
constant-denotes new after at n (literal u) h d i =
    record { held = d.0; is = subst (λ (m : reference.Reference). IsUnitSeen (seen new after) m u) (sym d.1) i }

-- a unit's name isn't nil, nor is that of a text
unit-there : (a : Seen) (n : reference.Reference) (u : UnitView) → IsUnitSeen a n u → (it : Shown) × a n it
unfolding IsUnitSeen
unit-there a n (unit code cs frame) i = (i.0, i.1)

constant-there : (a : Seen) (n : reference.Reference) (c : ConstantView) → IsConstantSeen a n c → (it : Shown) × a n it
unfolding IsConstantSeen
constant-there a n (text bytes) t = (t.it, t.there)
constant-there a n (literal u) i = unit-there a n u i

-- The constants of a code object of the area.
pub record HasCode (old : area.Heap) (before : Outside Space) (code : ℕ) (cs : ConstantsView) : Type 0 where
  pub kind_is : (header_at old code).kind ≡ kind.Code
  pub are : AreSeen (seen old before) (shown_at old code).refs cs

pub has-code : (old : area.Heap) (before : Outside Space) (code : ℕ) (bytes : List ℕ) (cs : ConstantsView) (frame : Frame) → IsHeap old
    → IsUnitIn old before code (unit bytes cs frame) → HasCode old before code cs
unfolding IsUnitSeen
has-code old before code bytes cs frame h i =
    let same = seen-is old before code (name_at old code) (i.is.0) h i.held refl (i.is.1) in
    record {
      kind_is = sym (ap (λ (x : Shown). x.kind) same) ∙ i.is.2.kind_is;
      are = subst (λ (x : Shown). AreSeen (seen old before) x.refs cs) same (i.is.3);
    }

module _ (old new : area.Heap) (before after : Outside Space) (code index : ℕ) (cs : ConstantsView) (h : IsHeap old) (now : IsHeap new) (held : IsHeld old code)
    (i : HasCode old before code cs) where
  constant-known : (c : ConstantView) → IsConstantSeen (seen old before) (slot_of (shown_at old code) index) c
      → Known old before (slot_of (shown_at old code) index)
  constant-known c s = let t = constant-there (seen old before) (slot_of (shown_at old code) index) c s in inr (record { it = t.0; is = t.1 })

  found : HasConstant old code index
      → (c : ConstantView) × (constant_numbered cs index ≡ Some c) × IsConstantSeen (seen old before) (slot_of (shown_at old code) index) c
  found has = numbered-seen (seen old before) (shown_at old code).refs cs index i.are (omega (arith, has.below, (shown-counts old code h held).0))

  has-constant : (c : ConstantView) → constant_numbered cs index ≡ Some c → HasConstant old code index
  has-constant c e =
      let below = seen-below (seen old before) (shown_at old code).refs cs index c i.are e in
      let it = numbered-seen (seen old before) (shown_at old code).refs cs index i.are below in
      let there = constant-there (seen old before) (slot_of (shown_at old code) index) (it.0) (it.2) in
      record {
        kind = i.kind_is;
        below = omega (arith, below, (shown-counts old code h held).0);
        some = λ nil. nil-unseen old before (there.0)
            (subst (λ (n : reference.Reference). seen old before n (there.0)) (slot-name old code index ∙ ap (name_of old) nil) (there.1));
      }

  pub answers-constant : (r : Result ℕ SwizzleFault) → GivesConstant old new before after code index r
      → AnswersConstant old new before after code cs index r
  answers-constant (Ok at) g =
      let n = slot_of (shown_at old code) index in
      let c = found (g.0) in
      let fixed = (keeps-passes old new (seen old before) (seen new after) (g.2.keeps)
      (reads-within old new before after (name_of old (ref_at old code index) ∷ []) (g.2))).fixed in (
        c.0,
        c.1,
        constant-denotes new after at n (c.0) now (subst (Denotes new (Some at)) (sym (slot-name old code index)) (g.1))
            (constant-more (seen old before) (seen new after) n (c.0) fixed (c.2)),
      )
  answers-constant (Err fault) (inl g) = elim (numbered-cases (constant_numbered cs index)) [
    | inl none ↦ inl (none, g.1)
    | inr some ↦ absurd (g.0 (has-constant (some.0) (some.1)))
  ]
  answers-constant (Err fault) (inr g) =
      let c = found (g.0) in
      inr (c.0, c.1, breaks old new before after fault (g.2) (caused-touch old new before after code index fault h (constant-known (c.0) (c.2)) (g.1)))

unit-known : (old : area.Heap) (before : Outside Space) (code index : ℕ) (u : UnitView) → IsHeap old → IsHeld old code → IsUnitIn old before code u
    → HasConstant old code index → Known old before (name_of old (ref_at old code index))
unit-known old before code index (unit bytes cs frame) h held i has =
    let c = has-code old before code bytes cs frame h i in
    let f = found old old before before code index cs h h held c has in
    subst (λ (n : reference.Reference). Known old before n) (slot-name old code index) (constant-known old old before before code index cs h h held c (f.0) (f.2))

pub constant-world : (old new : area.Heap) (before after : Outside Space) (code index : ℕ) (r : Result ℕ SwizzleFault)
    → IsHeap old → IsHeap new → IsHeld old code → GivesConstant old new before after code index r → OnOk r (StandsBy old new before after code)
constant-world old new before after code index (Ok at) h now held g = λ u i of names w.
    reads-stands old new before after (name_of old (ref_at old code index) ∷ []) of names h now (unit-known old before code index u h held i (g.0), tt) (g.2) w
constant-world old new before after code index (Err fault) h now held g = tt

-- What is said whatever the vault.

pub constant-leaves : (old new : area.Heap) (before after : Outside Space) (code index : ℕ) (r : Result ℕ SwizzleFault)
    → ((HasConstant old code index → ⊥) → LeavesOutside before after)
    → GivesConstant old new before after code index r → LeavesOutside before after
constant-leaves old new before after code index (Ok at) still g = g.2.outside
constant-leaves old new before after code index (Err fault) still (inl g) = still (g.0)
constant-leaves old new before after code index (Err fault) still (inr g) = g.2.outside

damage-fails : (before after : Outside Space) (fault : SwizzleFault) (at found wanted : ℕ) → fault ≡ Vault (Damaged at found wanted)
    → LeavesOutside before after → FailsReading before after fault
damage-fails before after fault at found wanted is leaves = record {
  outside = leaves;
  cause = λ e. let both = sym is ∙ e in absurd (cc);
  other = λ e. let both = sym is ∙ e in cc;
  full = λ used more capacity e. let both = sym is ∙ e in cc;
  pages = λ held more all e. let both = sym is ∙ e in cc;
}

pub constant-fails : (old new : area.Heap) (before after : Outside Space) (code index : ℕ) (r : Result ℕ SwizzleFault)
    → ((HasConstant old code index → ⊥) → LeavesOutside before after)
    → GivesConstant old new before after code index r → FailsAsReading before after r
constant-fails old new before after code index (Ok at) still g = tt
constant-fails old new before after code index (Err fault) still (inl g) =
    damage-fails before after fault (header_at old code).pid (g.1.0) (g.1.1) (g.1.2) (still (g.0))
constant-fails old new before after code index (Err fault) still (inr g) = g.2

pub constant-held : (old new : area.Heap) (before after : Outside Space) (code index : ℕ) (r : Result ℕ SwizzleFault)
    → GivesConstant old new before after code index r → IfOk r (IsHeld new)
constant-held old new before after code index (Ok at) g = g.1.0
constant-held old new before after code index (Err fault) g = tt

pub constant-keeps : (old new : area.Heap) (before after : Outside Space) (code index : ℕ) (r : Result ℕ SwizzleFault)
    → GivesConstant old new before after code index r → OnOk r (Keeps old new)
constant-keeps old new before after code index (Ok at) g = g.2.keeps
constant-keeps old new before after code index (Err fault) g = tt
