-- The locals of a scan.
use Rattle.std.proofs.Common.{◌≡◌, ◌≢◌, ℕ, ◌+◌, ◌<◌, ◌≤◌, ℤ, Bool, true, false, List, [], Option, Some, None, refl, sym, ap, ◌∙◌, subst, arith}
use Rattle.std.specs.Prelude.{if◌then◌else◌, slice_index_or, ◌&&◌}
use Rattle.std.proofs.lemmas.Bool.{le-ltb}
use Rattle.machine_core.specs.ps_outside.Outside.{Outside}
use Rattle.machine_core.specs.obj_layout.Stored.{Space}
use Rattle.machine_core.specs.obj_layout.declared.reference.Reference.{Reference}
use Rattle.machine_core.specs.swizzle.Heap as area
use Rattle.machine_core.specs.swizzle.Heap.{IsHeld}
use Rattle.machine_core.specs.ps_heap.Tables.{Key, int_key, string_key}
use Rattle.machine_core.specs.ps_heap.Values.{Value, Num, Flag, Text, Nil, Pointer, Vector, Procedure, Nothing, bytes_of, is_one}
use Rattle.machine_core.specs.ps_stepping.Config.{Config, frame_in}
use Rattle.machine_core.specs.ps_stepping.Steps.{Step, Stuck, is_num_slot, is_ref_slot}
use Rattle.machine_core.specs.ps_stepping.Objects.{object_of}
use Rattle.machine_core.specs.ps_stepping.Scans.{last_key, last_of, scan_on}
use Rattle.machine_core.specs.joint_ops.World.{DenotesIn}
use Rattle.machine_core.specs.joint_ops.Operands.{IsOfSort, IsSorted}
use Rattle.machine_core.specs.joint_ops.declared.values.Sort.{Sort}
use Rattle.machine_core.specs.joint_ops.declared.values.Sort.TheVariants as sort
use Rattle.machine_core.specs.declared.machine.Machine.{Machine}
use Rattle.machine_core.specs.Holding.{HeldBy, object_in}
use Rattle.machine_core.proofs.Popping.{num_slot, ref_slot}
use Rattle.joint_tables.specs.Tables.{IsLastText}
use Rattle.joint_tables.specs.table_lib.table_nodes.Sought.{IsTextHeld}
use Rattle.machine_tables.specs.declared.last.LastString.TheVariants as last
use Rattle.machine_tables.specs.declared.scan.Scan.{Scan}
use Rattle.machine_tables.specs.inside.Scanning.{HasLocals, HasText, IsLastString, ReadsTable, goes_after}

-- What the words of the locals stand for.
module _ (outside : Outside Space) (m : Machine) (names : List Reference) (c : Config) (h : HeldBy outside names m c) where
  pub num-local : (slot : ℕ) (z : ℤ) → slot < m.frame.nums → z ≡ slice_index_or m.nums.own slot z → c.locals.nums slot ≡ z
  num-local slot z below is = h.nums_are.locals_are slot z below ∙ sym is

  pub ref-local : (slot w : ℕ) → slot < m.frame.refs → w ≡ slice_index_or m.refs.own slot w → DenotesIn m.objects outside names (object_in w) (c.locals.refs slot)
  ref-local slot w below is =
      subst (λ (x : ℕ). DenotesIn m.objects outside names (object_in x) (c.locals.refs slot)) (sym is) (h.refs_are.locals_are slot w below)

-- A text, by its sort.
text-sorted : (v : Value) → IsOfSort v sort.Text → (bytes : List ℕ) × (v ≡ Text bytes)
text-sorted (Text bytes) is = (bytes, refl)
text-sorted Nil is = absurd is
text-sorted (Pointer id) is = absurd is
text-sorted (Vector id) is = absurd is
text-sorted (Num z) is = absurd is
text-sorted (Flag b) is = absurd is
text-sorted (Procedure does scope) is = absurd is
text-sorted Nothing is = absurd is

no-text-sorted : (v : Value) (s : Sort) → s ≢ sort.Text → IsOfSort v s → bytes_of v ≡ []
no-text-sorted (Text bytes) sort.Text other is = absurd (other refl)
no-text-sorted (Text bytes) sort.Nil other is = absurd is
no-text-sorted (Text bytes) sort.Pointer other is = absurd is
no-text-sorted (Text bytes) sort.Vector other is = absurd is
no-text-sorted (Text bytes) sort.Other other is = absurd is
no-text-sorted (Text bytes) sort.Procedure other is = absurd is
no-text-sorted Nil s other is = refl
no-text-sorted (Pointer id) s other is = refl
no-text-sorted (Vector id) s other is = refl
no-text-sorted (Num z) s other is = refl
no-text-sorted (Flag b) s other is = refl
no-text-sorted (Procedure does scope) s other is = refl
no-text-sorted Nothing s other is = refl

module _ (outside : Outside Space) (m : Machine) (names : List Reference) (v : Value) where
  pub text-there : (to : Option ℕ) (s : Sort) → s ≡ sort.Text → IsSorted m.objects to s → DenotesIn m.objects outside names to v → IsOfSort v s
      → HasText outside m names v to
  text-there None s text by d is = absurd (subst (IsSorted m.objects None) text by)
  text-there (Some at) s text by d is =
      let it = text-sorted v (subst (IsOfSort v) text is) in
      (it.0, it.1, subst (λ (w : Value). DenotesIn m.objects outside names (Some at) w) it.1 d)

  pub text-nowhere : (s : Sort) → s ≢ sort.Text → IsOfSort v s → HasText outside m names v None
  text-nowhere s other is = no-text-sorted v s other is

  -- the last key is what its local has
  pub string-last : (strings : Bool) (at : ℕ) (key : Option Key) → key ≡ Some (string_key (bytes_of v)) → HasText outside m names v (Some at)
      → IsLastString m.objects outside names (last.Text at) key
  string-last strings at key is (bytes, text, d) = (bytes, is ∙ ap (λ (w : Value). Some (string_key (bytes_of w))) text, d)

  pub empty-last : (key : Option Key) → key ≡ Some (string_key (bytes_of v)) → HasText outside m names v None → IsLastString m.objects outside names last.Empty key
  empty-last key is none = is ∙ ap (λ (bytes : List ℕ). Some (string_key bytes)) none

pub text-held : (here : area.Heap) (to : Option ℕ) (s : Sort) → s ≡ sort.Text → IsSorted here to s → (at : ℕ) → to ≡ Some at → IsHeld here at → IsTextHeld here at
text-held here None s text by at is held = absurd (cc)
text-held here (Some a) s text by at is held =
    let same : a ≡ at = cc in
    record { held = held; kind = subst (λ (x : ℕ). IsSorted here (Some x) sort.Text) same (subst (IsSorted here (Some a)) text by) }

-- Whether there is a last key.
pub last-none : (strings : Bool) (q s : ℕ) (c : Config) (z : ℤ) → c.locals.nums (s + 2) ≡ z → is_one z ≡ false → last_of strings q s c ≡ None
last-none strings q s c z is none =
    ap (λ (b : Bool). if b then Some (last_key strings q s c) else None) (ap is_one is ∙ none)

pub last-some : (strings : Bool) (q s : ℕ) (c : Config) (z : ℤ) → c.locals.nums (s + 2) ≡ z → is_one z ≡ true
    → last_of strings q s c ≡ Some (last_key strings q s c)
last-some strings q s c z is there =
    ap (λ (b : Bool). if b then Some (last_key strings q s c) else None) (ap is_one is ∙ there)

pub last-int : (q s : ℕ) (c : Config) (z w : ℤ) → c.locals.nums (s + 2) ≡ z → is_one z ≡ true → c.locals.nums (s + 1) ≡ w
    → Some (int_key w) ≡ last_of false q s c
last-int q s c z w is there key = sym (last-some false q s c z is there ∙ ap (λ (x : ℤ). Some (int_key x)) key)

-- The table of a scan.
module _ (outside : Outside Space) (m : Machine) (scan : Scan) (names : List Reference) (c : Config) (h : HeldBy outside names m c) where
  slots-there : HasLocals m scan → (is_ref_slot c (scan.refs + 2) && is_num_slot c (scan.nums + 2)) ≡ true
  slots-there l =
      ap (λ (b : Bool). b && is_num_slot c (scan.nums + 2)) (ref_slot m outside c names h (scan.refs + 2) l.refs)
      ∙ num_slot m outside c names h (scan.nums + 2) l.nums

  opened : (strings : Bool) → HasLocals m scan
      → scan_on strings scan.own scan.refs scan.nums scan.end scan.line c
      ≡ object_of (c.locals.refs scan.refs) c (λ table d. goes_after strings scan (last_of strings scan.refs scan.nums d) table d)
  opened strings l =
      ap (λ (b : Bool). if b then object_of (c.locals.refs scan.refs) c (λ table d. goes_after strings scan (last_of strings scan.refs scan.nums d) table d) else Stuck)
      (slots-there l)

  pub table-there : (to : Option ℕ) → HasLocals m scan
      → ((d : Config) (next : Value → Config → Step) → object_of (c.locals.refs scan.refs) d next ≡ next (c.locals.refs scan.refs) d)
      → DenotesIn m.objects outside names to (c.locals.refs scan.refs) → ReadsTable outside m scan names c (Some to)
  table-there to l object d = (
    c.locals.refs scan.refs,
    d,
    λ strings. opened strings l ∙ object c (λ table e. goes_after strings scan (last_of strings scan.refs scan.nums e) table e),
  )

  pub no-table : HasLocals m scan → ((d : Config) (next : Value → Config → Step) → object_of (c.locals.refs scan.refs) d next ≡ Stuck)
      → ReadsTable outside m scan names c None
  no-table l stuck strings = opened strings l ∙ stuck c (λ table e. goes_after strings scan (last_of strings scan.refs scan.nums e) table e)

  no-ref-slot : (slot : ℕ) → m.frame.refs ≤ slot → is_ref_slot c slot ≡ false
  no-ref-slot slot high = le-ltb slot (frame_in c.unit).refs (let is = ap (λ f. f.refs) h.frame_is in omega (arith, high, is))

  no-num-slot : (slot : ℕ) → m.frame.nums ≤ slot → is_num_slot c slot ≡ false
  no-num-slot slot high = le-ltb slot (frame_in c.unit).nums (let is = ap (λ f. f.nums) h.frame_is in omega (arith, high, is))

  pub no-ref-locals : m.frame.refs ≤ scan.refs + 2 → ReadsTable outside m scan names c None
  no-ref-locals high strings =
      ap (λ (b : Bool). if b && is_num_slot c (scan.nums + 2) then object_of (c.locals.refs scan.refs) c (λ table d. goes_after strings scan (last_of strings scan.refs scan.nums d) table d) else Stuck)
      (no-ref-slot (scan.refs + 2) high)

  pub no-num-locals : m.frame.nums ≤ scan.nums + 2 → ReadsTable outside m scan names c None
  no-num-locals high strings = of (is_ref_slot c (scan.refs + 2)) (is_num_slot c (scan.nums + 2)) (no-num-slot (scan.nums + 2) high)
    where
      of : (a b : Bool) → b ≡ false
          → (if a && b then object_of (c.locals.refs scan.refs) c (λ table d. goes_after strings scan (last_of strings scan.refs scan.nums d) table d) else Stuck) ≡ Stuck
      of true true none = absurd (cc)
      of true false none = refl
      of false b none = refl

-- the last key as what a scan goes on after
module _ (here : area.Heap) (outside : Outside Space) (names : List Reference) (key : Option Key) where
  pub none-text : IsLastString here outside names last.None key → IsLastText here outside names None key
  none-text is = subst (λ (k : Option Key). IsLastText here outside names None k) (sym is) tt

  pub some-text : (at : ℕ) → IsLastString here outside names (last.Text at) key → IsLastText here outside names (Some at) key
  some-text at (bytes, is, d) = subst (λ (k : Option Key). IsLastText here outside names (Some at) k) (sym is) d
