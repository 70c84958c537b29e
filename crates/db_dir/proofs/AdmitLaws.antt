-- A database is opened step by step: its name is found, its password compared, its mode read, its root touched.
use Rattle.std.proofs.Common.{arith, inl, inr, ◌≡◌, ◌≢◌, ℕ, ◌+◌, ◌*◌, ◌-◌, Bool, true, false, List, Option, Some, None, Result, Ok, Err, IfOk, OnOk, sym, ap, ◌∙◌, subst}
use Rattle.std.specs.Prelude.{codes, if◌then◌else◌}
use Rattle.joint_ops.specs.ps_outside.Outside.{Outside}
use Rattle.joint_ops.specs.obj_layout.Stored.{Space}
use Rattle.joint_ops.specs.obj_layout.declared.kind.Kind.TheVariants as kind
use Rattle.joint_ops.specs.swizzle.declared.fault.SwizzleFault.{SwizzleFault}
use Rattle.joint_ops.specs.swizzle.Heap.{Heap, IsHeap, IsHeld, header_at}
use Rattle.joint_ops.specs.swizzle.Text.{text_at}
use Rattle.joint_ops.proofs.of_swizzle.ReadingLaws.{texts-kept}
use Rattle.joint_ops.proofs.of_heap_meaning.FieldLaws.{other-text}
use Rattle.joint_ops.specs.ps_heap.Texts.{is_same_text}
use Rattle.joint_ops.specs.ps_heap.Databases.{Mode, Reading, Writing, mode_named}
use Rattle.db_dir.specs.declared.fault.DirFault.TheVariants as dir
use Rattle.db_dir.specs.declared.admit.Admitted.{Admitted}
use Rattle.db_dir.specs.declared.admit.Admitted.TheVariants as admitted
use Rattle.db_dir.specs.Entries.{ReadsSome}
use Rattle.db_dir.specs.Found.{HasPassword, IsFirst, IsSpoilt, Finds, TakesMode, Opens, OpensAs, OpensAt}
use Rattle.db_dir.specs.Answers.{IsRoot}
use Rattle.db_dir.proofs.EntryLaws.{entry-before, compares-before, compares-still, misses-before, misses-text-before}
use Rattle.db_dir.proofs.FindLaws.{first-still}

-- a text that is neither is no mode
pub mode-none : (mode read write : List ℕ) → read ≡ codes "read" → write ≡ codes "write" → mode ≢ read → mode ≢ write → OpensAs (mode_named mode) None
mode-none mode read write r w one two =
    let first : is_same_text mode (codes "read") ≡ false = other-text mode (codes "read") (λ e. one (e ∙ sym r)) in
    let second : is_same_text mode (codes "write") ≡ false = other-text mode (codes "write") (λ e. two (e ∙ sym w)) in
    let none : mode_named mode ≡ None =
    ap (λ (b : Bool). if b then Some Reading else if is_same_text mode (codes "write") then Some Writing else None) first
    ∙ ap (λ (b : Bool). if b then Some Writing else None) second in
    subst (λ (m : Option Mode). OpensAs m None) (sym none) tt

-- a name was found
pub found-finds : (old mid : Heap) (a b : Outside Space) (directory : ℕ) (name : List ℕ) (found : Option ℕ) (number : ℕ) → found ≡ Some number
    → Finds old mid a b (Some directory) name (Ok found) → Finds old mid a b (Some directory) name (Ok (Some number))
found-finds old mid a b directory name found number is f = subst (λ (x : Option ℕ). Finds old mid a b (Some directory) name (Ok x)) is f

module _ (old mid new : Heap) (a b c : Outside Space) (directory : ℕ) (h : IsHeap mid) (held : IsHeld old directory) (r : ReadsSome old mid a b) where
  pub spoilt-before : (fault : SwizzleFault) → IsSpoilt mid new b c directory fault → IsSpoilt old new a c directory fault
  spoilt-before fault s = record {
    place = s.place;
    below = omega (arith, s.below, (r.reads.keeps.objects directory held).refs);
    why = elim (s.why) [
      | inl name ↦ inl (misses-text-before old mid new a b c directory (3 * s.place) 1 64 fault h held r name)
      | inr more ↦ elim more [
        | inl password ↦ inr (inl (misses-text-before old mid new a b c directory (3 * s.place + 1) 0 64 fault h held r password))
        | inr root ↦ inr (inr (misses-before old mid new a b c directory (3 * s.place + 2) kind.Table fault h held r root))
      ]
    ];
  }

  pub takes-before : (mode place : ℕ) (result : Result Admitted SwizzleFault) → IsHeld old mode → (header_at old mode).kind ≡ kind.Text
      → TakesMode mid new b c (text_at mid mode) directory place result → TakesMode old new a c (text_at old mode) directory place result
  takes-before mode place (Ok (admitted.Root number root writing)) own is t = (
    t.0,
    entry-before old mid new directory (3 * place + 2) root kind.Table r.reads.keeps held t.1,
    subst (λ (bytes : List ℕ). OpensAs (mode_named bytes) (Some writing)) (texts-kept old mid r.reads.keeps mode own is).bytes t.2,
  )
  takes-before mode place (Ok (admitted.Fault dir.BadMode)) own is t =
      ap mode_named (sym (texts-kept old mid r.reads.keeps mode own is).bytes) ∙ t
  takes-before mode place (Ok (admitted.Fault dir.BadName)) own is t = absurd t
  takes-before mode place (Ok (admitted.Fault dir.BadPassword)) own is t = absurd t
  takes-before mode place (Ok (admitted.Fault dir.Exists)) own is t = absurd t
  takes-before mode place (Ok (admitted.Fault dir.TooMany)) own is t = absurd t
  takes-before mode place (Ok (admitted.Fault dir.NoSuchDatabase)) own is t = absurd t
  takes-before mode place (Ok (admitted.Fault dir.Password)) own is t = absurd t
  takes-before mode place (Err fault) own is t = spoilt-before fault t

  -- the password is the one, and then the mode is taken
  pub takes-opens : (password : List ℕ) (mode place : ℕ) (same : Bool) (result : Result Admitted SwizzleFault) → IsHeld old mode → (header_at old mode).kind ≡ kind.Text
      → HasPassword old mid directory place password same → same ≡ true → OnOk result (ReadsSome mid new b c)
      → TakesMode mid new b c (text_at mid mode) directory place result → OpensAt old new a c password (text_at old mode) directory place result
  takes-opens password mode place same (Ok (admitted.Root number root writing)) own is p agrees s t = (
    compares-still old mid new directory (3 * place + 1) 0 64 password true (subst (HasPassword old mid directory place password) agrees p) s.reads.keeps,
    takes-before mode place (Ok (admitted.Root number root writing)) own is t,
  )
  takes-opens password mode place same (Ok (admitted.Fault dir.BadMode)) own is p agrees s t = (
    compares-still old mid new directory (3 * place + 1) 0 64 password true (subst (HasPassword old mid directory place password) agrees p) s.reads.keeps,
    takes-before mode place (Ok (admitted.Fault dir.BadMode)) own is t,
  )
  takes-opens password mode place same (Ok (admitted.Fault dir.BadName)) own is p agrees s t = absurd t
  takes-opens password mode place same (Ok (admitted.Fault dir.BadPassword)) own is p agrees s t = absurd t
  takes-opens password mode place same (Ok (admitted.Fault dir.Exists)) own is p agrees s t = absurd t
  takes-opens password mode place same (Ok (admitted.Fault dir.TooMany)) own is p agrees s t = absurd t
  takes-opens password mode place same (Ok (admitted.Fault dir.NoSuchDatabase)) own is p agrees s t = absurd t
  takes-opens password mode place same (Ok (admitted.Fault dir.Password)) own is p agrees s t = absurd t
  takes-opens password mode place same (Err fault) own is p agrees s t = spoilt-before fault t

  -- what was opened after the name was found
  pub opens-before : (password mode place : ℕ) (result : Result Admitted SwizzleFault) → IsHeld old password → (header_at old password).kind ≡ kind.Text → IsHeld old mode
      → (header_at old mode).kind ≡ kind.Text → OpensAt mid new b c (text_at mid password) (text_at mid mode) directory place result
      → OpensAt old new a c (text_at old password) (text_at old mode) directory place result
  opens-before password mode place result own is ours kind o = cases result o
    where
      before : (same : Bool) → HasPassword mid new directory place (text_at mid password) same → HasPassword old new directory place (text_at old password) same
      before same p =
          compares-before old mid new directory (3 * place + 1) 0 64 (text_at old password) same r.reads.keeps held
          (subst (λ (bytes : List ℕ). HasPassword mid new directory place bytes same) (texts-kept old mid r.reads.keeps password own is).bytes p)

      cases : (result : Result Admitted SwizzleFault) → OpensAt mid new b c (text_at mid password) (text_at mid mode) directory place result
          → OpensAt old new a c (text_at old password) (text_at old mode) directory place result
      cases (Ok (admitted.Root number root writing)) o = (before true o.0, takes-before mode place (Ok (admitted.Root number root writing)) ours kind o.1)
      cases (Ok (admitted.Fault dir.Password)) o = before false o
      cases (Ok (admitted.Fault dir.BadMode)) o = (before true o.0, takes-before mode place (Ok (admitted.Fault dir.BadMode)) ours kind o.1)
      cases (Ok (admitted.Fault dir.BadName)) o = absurd o.1
      cases (Ok (admitted.Fault dir.BadPassword)) o = absurd o.1
      cases (Ok (admitted.Fault dir.Exists)) o = absurd o.1
      cases (Ok (admitted.Fault dir.TooMany)) o = absurd o.1
      cases (Ok (admitted.Fault dir.NoSuchDatabase)) o = absurd o.1
      cases (Err fault) o = spoilt-before fault o

  pub finds-opens : (name : List ℕ) (password mode place : ℕ) (result : Result Admitted SwizzleFault) → IsHeld old password → (header_at old password).kind ≡ kind.Text
      → IsHeld old mode → (header_at old mode).kind ≡ kind.Text → IsFirst old mid directory name place → OnOk result (ReadsSome mid new b c)
      → OpensAt mid new b c (text_at mid password) (text_at mid mode) directory place result
      → Opens old new a c name (text_at old password) (text_at old mode) (Some directory) result
  finds-opens name password mode place (Ok (admitted.Root number root writing)) own is ours kind f s o =
      (place, first-still old mid new directory place name s.reads.keeps f, opens-before password mode place (Ok (admitted.Root number root writing)) own is ours kind o)
  finds-opens name password mode place (Ok (admitted.Fault dir.Password)) own is ours kind f s o =
      (place, first-still old mid new directory place name s.reads.keeps f, opens-before password mode place (Ok (admitted.Fault dir.Password)) own is ours kind o)
  finds-opens name password mode place (Ok (admitted.Fault dir.BadMode)) own is ours kind f s o =
      (place, first-still old mid new directory place name s.reads.keeps f, opens-before password mode place (Ok (admitted.Fault dir.BadMode)) own is ours kind o)
  finds-opens name password mode place (Ok (admitted.Fault dir.BadName)) own is ours kind f s o = absurd o.1
  finds-opens name password mode place (Ok (admitted.Fault dir.BadPassword)) own is ours kind f s o = absurd o.1
  finds-opens name password mode place (Ok (admitted.Fault dir.Exists)) own is ours kind f s o = absurd o.1
  finds-opens name password mode place (Ok (admitted.Fault dir.TooMany)) own is ours kind f s o = absurd o.1
  finds-opens name password mode place (Ok (admitted.Fault dir.NoSuchDatabase)) own is ours kind f s o = absurd o.1
  finds-opens name password mode place (Err fault) own is ours kind f s o = spoilt-before fault o

  -- the number that was found is that of the place
  pub found-opens : (name : List ℕ) (password mode number : ℕ) (result : Result Admitted SwizzleFault) → IsHeld old password → (header_at old password).kind ≡ kind.Text
      → IsHeld old mode → (header_at old mode).kind ≡ kind.Text → Finds old mid a b (Some directory) name (Ok (Some number)) → OnOk result (ReadsSome mid new b c)
      → OpensAt mid new b c (text_at mid password) (text_at mid mode) directory (number - 1) result
      → Opens old new a c name (text_at old password) (text_at old mode) (Some directory) result
  found-opens name password mode number result own is ours kind f s o =
      let same : number - 1 ≡ f.0 = omega (arith, f.1) in
      finds-opens name password mode f.0 result own is ours kind f.2 s
      (subst (λ (place : ℕ). OpensAt mid new b c (text_at mid password) (text_at mid mode) directory place result) same o)

-- what was opened is a table
pub opens-root : (old new : Heap) (a b : Outside Space) (name password mode : List ℕ) (directory : Option ℕ) (result : Result Admitted SwizzleFault)
    → Opens old new a b name password mode directory result → IfOk result (IsRoot new)
opens-root old new a b name password mode (Some directory) (Ok (admitted.Root number root writing)) o = let e = o.2.1.1 in (e.denotes.0, e.kind)
opens-root old new a b name password mode None (Ok (admitted.Root number root writing)) o = absurd o
opens-root old new a b name password mode directory (Ok (admitted.Fault fault)) o = tt
opens-root old new a b name password mode directory (Err fault) o = tt
