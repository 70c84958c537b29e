-- What lasts of the objects of the area where a value was entered into a table, or a key was taken out.
use Rattle.std.proofs.Common.{inl, inr, ◌≡◌, ◌≢◌, ◌⊎◌, ℕ, Option, Some, sym, ap, ◌∙◌, arith}
use Rattle.std.proofs.lemmas.Bool.{cases_eq}
use Rattle.joint_ops.specs.ps_outside.Outside.{Outside}
use Rattle.joint_ops.specs.obj_layout.Stored.{Space}
use Rattle.joint_ops.specs.obj_layout.declared.header.Header.{Header}
use Rattle.joint_ops.specs.obj_layout.declared.kind.Kind.TheVariants as kind
use Rattle.joint_ops.specs.obj_layout.declared.reference.Reference.TheVariants as reference
use Rattle.joint_ops.specs.swizzle.Heap.{Heap, IsHeld, IsListed, Stand, header_at}
use Rattle.joint_ops.specs.swizzle.Joint.{Shown, name_by, shown_at}
use Rattle.joint_ops.specs.swizzle.Touch.{Stays}
use Rattle.joint_ops.proofs.of_swizzle.NameLaws.{name-pid, name-none}
use Rattle.joint_ops.specs.heap_places.Shapes.{slot_of, word_in}
use Rattle.joint_ops.proofs.PutLaws.{no-bytes}
use Rattle.joint_tables.specs.Tables.{NamesTable}
use Rattle.joint_tables.specs.table_lib.Entries.{IsOpen, SparesBut}
use Rattle.objects.specs.Lasting.{Lasts}

-- An object that keeps its name keeps its PID.
pid-by : (h g : Header) (at : ℕ) → name_by h at ≡ name_by g at → h.pid ≡ g.pid
pid-by h g at e =
    elim (cases_eq h.pid 0) [
      | inl none ↦ elim (cases_eq g.pid 0) [
        | inl same ↦ none ∙ sym same
        | inr some ↦ let no : reference.Local at ≡ reference.Pid g.pid = sym (name-none h at none) ∙ e ∙ name-pid g at (omega arith) in absurd (cc)
      ]
      | inr some ↦ elim (cases_eq g.pid 0) [
        | inl none ↦ let no : reference.Pid h.pid ≡ reference.Local at = sym (name-pid h at (omega arith)) ∙ e ∙ name-none g at none in absurd (cc)
        | inr both ↦ let same : reference.Pid h.pid ≡ reference.Pid g.pid = sym (name-pid h at (omega arith)) ∙ e ∙ name-pid g at (omega arith) in cc
      ]
    ]

module _ (at : ℕ) (old new : Heap) (before after : Outside Space) (s : SparesBut at old new before after) (table : (header_at old at).kind ≡ kind.Table) where
  stand : (j : ℕ) → IsHeld old j → Stand old new j
  stand j held =
      let l = s.lasts j held in
      record { held = l.held; kind = l.kind; refs = l.refs; nums = l.nums; bytes = l.bytes; pid = pid-by (header_at new j) (header_at old j) j l.name }

  -- An object that is neither a table nor a node stays as it was.
  stays : (j : ℕ) → IsHeld old j → (header_at old j).kind ≢ kind.Table → (header_at old j).kind ≢ kind.Node → Stays old new j
  stays j held no_table no_node =
      let l = s.lasts j held in
      record { held = l.held; name = l.name; shown_as = shows (s.kept j held); flags = flags (s.flags j held); refs = l.refs; nums = l.nums }
    where
      not-open : IsOpen at new j → ⊥
      not-open (inl e) = no_table (ap (λ (i : ℕ). (header_at old i).kind) e ∙ table)
      not-open (inr n) = no_node (sym (s.lasts j held).kind ∙ n.kind)

      shows : (shown_at new j ≡ shown_at old j) ⊎ (IsOpen at new j × IsListed j new.assigned) → shown_at new j ≡ shown_at old j
      shows (inl e) = e
      shows (inr o) = absurd (not-open o.0)

      flags : ((header_at new j).flags ≡ (header_at old j).flags) ⊎ IsOpen at new j → (header_at new j).flags ≡ (header_at old j).flags
      flags (inl e) = e
      flags (inr o) = absurd (not-open o)

  spared-lasts : Lasts old new
  spared-lasts = record {
    size = s.size;
    stands = stand;
    code = λ j held bytes.
        stays j held (λ e. no-bytes (header_at old j).kind kind.Table e (λ f. cc) (λ f. cc) bytes)
        (λ e. no-bytes (header_at old j).kind kind.Node e (λ f. cc) (λ f. cc) bytes);
    closures = λ j held is.
        stays j held (λ e. let bad : kind.Closure ≡ kind.Table = sym is ∙ e in cc) (λ e. let bad : kind.Closure ≡ kind.Node = sym is ∙ e in cc);
    bounds = λ j held is.
        let t = stays j held (λ e. let bad : kind.Vector ≡ kind.Table = sym is ∙ e in cc) (λ e. let bad : kind.Vector ≡ kind.Node = sym is ∙ e in cc) in
        record { type = ap (λ (it : Shown). slot_of it 0) t.shown_as; bound = ap (λ (it : Shown). word_in it 1) t.shown_as };
  }

pub entered-lasts : (old new : Heap) (before after : Outside Space) (operand : Option ℕ) → NamesTable old operand
    → ((at : ℕ) → operand ≡ Some at → SparesBut at old new before after) → Lasts old new
entered-lasts old new before after operand n spares = spared-lasts n.at old new before after (spares n.at n.is) n.kind
