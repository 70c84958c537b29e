-- A database is opened.
use Rattle.std.proofs.Common.{inl, inr, ◌≡◌, ℕ, true, List, map, Option, Some, None, Result, Ok, Err, IfOk, refl, sym, subst}
use Rattle.std.proofs.lemmas.Bool.{cases_Bool}
use Rattle.joint_held.specs.joint_ops.ps_outside.Outside.{Outside}
use Rattle.joint_held.specs.joint_ops.obj_layout.Stored.{Space}
use Rattle.joint_held.specs.joint_ops.obj_layout.declared.reference.Reference.{Reference}
use Rattle.joint_held.specs.joint_ops.swizzle.declared.fault.SwizzleFault.{SwizzleFault}
use Rattle.joint_held.specs.joint_ops.swizzle.Heap.{Heap, IsHeap}
use Rattle.joint_held.specs.joint_ops.swizzle.Joint.{name_at, shown_at}
use Rattle.joint_held.specs.joint_ops.swizzle.Text.{text_at}
use Rattle.joint_held.specs.joint_ops.heap_meaning.Paired.{paired}
use Rattle.joint_held.specs.joint_ops.World.{seen, DenotesIn}
use Rattle.joint_ops.proofs.SeenLaws.{seen-held, text-denoted}
use Rattle.joint_held.specs.joint_ops.ps_heap.Databases.{Directory, Mode, Reading, Writing}
use Rattle.joint_held.specs.joint_ops.ps_heap.Held.{Held}
use Rattle.joint_held.specs.joint_ops.ps_heap.Values.{Text}
use Rattle.reaching.specs.Reaching.{IsIn, is_in}
use Rattle.reaching.proofs.Lists.{then_is, else_is, is_in-in, not_in}
use Rattle.commit_walk.specs.declared.homes.Source.{Source}
use Rattle.joint_held.specs.db_dir.declared.admit.Admitted.{Admitted}
use Rattle.joint_held.specs.db_dir.declared.admit.Admitted.TheVariants as admitted
use Rattle.joint_held.specs.db_dir.Directories.{IsDirectoryAt}
use Rattle.joint_held.specs.db_dir.Answers.{Admit, IsRoot}
use Rattle.joint_held.specs.Held.{HoldsRun}
use Rattle.joint_held.specs.Opening.{and_source, with_opening}
use Rattle.joint_held.proofs.GainLaws.{holds}
use Rattle.joint_held.proofs.OpenLaws.{read-run, again-run, opened-run}
use Rattle.joint_databases.specs.Calls.{Opening, now_writing}
use Rattle.joint_databases.proofs.KnowLaws.{gains-carry}

-- The run with one opening more.
opened : (here : Heap) (outside : Outside Space) (names : List Reference) (writing : List Source) (directory : Option ℕ) (h : Held) (number : ℕ) (mode : Mode) → h.asked ≡ true
    → HoldsRun here outside names writing directory h → HoldsRun here outside names (now_writing writing number mode) directory (with_opening number mode h)
opened here outside names writing directory h number Reading asked run = read-run here outside names writing h directory run number asked
opened here outside names writing directory h number Writing asked run =
    let numbers = map (λ (s : Source). s.number) writing in
    let more = and_source writing number None in
    elim (cases_Bool (is_in number numbers)) [
      | inl there ↦
          subst (λ (now : List Source). HoldsRun here outside names now directory (with_opening number Writing h)) (sym (then_is (is_in number numbers) writing more there))
          (again-run here outside names writing h directory run number (subst (IsIn number) run.sources.numbers (is_in-in number numbers there)) asked)
      | inr none ↦
          subst (λ (now : List Source). HoldsRun here outside names now directory (with_opening number Writing h)) (sym (else_is (is_in number numbers) writing more none))
          (opened-run here outside names writing h directory run number (λ l. not_in number numbers none (subst (IsIn number) (sym run.sources.numbers) l)) asked)
    ]

module _ (old new : Heap) (before after : Outside Space) (names : List Reference) (writing : List Source) (directory : Option ℕ) (h : Held) (sound : IsHeap old) (asked : h.asked ≡ true)
    (run : HoldsRun old before names writing directory h) where
  opens-by : (name password mode : List ℕ) (result : Result Admitted SwizzleFault) → IfOk result (IsRoot new) → Admit old new before after names h.directory name password mode result
      → Opening old new before after names writing directory h name password mode result
  opens-by name password mode (Ok (admitted.Root number root for_writing)) is a =
      let o = a.3 in (
        a.0,
        a.1,
        a.2,
        record {
          number_is = o.number_is;
          mode_is = o.writing_is;
          holds = record {
            run = opened new after names writing directory h number a.1 asked (holds old new before after names writing directory h o.gains run);
            carries = gains-carry old new before after names o.gains;
          };
          denotes = record {
            name = name_at new root;
            denotes = (is.0, refl);
            stands = (o.root_is, inr (record { it = shown_at new root; there = seen-held new after root is.0; kind_is = is.1 }));
          };
        },
      )
  opens-by name password mode (Ok (admitted.Fault fault)) is a = (
    a.0,
    record { run = holds old new before after names writing directory h a.1 run; carries = gains-carry old new before after names a.1 },
  )
  opens-by name password mode (Err fault) is broke = broke

  pub opens : (name password mode : ℕ) (n p m : List ℕ) (result : Result Admitted SwizzleFault) → DenotesIn old before names (Some name) (Text n)
      → DenotesIn old before names (Some password) (Text p) → DenotesIn old before names (Some mode) (Text m) → IfOk result (IsRoot new)
      → ((databases : Directory) (row : List Reference) → IsDirectoryAt old (seen old before) (paired row) directory databases
      → Admit old new before after row databases (text_at old name) (text_at old password) (text_at old mode) result)
      → Opening old new before after names writing directory h n p m result
  opens name password mode n p m result name_is password_is mode_is root admits =
      let by_name = (text-denoted old before names name n sound name_is).bytes_are in
      let by_password = (text-denoted old before names password p sound password_is).bytes_are in
      let by_mode = (text-denoted old before names mode m sound mode_is).bytes_are in
      let told = admits h.directory names (run.asked asked) in
      opens-by n p m result root
      (subst (λ (x : List ℕ). Admit old new before after names h.directory n p x result) by_mode
      (subst (λ (x : List ℕ). Admit old new before after names h.directory n x (text_at old mode) result) by_password
      (subst (λ (x : List ℕ). Admit old new before after names h.directory x (text_at old password) (text_at old mode) result) by_name told)))
