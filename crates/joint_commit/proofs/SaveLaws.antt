-- What a commit that saved leaves on the vault stands for the heap that the meaning saves.
use Rattle.std.proofs.Common.{true, inl, inr, ◌≡◌, ◌≢◌, ℕ, List, map, refl, sym, ap, ◌∙◌, subst, Option, Some, None, IfSome}
use Rattle.std.specs.Prelude.{Result, Ok, Err}
use Rattle.swizzle.specs.obj_layout.ps_outside.Outside.{Outside}
use Rattle.swizzle.specs.obj_layout.declared.kind.Kind.TheVariants as kind
use Rattle.swizzle.specs.obj_layout.declared.reference.Reference.{Reference}
use Rattle.swizzle.specs.obj_layout.declared.reference.Reference.TheVariants.{Pid}
use Rattle.swizzle.specs.obj_layout.Stored.{Space, without_file}
use Rattle.swizzle.specs.obj_layout.Storing.{Becomes, Settles}
use Rattle.swizzle.specs.obj_layout.declared.vault.VaultFault.{VaultFault}
use Rattle.swizzle.specs.declared.fault.SwizzleFault.{SwizzleFault}
use Rattle.swizzle.specs.declared.fault.SwizzleFault.TheVariants.{AreaFull, Vault}
use Rattle.swizzle.specs.Heap.{Heap, IsHeap, IsHeld}
use Rattle.swizzle.specs.Joint.{Shown}
use Rattle.commit_walk.specs.declared.homes.Source.{Source}
use Rattle.heap_meaning.specs.heap_places.Shapes.{word_in}
use Rattle.heap_meaning.specs.Paired.{paired, StandsRow}
use Rattle.heap_meaning.proofs.TableLaws.{no-node}
use Rattle.heap_meaning.specs.ps_heap.Held.{Held, StoredHeap, home_at}
use Rattle.heap_meaning.specs.ps_heap.Objects as meaning
use Rattle.heap_meaning.specs.ps_heap.Databases.{Directory}
use Rattle.heap_meaning.specs.ps_heap.Commit.{homes_after, Saves, saved, after_decision}
use Rattle.ps_code_laws.specs.Compiled.{compiled_heap, compiled_stored}
use Rattle.joint_ops.specs.World.{seen}
use Rattle.joint_ops.proofs.SeenLaws.{seen-one}
use Rattle.reach_commit.specs.declared.commit.CommitAnswer.{CommitAnswer}
use Rattle.reach_commit.specs.declared.commit.CommitAnswer.TheVariants as answer
use Rattle.commit_images.specs.Saved.{saved as stored_by, saving}
use Rattle.reach_commit.specs.Deciding.{AreWritable}
use Rattle.reach_commit.specs.Committing.{Commits, BreaksOff, pid_of}
use Rattle.reach_commit.specs.Telling.{after_step, Tells}
use Rattle.reach_commit.specs.Answers.{Decides, LeavesAll, Stores}
use Rattle.joint_held.specs.Held.{IsAtHome, IsOneStore, HoldsRun}
use Rattle.space_meaning.specs.Space.{SeenIn}
use Rattle.space_meaning.specs.Stands.{IsHome, IsDirectoryOf, SpaceStands}
use Rattle.space_meaning.specs.Keeping.{IsKept}
use Rattle.space_meaning.proofs.Seen.{seen-one as one-seen}
use Rattle.space_meaning.proofs.StandLaws.{space-stands}
use Rattle.joint_reach.specs.Meets.{DecidesAs, MeetsHomes}
use Rattle.joint_reach.proofs.DecideLaws.{decides-as}
use Rattle.joint_reach.proofs.HomeLaws.{meets-homes}
use Rattle.joint_reach.proofs.NodeLaws.{meets-nodes}
use Rattle.joint_commit.specs.Saving.{none_made, ContentsStand, IsCompiledTo, LeavesEither, StandsFor}
use Rattle.joint_commit.specs.Answers.{CommitsHeld}
use Rattle.joint_commit.proofs.StoredLaws.{Setting, row, things-kept, space-keeps}
use Rattle.joint_commit.proofs.HomeLaws.{homes-hold}
use Rattle.joint_commit.proofs.DirectoryLaws.{directory-stands}
use Rattle.joint_commit.proofs.RunLaws.{held_after, run-after, saves-asked}

-- The parts of the heap that is saved are those of the run, as it is after the commit.
pub record AreSaved (d : Held) (heap : StoredHeap) : Type 0 where
  pub objects : d.objects ≡ compiled_heap heap.objects
  pub homes : homes_after d ≡ heap.homes
  pub directory : d.directory ≡ heap.directory

are-saved : (d : Held) (heap : StoredHeap) → saved d ≡ compiled_stored heap → AreSaved d heap
unfolding saved
are-saved d heap e = record {
  objects = ap (λ (made : StoredHeap). made.objects) e;
  homes = ap (λ (made : StoredHeap). made.homes) e;
  directory = ap (λ (made : StoredHeap). made.directory) e;
}

after-saved : (d : Held) → held_after d ≡ after_decision (Saves (saved d)) d
unfolding saved
after-saved d = refl

module _ (old new : Heap) (before after : Outside Space) (names : List Reference) (writing : List Source) (directory : Option ℕ) (d : Held)
    (s : Setting old new before after names writing directory d)
    (meets : MeetsHomes old new names writing directory d)
    (asked : d.asked ≡ true)
    (heap : StoredHeap)
    (is_saved : IsCompiledTo (saved d) heap) where
  abbrev ρ : Reference → Reference
  ρ = (s.tells.moved s.holds.current.told).to

  parts : AreSaved d heap
  parts = are-saved d heap is_saved.made

  home-in : (space : Space) (is : after.contents space) (pid id : ℕ) → paired (map ρ names) (Pid pid) id → (it : Shown) → SeenIn (without_file space) (Pid pid) it
      → IsHome (word_in it 0) (home_at heap.homes id)
  home-in space is pid id p it there =
      by (home_at heap.homes id)
      (subst (λ (homes : List (Option ℕ)). IsAtHome (seen new after) (Pid pid) (home_at homes id)) parts.homes
      (homes-hold old new before after names writing directory d s meets (Pid pid) id p))
    where
      by : (home : Option ℕ) → IsAtHome (seen new after) (Pid pid) home → IsHome (word_in it 0) home
      by None a = absurd a
      by (Some number) a =
          let b = (row old new before after names writing directory d s).stands.both (Pid pid) id p in
          let same : a.0 ≡ b.it = seen-one new after s.good s.one (Pid pid) a.0 b.it a.1 b.there in
          let other : (a.0).kind ≢ kind.Node =
          λ e. no-node (seen new after) (paired (map ρ names)) b.it b.object b.like (ap (λ (x : Shown). x.kind) (sym same) ∙ e) in
          let mine = things-kept old new before after names writing directory d s space is pid a.0 a.1 other in
          ap (λ (x : Shown). word_in x 0) (one-seen (without_file space) (Pid pid) it a.0 there mine) ∙ a.2

  -- the directory of the space, as the heap has it
  directory-in : (space : Space) (is : after.contents space) → IsDirectoryOf (SeenIn (without_file space)) (paired (map ρ names)) space.directory heap.directory
  directory-in space is =
      subst (λ (databases : Directory). IsDirectoryOf (SeenIn (without_file space)) (paired (map ρ names)) space.directory databases) parts.directory
      (directory-stands old new before after names writing directory d s space is asked)

  pub content-stands : (space : Space) → after.contents space → SpaceStands (without_file space) heap
  content-stands space is =
      let cut = (s.tells.told s.holds.current.told).cut space is in
      let there = without_file space in
      subst (λ (of : meaning.Heap). (r : StandsRow (seen new after) of (map ρ names)) → IsKept (seen new after) there of (map ρ names) r.stands.tables.nodes → SpaceStands there heap)
      (sym parts.objects)
      (λ r kept. space-stands (seen new after) there heap (map ρ names) r is_saved.units kept (home-in space is) (directory-in space is) cut.objects cut.cut is_saved.fit)
      (row old new before after names writing directory d s) (space-keeps old new before after names writing directory d s space is)

-- What a crash leaves, of a commit that was answered.
module _ (before after : Outside Space) (most : ℕ) (step : Space → Space) (h : StoredHeap)
    (settles : Settles {T = Unit {0}} before after most step (Ok tt))
    (stands : ContentsStand after h) where
  moments-stand : Becomes before after step → LeavesEither before after h
  moments-stand becomes m image low high at =
      elim (settles.images.each m (without_file image) low high (record { from = image; was = at; by = refl })) [
        | inl a ↦ inl a
        | inr k ↦ inr (subst (λ (x : Space). StandsFor (without_file x) h) k.2 (stands (step k.0) (becomes.told k.0 k.1)))
      ]

  last-stands : (content : Space) → before.contents content → (image : Space) → after.images after.clock image → StandsFor (without_file image) h
  last-stands content is image at = stands (without_file image) (settles.durable content (without_file image) is (record { from = image; was = at; by = refl }))

-- Of one that broke off: either it leaves what it left before, or what would be held stands.
broken-stands : (old new : Heap) (writing : List Source) (directory : Option ℕ) (before after : Outside Space) (used most : ℕ) (fault : VaultFault) (h : StoredHeap)
    (b : BreaksOff old new writing directory before after used most fault)
    → (Tells old new before (after_step before (stored_by new b.fresh b.changed (pid_of new directory))) b.fresh b.changed (pid_of new directory)
    → ContentsStand (after_step before (stored_by new b.fresh b.changed (pid_of new directory))) h) → LeavesEither before after h
broken-stands old new writing directory before after used most fault h b stands m image low high at =
    elim b.whole [
      | inl same ↦
          inl (same.each m (without_file image) low high (record { from = image; was = at; by = refl }))
      | inr tells ↦ elim (b.settles.images.each m (without_file image) low high (record { from = image; was = at; by = refl })) [
        | inl a ↦ inl a
        | inr k ↦ inr (stands tells (without_file image) (record { from = k.0; was = k.1; by = k.2 }))
      ]
    ]

-- what is held after a step
held-step : (outside : Outside Space) (step : Space → Space) → Becomes outside (after_step outside step) step
held-step outside step = record { told = λ space held. record { from = space; was = held; by = refl }; no_other = λ after held. (held.from, held.was, held.by) }

one-step : (outside : Outside Space) (step : Space → Space) → ((a b : Space) → outside.contents a → outside.contents b → a ≡ b)
    → (a b : Space) → (after_step outside step).contents a → (after_step outside step).contents b → a ≡ b
one-step outside step only a b p q = sym p.by ∙ (ap step (only p.from q.from p.was q.was) ∙ q.by)

-- where nothing changed area and vault hold the run as before
abbrev pub Keeps : Heap → Outside Space → List Reference → List Source → Option ℕ → Held → Result CommitAnswer SwizzleFault → Type 0
Keeps new after names writing directory h (Ok (answer.NotWritable object home)) = HoldsRun new after names writing directory h
Keeps new after names writing directory h (Ok answer.Nothing) = HoldsRun new after names writing directory h
Keeps new after names writing directory h _ = Unit {0}

pub keeps-run : {V : Type 0} (outside : V → Outside Space) (old new : Heap) (before after : V) (names : List Reference) (writing : List Source) (directory : Option ℕ) (h : Held)
    (result : Result CommitAnswer SwizzleFault) → HoldsRun old (outside before) names writing directory h → LeavesAll old new before after result → Keeps new (outside after) names writing directory h result
keeps-run outside old new before after names writing directory h (Ok (answer.NotWritable object home)) holds same =
    subst (λ (x : Heap). HoldsRun x (outside after) names writing directory h) (sym same.0) (subst (λ v. HoldsRun old (outside v) names writing directory h) (sym same.1) holds)
keeps-run outside old new before after names writing directory h (Ok answer.Nothing) holds same =
    subst (λ (x : Heap). HoldsRun x (outside after) names writing directory h) (sym same.0) (subst (λ v. HoldsRun old (outside v) names writing directory h) (sym same.1) holds)
keeps-run outside old new before after names writing directory h (Ok (answer.Saved fresh rewritten)) holds same = tt
keeps-run outside old new before after names writing directory h (Err fault) holds same = tt

-- A commit, by what it answers.
module _ (old new : Heap) (before after : Outside Space) (names : List Reference) (writing : List Source) (directory : Option ℕ) (d : Held) (used now most named : ℕ)
    (sound : IsHeap old)
    (good : IsHeap new)
    (store : IsOneStore after)
    (given : IfSome directory (IsHeld old))
    (holds : HoldsRun old before names writing directory d) where
  only : (a b : Space) → before.contents a → before.contents b → a ≡ b
  only a b p q = holds.store.one a b p q

  decides : (result : Result CommitAnswer SwizzleFault) → Decides old writing result → DecidesAs d result
  decides result told = decides-as old before names writing directory d sound (seen-one old before sound only) holds result told

  -- the parts of a commit that stored
  abbrev setting : (then : Outside Space) (fresh changed : List ℕ) → AreWritable old writing → ((a b : Space) → then.contents a → then.contents b → a ≡ b)
      → Commits old new writing directory used fresh changed → Becomes before then (stored_by new fresh changed (pid_of new directory))
      → Tells old new before then fresh changed (pid_of new directory) → Setting old new before then names writing directory d
  setting then fresh changed writable single commits becomes tells = record {
    used = used;
    fresh = fresh;
    changed = changed;
    sound = sound;
    good = good;
    only = only;
    one = single;
    given = given;
    holds = holds;
    commits = commits;
    becomes = becomes;
    tells = tells;
    meets = meets-nodes old before names writing directory d sound (seen-one old before sound only) holds writable;
  }

  homes : (fresh changed : List ℕ) → AreWritable old writing → Commits old new writing directory used fresh changed → MeetsHomes old new names writing directory d
  homes fresh changed writable commits =
      meets-homes old before names writing directory d sound (seen-one old before sound only) holds writable new used fresh changed commits

  pub commits-held : (result : Result CommitAnswer SwizzleFault) → Decides old writing result → Stores old new writing directory before after used now most named result
      → Keeps new after names writing directory d result → CommitsHeld old new before after names writing directory d result
  commits-held (Ok (answer.NotWritable object home)) told stores keeps = (decides (Ok (answer.NotWritable object home)) told, keeps)
  commits-held (Ok answer.Nothing) told stores keeps = (decides (Ok answer.Nothing) told, keeps)
  commits-held (Err (AreaFull top wanted size)) told stores keeps = absurd stores
  commits-held (Err (Vault fault)) told stores keeps =
      let saves = decides (Err (Vault fault)) told in
      let asked = saves-asked old before names writing directory d saves holds in
      let step = stored_by new stores.fresh stores.changed (pid_of new directory) in (
        saves,
        broken-stands old new writing directory before after used most fault (saved d) stores (λ tells space is heap is_saved.
            content-stands old new before (after_step before step) names writing directory d
            (setting (after_step before step) stores.fresh stores.changed told.0 (one-step before step only) stores.commits (held-step before step) tells)
            (homes stores.fresh stores.changed told.0 stores.commits) asked heap is_saved space is),
      )
  commits-held (Ok (answer.Saved fresh rewritten)) told stores keeps =
      let saves = decides (Ok (answer.Saved fresh rewritten)) told in
      let asked = saves-asked old before names writing directory d saves holds in
      let s = setting after stores.fresh stores.changed told.0 store.one stores.commits stores.becomes stores.tells in
      let at_home = homes stores.fresh stores.changed told.0 stores.commits in
      let t = holds.current.told in
      let m = stores.tells.moved t in
      let step = stored_by new stores.fresh stores.changed (pid_of new directory) in (
        saves,
        record {
          more = map m.to names;
          holds = subst (HoldsRun new after (map m.to names) (none_made writing) directory) (after-saved d)
              (run-after old new before after names writing directory d s stores.unassigned at_home asked store);
          values = λ at v e. m.values names at v e;
          scopes = λ at scope e. m.scopes names at scope e;
          units = m.units;
          leaves =
              let stands : ContentsStand after (saved d) =
              λ space is heap is_saved. content-stands old new before after names writing directory d s at_home asked heap is_saved space is in
              record {
                contents = stands;
                moments = moments-stand before after (saving new stores.fresh stores.changed now) step (saved d) stores.settles stands stores.becomes;
                last = last-stands before after (saving new stores.fresh stores.changed now) step (saved d) stores.settles stands t.content t.is;
              };
        },
      )
