-- Each object is at home after a commit where the meaning says.
use Rattle.std.proofs.Common.{inl, inr, ◌≡◌, ℕ, zero, suc, ◌<◌, ◌≤◌, List, [], ◌∷◌, length, map, refl, sym, ap, ◌∙◌, subst, arith, Option, Some, None}
use Rattle.swizzle.specs.obj_layout.ps_outside.Outside.{Outside}
use Rattle.swizzle.specs.obj_layout.declared.reference.Reference.{Reference}
use Rattle.swizzle.specs.obj_layout.declared.reference.Reference.TheVariants.{Pid}
use Rattle.swizzle.specs.obj_layout.Stored.{Space, HasObject}
use Rattle.swizzle.proofs.of_obj_layout.StoredLaws.{Holds-one}
use Rattle.swizzle.specs.Heap.{Heap, IsHeld, header_at, num_at, local_of}
use Rattle.swizzle.specs.Joint.{Shown, InVault, name_at, shown_at, shown_words}
use Rattle.swizzle.specs.Changes.{IsKnown}
use Rattle.swizzle.proofs.NameLaws.{name-pid, name-none, not_away}
use Rattle.commit_walk.specs.declared.homes.Source.{Source}
use Rattle.commit_walk.proofs.AllLaws.{listed-or}
use Rattle.heap_meaning.specs.heap_places.Shapes.{word_in}
use Rattle.heap_meaning.specs.Paired.{paired}
use Rattle.heap_meaning.specs.ps_heap.Objects as meaning
use Rattle.heap_meaning.specs.ps_heap.Held.{Held, home_at}
use Rattle.heap_meaning.specs.ps_heap.Commit.{home_after, homes_after}
use Rattle.database_meaning.proofs.CommitLaws.{after-is}
use Rattle.joint_ops.specs.World.{IsStored, seen}
use Rattle.joint_ops.proofs.SeenLaws.{seen-one}
use Rattle.reach_commit.proofs.ReadyLaws.{none-or-some}
use Rattle.joint_held.specs.Held.{IsAtHome, IsOf}
use Rattle.joint_reach.specs.Meets.{MeetsHomes}
use Rattle.joint_commit.proofs.StoredLaws.{Setting, fresh-pid, held-by_pid, named-before}

pub there-below : (heap : meaning.Heap) (id : ℕ) (o : meaning.Object) → meaning.object_at heap id ≡ Some o → id < length heap
there-below [] id o is = absurd (cc)
there-below (p ∷ ps) zero o is = omega arith
there-below (p ∷ ps) (suc id) o is = let low = there-below ps id o is in omega arith

pub homes-at : (h : Held) (id : ℕ) (o : meaning.Object) → meaning.object_at h.objects id ≡ Some o → home_at (homes_after h) id ≡ home_after h id
homes-at h id o is = after-is h id (there-below h.objects id o is)

module _ (old new : Heap) (before after : Outside Space) (names : List Reference) (writing : List Source) (directory : Option ℕ) (h : Held)
    (s : Setting old new before after names writing directory h) where
  abbrev ρ : Reference → Reference
  ρ = (s.tells.moved s.holds.current.told).to

  -- what isn't in the area before isn't afterwards
  not-here : (pid x : ℕ) → local_of old pid ≡ None → IsKnown (seen old before) (Pid pid) → IsHeld new x → Pid pid ≡ name_at new x → ⊥
  not-here pid x away known held e =
      let m = s.tells.moved s.holds.current.told in
      let was = s.commits.remains.back x held in
      let mine : IsKnown (seen old before) (name_at old x) = record { it = shown_at old x; is = inl (record { at = x; held = was; name_is = refl; shown_is = refl }) } in
      let name : Pid pid ≡ name_at old x = m.moves.one (Pid pid) (name_at old x) known mine (m.moves.pids pid ∙ (e ∙ m.index x)) in
      not_away old x pid s.sound was name away

  -- and the vault has the same words of it
  same-words : (pid : ℕ) (words list : List ℕ) → local_of old pid ≡ None → IsKnown (seen old before) (Pid pid) → IsStored before pid words → IsStored after pid list → list ≡ words
  same-words pid words list away known was now =
      let t = s.holds.current.told in
      let b = s.becomes.no_other now.there.space now.there.is in
      elim ((s.tells.stores t b.0 b.1).no_other pid list (subst (λ (x : Space). HasObject x pid list) (sym b.2) now.there.has)) [
        | inl same ↦ Holds-one before pid list words s.only (record { space = b.0; is = b.1; has = same.1 }) was.there
        | inr image ↦
            let low = fresh-pid old new before after names writing directory h s image.at image.listed in
            let name : Pid pid ≡ name_at new image.at = ap (λ (p : ℕ). Pid p) image.pid_is ∙ sym (name-pid (header_at new image.at) image.at low) in
            absurd (not-here pid image.at away known (held-by_pid new image.at low) name)
      ]

  -- what is seen of the vault is seen of it still
  vault-same : (n : Reference) (it now : Shown) → InVault old (IsStored before) n it → seen new after n now → now ≡ it
  vault-same n it now v (inl a) =
      let known : IsKnown (seen old before) (Pid v.pid) = record { it = it; is = inr (record { pid = v.pid; words = v.words; name_is = refl; there = v.there; away = v.away; shown_is = v.shown_is }) } in
      absurd (not-here v.pid a.at v.away known a.held (sym v.name_is ∙ a.name_is))
  vault-same n it now v (inr w) =
      let known : IsKnown (seen old before) (Pid v.pid) = record { it = it; is = inr (record { pid = v.pid; words = v.words; name_is = refl; there = v.there; away = v.away; shown_is = v.shown_is }) } in
      let both : Pid w.pid ≡ Pid v.pid = sym w.name_is ∙ v.name_is in
      let pid : w.pid ≡ v.pid = cc in
      let words = same-words v.pid v.words w.words v.away known v.there (subst (λ (p : ℕ). IsStored after p w.words) pid w.there) in
      w.shown_is ∙ (ap shown_words words ∙ sym v.shown_is)

  module _ (meets : MeetsHomes old new names writing directory h) where
    -- an object of the area
    area-home : (x id : ℕ) (home : Option ℕ) → IsOf old names x id → home_at h.homes id ≡ home → IsAtHome (seen old before) (name_at old x) home → IsAtHome (seen new after) (name_at new x) (home_after h id)
    area-home x id home of is at = elim (none-or-some (header_at old x).pid) [
      | inr some ↦ stored some (subst (λ (n : Reference). IsAtHome (seen old before) n home) (name-pid (header_at old x) x some) at)
      | inl none ↦ elim (listed-or x s.fresh) [
        | inl l ↦
            let low = fresh-pid old new before after names writing directory h s x (inl l) in
            subst (IsAtHome (seen new after) (name_at new x)) (sym (meets.fresh x id of none (s.commits.fresh_only x l).0)) (here low (num_at new x 0) refl)
        | inr away ↦
            let same : (header_at new x).pid ≡ 0 = s.commits.unstored x away ∙ none in
            subst (IsAtHome (seen new after) (name_at new x)) (sym (meets.loose x id of none (λ r. away (s.commits.fresh_all x r none))))
            (subst (λ (n : Reference). IsAtHome (seen new after) n None) (sym (name-none (header_at new x) x same)) tt)
      ]
    ]
      where
        here : 1 ≤ (header_at new x).pid → (number : ℕ) → num_at new x 0 ≡ number → IsAtHome (seen new after) (name_at new x) (Some number)
        here low number e =
            let name = name-pid (header_at new x) x low in
            subst (λ (n : Reference). IsAtHome (seen new after) n (Some number)) (sym name)
            (shown_at new x, inl (record { at = x; held = held-by_pid new x low; name_is = sym name; shown_is = refl }), e)

        stored : 1 ≤ (header_at old x).pid → IsAtHome (seen old before) (Pid (header_at old x).pid) home → IsAtHome (seen new after) (name_at new x) (home_after h id)
        stored some at_home = by home is at_home
          where
            by : (k : Option ℕ) → home_at h.homes id ≡ k → IsAtHome (seen old before) (Pid (header_at old x).pid) k → IsAtHome (seen new after) (name_at new x) (home_after h id)
            by None e a = absurd a
            by (Some number) e a =
                let name = name-pid (header_at old x) x some in
                let mine : seen old before (Pid (header_at old x).pid) (shown_at old x) = inl (record { at = x; held = of.held; name_is = sym name; shown_is = refl }) in
                let same : a.0 ≡ shown_at old x = seen-one old before s.sound s.only (Pid (header_at old x).pid) a.0 (shown_at old x) a.1 mine in
                let number_is : num_at old x 0 ≡ number = sym (ap (λ (w : Shown). word_in w 0) same) ∙ a.2 in
                let pid = s.commits.remains.pids x some in
                let low : 1 ≤ (header_at new x).pid = omega (arith, pid, some) in
                subst (IsAtHome (seen new after) (name_at new x)) (sym (meets.kept id number e)) (here low number (meets.stays x some ∙ number_is))

    -- an object of the vault
    vault-home : (n : Reference) (id : ℕ) (it : Shown) (home : Option ℕ) → InVault old (IsStored before) n it → home_at h.homes id ≡ home → IsAtHome (seen old before) n home
        → IsAtHome (seen new after) (ρ n) (home_after h id)
    vault-home n id it None v is at = absurd (subst (λ (m : Reference). IsAtHome (seen old before) m None) v.name_is at)
    vault-home n id it (Some number) v is at =
        let m = s.tells.moved s.holds.current.told in
        let a = subst (λ (k : Reference). IsAtHome (seen old before) k (Some number)) v.name_is at in
        let mine : seen old before (Pid v.pid) it = inr (record { pid = v.pid; words = v.words; name_is = refl; there = v.there; away = v.away; shown_is = v.shown_is }) in
        let same : a.0 ≡ it = seen-one old before s.sound s.only (Pid v.pid) a.0 it a.1 mine in
        let w = m.moves.forth (Pid v.pid) it mine in
        let there : seen new after (Pid v.pid) w.now = subst (λ (k : Reference). seen new after k w.now) (m.moves.pids v.pid) w.there in
        let now : w.now ≡ it = vault-same (Pid v.pid) it w.now (record { pid = v.pid; words = v.words; name_is = refl; there = v.there; away = v.away; shown_is = v.shown_is }) there in
        let word : word_in w.now 0 ≡ number = ap (λ (x : Shown). word_in x 0) (now ∙ sym same) ∙ a.2 in
        subst (λ (k : Reference). IsAtHome (seen new after) k (home_after h id)) (sym (ap ρ v.name_is ∙ m.moves.pids v.pid))
        (subst (IsAtHome (seen new after) (Pid v.pid)) (sym (meets.kept id number is)) (w.now, there, word))

    pub homes-hold : (n : Reference) (id : ℕ) → paired (map ρ names) n id → IsAtHome (seen new after) n (home_at (homes_after h) id)
    homes-hold n id p =
        let b = named-before ρ names n id p in
        let r = s.holds.world.row.stands.both b.before id b.is in
        let at = s.holds.homes b.before id b.is in
        subst (λ (m : Reference). IsAtHome (seen new after) m (home_at (homes_after h) id)) (sym b.now)
        (subst (IsAtHome (seen new after) (ρ b.before)) (sym (homes-at h id r.object r.means)) (by b.before b.is r.it at r.there))
      where
        by : (m : Reference) → paired names m id → (it : Shown) → IsAtHome (seen old before) m (home_at h.homes id) → seen old before m it → IsAtHome (seen new after) (ρ m) (home_after h id)
        by m q it at (inl a) =
            let index = (s.tells.moved s.holds.current.told).index a.at in
            subst (λ (k : Reference). IsAtHome (seen new after) k (home_after h id)) (index ∙ ap ρ (sym a.name_is))
            (area-home a.at id (home_at h.homes id) (record { held = a.held; named = subst (λ (k : Reference). paired names k id) a.name_is q }) refl
            (subst (λ (k : Reference). IsAtHome (seen old before) k (home_at h.homes id)) a.name_is at))
        by m q it at (inr v) = vault-home m id it (home_at h.homes id) v refl at
