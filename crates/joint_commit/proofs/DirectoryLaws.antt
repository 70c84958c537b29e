-- The directory after a commit: that of the area under new names, and that of the space.
use Rattle.std.proofs.Common.{true, inl, inr, ◌⊎◌, ◌≡◌, ◌≢◌, ℕ, ◌≤◌, List, [], ◌∷◌, ◌++◌, length, map, get_or, drop, take, refl, sym, ap, ◌∙◌, subst, arith, Option, Some, None, IfSome}
use Rattle.std.specs.Prelude.{◌==◌, if◌then◌else◌, nat_eq}
use Rattle.std.proofs.lemmas.List.{drop_at}
use Rattle.swizzle.specs.obj_layout.ps_outside.Outside.{Outside}
use Rattle.swizzle.specs.obj_layout.declared.kind.Kind.{Kind}
use Rattle.swizzle.specs.obj_layout.declared.kind.Kind.TheVariants as kind
use Rattle.swizzle.specs.obj_layout.declared.header.Header.{Header}
use Rattle.swizzle.specs.obj_layout.Kind.{kind_number}
use Rattle.swizzle.specs.obj_layout.declared.reference.Reference.{Reference}
use Rattle.swizzle.specs.obj_layout.declared.reference.Reference.TheVariants.{Nil, Pid}
use Rattle.swizzle.specs.obj_layout.Stored.{Space, without_file}
use Rattle.swizzle.specs.obj_area.Words.{bytes_of, word_bytes}
use Rattle.swizzle.proofs.of_obj_area.WordLaws.{length-word_bytes, bytes_of-cons}
use Rattle.swizzle.specs.Heap.{Heap, IsHeld, header_at}
use Rattle.swizzle.specs.Joint.{Shown, name_at, shown_at}
use Rattle.swizzle.proofs.NameLaws.{name-pid}
use Rattle.reaching.specs.Reaching.{at_start}
use Rattle.commit_walk.specs.Walk.{is_walked}
use Rattle.commit_walk.specs.declared.homes.Source.{Source}
use Rattle.heap_meaning.specs.heap_places.Shapes.{IsText, shown_text}
use Rattle.heap_meaning.specs.Standing.{Seen, Pairing, IsKindOf}
use Rattle.heap_meaning.specs.Paired.{paired}
use Rattle.heap_meaning.specs.ps_heap.Databases.{Database}
use Rattle.heap_meaning.specs.ps_heap.Held.{Held}
use Rattle.renames.specs.Renames.{renamed, IsRehomed}
use Rattle.renames.proofs.RowLaws.{name_in-map}
use Rattle.joint_ops.specs.World.{seen}
use Rattle.joint_ops.proofs.SeenLaws.{nil-unseen, seen-one}
use Rattle.commit_images.specs.Saved.{saved}
use Rattle.reach_commit.specs.Becoming.{IsReached}
use Rattle.reach_commit.specs.Committing.{pid_of}
use Rattle.reach_commit.specs.Telling.{Moves}
use Rattle.reach_commit.proofs.ReadyLaws.{none-or-some}
use Rattle.db_dir.specs.Directories as area
use Rattle.db_dir.specs.Directories.{IsDirectoryAt, IsRootSeen}
use Rattle.space_meaning.specs.Space.{SeenIn}
use Rattle.space_meaning.specs.Stands as space
use Rattle.space_meaning.specs.Stands.{IsDirectoryOf}
use Rattle.space_meaning.proofs.KeptLaws.{AreFar, seen-far, text-kept, kind-kept}
use Rattle.joint_commit.proofs.StoredLaws.{Setting, fresh-pid, things-kept}
use Rattle.joint_commit.proofs.NodeLaws.{now-refs}

-- A text under its new name, wherever it is at home.

text-words : (it : Shown) (first : ℕ) (words : List ℕ) → it.nums ≡ first ∷ words → shown_text it ≡ take it.bytes (bytes_of words)
text-words it first words e =
    ap (λ (ns : List ℕ). take it.bytes (drop 8 (bytes_of ns))) e
    ∙ ap (take it.bytes) (ap (drop 8) (bytes_of-cons first words) ∙ drop_at (word_bytes first) (bytes_of words) 8 (length-word_bytes first))

text-now : (to : Reference → Reference) (it now : Shown) → (now ≡ renamed to it) ⊎ IsRehomed (renamed to it) now → shown_text now ≡ shown_text it
text-now to it now (inl e) = ap shown_text e
text-now to it now (inr r) =
    text-words now r.second r.words r.after ∙ (ap (λ (n : ℕ). take n (bytes_of r.words)) r.bytes ∙ sym (text-words it r.first r.words r.before))

now-kind : (to : Reference → Reference) (it now : Shown) → (now ≡ renamed to it) ⊎ IsRehomed (renamed to it) now → now.kind ≡ it.kind
now-kind to it now (inl e) = ap (λ (x : Shown). x.kind) e
now-kind to it now (inr r) = r.kind

now-long : (to : Reference → Reference) (it now : Shown) → (now ≡ renamed to it) ⊎ IsRehomed (renamed to it) now → length now.nums ≡ length it.nums
now-long to it now (inl e) = ap (λ (x : Shown). length x.nums) e
now-long to it now (inr r) = ap length r.after ∙ sym (ap length r.before)

module _ (old new : Seen) (to : Reference → Reference) (m : Moves old new to) where
  text-moved : (n : Reference) (bytes : List ℕ) → IsText old n bytes → IsText new (to n) bytes
  text-moved n bytes t =
      let w = m.forth n t.it t.there in
      record { it = w.now; there = w.there; kind = now-kind to t.it w.now w.is ∙ t.kind; bytes_are = text-now to t.it w.now w.is ∙ t.bytes_are }

  kind-moved : (n : Reference) (of : Kind) → IsKindOf old n of → IsKindOf new (to n) of
  kind-moved n of k = let w = m.forth n k.it k.there in record { it = w.now; there = w.there; kind_is = now-kind to k.it w.now w.is ∙ k.kind_is }

  named-moved : (names : List Reference) (refs : List Reference) (ds : List Database) → area.AreNamed old (paired names) refs ds → area.AreNamed new (paired (map to names)) (map to refs) ds
  named-moved names (name ∷ password ∷ root ∷ more) (d ∷ ds) a = (
    text-moved name d.name a.0,
    text-moved password d.password a.1,
    record { paired = name_in-map to names root d.root a.2.paired; kind = kind-moved root kind.Table a.2.kind },
    named-moved names more ds a.3,
  )
  named-moved names [] [] a = tt
  named-moved names [] (d ∷ ds) a = absurd a
  named-moved names (name ∷ []) ds a = absurd a
  named-moved names (name ∷ password ∷ []) ds a = absurd a
  named-moved names (name ∷ password ∷ root ∷ more) [] a = absurd a

-- the names of databases in a space
module _ (seen : Seen) (there : Space) (nil : (it : Shown) → seen Nil it → ⊥) (things : (pid : ℕ) (it : Shown) → seen (Pid pid) it → it.kind ≢ kind.Node → SeenIn there (Pid pid) it) where
  named-kept : (pair : Pairing) (refs : List Reference) (ds : List Database) → AreFar refs → area.AreNamed seen pair refs ds → space.AreNamed (SeenIn there) pair refs ds
  named-kept pair (name ∷ password ∷ root ∷ more) (d ∷ ds) f a = (
    text-kept seen there nil things name d.name f.0 a.0,
    text-kept seen there nil things password d.password f.1.0 a.1,
    (a.2.paired, kind-kept seen there nil things root kind.Table f.1.1.0 (λ e. cc) a.2.kind),
    named-kept pair more ds f.1.1.1 a.3,
  )
  named-kept pair [] [] f a = tt
  named-kept pair [] (d ∷ ds) f a = absurd a
  named-kept pair (name ∷ []) ds f a = absurd a
  named-kept pair (name ∷ password ∷ []) ds f a = absurd a
  named-kept pair (name ∷ password ∷ root ∷ more) [] f a = absurd a

-- the last of the sources is the directory
last-source : (writing : List Source) (d other : Source) → get_or (writing ++ d ∷ []) (length writing) other ≡ d
last-source [] d other = refl
last-source (x ∷ xs) d other = last-source xs d other

walked-fresh : (header : Header) → header.pid ≡ 0 → is_walked header ≡ true
unfolding is_walked
walked-fresh header none = ap (λ (n : ℕ). if n == 0 then true else nat_eq (kind_number header.kind) 8) none

module _ (old new : Heap) (before after : Outside Space) (names : List Reference) (writing : List Source) (directory : Option ℕ) (h : Held)
    (s : Setting old new before after names writing directory h) where
  abbrev ρ : Reference → Reference
  ρ = (s.tells.moved s.holds.current.told).to

  -- the directory of the area
  directory-area : (at : Option ℕ) → IfSome at (IsHeld old) → IsDirectoryAt old (seen old before) (paired names) at h.directory → IsDirectoryAt new (seen new after) (paired (map ρ names)) at h.directory
  directory-area None held d = d
  directory-area (Some at) held d =
      let m = s.tells.moved s.holds.current.told in
      let w = m.moves.forth (name_at old at) (shown_at old at) (inl (record { at = at; held = held; name_is = refl; shown_is = refl })) in
      let mine : seen new after (name_at new at) (shown_at new at) = inl (record { at = at; held = s.commits.remains.held at held; name_is = refl; shown_is = refl }) in
      let same : w.now ≡ shown_at new at =
      seen-one new after s.good s.one (name_at new at) w.now (shown_at new at) (subst (λ (n : Reference). seen new after n w.now) (sym (m.index at)) w.there) mine in
      let refs : (shown_at new at).refs ≡ map ρ (shown_at old at).refs = ap (λ (x : Shown). x.refs) (sym same) ∙ now-refs (seen new after) ρ (ρ (name_at old at)) (shown_at old at) w in
      record {
        kind_is = ap (λ (x : Shown). x.kind) (sym same) ∙ (now-kind ρ (shown_at old at) w.now w.is ∙ d.kind_is);
        home = ap (λ (x : Shown). length x.nums) (sym same) ∙ (now-long ρ (shown_at old at) w.now w.is ∙ d.home);
        some = d.some;
        few = d.few;
        fit = d.fit;
        names = subst (λ (rs : List Reference). area.AreNamed (seen new after) (paired (map ρ names)) rs h.directory) (sym refs)
            (named-moved (seen old before) (seen new after) ρ m.moves names (shown_at old at).refs h.directory d.names);
      }

  -- it has a PID
  directory-pid : (at : ℕ) → directory ≡ Some at → IsHeld old at → 1 ≤ (header_at new at).pid
  directory-pid at is held = elim (none-or-some (header_at old at).pid) [
    | inr some ↦ let same = s.commits.remains.pids at some in omega (arith, same, some)
    | inl none ↦
        let source = last-source writing (record { number = 0; root = directory }) (record { number = 0; root = None }) in
        let reached : IsReached old writing directory at = record {
          place = length writing;
          below = omega arith;
          finds = at_start at (inl (ap (λ (x : Source). x.root) source ∙ is)) (walked-fresh (header_at old at) none);
        } in
        fresh-pid old new before after names writing directory h s at (inl (s.commits.fresh_all at reached none))
  ]

  module _ (content : Space) (is : after.contents content) where
    -- the space's directory is that of the area
    directory-named : content.directory ≡ pid_of new directory
    unfolding saved
    directory-named = let b = s.becomes.no_other content is in sym (ap (λ (x : Space). x.directory) b.2)

    directory-space : (at : Option ℕ) → directory ≡ at → IfSome at (IsHeld old) → IsDirectoryAt new (seen new after) (paired (map ρ names)) at h.directory
        → IsDirectoryOf (SeenIn (without_file content)) (paired (map ρ names)) (pid_of new at) h.directory
    directory-space None e held d = subst (IsDirectoryOf (SeenIn (without_file content)) (paired (map ρ names)) 0) (sym d) refl
    directory-space (Some at) e held d = by h.directory d
      where
        low : 1 ≤ (header_at new at).pid
        low = directory-pid at e held

        there : (ds : List Database) → area.IsDirectory (seen new after) (paired (map ρ names)) (shown_at new at) ds → SeenIn (without_file content) (Pid (header_at new at).pid) (shown_at new at)
        there ds k =
            things-kept old new before after names writing directory h s content is (header_at new at).pid (shown_at new at)
            (inl (record { at = at; held = s.commits.remains.held at held; name_is = sym (name-pid (header_at new at) at low); shown_is = refl }))
            (λ x. let bad : kind.Directory ≡ kind.Node = sym k.kind_is ∙ x in cc)

        by : (ds : List Database) → area.IsDirectory (seen new after) (paired (map ρ names)) (shown_at new at) ds
            → IsDirectoryOf (SeenIn (without_file content)) (paired (map ρ names)) (header_at new at).pid ds
        by [] k = absurd (omega (arith, k.some))
        by (x ∷ xs) k =
            let seen_there = there (x ∷ xs) k in
            record {
              it = shown_at new at;
              there = seen_there;
              kind_is = k.kind_is;
              names = named-kept (seen new after) (without_file content) (nil-unseen new after) (things-kept old new before after names writing directory h s content is) (paired (map ρ names))
                  (shown_at new at).refs (x ∷ xs) (seen-far (without_file content) (Pid (header_at new at).pid) (shown_at new at) seen_there) k.names;
            }

    pub directory-stands : h.asked ≡ true → IsDirectoryOf (SeenIn (without_file content)) (paired (map ρ names)) content.directory h.directory
    directory-stands asked =
        subst (λ (n : ℕ). IsDirectoryOf (SeenIn (without_file content)) (paired (map ρ names)) n h.directory) (sym directory-named)
        (directory-space directory refl s.given (directory-area directory s.given (s.holds.asked asked)))

  pub directory-holds : h.asked ≡ true → IsDirectoryAt new (seen new after) (paired (map ρ names)) directory h.directory
  directory-holds asked = directory-area directory s.given (s.holds.asked asked)
