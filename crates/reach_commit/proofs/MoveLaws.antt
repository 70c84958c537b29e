-- Area and vault stand for the same heap after homes and PIDs were given.
use Rattle.std.proofs.Common.{inl, inr, ◌≡◌, ℕ, ◌≤◌, List, map, refl, sym, ap, ◌∙◌, subst}
use Rattle.swizzle.specs.obj_layout.ps_outside.Outside.{Outside}
use Rattle.swizzle.specs.obj_layout.Stored.{Space}
use Rattle.swizzle.specs.obj_layout.declared.reference.Reference.{Reference}
use Rattle.swizzle.specs.Heap as area
use Rattle.swizzle.specs.Heap.{IsHeap, IsHeld, header_at}
use Rattle.swizzle.specs.Joint.{Shown, shown_at, name_at}
use Rattle.swizzle.specs.Changes.{IsKnown, Same}
use Rattle.joint_ops.specs.heap_meaning.Standing.{Seen}
use Rattle.joint_ops.specs.heap_meaning.Paired.{paired}
use Rattle.joint_ops.specs.World.{IsStored, seen}
use Rattle.joint_ops.proofs.of_heap_meaning.StandingLaws.{IsFixed, Fixed, Kinds}
use Rattle.joint_ops.proofs.of_heap_meaning.PairedLaws.{row-within}
use Rattle.joint_ops.proofs.SeenLaws.{Passes, carries-value, carries-scope, carries-unit}
use Rattle.renames.specs.Renames.{renamed, IsRehomed, Now}
use Rattle.renames.proofs.RehomeLaws.{row-rehomed}
use Rattle.new_pids.specs.Giving.{Renamed}
use Rattle.reach_commit.specs.Telling.{Moved}
use Rattle.reach_commit.proofs.RehomeLaws.{Rehomes}

rehomed-back : (it now : Shown) → IsRehomed it now → IsRehomed now it
rehomed-back it now r = record { kind = sym r.kind; refs = sym r.refs; bytes = sym r.bytes; first = r.second; second = r.first; words = r.words; before = r.after; after = r.before }

rehomed-renamed : (to : Reference → Reference) (it now : Shown) → IsRehomed it now → IsRehomed (renamed to it) (renamed to now)
rehomed-renamed to it now r = record { kind = r.kind; refs = ap (map to) r.refs; bytes = r.bytes; first = r.first; second = r.second; words = r.words; before = r.before; after = r.after }

-- what is stored has a PID
abbrev pub AreLow : Outside Space → Type 0
AreLow outside = (pid : ℕ) (words : List ℕ) → IsStored outside pid words → 1 ≤ pid

pub rehomed-forth : (old new : area.Heap) (outside : Outside Space) (n : Reference) (it : Shown) → Rehomes old new → AreLow outside → seen old outside n it → Now (seen new outside) n it
rehomed-forth old new outside n it r low (inl a) = record {
  now = shown_at new a.at;
  there = inl (record { at = a.at; held = r.held a.at a.held; name_is = a.name_is ∙ sym (r.names a.at); shown_is = refl });
  is = inr (subst (λ s. IsRehomed s (shown_at new a.at)) (sym a.shown_is) (r.shown_as a.at a.held));
}
rehomed-forth old new outside n it r low (inr v) = record {
  now = it;
  there = inr (record { pid = v.pid; words = v.words; name_is = v.name_is; there = v.there; away = r.away v.pid (low v.pid v.words v.there) v.away; shown_is = v.shown_is });
  is = inl refl;
}

rehomed-fixed : (old new : area.Heap) (outside : Outside Space) → Rehomes old new → AreLow outside → Fixed (seen old outside) (seen new outside)
rehomed-fixed old new outside r low n it f (inl a) =
    let same = r.fixed a.at a.held (subst IsFixed (ap (λ s. s.kind) a.shown_is) f) in
    inl (record { at = a.at; held = r.held a.at a.held; name_is = a.name_is ∙ sym (r.names a.at); shown_is = a.shown_is ∙ sym same })
rehomed-fixed old new outside r low n it f (inr v) =
    inr (record { pid = v.pid; words = v.words; name_is = v.name_is; there = v.there; away = r.away v.pid (low v.pid v.words v.there) v.away; shown_is = v.shown_is })

now-kind : (new : Seen) (n : Reference) (it : Shown) → (w : Now new n it) → w.now.kind ≡ it.kind
now-kind new n it w = elim w.is [ inl e ↦ ap (λ s. s.kind) e | inr r ↦ r.kind ]

rehomed-kinds : (old new : area.Heap) (outside : Outside Space) → Rehomes old new → AreLow outside → Kinds (seen old outside) (seen new outside)
rehomed-kinds old new outside r low n it s =
    let w = rehomed-forth old new outside n it r low s in
    record { it = w.now; there = w.there; kind_is = now-kind (seen new outside) n it w }

-- Homes, and then PIDs.
pub moved-given : (old mid new : area.Heap) (outside : Outside Space) → Rehomes old mid → Rehomes mid old → AreLow outside → Renamed mid new outside → Moved old new outside outside
moved-given old mid new outside r back low g =
    let to = g.to in
    let passes : Passes old mid (seen old outside) (seen mid outside) = record {
      names = λ at held. (r.held at held, r.names at);
      fixed = rehomed-fixed old mid outside r low;
      kinds = rehomed-kinds old mid outside r low;
    } in
    let known : (n : Reference) → IsKnown (seen old outside) n → IsKnown (seen mid outside) n = λ n k.
    let w = rehomed-forth old mid outside n k.it r low k.is in record { it = w.now; is = w.there } in
    record {
      to = to;
      moves = record {
        nil = g.renames.nil;
        pids = g.pids;
        one = λ a b p q e. g.renames.one a b (known a p) (known b q) e;
        forth = λ n it s.
            let w = rehomed-forth old mid outside n it r low s in
            record {
              now = renamed to w.now;
              there = g.renames.forth n w.now w.there;
              is = elim w.is [ inl e ↦ inl (ap (renamed to) e) | inr x ↦ inr (rehomed-renamed to it w.now x) ];
            };
        back = λ n it s.
            let b = g.renames.back n it s in
            let w = rehomed-forth mid old outside b.name_before b.it_before back low b.is in
            record {
              before = b.name_before;
              was = w.now;
              there = w.there;
              name_is = b.name_is;
              it_is = elim w.is [
                | inl e ↦ inl (b.it_is ∙ ap (renamed to) (sym e))
                | inr x ↦ inr (subst (IsRehomed (renamed to w.now)) (sym b.it_is) (rehomed-renamed to w.now b.it_before (rehomed-back b.it_before w.now x)))
              ];
            };
      };
      index = λ x. g.index x ∙ ap to (r.names x);
      world = λ of names w. g.world of names (record {
        row = row-rehomed (seen old outside) (seen mid outside) of names passes.fixed (λ n it s. rehomed-forth old mid outside n it r low s) w.row;
      });
      values = λ names at v d. g.values names at v (carries-value old mid (seen old outside) (seen mid outside) (paired names) (paired names) at v passes (λ m i q. q) d);
      scopes = λ names at scope d. g.scopes names at scope (carries-scope old mid (seen old outside) (seen mid outside) (paired names) (paired names) at scope passes (λ m i q. q) d);
      units = λ code u i. g.units code u (carries-unit old mid outside outside code u passes i);
    }

-- What is seen stays under the names that it has.
pub moved-same : (old mid new : area.Heap) (before after : Outside Space) → Moved old mid before before → Same (seen mid before) (seen new after)
    → ((x : ℕ) → IsHeld mid x → IsHeld new x) → ((x : ℕ) → name_at new x ≡ name_at mid x) → Moved old new before after
moved-same old mid new before after m same held names =
    let to = m.to in
    let passes : Passes mid new (seen mid before) (seen new after) = record {
      names = λ at h. (held at h, names at);
      fixed = λ n it k s. same.grows n it s;
      kinds = λ n it s. record { it = it; there = same.grows n it s; kind_is = refl };
    } in
    record {
      to = to;
      moves = record {
        nil = m.moves.nil;
        pids = m.moves.pids;
        one = m.moves.one;
        forth = λ n it s. let w = m.moves.forth n it s in record { now = w.now; there = same.grows (to n) w.now w.there; is = w.is };
        back = λ n it s. m.moves.back n it (same.no_more n it s);
      };
      index = λ x. names x ∙ m.index x;
      world = λ of ns w. record { row = row-within (seen mid before) (seen new after) of (map to ns) same.grows (m.world of ns w).row };
      values = λ ns at v d. carries-value mid new (seen mid before) (seen new after) (paired (map to ns)) (paired (map to ns)) at v passes (λ k i q. q) (m.values ns at v d);
      scopes = λ ns at scope d. carries-scope mid new (seen mid before) (seen new after) (paired (map to ns)) (paired (map to ns)) at scope passes (λ k i q. q) (m.scopes ns at scope d);
      units = λ code u i. carries-unit mid new before after code u passes (m.units code u i);
    }
