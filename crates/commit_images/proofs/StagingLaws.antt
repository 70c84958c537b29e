-- Images that are staged one after the other.
use Rattle.std.proofs.Common.{◌≡◌, ◌≢◌, ℕ, ◌+◌, ◌/◌, ◌<◌, ◌≤◌, List, [], ◌∷◌, ◌++◌, length, refl, sym, ap, ◌∙◌, subst, arith, length-append, append_assoc}
use Rattle.std.specs.Prelude.{Some, None, Result}
use Rattle.std.proofs.lemmas.List.{append-nil}
use Rattle.std.proofs.lemmas.List.Sums.{sum_by-append, fold-append}
use Rattle.swizzle.specs.obj_layout.ps_outside.Outside.{Outside, Rose}
use Rattle.swizzle.proofs.of_obj_layout.of_ps_outside.Moments.{along_none, along_then, along_now}
use Rattle.swizzle.proofs.of_obj_layout.of_ps_outside.PastMoments.{past_none, past_then}
use Rattle.swizzle.specs.obj_layout.declared.vault.VaultFault.{VaultFault}
use Rattle.swizzle.specs.obj_layout.declared.vault.VaultFault.TheVariants.{Device, Output, Full, Damaged}
use Rattle.swizzle.specs.obj_layout.Stored.{Space, damage_at, appended, overwritten}
use Rattle.swizzle.specs.obj_layout.Storing.{unfiled, Becomes, IsStagingCall}
use Rattle.swizzle.specs.Objects.{size_of}
use Rattle.swizzle.specs.Heap.{Heap, object_at, header_at}
use Rattle.swizzle.proofs.TouchLaws.{rose_more}
use Rattle.commit_images.specs.Images.{image_of, words_of, with_images, over_images}
use Rattle.commit_images.specs.Staging.{Stages, most_calls, Appends, IsOneOf, FailsAppend, AreThere, Overwrites, FailsOverwrite}

pub stages-none : (outside : Outside Space) → Stages outside outside
stages-none outside = record {
  told = along_none outside.clock outside.told;
  images = along_none outside.clock (unfiled outside).images;
  past = past_none outside.clock outside.images;
  counts = omega arith;
  output = refl;
}

pub stages-then : (a b c : Outside Space) → Stages a b → Stages b c → Stages a c
stages-then a b c s t = record {
  told = along_then s.told t.told (λ bytes told. along_now s.told bytes told);
  images = along_then s.images t.images (λ x image. along_now s.images x image);
  past = past_then s.past t.past;
  counts = omega (arith, s.counts, t.counts);
  output = t.output ∙ s.output;
}

pub stages-call : {T : Type 0} (a b : Outside Space) (most : ℕ) (result : Result T VaultFault) → IsStagingCall a b most result → Stages a b
stages-call a b most result c = record { told = c.told; images = c.images; past = c.past; counts = c.counts; output = c.output }

-- What is held, after one step and after another.

pub becomes-none : (outside : Outside Space) (f : Space → Space) → ((space : Space) → f space ≡ space) → Becomes outside outside f
becomes-none outside f is = record {
  told = λ space held. subst outside.contents (sym (is space)) held;
  no_other = λ after held. (after, held, is after);
}

pub becomes-then : (a b c : Outside Space) (f g h : Space → Space) → Becomes a b f → Becomes b c g → ((space : Space) → h space ≡ g (f space)) → Becomes a c h
becomes-then a b c f g h s t is = record {
  told = λ space held. subst c.contents (sym (is space)) (t.told (f space) (s.told space held));
  no_other = λ after held.
      let x = t.no_other after held in
      let y = s.no_other x.0 x.1 in
      (y.0, y.1, is y.0 ∙ (ap g y.2 ∙ x.2));
}

pub becomes-as : (a b : Outside Space) (f g : Space → Space) → Becomes a b f → ((space : Space) → g space ≡ f space) → Becomes a b g
becomes-as a b f g s is = record {
  told = λ space held. subst b.contents (sym (is space)) (s.told space held);
  no_other = λ after held. let x = s.no_other after held in (x.0, x.1, is x.0 ∙ x.2);
}

-- Images of the objects of two lists.

pub images-none : (heap : Heap) (space : Space) → with_images heap [] space ≡ space
unfolding with_images
images-none heap space = refl

pub images-one : (heap : Heap) (x : ℕ) (space : Space) → with_images heap (x ∷ []) space ≡ appended (image_of heap x) space
unfolding with_images
images-one heap x space = refl

pub images-append : (heap : Heap) (xs ys : List ℕ) (space : Space) → with_images heap (xs ++ ys) space ≡ with_images heap ys (with_images heap xs space)
unfolding with_images
images-append heap xs ys space = fold-append (λ (s : Space) x. appended (image_of heap x) s) space xs ys

pub overs-none : (heap : Heap) (space : Space) → over_images heap [] space ≡ space
unfolding over_images
overs-none heap space = refl

pub overs-one : (heap : Heap) (x : ℕ) (space : Space) → over_images heap (x ∷ []) space ≡ overwritten (header_at heap x).pid (image_of heap x) space
unfolding over_images
overs-one heap x space = refl

pub overs-append : (heap : Heap) (xs ys : List ℕ) (space : Space) → over_images heap (xs ++ ys) space ≡ over_images heap ys (over_images heap xs space)
unfolding over_images
overs-append heap xs ys space = fold-append (λ (s : Space) x. overwritten (header_at heap x).pid (image_of heap x) s) space xs ys

pub words-append : (heap : Heap) (xs ys : List ℕ) → words_of heap (xs ++ ys) ≡ words_of heap xs + words_of heap ys
words-append heap xs ys = sum_by-append (λ x. size_of (object_at heap x)) xs ys

calls-then : (heap : Heap) (xs ys : List ℕ) (a b c : ℕ) → b ≤ a + most_calls (words_of heap xs) (length xs) → c ≤ b + most_calls (words_of heap ys) (length ys)
    → c ≤ a + most_calls (words_of heap (xs ++ ys)) (length (xs ++ ys))
calls-then heap xs ys a b c l m = omega (arith, words-append heap xs ys, length-append xs ys)

calls-none : (heap : Heap) (a : ℕ) → a ≤ a + most_calls (words_of heap []) (length {A = ℕ} [])
calls-none heap a = omega arith

-- one of a list is one of two lists together

abbrev pub first-of : (xs ys : List ℕ) → IsOneOf xs → IsOneOf (xs ++ ys)
first-of xs ys o = record { front = o.front; at = o.at; back = o.back ++ ys; is = ap (λ (r : List ℕ). r ++ ys) o.is ∙ append_assoc o.front (o.at ∷ o.back) ys }

abbrev pub later-of : (xs ys : List ℕ) → IsOneOf ys → IsOneOf (xs ++ ys)
later-of xs ys o = record { front = xs ++ o.front; at = o.at; back = o.back; is = ap (λ (r : List ℕ). xs ++ r) o.is ∙ sym (append_assoc xs o.front (o.at ∷ o.back)) }

abbrev pub only-of : (x : ℕ) → IsOneOf (x ∷ [])
only-of x = record { front = []; at = x; back = []; is = refl }

-- Storing behind what is there.

pub appends-none : (heap : Heap) (outside : Outside Space) (used most : ℕ) → Appends heap [] outside outside used used most
appends-none heap outside used most = record {
  becomes = becomes-none outside (with_images heap []) (images-none heap);
  used_is = omega arith;
  room = λ some. absurd (omega (arith, some));
  calls = calls-none heap outside.device_calls;
}

pub appends-then : (heap : Heap) (xs ys : List ℕ) (a b c : Outside Space) (used mid now most : ℕ) → Appends heap xs a b used mid most → Appends heap ys b c mid now most
    → Appends heap (xs ++ ys) a c used now most
appends-then heap xs ys a b c used mid now most s t = record {
  becomes = becomes-then a b c (with_images heap xs) (with_images heap ys) (with_images heap (xs ++ ys)) s.becomes t.becomes (images-append heap xs ys);
  used_is = omega (arith, s.used_is, t.used_is, words-append heap xs ys);
  room = room_then ys t.room t.used_is;
  calls = calls-then heap xs ys a.device_calls b.device_calls c.device_calls s.calls t.calls;
}
  where
    room_then : (zs : List ℕ) → (1 ≤ length zs → now ≤ most) → now ≡ mid + words_of heap zs → 1 ≤ length (xs ++ zs) → now ≤ most
    room_then [] r e some =
        let more : 1 ≤ length xs = subst (λ (l : List ℕ). 1 ≤ length l) (append-nil xs) some in
        let m = s.room more in
        omega (arith, e, m)
    room_then (z ∷ zs) r e some = r (omega arith)

pub appends-one : {T : Type 0} (heap : Heap) (x : ℕ) (a b : Outside Space) (used now most wanted : ℕ) (result : Result T VaultFault) (value : T) → Becomes a b (appended (image_of heap x)) → now ≡ used + wanted
    → used + wanted ≤ most → wanted ≡ size_of (object_at heap x) → b.device_calls ≤ a.device_calls + (wanted / 256 + 6) → Appends heap (x ∷ []) a b used now most
appends-one heap x a b used now most wanted result value becomes is room long calls = record {
  becomes = becomes-as a b (appended (image_of heap x)) (with_images heap (x ∷ [])) becomes (images-one heap x);
  used_is = omega (arith, is, long);
  room = λ some. omega (arith, is, room);
  calls = omega (arith, calls, long);
}

pub append_fails-one : (heap : Heap) (x : ℕ) (a b : Outside Space) (used most wanted : ℕ) (fault : VaultFault) → (fault ≡ Device → Rose a.device_faults b.device_faults) → fault ≢ Output
    → ((at found bound : ℕ) → fault ≢ Damaged at found bound) → wanted ≡ size_of (object_at heap x)
    → ((u w c : ℕ) → fault ≡ Full u w c → (u ≡ used) × (w ≡ wanted) × (c ≡ most) × (c < u + w)) → FailsAppend heap (x ∷ []) a b used most fault
append_fails-one heap x a b used most wanted fault device output sound long full = record {
  device = device;
  output = output;
  sound = sound;
  full = λ u w c e.
      let f = full u w c e in
      record { one = only-of x; used_is = omega (arith, f.0); wanted_is = f.1 ∙ long; capacity_is = f.2; full = f.3 };
}

pub append_fails-then : (heap : Heap) (xs ys : List ℕ) (a b c : Outside Space) (used mid most : ℕ) (fault : VaultFault) → Stages a b → Appends heap xs a b used mid most
    → FailsAppend heap ys b c mid most fault → FailsAppend heap (xs ++ ys) a c used most fault
append_fails-then heap xs ys a b c used mid most fault g s f = record {
  device = λ e. rose_more a.device_faults b.device_faults c.device_faults g.counts (f.device e);
  output = f.output;
  sound = f.sound;
  full = λ u w k e.
      let t = f.full u w k e in
      record { one = later-of xs ys t.one; used_is = omega (arith, t.used_is, s.used_is, words-append heap xs t.one.front); wanted_is = t.wanted_is; capacity_is = t.capacity_is; full = t.full };
}

pub append_fails-more : (heap : Heap) (xs ys : List ℕ) (a b : Outside Space) (used most : ℕ) (fault : VaultFault) → FailsAppend heap xs a b used most fault → FailsAppend heap (xs ++ ys) a b used most fault
append_fails-more heap xs ys a b used most fault f = record {
  device = f.device;
  output = f.output;
  sound = f.sound;
  full = λ u w k e.
      let t = f.full u w k e in
      record { one = first-of xs ys t.one; used_is = t.used_is; wanted_is = t.wanted_is; capacity_is = t.capacity_is; full = t.full };
}

-- Putting in place of what is there.

there-append : (heap : Heap) (xs ys : List ℕ) (space : Space) → AreThere heap xs space → AreThere heap ys (over_images heap xs space) → AreThere heap (xs ++ ys) space
unfolding AreThere over_images
there-append heap [] ys space t u = u
there-append heap (x ∷ xs) ys space t u = (t.0, there-append heap xs ys (overwritten (header_at heap x).pid (image_of heap x) space) t.1 u)

there-none : (heap : Heap) (space : Space) → AreThere heap [] space
unfolding AreThere
there-none heap space = tt

there-one : (heap : Heap) (x : ℕ) (space : Space) → damage_at space.words (header_at heap x).pid (Some (size_of (object_at heap x))) ≡ None → AreThere heap (x ∷ []) space
unfolding AreThere
there-one heap x space e = (e, tt)

pub overwrites-none : (heap : Heap) (outside : Outside Space) → Overwrites heap [] outside outside
overwrites-none heap outside = record {
  becomes = becomes-none outside (over_images heap []) (overs-none heap);
  there = λ space held. there-none heap space;
  calls = calls-none heap outside.device_calls;
}

pub overwrites-then : (heap : Heap) (xs ys : List ℕ) (a b c : Outside Space) → Overwrites heap xs a b → Overwrites heap ys b c → Overwrites heap (xs ++ ys) a c
overwrites-then heap xs ys a b c s t = record {
  becomes = becomes-then a b c (over_images heap xs) (over_images heap ys) (over_images heap (xs ++ ys)) s.becomes t.becomes (overs-append heap xs ys);
  there = λ space held. there-append heap xs ys space (s.there space held) (t.there (over_images heap xs space) (s.becomes.told space held));
  calls = calls-then heap xs ys a.device_calls b.device_calls c.device_calls s.calls t.calls;
}

pub overwrites-one : (heap : Heap) (x : ℕ) (a b : Outside Space) (pid wanted : ℕ) → Becomes a b (overwritten pid (image_of heap x)) → pid ≡ (header_at heap x).pid
    → wanted ≡ size_of (object_at heap x) → ((space : Space) → a.contents space → damage_at space.words pid (Some wanted) ≡ None) → b.device_calls ≤ a.device_calls + (wanted / 256 + 6)
    → Overwrites heap (x ∷ []) a b
overwrites-one heap x a b pid wanted becomes is long tested calls = record {
  becomes = becomes-as a b (overwritten pid (image_of heap x)) (over_images heap (x ∷ [])) becomes (λ space. overs-one heap x space ∙ ap (λ p. overwritten p (image_of heap x) space) (sym is));
  there = λ space held. there-one heap x space (ap (λ p. damage_at space.words p (Some (size_of (object_at heap x)))) (sym is) ∙ (ap (λ n. damage_at space.words pid (Some n)) (sym long) ∙ tested space held));
  calls = omega (arith, calls, long);
}

pub overwrite_fails-one : (heap : Heap) (x : ℕ) (a b : Outside Space) (pid wanted : ℕ) (fault : VaultFault) → (fault ≡ Device → Rose a.device_faults b.device_faults) → fault ≢ Output
    → ((u w c : ℕ) → fault ≢ Full u w c) → pid ≡ (header_at heap x).pid → wanted ≡ size_of (object_at heap x) → ((at found bound : ℕ) → fault ≡ Damaged at found bound → at ≡ pid)
    → ((at found bound : ℕ) → fault ≡ Damaged at found bound → (space : Space) → a.contents space → damage_at space.words pid (Some wanted) ≡ Some (record { found = found; wanted = bound }))
    → FailsOverwrite heap (x ∷ []) a b fault
overwrite_fails-one heap x a b pid wanted fault device output room is long at_pid tested = record {
  device = device;
  output = output;
  room = room;
  damaged = λ at found bound e. record {
    one = only-of x;
    at_is = at_pid at found bound e ∙ is;
    tested = λ space held.
        ap (λ (s : Space). damage_at s.words at (Some (size_of (object_at heap x)))) (overs-none heap space)
        ∙ (ap (λ p. damage_at space.words p (Some (size_of (object_at heap x)))) (at_pid at found bound e)
        ∙ (ap (λ n. damage_at space.words pid (Some n)) (sym long) ∙ tested at found bound e space held));
  };
}

pub overwrite_fails-then : (heap : Heap) (xs ys : List ℕ) (a b c : Outside Space) (fault : VaultFault) → Stages a b → Overwrites heap xs a b → FailsOverwrite heap ys b c fault
    → FailsOverwrite heap (xs ++ ys) a c fault
overwrite_fails-then heap xs ys a b c fault g s f = record {
  device = λ e. rose_more a.device_faults b.device_faults c.device_faults g.counts (f.device e);
  output = f.output;
  room = f.room;
  damaged = λ at found bound e.
      let t = f.damaged at found bound e in
      record {
        one = later-of xs ys t.one;
        at_is = t.at_is;
        tested = λ space held.
            ap (λ (r : Space). damage_at r.words at (Some (size_of (object_at heap t.one.at)))) (overs-append heap xs t.one.front space)
            ∙ t.tested (over_images heap xs space) (s.becomes.told space held);
      };
}

pub overwrite_fails-more : (heap : Heap) (xs ys : List ℕ) (a b : Outside Space) (fault : VaultFault) → FailsOverwrite heap xs a b fault → FailsOverwrite heap (xs ++ ys) a b fault
overwrite_fails-more heap xs ys a b fault f = record {
  device = f.device;
  output = f.output;
  room = f.room;
  damaged = λ at found bound e. let t = f.damaged at found bound e in record { one = first-of xs ys t.one; at_is = t.at_is; tested = t.tested };
}
