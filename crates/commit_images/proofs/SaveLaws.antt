-- What is staged before a vault settles belongs to its settling.
use Rattle.std.proofs.Common.{◌≡◌, ◌≢◌, ◌⊎◌, inl, inr, ℕ, ◌+◌, ◌≤◌, List, length, refl, ap, ◌∙◌, arith}
use Rattle.std.specs.Prelude.{Ok, Err}
use Rattle.swizzle.specs.obj_layout.ps_outside.Outside.{Outside, Rose}
use Rattle.swizzle.proofs.of_obj_layout.of_ps_outside.Moments.{along_weaker, along_then, along_now}
use Rattle.swizzle.proofs.of_obj_layout.of_ps_outside.PastMoments.{past_then}
use Rattle.swizzle.specs.obj_layout.declared.vault.VaultFault.{VaultFault}
use Rattle.swizzle.specs.obj_layout.declared.vault.VaultFault.TheVariants.{Device, Output}
use Rattle.swizzle.specs.obj_layout.Stored.{Space, directed}
use Rattle.swizzle.specs.obj_layout.Storing.{unfiled, Becomes, Settles, NeverFull, NeverDamaged, settling}
use Rattle.swizzle.specs.Heap.{Heap}
use Rattle.swizzle.proofs.TouchLaws.{rose_more}
use Rattle.commit_images.specs.Images.{words_of, with_images, over_images}
use Rattle.commit_images.specs.Staging.{Stages, most_calls, Appends, FailsAppend, Overwrites, FailsOverwrite}
use Rattle.commit_images.specs.Saved.{saved, saving, FailsSave}
use Rattle.commit_images.proofs.StagingLaws.{stages-then, becomes-then}

-- what broke off before it settled
pub settles-broken : {T : Type 0} (a b : Outside Space) (most : ℕ) (step : Space → Space) (fault : VaultFault) → Stages a b → (fault ≡ Device → Rose a.device_faults b.device_faults) → fault ≢ Output
    → Settles {T = T} a b most step (Err fault)
settles-broken a b most step fault s device output = record {
  told = s.told;
  past = s.past;
  images = along_weaker s.images (λ x i. inl i);
  durable = tt;
  counts = s.counts;
  output = s.output;
  cause = λ e. device (cc);
  other = λ e. output (cc);
  calls = tt;
}

module _ (a b c : Outside Space) (f g h : Space → Space) (s : Stages a b) (first : Becomes a b f) (is : (space : Space) → h space ≡ g (f space)) where
  -- a space that a crash leaves while it settles is one of those before, or all that was staged
  whole : (x : Space) → ((unfiled b).images b.clock x ⊎ ((before : Space) × b.contents before × (g before ≡ x))) → ((unfiled a).images a.clock x ⊎ ((before : Space) × a.contents before × (h before ≡ x)))
  whole x (inl i) = inl (along_now s.images x i)
  whole x (inr k) = let o = first.no_other k.0 k.1 in inr (o.0, o.1, is o.0 ∙ (ap g o.2 ∙ k.2))

  pub settles-ok : {S T : Type 0} (more most : ℕ) (u : S) (v : T) → Settles b c more g (Ok u) → c.device_calls ≤ a.device_calls + most → Settles a c most h (Ok v)
  settles-ok more most u v t calls = record {
    told = along_then s.told t.told (λ bytes told. along_now s.told bytes told);
    past = past_then s.past t.past;
    images = along_then (along_weaker s.images (λ x i. inl i)) t.images whole;
    durable = λ before space held image. t.durable (f before) space (first.told before held) image;
    counts = omega (arith, s.counts, t.counts);
    output = t.output ∙ s.output;
    cause = λ e. absurd (cc);
    other = λ e. absurd (cc);
    calls = calls;
  }

  pub settles-err : {S T : Type 0} (more most : ℕ) (fault : VaultFault) → Settles {T = S} b c more g (Err fault) → Settles {T = T} a c most h (Err fault)
  settles-err more most fault t = record {
    told = along_then s.told t.told (λ bytes told. along_now s.told bytes told);
    past = past_then s.past t.past;
    images = along_then (along_weaker s.images (λ x i. inl i)) t.images whole;
    durable = tt;
    counts = omega (arith, s.counts, t.counts);
    output = t.output ∙ s.output;
    cause = λ e. let same : fault ≡ Device = cc in rose_more a.device_faults b.device_faults c.device_faults s.counts (t.cause (ap Err same));
    other = λ e. let same : fault ≡ Output = cc in t.other (ap Err same);
    calls = tt;
  }

pub saved-is : (heap : Heap) (new changed : List ℕ) (directory : ℕ) (space : Space) → saved heap new changed directory space ≡ directed directory (over_images heap changed (with_images heap new space))
unfolding saved
saved-is heap new changed directory space = refl

-- the images of new objects and of changed ones
pub both-become : (heap : Heap) (new changed : List ℕ) (a b c : Outside Space) (used now most : ℕ) → Appends heap new a b used now most → Overwrites heap changed b c
    → Becomes a c (λ space. over_images heap changed (with_images heap new space))
both-become heap new changed a b c used now most s t =
    becomes-then a b c (with_images heap new) (over_images heap changed) (λ space. over_images heap changed (with_images heap new space)) s.becomes t.becomes (λ space. refl)

-- few device calls
pub few-calls : (heap : Heap) (new changed : List ℕ) (a b c d used : ℕ) → b ≤ a + most_calls (words_of heap new) (length new) → c ≤ b + most_calls (words_of heap changed) (length changed)
    → d ≤ c + settling used → d ≤ a + saving heap new changed used
few-calls heap new changed a b c d used l m n = omega (arith, l, m, n)

pub fails-changed : (heap : Heap) (new changed : List ℕ) (a b c : Outside Space) (used now most : ℕ) (fault : VaultFault) → Stages a b → Stages b c → Appends heap new a b used now most
    → FailsOverwrite heap changed b c fault → FailsSave heap new changed a c used most fault
fails-changed heap new changed a b c used now most fault s more t f = record {
  device = λ e. rose_more a.device_faults b.device_faults c.device_faults s.counts (f.device e);
  output = f.output;
  full = λ u w k e. absurd (f.room u w k e);
  damaged = λ at found bound e.
      let d = f.damaged at found bound e in
      record { one = d.one; at_is = d.at_is; tested = λ space held. d.tested (with_images heap new space) (t.becomes.told space held) };
  whole = inl (stages-then a b c s more).images;
}

pub fails-new : (heap : Heap) (new changed : List ℕ) (a b : Outside Space) (used most : ℕ) (fault : VaultFault) → Stages a b → FailsAppend heap new a b used most fault
    → FailsSave heap new changed a b used most fault
fails-new heap new changed a b used most fault s f = record {
  device = f.device;
  output = f.output;
  full = f.full;
  damaged = λ at found bound e. absurd (f.sound at found bound e);
  whole = inl s.images;
}

-- what was staged whole wasn't settled
pub fails-settled : {T : Type 0} (heap : Heap) (new changed : List ℕ) (a b c d : Outside Space) (used now most more : ℕ) (step : Space → Space) (fault : VaultFault) → Stages a b → Stages b c
    → Appends heap new a b used now most → Overwrites heap changed b c → Settles {T = T} c d more step (Err fault) → NeverFull {T = T} (Err fault) → NeverDamaged {T = T} (Err fault)
    → FailsSave heap new changed a d used most fault
fails-settled heap new changed a b c d used now most more step fault s t n o k full sound = record {
  device = λ e. rose_more a.device_faults c.device_faults d.device_faults (stages-then a b c s t).counts (k.cause (ap Err e));
  output = λ e. k.other (ap Err e);
  full = λ u w m e. absurd (full u w m (ap Err e));
  damaged = λ at found bound e. absurd (sound at found bound (ap Err e));
  whole = inr (λ space held. o.there (with_images heap new space) (n.becomes.told space held));
}
