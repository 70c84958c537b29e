-- The steps of the disk model leave what the model says at once.
use Rattle.std.proofs.Common.{◌≡◌, ◌⊎◌, inl, inr, ⊎_elim, ℕ, ◌+◌, ◌-◌, ◌<◌, ◌≤◌, min, true, false, List, [], ◌∷◌, length, get_or, take, drop, replicate, refl, sym, ◌∙◌, ap, subst, arith, length-take, length-drop}
use Rattle.std.proofs.lemmas.List.{get_or-take, get_or-drop, ext_get_or, length-replicate}
use Rattle.memory_host.specs.declared.memory_host.Act.{Act}
use Rattle.memory_host.specs.declared.memory_host.Act.TheVariants.{Looked, Told, Wrote, Synced}
use Rattle.ps_port.specs.ps_outside.Outside.{After}
use Rattle.ps_port.specs.Disk.{written, IsOutside, Torn}
use Rattle.memory_host.specs.Memory.{Event, Memory, outside_of, AllPast, contents_after, ImageStep, IsImage, FitsAct, AllFit, filled, filled_step, past}
use Rattle.ps_port.specs.DiskLaws.{length-written, written_elsewhere}
use Rattle.memory_host.specs.MemoryLaw.{contents_image}
use Rattle.memory_host.specs.DiskModel.{ranges_step, ranges_of, synced_step, synced_of, end_of, Misses, IsLeft, IsDiskModel}
use Rattle.memory_host.proofs.Inside.{written_inside}
use Rattle.memory_host.proofs.MemoryMoments.{past_all, past_skips, past_takes}

end_grows : (synced : List ℕ) (ranges : List (ℕ × ℕ)) → length synced ≤ end_of synced ranges
end_grows synced [] = omega arith
end_grows synced (range ∷ ranges) = omega (arith, end_grows synced ranges)

-- a write more
torn_left : (synced : List ℕ) (ranges : List (ℕ × ℕ)) (at count : ℕ) (old new : List ℕ) → IsLeft synced ranges old → Torn at count old new → IsLeft synced ((at, count) ∷ ranges) new
torn_left synced ranges at count old new is torn = record {
  no_shorter = let a = is.no_shorter in let b = torn.no_shorter in omega arith;
  no_longer = let a = is.no_longer in let b = torn.no_longer in omega arith;
  elsewhere = λ k lt out. torn.elsewhere k (let a = is.no_shorter in omega arith) out.0 ∙ is.elsewhere k lt out.1;
}

-- and each image after it comes from one before it: the range is put back, and the end is cut
module _ (synced : List ℕ) (ranges : List (ℕ × ℕ)) (at count : ℕ) (new : List ℕ) (is : IsLeft synced ((at, count) ∷ ranges) new) where
  piece : List ℕ
  piece = take count (drop at synced)

  over : List ℕ
  over = written at (take count (drop at synced)) new

  size : length (take count (drop at synced)) ≡ min count (length synced - at)
  size = omega (arith, length-take count (drop at synced), length-drop at synced)

  over_size : length (written at (take count (drop at synced)) new) ≡ length new
  over_size = let a = is.no_shorter in omega (arith, size, length-written at (take count (drop at synced)) new, length-take at new, length-drop (at + length (take count (drop at synced))) new)

  cases_le : (m n : ℕ) → (m < n) ⊎ (n ≤ m)
  cases_le m n = grind arith

  before : List ℕ
  before = take (end_of synced ranges) (written at (take count (drop at synced)) new)

  before_size : length (take (end_of synced ranges) (written at (take count (drop at synced)) new)) ≡ min (end_of synced ranges) (length new)
  before_size = omega (arith, over_size, length-take (end_of synced ranges) (written at (take count (drop at synced)) new))

  outside_piece : (k : ℕ) → IsOutside at count k → IsOutside at (length (take count (drop at synced))) k
  outside_piece k (inl low) = inl low
  outside_piece k (inr high) = inr (omega (arith, size))

  -- outside of the range it is the new image
  same : (k : ℕ) → k < end_of synced ranges → k < length new → IsOutside at count k → get_or (take (end_of synced ranges) (written at (take count (drop at synced)) new)) k 0 ≡ get_or new k 0
  same k below lt out = get_or-take (end_of synced ranges) (written at (take count (drop at synced)) new) k 0 below ∙ written_elsewhere at (take count (drop at synced)) new k lt (outside_piece k out)

  torn_back : Torn at count (take (end_of synced ranges) (written at (take count (drop at synced)) new)) new
  torn_back = record {
    no_shorter = omega (arith, before_size);
    no_longer = let a = is.no_longer in omega (arith, before_size);
    elsewhere = λ k lt out. sym (same k (omega (arith, before_size)) (omega (arith, before_size)) out);
  }

  left_back : IsLeft synced ranges (take (end_of synced ranges) (written at (take count (drop at synced)) new))
  left_back = record {
    no_shorter = let a = is.no_shorter in omega (arith, before_size, end_grows synced ranges);
    no_longer = omega (arith, before_size);
    elsewhere = λ k lt misses. at_place k lt misses (cases_le k at) (cases_le k (at + count));
  }
    where
      outside : (k : ℕ) → k < length synced → Misses ranges k → IsOutside at count k → get_or (take (end_of synced ranges) (written at (take count (drop at synced)) new)) k 0 ≡ get_or synced k 0
      outside k lt misses out = same k (omega (arith, end_grows synced ranges)) (let a = is.no_shorter in omega arith) out ∙ is.elsewhere k lt (out, misses)

      at_place : (k : ℕ) → k < length synced → Misses ranges k → (k < at) ⊎ (at ≤ k) → (k < at + count) ⊎ (at + count ≤ k) → get_or (take (end_of synced ranges) (written at (take count (drop at synced)) new)) k 0 ≡ get_or synced k 0
      at_place k lt misses (inl low) high = outside k lt misses (inl low)
      at_place k lt misses (inr from) (inr high) = outside k lt misses (inr high)
      at_place k lt misses (inr from) (inl below) =
          get_or-take (end_of synced ranges) (written at (take count (drop at synced)) new) k 0 (omega (arith, end_grows synced ranges))
          ∙ written_inside at (take count (drop at synced)) new k (let a = is.no_shorter in omega arith) from (omega (arith, size))
          ∙ get_or-take count (drop at synced) (k - at) 0 (omega arith)
          ∙ get_or-drop at synced (k - at) 0
          ∙ ap (λ (n : ℕ). get_or synced n 0) (omega arith)

  pub write_back : (was : List ℕ → Type 0) → ((image : List ℕ) → IsLeft synced ranges image → was image) → After was (Torn at count) new
  write_back was all = record { from = take (end_of synced ranges) (written at (take count (drop at synced)) new); was = all (take (end_of synced ranges) (written at (take count (drop at synced)) new)) left_back; by = torn_back }

alone : (synced image : List ℕ) → image ≡ synced → IsLeft synced [] image
alone synced image is = record {
  no_shorter = omega (arith, ap length is);
  no_longer = omega (arith, ap length is);
  elsewhere = λ k lt out. ap (λ (xs : List ℕ). get_or xs k 0) is;
}

alone_back : (synced image : List ℕ) → IsLeft synced [] image → image ≡ synced
alone_back synced image is = ext_get_or 0 image synced (let a = is.no_shorter in let b = is.no_longer in omega arith) (λ k lt. is.elsewhere k (let b = is.no_longer in omega arith) tt)

step_left : (act : Act) (bytes contents synced : List ℕ) (ranges : List (ℕ × ℕ)) (was : List ℕ → Type 0) → ((image : List ℕ) → was image → IsLeft synced ranges image) → (image : List ℕ) → ImageStep act bytes contents was image → IsLeft (synced_step act contents synced) (ranges_step act (length bytes) ranges) image
step_left Looked bytes contents synced ranges was all image is = all image is
step_left Told bytes contents synced ranges was all image is = all image is
step_left (Wrote at done) bytes contents synced ranges was all image is = torn_left synced ranges at (length bytes) is.from image (all is.from is.was) is.by
step_left (Synced true) bytes contents synced ranges was all image is = alone contents image is
step_left (Synced false) bytes contents synced ranges was all image is = all image is

step_back : (act : Act) (bytes contents synced : List ℕ) (ranges : List (ℕ × ℕ)) (was : List ℕ → Type 0) → ((image : List ℕ) → IsLeft synced ranges image → was image) → (image : List ℕ) → IsLeft (synced_step act contents synced) (ranges_step act (length bytes) ranges) image → ImageStep act bytes contents was image
step_back Looked bytes contents synced ranges was all image is = all image is
step_back Told bytes contents synced ranges was all image is = all image is
step_back (Wrote at done) bytes contents synced ranges was all image is = write_back synced ranges at (length bytes) image is was all
step_back (Synced true) bytes contents synced ranges was all image is = alone_back contents image is
step_back (Synced false) bytes contents synced ranges was all image is = all image is

left : (first : List ℕ) (events : List Event) (image : List ℕ) → IsImage first events image → IsLeft (synced_of first events) (ranges_of events) image
left first [] image is = alone first image is
left first (e ∷ events) image is = step_left e.act e.bytes (contents_after first events) (synced_of first events) (ranges_of events) (IsImage first events) (left first events) image is

back : (first : List ℕ) (events : List Event) (image : List ℕ) → IsLeft (synced_of first events) (ranges_of events) image → IsImage first events image
back first [] image is = alone_back first image is
back first (e ∷ events) image is = step_back e.act e.bytes (contents_after first events) (synced_of first events) (ranges_of events) (IsImage first events) (back first events) image is

pub disk_model : IsDiskModel
disk_model first events image = (left first events image, back first events image)

filled_step_size : (filler : ℕ) (act : Act) (bytes contents synced : List ℕ) (ranges : List (ℕ × ℕ)) (image : List ℕ) → FitsAct act (length contents) → length contents ≤ end_of synced ranges → length image ≡ end_of synced ranges
    → length (filled_step filler act bytes contents image) ≡ end_of (synced_step act contents synced) (ranges_step act (length bytes) ranges)
filled_step_size filler Looked bytes contents synced ranges image fits within is = is
filled_step_size filler Told bytes contents synced ranges image fits within is = is
filled_step_size filler (Wrote at done) bytes contents synced ranges image fits within is =
    omega (arith, length-written at (replicate (length bytes) filler) image, length-replicate (length bytes) filler, length-take at image, length-drop (at + length (replicate (length bytes) filler)) image)
filled_step_size filler (Synced true) bytes contents synced ranges image fits within is = refl
filled_step_size filler (Synced false) bytes contents synced ranges image fits within is = is

-- the filled image has the greatest length
filled_size : (filler : ℕ) (first : List ℕ) (events : List Event) → AllFit first events → length (filled filler first events) ≡ end_of (synced_of first events) (ranges_of events)
filled_size filler first [] fit = refl
filled_size filler first (e ∷ events) fit =
    filled_step_size filler e.act e.bytes (contents_after first events) (synced_of first events) (ranges_of events) (filled filler first events) fit.0
    (left first events (contents_after first events) (contents_image first events)).no_longer (filled_size filler first events fit.1)

-- the calls before a moment fit, where all do
fit_past : (first : List ℕ) (moment clock : ℕ) (events : List Event) → AllPast clock events → AllFit first events → AllFit first (past moment events)
fit_past first moment clock [] all fit = tt
fit_past first moment clock (e ∷ events) all fit = ⊎_elim
    (λ (before : e.number < moment). subst (λ (es : List Event). AllFit first es) (sym (past_takes moment e events before ∙ ap (λ (es : List Event). e ∷ es) (past_all e.number moment events all.1 (omega arith)))) fit)
    (λ (behind : moment ≤ e.number). subst (λ (es : List Event). AllFit first es) (sym (past_skips moment e events behind)) (fit_past first moment e.number events all.1 fit.1))
    (lt_or_le e.number moment)
  where
    lt_or_le : (m n : ℕ) → (m < n) ⊎ (n ≤ m)
    lt_or_le m n = grind arith

pub longest : (filler : ℕ) (first : List ℕ) (events : List Event) (image other : List ℕ) → AllFit first events → image ≡ filled filler first events → IsImage first events other → length other ≤ length image
longest filler first events image other fit is at = omega (arith, ap length is, filled_size filler first events fit, (left first events other at).no_longer)

pub crash_longest : (host : Memory) (moment filler : ℕ) (image : List ℕ) → AllPast host.clock host.events → AllFit host.first host.events → image ≡ filled filler host.first (past moment host.events) → (other : List ℕ) → (outside_of host).images moment other → length other ≤ length image
crash_longest host moment filler image all fit is other at = longest filler host.first (past moment host.events) image other (fit_past host.first moment host.clock host.events all fit) is at
