-- What the vault holds is seen in each space that it holds.
use Rattle.std.proofs.Common.{◌≡◌, ℕ, suc, List, [], ◌∷◌, refl, sym, ap, ◌∙◌, subst, arith}
use Rattle.std.specs.Prelude.{take, drop}
use Rattle.std.specs.List.{AllByRecursion}
use Rattle.swizzle.specs.obj_layout.ps_outside.Outside.{Outside}
use Rattle.swizzle.specs.obj_layout.declared.header.Header.{Header}
use Rattle.swizzle.specs.obj_layout.declared.reference.Reference.TheVariants.{Pid}
use Rattle.swizzle.specs.obj_layout.Stored.{Space, HasObject, Holds, without_file}
use Rattle.swizzle.specs.Heap.{Heap, IsHeap, IsHeld, header_at}
use Rattle.swizzle.specs.Joint.{shown_at, shown_words}
use Rattle.swizzle.proofs.FetchedLaws.{AreFarWords, far_header, far_refs}
use Rattle.swizzle.proofs.ImageLaws.{image-shown}
use Rattle.joint_ops.specs.World.{IsStored}
use Rattle.commit_images.specs.Images.{image_of}
use Rattle.reach_commit.proofs.SavesLaws.{stored-pids}
use Rattle.space_meaning.specs.Space.{IsStoredReference, SeenIn}

-- references that may come into the area are those of a volume
far-stored : (ws : List ℕ) → AreFarWords ws → AllByRecursion IsStoredReference ws
far-stored [] f = tt
far-stored (w ∷ ws) f = (f 0 (omega arith), far-stored ws (λ k below. f (suc k) (omega arith)))

pub image-shows : (heap : Heap) (outside : Outside Space) (x pid : ℕ) → IsHeap heap → IsHeld heap x → IsStored outside pid (image_of heap x) → shown_words (image_of heap x) ≡ shown_at heap x
unfolding image_of
image-shows heap outside x pid h held s = image-shown heap x h held (stored-pids heap outside x pid h held s)

module _ (outside : Outside Space) (space : Space) (is : outside.contents space) (one : (a b : Space) → outside.contents a → outside.contents b → a ≡ b) where
  pub in-space : (pid : ℕ) (words : List ℕ) → Holds outside pid words → HasObject (without_file space) pid words
  in-space pid words k =
      let here = subst (λ (s : Space). HasObject s pid words) (one k.space space k.is is) k.has in
      record { objects = here.objects; cut = here.cut; among = here.among }

  pub words-seen : (pid : ℕ) (words : List ℕ) → IsStored outside pid words → SeenIn (without_file space) (Pid pid) (shown_words words)
  words-seen pid words s =
      let header = far_header words s.header s.far in
      record {
        pid = pid;
        words = words;
        name_is = refl;
        there = in-space pid words s.there;
        stored = record {
          flags = ap (λ (k : Header). k.flags) header ∙ s.clean.flags;
          pid = ap (λ (k : Header). k.pid) header ∙ s.clean.pid;
          chain = ap (λ (k : Header). k.chain) header ∙ s.clean.chain;
          refs = subst (λ (k : Header). AllByRecursion IsStoredReference (take k.refs (drop 4 words))) (sym header) (far-stored (take s.header.refs (drop 4 words)) (far_refs words s.header s.far));
        };
        shown_is = refl;
      }

  -- an object of the area whose present words the vault has
  pub object-seen : (heap : Heap) (x : ℕ) → IsHeap heap → IsHeld heap x → IsStored outside (header_at heap x).pid (image_of heap x)
      → SeenIn (without_file space) (Pid (header_at heap x).pid) (shown_at heap x)
  object-seen heap x h held s =
      subst (SeenIn (without_file space) (Pid (header_at heap x).pid)) (image-shows heap outside x (header_at heap x).pid h held s)
      (words-seen (header_at heap x).pid (image_of heap x) s)
