-- What is nothing to what a run holds.
use Rattle.std.proofs.Common.{◌≡◌, ℕ, Bool, List, refl, sym, ap, ◌∙◌, subst, Option}
use Rattle.joint_ops.specs.ps_outside.Outside.{Outside}
use Rattle.joint_ops.specs.obj_layout.Stored.{Space}
use Rattle.joint_ops.specs.obj_layout.declared.reference.Reference.{Reference}
use Rattle.joint_ops.specs.swizzle.Heap as area
use Rattle.joint_ops.specs.ps_heap.Values.{Routine}
use Rattle.joint_ops.specs.ps_heap.Objects.{Heap}
use Rattle.joint_ops.specs.ps_heap.Databases.{Directory, Opening}
use Rattle.joint_ops.specs.ps_heap.Held.{Held, Place, Reply}
use Rattle.commit_walk.specs.Homes.{source_at}
use Rattle.commit_walk.specs.declared.homes.Source.{Source}
use Rattle.joint_held.specs.Held.{HoldsRun, HasRoot}
use Rattle.joint_held.specs.Writing.{counting_as, HoldsAlike}
use Rattle.joint_held.proofs.StoreLaws.{unasked-as}

-- the run with other touched objects, replies, counts and weights
abbrev but_for : Held → List ℕ → List Reply → ℕ → (Routine → ℕ) → Held
but_for h touched replies counted weigh = record h { touched = touched; replies = replies; counted = counted; weigh = weigh }

module _ (here : area.Heap) (outside : Outside Space) (names : List Reference) (writing : List Source) (directory : Option ℕ) (h : Held) where
  but-run : (touched : List ℕ) (replies : List Reply) (counted : ℕ) (weigh : Routine → ℕ) → HoldsRun here outside names writing directory h
      → HoldsRun here outside names writing directory (but_for h touched replies counted weigh)
  but-run touched replies counted weigh run = record {
    store = run.store;
    world = run.world;
    homes = run.homes;
    homed = run.homed;
    assigned = run.assigned;
    trees = run.trees;
    current = run.current;
    sources = record {
      numbers = run.sources.numbers;
      each = λ place lt. record {
        made = λ at e. let m = (run.sources.each place lt).made at e in (m.0, root (source_at writing place).number at m.1);
        other = (run.sources.each place lt).other;
      };
      made = run.sources.made;
      roots = run.sources.roots;
      others = run.sources.others;
    };
    asked = run.asked;
    unasked = λ e. unasked-as here outside names h (but_for h touched replies counted weigh) directory refl refl refl (run.unasked e);
  }
    where
      root : (number at : ℕ) → HasRoot here names h number at → HasRoot here names (but_for h touched replies counted weigh) number at
      root number at r = record { database = r.database; is = r.is; root = r.root }

  -- Runs that hold the same of the heap and of databases are held alike.
  pub alike-run : (k : Held) → HoldsAlike h k → HoldsRun here outside names writing directory h → HoldsRun here outside names writing directory k
  alike-run k a run = subst (λ (x : Held). HoldsRun here outside names writing directory x) same (but-run k.touched k.replies k.counted k.weigh run)
    where
      of : Heap → List (Option ℕ) → Directory → List Opening → List ℕ → List Place → Bool → Held
      of objects homes databases openings created assigned asked =
          record k { objects = objects; homes = homes; directory = databases; openings = openings; created = created; assigned = assigned; asked = asked }

      same : but_for h k.touched k.replies k.counted k.weigh ≡ k
      same =
          ap (λ (x : Heap). of x h.homes h.directory h.openings h.created h.assigned h.asked) (sym a.objects)
          ∙ (ap (λ (x : List (Option ℕ)). of k.objects x h.directory h.openings h.created h.assigned h.asked) (sym a.homes)
          ∙ (ap (λ (x : Directory). of k.objects k.homes x h.openings h.created h.assigned h.asked) (sym a.directory)
          ∙ (ap (λ (x : List Opening). of k.objects k.homes k.directory x h.created h.assigned h.asked) (sym a.openings)
          ∙ (ap (λ (x : List ℕ). of k.objects k.homes k.directory k.openings x h.assigned h.asked) (sym a.created)
          ∙ (ap (λ (x : List Place). of k.objects k.homes k.directory k.openings k.created x h.asked) (sym a.assigned)
          ∙ ap (λ (x : Bool). of k.objects k.homes k.directory k.openings k.created k.assigned x) (sym a.asked))))))

  -- Touched objects and counts.
  pub counted-run : (touched : List ℕ) (counted : ℕ) → HoldsRun here outside names writing directory h → HoldsRun here outside names writing directory (counting_as h touched counted)
  counted-run touched counted run = but-run touched h.replies counted h.weigh run
