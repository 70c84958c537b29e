-- What code does from locals of which something is so.
use Rattle.std.proofs.Common.{ℕ, ◌≤◌, ℤ, List, ◌++◌}
use Rattle.ps_gen.specs.ps_base.TyView.{TyView}
use Rattle.ps_stepping.specs.ps_heap.Values.{Value}
use Rattle.ps_stepping.specs.ps_heap.Objects.{Heap}
use Rattle.ps_stepping.specs.ps_meaning.Meaning.{Frame, State, Outcome, Value_is, Ends, Meaning, after, ◌>>=◌}
use Rattle.ps_soundness.specs.Over.{Grows}
use Rattle.ps_code_laws.specs.Fitting.{IsOf}
use Rattle.ps_code_laws.specs.Meets.{nums_left, refs_left}
use Rattle.ps_code_laws.proofs.Literals.{IsLiteral}
use Rattle.ps_code_laws.proofs.Doing.{Origin, IsSince, since_more, after_it, Behind, since_left, Leads, leads_left, Way, place, Comes, Room, Does, less_room}
use Rattle.fit_soundness.proofs.Standings.{Standing}

-- what is so of a value and the locals after a clause that has one
abbrev pub On : (Value → Frame → Type 0) → Outcome → Type 0
On Is (Value_is v f s) = Is v f
On Is (Ends e s) = Unit {0}

module _ (w : Way) where
  -- as `Does`, from locals of which this is so
  pub record From (n : Origin) (pre : Frame → Type 0) (bn : List ℤ) (br : List Value) (m : Meaning) (ty : TyView) (need p k : ℕ) : Type 0 where
    pub by : (nums : List ℤ) (refs : List Value) (f : Frame) (s : State) → pre f → Room w need nums refs → IsSince w.Body n f s →
        Comes w k nums refs ty (m f s) →
        w.Holds (place w p (bn ++ nums) (br ++ refs) f s.store) s.events

  pub from_does : {n : Origin} {bn : List ℤ} {br : List Value} {m : Meaning} {ty : TyView} {need p k : ℕ} (pre : Frame → Type 0) →
      Does w n bn br m ty need p k →
      From n pre bn br m ty need p k
  from_does pre d = record { by = λ nums refs f s is room since reach. d.by nums refs f s room since reach }

  comes_from : (n : Origin) (last : Standing) (need q k : ℕ) (nums : List ℤ) (refs : List Value) (tya ty : TyView) (mid : Value → Frame → Type 0)
      (b : Value → Meaning) →
      ((new : Heap) (v : Value) → Grows n.heap new → IsOf new tya v → IsLiteral w.Body v →
      From (after_it n new last) (mid v) (nums_left tya v) (refs_left tya v) (b v) ty need q k) →
      Room w need nums refs → (o : Outcome) → On mid o → Behind w.Body n last tya o → Comes w k nums refs ty (after o b) → Comes w q nums refs tya o
  unfolding after
  comes_from n last need q k nums refs tya ty mid b db room (Value_is v f s) is left reach =
      (db s.store.held.objects v left.grows left.value left.literal).by nums refs f s is room (since_left n last tya v f s left) reach
  comes_from n last need q k nums refs tya ty mid b db room (Ends e s) is left reach = reach

  -- one part, and then another that takes its value, of which each procedure fits
  pub then_from_held : {n : Origin} {pre : Frame → Type 0} {bn : List ℤ} {br : List Value} {a : Meaning} {tya ty : TyView} {last : Standing}
      (b : Value → Meaning)
      (mid : Value → Frame → Type 0) (na need p q k : ℕ) → na ≤ need → Leads w.Body n last tya a → ((f : Frame) (s : State) → pre f → On mid (a f s)) →
      From n pre bn br a tya na p q →
      ((new : Heap) (v : Value) → Grows n.heap new → IsOf new tya v → IsLiteral w.Body v →
      From (after_it n new last) (mid v) (nums_left tya v) (refs_left tya v) (b v) ty need q k) →
      From n pre bn br (a >>= b) ty need p k
  unfolding ◌>>=◌
  then_from_held {n = n} {a = a} {tya = tya} {ty = ty} {last = last} b mid na need p q k le leads post da db = record {
    by = λ nums refs f s is room since reach. da.by nums refs f s is (less_room w na need nums refs le room) since
        (comes_from n last need q k nums refs tya ty mid b db room (a f s) (post f s is) (leads_left leads since) reach);
  }

  -- one part, and then another that takes its value
  pub then_from : {n : Origin} {pre : Frame → Type 0} {bn : List ℤ} {br : List Value} {a : Meaning} {tya ty : TyView} {last : Standing}
      (b : Value → Meaning)
      (mid : Value → Frame → Type 0) (na need p q k : ℕ) → na ≤ need → Leads w.Body n last tya a → ((f : Frame) (s : State) → pre f → On mid (a f s)) →
      From n pre bn br a tya na p q →
      ((new : Heap) (v : Value) → Grows n.heap new → IsOf new tya v →
      From (after_it n new last) (mid v) (nums_left tya v) (refs_left tya v) (b v) ty need q k) →
      From n pre bn br (a >>= b) ty need p k
  then_from b mid na need p q k le leads post da db =
      then_from_held b mid na need p q k le leads post da (λ new v g is literal. db new v g is)

  -- from fewer turns, and a heap that has grown
  pub fewer_from : {n : Origin} {pre : Frame → Type 0} {bn : List ℤ} {br : List Value} {a : Meaning} {ty : TyView} {need p k : ℕ} (m : ℕ) (heap : Heap) →
      m ≤ n.turns → Grows n.heap heap → From n pre bn br a ty need p k →
      From (record { turns = m; heap = heap; known = n.known }) pre bn br a ty need p k
  fewer_from m heap le g d = record { by = λ nums refs f s is room since reach. d.by nums refs f s is room (since_more le g since) reach }
