use Rattle.std.proofs.Common.{◌≡◌, ◌+◌, ◌-◌, ◌∙◌, ◌++◌, List, ℕ, refl, ap, sym, length, arith, replicate}
use Rattle.obj_area.specs.Area.{AreaView}
use Rattle.obj_area.specs.Words.{overwritten}
use Rattle.obj_layout.specs.Header.{header_words}
use Rattle.swizzle.specs.Objects.{object_words}
use Rattle.swizzle.specs.Heap.{Heap, blank, with_new, top_of}
use Rattle.swizzle.specs.declared.fault.SwizzleFault.TheVariants.{AreaFull}
use Rattle.swizzle.specs.View.{noted_of, beside_of}
use Rattle.swizzle.proofs.ChainedLaws.{mapped-new}
use Rattle.swizzle.proofs.KeptLaws.{inside_nil, Again, laid, kept_long, written_new, blank_words, IsFit-blank, heap_is}
use Rattle.swizzle.proofs.StandLaws.{stands-new, stands-same}
use Rattle.swizzle.proofs.swizzle.Swizzle.make.Goals as goal

pub returns-in_default-clause-made : goal.returns-in_default-clause-made
returns-in_default-clause-made c =
    let long = kept_long c.self.inside _ c.self.view_is c.self.invariant in
    let size = ap (λ (h : Heap). h.size) c.self.view_is in
    let stays = c.in_default.ensures.made in
    let words = ap (λ (a : AreaView). length a.words) stays in
    let sizes = ap (λ (a : AreaView). a.size) stays in
    let top : c.top.result ≡ top_of c.args.self.now = omega (arith, c.top.ensures.top) in
    let room : c.size.result ≡ c.args.self.now.size = c.size.ensures.size ∙ sizes ∙ size in
    record {
      full = omega (arith, c.in_default.ensures.place);
      fault_is = ap (λ (n : ℕ). AreaFull n (4 + c.args.refs + c.args.nums) c.size.result) top ∙ ap (AreaFull (top_of c.args.self.now) (4 + c.args.refs + c.args.nums)) room;
      stays = ap (λ (a : AreaView). heap_is a (noted_of c.self.inside)) stays ∙ c.self.view_is;
    }

made : (c : goal.After-write_words) → Again c.write_words.new.self.words c.write_words.new.self.size (noted_of c.self.inside) (beside_of c.self.inside) (with_new c.args.self.now (blank c.args.kind c.args.refs c.args.nums c.args.bytes))
made c =
    let long = kept_long c.self.inside _ c.self.view_is c.self.invariant in
    let size = ap (λ (h : Heap). h.size) c.self.view_is in
    let o = blank c.args.kind c.args.refs c.args.nums c.args.bytes in
    let n = 4 + c.args.refs + c.args.nums in
    let ws = header_words o.header in
    let place : c.in-Some.at - 1 ≡ length c.self.inside.area.words = omega (arith, c.in-Some.ensures.place.1) in
    let rest : n - length ws ≡ c.args.refs + c.args.nums = omega arith in
    let words : c.write_words.new.self.words ≡ c.self.inside.area.words ++ object_words o =
    ap (λ (a : AreaView). a.words) c.write_words.ensures.written
    ∙ ap (λ (a : AreaView). overwritten a.words (c.in-Some.at - 1) c.write_header.new.into) c.in-Some.ensures.made
    ∙ ap (overwritten (c.self.inside.area.words ++ replicate n 0) (c.in-Some.at - 1)) c.write_header.ensures
    ∙ written_new c.self.inside.area.words ws n (c.in-Some.at - 1) place (omega arith)
    ∙ ap (λ (k : ℕ). c.self.inside.area.words ++ (ws ++ replicate k 0)) rest
    ∙ ap (λ (r : List ℕ). c.self.inside.area.words ++ r) (sym (blank_words c.args.kind c.args.refs c.args.nums c.args.bytes)) in
    let sizes : c.write_words.new.self.size ≡ c.self.inside.area.size = ap (λ (a : AreaView). a.size) c.write_words.ensures.written ∙ ap (λ (a : AreaView). a.size) c.in-Some.ensures.made in
    laid c.self.inside c.write_words.new.self (beside_of c.self.inside) c.args.self.now o c.self.view_is c.self.invariant words sizes
    (IsFit-blank c.args.kind c.args.refs c.args.nums c.args.bytes (omega arith) (omega arith) (omega arith) c.requires.home c.requires.lengths c.requires.bytes)
    (omega (arith, c.in-Some.ensures.place.0)) refl refl (λ h. absurd (omega arith))
    (inside_nil c.args.self.now c.args.refs) refl refl (λ m. mapped-new c.args.self.now.objects c.args.self.now.size (beside_of c.self.inside) o m refl)

pub invariant_of-self-2 : goal.invariant_of-self-2
invariant_of-self-2 c = (made c).kept

pub returns-clause-made : goal.returns-clause-made
returns-clause-made c =
    let long = kept_long c.self.inside _ c.self.view_is c.self.invariant in
    let size = ap (λ (h : Heap). h.size) c.self.view_is in
    record { room = omega (arith, c.in-Some.ensures.place.0); place = omega (arith, c.in-Some.ensures.place.1); made = (made c).seen }

pub returns-in_default-clause-stands : goal.returns-in_default-clause-stands
returns-in_default-clause-stands c = stands-same c.args.self.now _ (returns-in_default-clause-made c).stays

pub returns-clause-stands : goal.returns-clause-stands
returns-clause-stands c = stands-new c.args.self.now _ (blank c.args.kind c.args.refs c.args.nums c.args.bytes) (made c).seen
