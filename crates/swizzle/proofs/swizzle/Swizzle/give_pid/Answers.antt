use Rattle.std.proofs.Common.{◌≡◌, ◌∙◌, ℕ, List, ap, arith, length, refl}
use Rattle.obj_area.specs.Area.{with_words}
use Rattle.obj_layout.specs.declared.header.Header.{Header}
use Rattle.obj_layout.specs.Header.{header_words}
use Rattle.pid_map.proofs.ChainLaws.{bucket_below}
use Rattle.swizzle.specs.Heap.{object_at, with_object}
use Rattle.swizzle.specs.Kept.{with_map}
use Rattle.swizzle.specs.View.{noted_of, beside_of}
use Rattle.swizzle.specs.Numbered.{numbered}
use Rattle.swizzle.proofs.KeptLaws.{lies_in, Again}
use Rattle.swizzle.proofs.NumberedLaws.{given}
use Rattle.swizzle.proofs.swizzle.Swizzle.give_pid.Goals as goal

-- the header that is written
words_are : (words : List ℕ) (was h : Header) (pid link given : ℕ) → words ≡ header_words (record was { pid = pid; chain = given }) → given ≡ link → was ≡ h → words ≡ header_words (record h { pid = pid; chain = link })
words_are words was h pid link given is same value =
    is
    ∙ ap (λ (n : ℕ). header_words (record was { pid = pid; chain = n })) same
    ∙ ap (λ (x : Header). header_words (record x { pid = pid; chain = link })) value

pub write_words-requires : goal.write_words-requires
write_words-requires c =
    let l = lies_in c.self.inside _ c.args.object c.self.view_is c.self.invariant c.requires.held in
    let four = ap length c.write_header.ensures in
    let from = l.from in
    let to = l.to in
    let home = l.split.fit.home in
    record { placed = omega (arith, from); below = omega (arith, to, four, home) }

made : (c : goal.After-put) → Again c.write_words.new.self.words c.write_words.new.self.size (noted_of c.self.inside) (with_map (beside_of c.self.inside) c.put.new.self.heads.items c.max-self-inside.result) (with_object c.args.self.now c.args.object (numbered (object_at c.args.self.now c.args.object) c.args.pid c.head-link.result))
made c =
    let l = lies_in c.self.inside _ c.args.object c.self.view_is c.self.invariant c.requires.held in
    let heads = c.self.inside.map.heads.items in
    let words = words_are c.write_header.new.into c.header.result (object_at c.args.self.now c.args.object).header c.args.pid c.head-link.result c.from.result c.write_header.ensures c.from.ensures c.header.ensures.value in
    given c.self.inside c.write_words.new.self c.put.new.self.heads.items c.args.self.now c.args.object c.args.pid c.head-link.result c.max-self-inside.result c.self.view_is c.self.invariant l
    (c.write_words.ensures.written ∙ ap (λ (ws : List ℕ). with_words c.self.inside.area c.args.object ws) words) c.requires.none c.requires.low c.requires.high c.requires.fresh
    c.head-link.ensures (omega arith) (bucket_below c.args.pid (length heads) (length heads) refl c.self.invariant.pids.some) c.put.ensures c.max-self-inside.ensures

pub invariant_of-self : goal.invariant_of-self
invariant_of-self c = (made c).kept

pub returns : goal.returns
returns c = record { link = c.head-link.result; is = (made c).seen }
