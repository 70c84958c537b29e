use Rattle.std.proofs.Common.{length}
use Rattle.swizzle.specs.Text.{with_text}
use Rattle.swizzle.specs.View.{noted_of, beside_of}
use Rattle.swizzle.proofs.KeptLaws.{lies_in, Again}
use Rattle.swizzle.proofs.TextLaws.{place_fits, place_by, lies-spanned, place_in_bytes, retexted}
use Rattle.swizzle.proofs.StandLaws.{stands-object, like_nums}
use Rattle.swizzle.proofs.swizzle.Swizzle.write_text.Goals as goal

pub place_of_bytes-place-requires : goal.place_of_bytes-place-requires
place_of_bytes-place-requires c = place_fits _ _ c.args.object c.header-header.result (lies_in c.self.inside _ c.args.object c.self.view_is c.self.invariant c.requires.held) c.header-header.ensures.value

pub write_bytes-requires : goal.write_bytes-requires
write_bytes-requires c =
    let l = lies_in c.self.inside _ c.args.object c.self.view_is c.self.invariant c.requires.held in
    lies-spanned c.self.inside.area _ c.args.object _ c.args.start (length c.args.from.now) l (place_by _ _ c.args.object _ c.place_of_bytes-place.ensures c.header-header.ensures.value) c.requires.within

written : (c : goal.After-write_bytes) → Again c.write_bytes.new.self.words c.write_bytes.new.self.size (noted_of c.self.inside) (beside_of c.self.inside) (with_text c.args.self.now c.args.object c.args.start c.args.from.now)
written c =
    let l = lies_in c.self.inside _ c.args.object c.self.view_is c.self.invariant c.requires.held in
    let place = place_by _ _ c.args.object _ c.place_of_bytes-place.ensures c.header-header.ensures.value in
    retexted c.self.inside c.write_bytes.new.self c.args.self.now c.args.object _ c.args.start c.args.from.now c.self.view_is c.self.invariant l c.top-top.ensures.area.fits c.write_bytes.ensures c.are_bytes.ensures
    (place_in_bytes c.self.inside.area.words c.args.self.now c.args.object _ c.args.start l place) c.requires.within

pub invariant_of-self : goal.invariant_of-self
invariant_of-self c = (written c).kept

pub returns-clause-written : goal.returns-clause-written
returns-clause-written c = (written c).seen

pub returns-clause-stands : goal.returns-clause-stands
returns-clause-stands c = stands-object c.args.self.now _ c.args.object _ (written c).seen c.requires.held (like_nums _ _)
