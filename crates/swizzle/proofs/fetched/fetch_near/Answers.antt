use Rattle.std.proofs.Common.{inr, ◌∙◌, sym, ap, Some, Err}
use Rattle.obj_area.specs.Words.{AreWords}
use Rattle.swizzle.specs.Damaged.{far_damage}
use Rattle.swizzle.proofs.FetchedLaws.{near_words}
use Rattle.swizzle.proofs.DamageLaws.{tested_damage}
use Rattle.swizzle.proofs.fetched.fetch_near.Goals as goal

pub returns-in-Ok-clause-near : goal.returns-in-Ok-clause-near
returns-in-Ok-clause-near g c =
    let fit : AreWords c.fetch.new.into = c.far_header.ensures.words in
    let it = near_words c.fetch.new.into c.in-Ok.header c.args.pid c.args.link c.in-Ok.ensures.far fit in
    record {
      words = c.fetch.new.into;
      told = c.in_default.ensures.told;
      near_is = record { far = c.in-Ok.ensures.far; spelled = c.lay_header.ensures ∙ sym it.words_are; fits = fit };
    }

pub returns-in-Ok-clause-sound : goal.returns-in-Ok-clause-sound
returns-in-Ok-clause-sound g c words held = ap far_damage (c.in_default.ensures.told words held) ∙ c.in-Ok.ensures.tested

pub returns-in-Err-clause-fault : goal.returns-in-Err-clause-fault
returns-in-Err-clause-fault g c = record {
  full = λ used wanted capacity e. c.in-Err.ensures.full used wanted capacity (ap Err e);
  pages = λ held wanted pages e. c.in-Err.ensures.pages held wanted pages (ap Err e);
  damaged = λ at found wanted e.
      tested_damage (g.V.Vault.outside c.args.vault.now) c.args.pid (Some _) _ c.in-Err.ensures.tested (λ words held. c.requires.fits words held) at found wanted
      (ap Err e);
}

pub returns-in-Err-far_header-clause-fault : goal.returns-in-Err-far_header-clause-fault
returns-in-Err-far_header-clause-fault g c = record {
  full = λ used wanted capacity e. cc;
  pages = λ held wanted pages e. cc;
  damaged = λ at found wanted e. (
    cc,
    inr (record {
      words = c.fetch.new.into;
      headed = c.in_default.ensures.headed;
      held = c.in_default.ensures.told;
      why = c.in-Err-far_header.ensures.tested ∙ cc;
    }),
  );
}
