-- What becomes stored was listed and has PIDs.
use Rattle.std.specs.Prelude.{ℕ, ◌+◌, ◌<◌, List, Option}
use Rattle.swizzle.specs.Heap.{Heap}
use Rattle.commit_walk.specs.declared.homes.Source.{Source}
use Rattle.commit_images.specs.Images.{words_of, new_in, changed_in}
use Rattle.commit_images.specs.Staging.{AreReady}
use Rattle.reach_commit.specs.Committing.{Commits, pid_of}

-- It is listed which objects are new and which are written anew, and all to which these refer have PIDs.
pub record IsReady (old new : Heap) (writing : List Source) (directory : Option ℕ) (used : ℕ) : Type 0 where
  pub commits : Commits old new writing directory used (new_in new used) (changed_in new used)
  pub new_ready : AreReady new (new_in new used)
  pub changed_ready : AreReady new (changed_in new used)
  pub named : pid_of new directory < used + words_of new (new_in new used)
