-- What an object that keeps files tells of itself, and counts.
use Rattle.std.specs.Prelude.{◌≡◌, ℕ, is_some}
use Rattle.repl_effects.specs.Counts.{DidNotFall}
use Rattle.repl_disk.specs.Folder.{Folder, ToldFiles}

pub record DiskState : Type 1 where
  -- the files as they read, where it tells them
  pub files : ToldFiles
  -- what a crash at this moment may leave
  pub may_leave : Folder → Type 0
  -- the moment, as a number that does not fall
  pub moment : ℕ
  -- what a crash at some moment from that one on might have left, during a call or between two
  pub left_since : ℕ → Folder → Type 0
  -- how many calls answered Failed
  pub faults : ℕ
  -- how many calls answered Memory
  pub wants : ℕ
  -- how many calls answered Missing, or read fewer bytes than they had room for
  pub lacks : ℕ

-- An object that tells its files goes on telling them, and no count falls.
pub record GoesOn (old new : DiskState) : Type 0 where
  pub tells : is_some new.files ≡ is_some old.files
  pub faults : DidNotFall old.faults new.faults
  pub wants : DidNotFall old.wants new.wants
  pub lacks : DidNotFall old.lacks new.lacks
