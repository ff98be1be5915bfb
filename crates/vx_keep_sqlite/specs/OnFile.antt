-- What is seen of a keeper over a file.
use Rattle.std.specs.Prelude.{ℕ, Bool, List}

-- the bytes of the path that a file is opened under, and whether it is only read
pub record AtPath : Type 0 where
  pub path : List ℕ
  pub only_reads : Bool

-- the file, and how many faults there were
pub record OnFile : Type 0 where
  pub file : AtPath
  pub faults : ℕ
