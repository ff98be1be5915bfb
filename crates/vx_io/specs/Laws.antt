-- Laws for the proofs of callers: fronts of a text, what a sink has taken, what inputs were asked, counts of faults.
use Rattle.std.specs.Prelude.{ℕ, Bool, false, List, [], ◌++◌, take, Option}
use Rattle.vx_io.specs.Asking.{Question, Questions, Asked}
use Rattle.vx_io.specs.Outside.{IsPrefix, Took, TookFront, CountsFaults}

-- fronts of a text
pub record PrefixLaws : Type 0 where
  pub nothing : (text : List ℕ) → IsPrefix [] text
  pub whole : (text : List ℕ) → IsPrefix text text
  pub taken : (n : ℕ) (text : List ℕ) → IsPrefix (take n text) text
  pub continued : (front rest : List ℕ) → IsPrefix front (front ++ rest)
  pub shorter : (a b c : List ℕ) → IsPrefix a b → IsPrefix b c → IsPrefix a c
  pub behind : (a front text : List ℕ) → IsPrefix front text → IsPrefix (a ++ front) (a ++ text)

-- what a sink has taken: nothing, and one text after another
pub record TookLaws : Type 0 where
  pub nothing : (told : Option (List ℕ)) → Took told told []
  pub append : (a b c : Option (List ℕ)) (s t : List ℕ) → Took a b s → Took b c t → Took a c (s ++ t)

-- the front of a text that a sink has taken
pub record TookFrontLaws : Type 0 where
  pub nothing : (told : Option (List ℕ)) (text : List ℕ) → TookFront told told text
  pub whole : (a b : Option (List ℕ)) (text : List ℕ) → Took a b text → TookFront a b text
  pub append : (a b c : Option (List ℕ)) (s t : List ℕ) → Took a b s → TookFront b c t → TookFront a c (s ++ t)
  pub longer : (a b : Option (List ℕ)) (s t : List ℕ) → TookFront a b s → TookFront a b (s ++ t)

-- what inputs were asked: nothing, and some questions after others
pub record AskedLaws : Type 0 where
  pub nothing : (told : Questions) → Asked told told []
  pub append : (a b c : Questions) (s t : List Question) → Asked a b s → Asked b c t → Asked a c (s ++ t)

-- a device that wasn't called, and one call beside others without a fault
pub record FaultLaws : Type 0 where
  pub nothing : (count : ℕ) → CountsFaults false count count
  pub after : (failed : Bool) (a b c : ℕ) → CountsFaults false a b → CountsFaults failed b c → CountsFaults failed a c
  pub before : (failed : Bool) (a b c : ℕ) → CountsFaults failed a b → CountsFaults false b c → CountsFaults failed a c
