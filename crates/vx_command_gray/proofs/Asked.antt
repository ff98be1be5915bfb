-- Scans that are asked for one after another.
use Rattle.std.proofs.Common.{◌≡◌, ◌+◌, ℕ, Bool, true, false, List, [], ◌∷◌, drop, Some, Err, refl, sym, subst}
use Rattle.std.specs.Prelude.{slice_get}
use Rattle.vx_io.specs.declared.outside.Inputs.{Ghosts as InputsOf}
use Rattle.vx_command.specs.declared.halt.Halt.{Halt}
use Rattle.vx_command.specs.Asking.{Asks, AskLaws}
use Rattle.vx_command_gray.specs.declared.status.GrayStatus.{GrayStatus}
use Rattle.vx_command_gray.specs.declared.status.GrayStatus.TheVariants as gray
use Rattle.vx_command_gray.specs.Status.{answer_of, ends_well}
use Rattle.vx_command_gray.proofs.Acts.{word_on}

-- a `gray` that was halted didn't end well
pub ends_ill : (status : GrayStatus) (cause : Halt) → answer_of status ≡ Err cause → ends_well status ≡ false
ends_ill gray.Ok cause is = absurd cc
ends_ill status cause is = refl

module _ {I : Type 0} (i : InputsOf I) (laws : AskLaws i) (words scans : List (List ℕ)) (word : ℕ) (name : List ℕ) (a b c : I)
    (at : slice_get words word ≡ Some name) (before : (end : I) (all : Bool) → Asks i (drop word words) b end all → Asks i scans a end all) where
  abbrev rest : List (List ℕ)
  rest = drop (word + 1) words

  -- one scan more was asked for
  pub one_asked : Asks i (name ∷ []) b c true → (end : I) (all : Bool) → Asks i rest c end all → Asks i scans a end all
  one_asked asked end all further =
      let Left : List (List ℕ) → Type 0 = λ names. Asks i names b end all in
      before end all (subst Left (sym (word_on words word name at)) (laws.then name rest b c end all asked further))

  -- no more are, whether that one was taken or not
  pub last_asked : (all : Bool) → Asks i (name ∷ []) b c all → Asks i scans a c false
  last_asked all asked =
      let Left : List (List ℕ) → Type 0 = λ names. Asks i names b c false in
      before c false (subst Left (sym (word_on words word name at)) (laws.broken name rest b c all asked))
