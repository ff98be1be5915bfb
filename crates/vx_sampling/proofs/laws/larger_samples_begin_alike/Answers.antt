use Rattle.std.proofs.Common.{◌≡◌, ℕ, ◌%◌, ◌≤◌, ◌==◌, Bool, true, false, List, take, refl, ap, sym, ◌∙◌}
use Rattle.std.proofs.Math.Seq.{take-nil}
use Rattle.std.proofs.lemmas.List.FromFn.{take-map-range_with_len}
use Rattle.vx_audit.specs.Sample.{draws_of, word_of}
use Rattle.vx_sampling.proofs.Few.{draws_none, draws_some}
use Rattle.vx_sampling.proofs.laws.larger_samples_begin_alike.Goals as goal

alike : (seed : List ℕ) (size larger count : ℕ) → size ≤ larger → take size (draws_of seed larger count) ≡ draws_of seed size count
alike seed size larger count within = by (count == 0) refl
  where
    by : (b : Bool) → (count == 0) ≡ b → take size (draws_of seed larger count) ≡ draws_of seed size count
    by true e = ap (take size) (draws_none seed larger count e) ∙ take-nil size ∙ sym (draws_none seed size count e)
    by false e =
        ap (take size) (draws_some seed larger count e)
        ∙ take-map-range_with_len (λ (word : ℕ). word_of seed word % count) 0 larger size within
        ∙ sym (draws_some seed size count e)

pub returns : goal.returns
returns c = alike
