-- The records that are drawn, one for each draw, and what is found of them.
use Rattle.std.proofs.Common.{◌≡◌, ℕ, ◌+◌, ◌<◌, List, [], ◌∷◌, ◌++◌, length, map, take, get_or, refl, ap, sym, ◌∙◌, arith}
use Rattle.std.specs.Prelude.{Some, option_map, slice_get}
use Rattle.std.proofs.lemmas.List.{length-map, take_more, take_all}
use Rattle.std.proofs.lemmas.Option.{get_or_from_slice_get, same_Some, slice_get-get_or, slice_get-map, slice_get_read, slice_get_within}
use Rattle.vx_tally.specs.declared.report.CvrRecord.{CvrRecord}
use Rattle.vx_audit.specs.declared.hand.HandLine.{HandLine}
use Rattle.vx_sampling.specs.declared.finding.Finding.{Finding}
use Rattle.vx_sampling.specs.declared.sides.Sides.{Sides}
use Rattle.vx_sampling.specs.Findings.{findings_of, found_at}

-- one element more is taken
pub one_more : {X : Type 0} (xs made now : List X) (at : ℕ) (x : X) → made ≡ take at xs → slice_get xs at ≡ Some x → now ≡ made ++ x ∷ []
    → now ≡ take (at + 1) xs
one_more xs made now at x before there step =
    step
    ∙ ap (λ front. front ++ x ∷ []) before
    ∙ ap (λ one. take at xs ++ one ∷ []) (sym (get_or_from_slice_get xs at x x there))
    ∙ sym (take_more xs at x (slice_get_within xs at x there))

module _ (records : List CvrRecord) (draws : List ℕ) (drawn : List CvrRecord) (are : map Some drawn ≡ map (slice_get records) draws) where
  -- as many are drawn as there are draws
  pub as_many : length drawn ≡ length draws
  as_many = sym (length-map drawn Some) ∙ ap length are ∙ length-map draws (slice_get records)

  -- the record of a draw
  pub record_there : (at draw : ℕ) (one : CvrRecord) → slice_get draws at ≡ Some draw → slice_get drawn at ≡ Some one → slice_get records draw ≡ Some one
  record_there at draw one there is =
      same_Some (slice_get records draw) (Some one)
      (sym (slice_get-map (slice_get records) draws at ∙ ap (option_map (slice_get records)) there)
      ∙ sym (ap (λ xs. slice_get xs at) are)
      ∙ slice_get-map Some drawn at
      ∙ ap (option_map Some) is)

-- what is found of a draw
pub found_there : (sides : Sides) (lines : List HandLine) (records : List CvrRecord) (draws : List ℕ) (at draw : ℕ) → slice_get draws at ≡ Some draw
    → slice_get (findings_of sides lines records draws) at ≡ Some (found_at sides lines draw (slice_get records draw))
found_there sides lines records draws at draw there =
    slice_get-map (λ ballot. found_at sides lines ballot (slice_get records ballot)) draws at
    ∙ ap (option_map (λ ballot. found_at sides lines ballot (slice_get records ballot))) there

-- what is found of all draws
pub all_found : (sides : Sides) (lines : List HandLine) (records : List CvrRecord) (draws : List ℕ)
    → take (length draws) (findings_of sides lines records draws) ≡ findings_of sides lines records draws
all_found sides lines records draws =
    let long = length-map draws (λ ballot. found_at sides lines ballot (slice_get records ballot)) in
    take_all (length draws) (findings_of sides lines records draws) (omega (arith, long))

-- what is found of a draw, by its record
pub draw_found : (sides : Sides) (lines : List HandLine) (records : List CvrRecord) (draws these : List ℕ) (drawn those : List CvrRecord) (at : ℕ)
    (one : CvrRecord) (finding : Finding)
    → map Some drawn ≡ map (slice_get records) draws → these ≡ draws → those ≡ drawn → at < length draws → one ≡ get_or those at one
    → finding ≡ found_at sides lines (get_or these at 0) (Some one) → slice_get (findings_of sides lines records draws) at ≡ Some finding
draw_found sides lines records draws these drawn those at one finding are same-draws same-drawn less here found =
    let draw : ℕ = get_or draws at 0 in
    let there : slice_get draws at ≡ Some draw = slice_get-get_or draws at 0 less in
    let many = as_many records draws drawn are in
    let is : slice_get drawn at ≡ Some one =
    slice_get_read drawn (length drawn) at one refl (omega (arith, many, less)) (here ∙ ap (λ (xs : List CvrRecord). get_or xs at one) same-drawn) in
    found_there sides lines records draws at draw there
    ∙ ap (λ some. Some (found_at sides lines draw some)) (record_there records draws drawn are at draw one there is)
    ∙ ap Some (sym (found ∙ ap (λ (xs : List ℕ). found_at sides lines (get_or xs at 0) (Some one)) same-draws))
