use Rattle.std.proofs.Common.{◌≡◌, ◌<◌, ◌≤◌, ◌+◌, ◌∙◌, ◌⊎◌, inl, inr, ℕ, ap, sym, subst, arith, length, false}
use Rattle.std.specs.Prelude.{slice_get}
use Rattle.std.proofs.lemmas.Bool.{cases_lt}
use Rattle.std.proofs.lemmas.Option.{slice_get_past}
use Rattle.vx_center.specs.Waiting.{waits_by}
use Rattle.vx_center.proofs.Few.{few-contests}
use Rattle.vx_center.proofs.waiting.waiting_from.Goals as goal

pub overflow_cast-result : goal.overflow_cast-result
overflow_cast-result c =
    omega (arith, few-contests c.args.election.now c.args.sheet.now c.requires.valid c.requires.fits, c.loop-place-test.true, c.len-count.ensures)

pub loop-place-preserved : goal.loop-place-preserved
loop-place-preserved c = λ place low high. by place low high (cases_lt place c.loop-place.place)
  where
    by : (place : ℕ) → c.args.from ≤ place → place < c.loop-place.place + 1 → (place < c.loop-place.place) ⊎ (c.loop-place.place ≤ place)
        → waits_by c.args.election.now c.args.sheet.now c.args.decided.now (slice_get c.args.sheet.now.contests place) ≡ false
    by place low high (inl less) = c.loop-place.invariant place low less
    by place low high (inr more) =
        let same : c.loop-place.place ≡ place = omega arith in
        subst (λ n. waits_by c.args.election.now c.args.sheet.now c.args.decided.now (slice_get c.args.sheet.now.contests n) ≡ false) same (sym c.waits.ensures ∙ c.if-waits.false)

pub returns : goal.returns
returns c = record { none = λ place low. by place low (cases_lt place c.loop-place.place) }
  where
    by : (place : ℕ) → c.args.from ≤ place → (place < c.loop-place.place) ⊎ (c.loop-place.place ≤ place)
        → waits_by c.args.election.now c.args.sheet.now c.args.decided.now (slice_get c.args.sheet.now.contests place) ≡ false
    by place low (inl less) = c.loop-place.invariant place low less
    by place low (inr more) =
        ap (waits_by c.args.election.now c.args.sheet.now c.args.decided.now)
        (slice_get_past c.args.sheet.now.contests place (omega (arith, more, c.loop-place-test.false, c.len-count.ensures)))
