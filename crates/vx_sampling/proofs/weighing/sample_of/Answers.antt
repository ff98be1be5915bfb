use Rattle.std.proofs.Common.{◌∙◌, ℕ, ◌<◌, ◌^◌, List, ap, arith, length, map, subst, sym}
use Rattle.std.specs.Prelude.{All, slice_get}
use Rattle.std.specs.List.{list_any}
use Rattle.vx_tally.specs.declared.report.CvrRecord.{CvrRecord}
use Rattle.vx_sampling.specs.Findings.{is_of}
use Rattle.vx_sampling.proofs.Few.{few_draws}
use Rattle.vx_sampling.proofs.weighing.sample_of.Goals as goal

pub returns-clause-sample : goal.returns-clause-sample
returns-clause-sample c =
    let draws : List ℕ = c.in_ok-draws.draws in
    let records : List CvrRecord = c.args.records.now in
    let count = c.len-count.ensures.exact in
    let Few : List ℕ → Type 0 = λ some. length some < 2 ^ 32 in
    record {
      few = subst Few (sym c.in_ok-draws.ensures.value) (few_draws c.args.seed c.args.size c.len-count.result (omega (arith, c.ranges.size.fits)));
      within = subst (λ (n : ℕ). All (λ ballot. ballot < n) draws) count c.in_ok-draws.ensures.within;
      are = c.in_ok-drawn.ensures ∙ ap (map (slice_get records)) c.as_slice.ensures;
      sized = c.in_ok-found.ensures.sized ∙ count;
      each = λ place less.
          c.in_ok-found.ensures.found place (subst (λ (n : ℕ). place < n) (sym count) less) ∙ ap (list_any (is_of place)) c.lines.ensures;
    }
