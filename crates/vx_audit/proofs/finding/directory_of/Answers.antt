use Rattle.std.proofs.Common.{◌∙◌, ap, sym, refl, List, ℕ}
use Rattle.std.specs.Prelude.{bytes_eq}
use Rattle.vx_tally.specs.declared.report.CvrRecord.{CvrRecord}
use Rattle.vx_audit.specs.Finding.{ballot_in, placed}
use Rattle.vx_audit.proofs.Indexed.{position-more}
use Rattle.vx_audit.proofs.finding.directory_of.Goals as goal

pub loop-place-preserved : goal.loop-place-preserved
loop-place-preserved c =
    let one = c.index-records-place.result in
    record {
      ballots = record {
        at = λ id.
            c.in_ok-put_ballot.ensures.ballots id
            ∙ ap (λ (key : List ℕ). placed key c.loop-place.place id (ballot_in c.loop-place.directory id)) c.as_str.ensures
            ∙ ap (placed one.unique c.loop-place.place id) (c.loop-place.invariant.ballots.at id)
            ∙ sym (position-more (λ (known : CvrRecord). bytes_eq id known.unique) c.as_slice-records.result.now c.loop-place.place one id one.unique c.loop-place-test.true c.index-records-place.is refl);
      };
      contests = record { at = λ id. c.in_ok-put_ballot.ensures.contests id ∙ c.loop-place.invariant.contests.at id };
    }
