use Rattle.std.proofs.Common.{◌∙◌, ap, sym, List, ℕ, take}
use Rattle.vx_audit.specs.Finding.{ballot_in, placed}
use Rattle.vx_audit.specs.Hand.{record_with}
use Rattle.vx_sampling.proofs.reading.put_ballot.Goals as goal

pub returns-clause-ballots : goal.returns-clause-ballots
returns-clause-ballots c = record {
  at = λ id.
      c.in_ok-put_ballot.ensures.ballots id
      ∙ ap (λ (key : List ℕ). placed key c.args.at id (ballot_in c.args.directory.now id)) c.as_str.ensures
      ∙ ap (placed c.in_ok-id.id c.args.at id) (c.requires.before.at id)
      ∙ sym (c.ballots_are_found_in_order.ensures c.args.records.now c.args.at c.in_ok-id.id id c.in_ok-id.ensures);
}
