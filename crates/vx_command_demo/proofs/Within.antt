-- How large sums may become.
use Rattle.std.proofs.Common.{ℕ, ◌≤◌, ◌<◌, length, arith}
use Rattle.std.proofs.lemmas.Int.{ints}
use Rattle.vx_election_model.specs.declared.election.Election.{Election}
use Rattle.vx_election_model.specs.Valid.{IsValid}
use Rattle.vx_layout.specs.declared.pages.PagePlan.{PagePlan}
use Rattle.vx_scan_model.specs.declared.reading.PageReading.{PageReading}
use Rattle.vx_scan_model.specs.Named.{NamedStandOnGrid}
use Rattle.vx_page.specs.Named.{IsOfPlan}
use Rattle.vx_command_demo.specs.declared.sums.ReasonSums.{ReasonSums}
use Rattle.vx_command_demo.specs.Adding.{AreReasonSums, IsCounted, nothing}

-- at most so often, and so at most more often
pub reasons-more : (few most : ℕ) (sums : ReasonSums) → few ≤ most → AreReasonSums few sums → AreReasonSums most sums
reasons-more few most sums le within = record {
  overvote = omega (arith, within.overvote, le);
  undervote = omega (arith, within.undervote, le);
  marginal = omega (arith, within.marginal, le);
  blank = omega (arith, within.blank, le);
  write_in = omega (arith, within.write_in, le);
}

-- nothing was counted
pub nothing-counted : IsCounted nothing
nothing-counted = record {
  pages = record {
    as_truth = omega arith;
    certified = omega arith;
    marks = omega arith;
    columns = record { low = omega (arith, ints); high = omega (arith, ints) };
    rows = record { low = omega (arith, ints); high = omega (arith, ints) };
    scores = omega arith;
  };
  reasons = record {
    overvote = omega arith;
    undervote = omega arith;
    marginal = omega arith;
    blank = omega arith;
    write_in = omega arith;
  };
}

-- a reading has fewer than 1,000 states and scores
pub few-states : NamedStandOnGrid → (election : Election) (reading : PageReading) (plan : PagePlan) → IsValid election → IsOfPlan election reading plan → length reading.states < 1000
few-states law election reading plan valid it = omega (arith, (law election reading.code plan valid it.named).few, it.states)

pub few-scores : NamedStandOnGrid → (election : Election) (reading : PageReading) (plan : PagePlan) → IsValid election → IsOfPlan election reading plan → length reading.scores < 1000
few-scores law election reading plan valid it = omega (arith, (law election reading.code plan valid it.named).few, it.scores)
