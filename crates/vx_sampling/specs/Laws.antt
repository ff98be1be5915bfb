-- What follows from the definitions of draws, findings, leads and figures.
use Rattle.std.specs.Prelude.{◌≡◌, ◌≤◌, ℕ, List, ◌++◌, map, take}
use Rattle.vx_tally.specs.declared.report.CvrRecord.{CvrRecord}
use Rattle.vx_audit.specs.declared.hand.HandLine.{HandLine}
use Rattle.vx_audit.specs.Sample.{draws_of}
use Rattle.vx_risk.specs.Bound.{is_at_most}
use Rattle.vx_election_model.specs.declared.contest.Contest.{Contest}
use Rattle.vx_sampling.specs.declared.finding.Finding.{Finding}
use Rattle.vx_sampling.specs.declared.rows.Figures.{Figures}
use Rattle.vx_sampling.specs.declared.rows.Told.TheVariants.{Risk}
use Rattle.vx_sampling.specs.declared.sides.Sides.{Sides}
use Rattle.vx_sampling.specs.Findings.{findings_of, votes_of}
use Rattle.vx_sampling.specs.Leads.{IsLeastLead, rival_votes, winner_votes}
use Rattle.vx_sampling.specs.Rows.{figures_of, told_of}

-- a larger sample begins with the draws of a smaller one, of the same seed and as many records
abbrev pub LargerSamplesBeginAlike : Type 0
LargerSamplesBeginAlike =
    (seed : List ℕ) (size larger count : ℕ) → size ≤ larger → take size (draws_of seed larger count) ≡ draws_of seed size count

-- each draw is a finding of its own, whatever was drawn before: a record that is drawn twice counts twice
abbrev pub EachDrawCounts : Type 0
EachDrawCounts =
    (sides : Sides) (lines : List HandLine) (records : List CvrRecord) (front back : List ℕ)
    → findings_of sides lines records (front ++ back)
    ≡ findings_of sides lines records front ++ findings_of sides lines records back

-- a contest is told as met exactly where the bound over its findings is at most the limit
abbrev pub MetIsTheBound : Type 0
MetIsTheBound =
    (records limit margin : ℕ) (findings : List Finding)
    → (figures_of records limit margin findings).is_met ≡ is_at_most records margin (map votes_of findings) limit

-- the margin that a contest's figures are made with is the least lead of a winner over a rival, by the votes of the records
abbrev pub MarginIsTheLeastLead : Type 0
MarginIsTheLeastLead =
    (records : List CvrRecord) (lines : List HandLine) (draws : List ℕ) (limit place : ℕ) (contest : Contest) (figures : Figures)
    → told_of records lines draws limit place contest ≡ Risk figures
    → IsLeastLead (winner_votes records place contest) (rival_votes records place contest) figures.margin
