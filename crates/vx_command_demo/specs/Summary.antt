-- The summary of a demo as a text.
use Rattle.std.specs.Prelude.{ℕ, ◌++◌, ◌∷◌, [], List, codes, sum_by}
use Rattle.std.specs.List.{flat_map}
use Rattle.std.specs.Fmt.{decimal, signed_decimal}
use Rattle.vx_election_model.specs.declared.election.Election.{Election}
use Rattle.vx_layout.specs.declared.plan.CardPlan.{CardPlan}
use Rattle.vx_command_demo.specs.declared.sums.PageSums.{PageSums}
use Rattle.vx_command_demo.specs.declared.sums.ReasonSums.{ReasonSums}
use Rattle.vx_command_demo.specs.Trials.{Trial, sheets_of}
use Rattle.vx_command_demo.specs.Sums.{page_sums, reason_sums}

-- how many characters of the texts of some cards are drawn as the hollow box
abbrev pub hollow_in : List CardPlan → ℕ
hollow_in plans = sum_by (λ (plan : CardPlan). plan.hollow) plans

-- the lines of a summary
abbrev pub head_line : ℕ → ℕ → List ℕ
head_line seed sheets = codes "demo seed " ++ decimal seed ++ codes " sheets " ++ decimal sheets ++ 10 ∷ []

abbrev pub pages_line : ℕ → ℕ → ℕ → List ℕ
pages_line pages as_truth certified =
    codes "pages " ++ decimal pages ++ codes " as truth " ++ decimal as_truth
    ++ codes " certified " ++ decimal certified ++ 10 ∷ []

abbrev pub marks_line : ℕ → List ℕ
marks_line marks = codes "marks " ++ decimal marks ++ 10 ∷ []

unfoldable pub overvotes_part : ℕ → List ℕ
overvotes_part overvote = codes "reasons overvote " ++ decimal overvote

unfoldable pub undervotes_part : ℕ → List ℕ
undervotes_part undervote = codes " undervote " ++ decimal undervote

unfoldable pub others_part : ℕ → ℕ → ℕ → List ℕ
others_part marginal blank write_in =
    codes " marginal " ++ decimal marginal ++ codes " blank " ++ decimal blank
    ++ codes " write-in " ++ decimal write_in ++ 10 ∷ []

abbrev pub reasons_line : ReasonSums → List ℕ
reasons_line reasons =
    overvotes_part reasons.overvote ++ undervotes_part reasons.undervote
    ++ others_part reasons.marginal reasons.blank reasons.write_in

abbrev pub hollow_line : ℕ → List ℕ
hollow_line hollow = codes "hollow " ++ decimal hollow ++ 10 ∷ []

abbrev pub places_line : PageSums → List ℕ
places_line sums =
    codes "places " ++ signed_decimal sums.columns ++ codes " " ++ signed_decimal sums.rows
    ++ codes " scores " ++ decimal sums.scores ++ 10 ∷ []

-- what stands behind the line of pages
abbrev pub other_lines : PageSums → ReasonSums → ℕ → List ℕ
other_lines sums reasons hollow =
    marks_line sums.marks ++ reasons_line reasons ++ hollow_line hollow ++ places_line sums

-- a summary of what was counted
unfoldable pub summary_text : ℕ → ℕ → PageSums → ReasonSums → ℕ → List ℕ
summary_text seed sheets sums reasons hollow =
    head_line seed sheets ++ pages_line sums.pages sums.as_truth sums.certified ++ other_lines sums reasons hollow

-- the pages of some sheets
abbrev pub pages_in : List (List Trial) → List Trial
pages_in sheets = flat_map (λ (trials : List Trial). trials) sheets

-- the summary of the sheets of a demo
unfoldable pub summary_of : Election → List CardPlan → ℕ → ℕ → List ℕ
summary_of election plans seed sheets =
    let all = sheets_of election plans seed sheets in
    summary_text seed sheets (page_sums election (pages_in all)) (reason_sums election all) (hollow_in plans)
