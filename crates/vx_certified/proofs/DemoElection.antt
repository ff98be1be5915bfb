-- The demo election is read, and has three cards that can be planned: by computing both.
use Rattle.std.proofs.Common.{◌≡◌, ℕ, true, List, length, Result, Ok, Err, refl, ap, ◌∙◌}
use Rattle.std.specs.Prelude.{is_ok}
use Rattle.std.specs.Str.{chars, is_utf8}
use Rattle.std.specs.Float.Numeral.{scan_numeral}
use lib.Utf8.{encode}
use Rattle.json.specs.Print.{escape_byte}
use Rattle.json.specs.Json.{value}
use Rattle.json.specs.Lex.{lex, punctuate}
use Rattle.json.specs.Text.{content}
use Rattle.json.specs.Word.{after_number, word}
use Rattle.std.specs.Fmt.{digits}
use Rattle.serde_json.specs.Read.{number_of}
use Rattle.vx_election.specs.Reading.{election_of, value_of}
use Rattle.serde_json.specs.Data.{Data}
use Rattle.vx_command.specs.declared.halt.Halt.{Halt}
use Rattle.vx_command.specs.Elections.{election_read, plans_in, plans_made}
use Rattle.vx_command_demo.specs.Outcome.{election_defined}
use Rattle.vx_certified.specs.Truth.{DemoElection}
use Rattle.vx_layout.specs.Plan.{contest_checked, plan_of}
use Rattle.vx_layout.specs.Plans.{plans_of}
use Rattle.vx_layout.specs.declared.plan.CardPlan.{CardPlan}
use Rattle.vx_layout.specs.declared.fault.CardFault.{CardFault}
use Rattle.vx_election_model.specs.declared.election.Election.{Election}
use Rattle.vx_election.specs.declared.fault.ElectionFault.{ElectionFault}
use Rattle.vx_base.specs.Results.{◌>>=◌}
use Rattle.sha2.specs.Sha256.{sha256}
use Rattle.vx_command_demo.specs.Election.{demo_election, demo_text}
use Rattle.vx_election.specs.Contests.{label_of, affiliations_in, candidate_at, candidate_list_in, candidates_in, kind_in, heading_in, leave_in, voting_in, label_in, answer_label_in, answer_in, answers_in, question_in, contest_at, contests_in}
use Rattle.vx_election.specs.Dates.{date_in}
use Rattle.vx_election.specs.Ids.{id_in, new_id_in, reference_in, new_reference_in}
use Rattle.vx_election.specs.Members.{text_member, optional_text, whole_member, optional_flag, id_member, reference_member, optional_reference, list_up_to, list_member, optional_list}
use Rattle.vx_election.specs.Names.{allow_write_ins, description, ballot_styles, mark_thousandths}
use Rattle.vx_election.specs.Papers.{stated_paper_in, paper_in}
use Rattle.vx_election.specs.Parts.{named_at, named_list_in, references_in, new_references_in}
use Rattle.vx_election.specs.Reading.{date_member, parties_in, named_member, contests_member, styles_member, opening_in, directories_in, rules_in, election_in}
use Rattle.vx_election.specs.Settings.{stated_thresholds_in, thresholds_in, reason_in, reason_list_in, stated_reasons_in, reasons_in}
use Rattle.vx_election.specs.Styles.{style_places_in, style_at, styles_in}
use Rattle.vx_election_model.specs.Dates.{is_date}
use Rattle.vx_election_model.specs.Ids.{is_id}

-- the text is that value
text : value_of demo_text ≡ Ok demo_election
unfolding value_of demo_text digits chars number_of is_utf8 escape_byte encode value lex punctuate content after_number word scan_numeral
text = refl

-- how many cards of an election can be planned
abbrev cards-of : Result (List CardPlan) CardFault → ℕ
cards-of (Ok plans) = length plans
cards-of (Err fault) = 0

abbrev planned : Result Election ElectionFault → ℕ
planned (Ok election) = cards-of (plans_of election)
planned (Err fault) = 0

three : (digest : List ℕ) → planned (election_in digest demo_election) ≡ 3
unfolding plans_of plan_of contest_checked digits chars label_of affiliations_in candidate_at candidate_list_in candidates_in kind_in heading_in
    leave_in voting_in label_in answer_label_in answer_in answers_in question_in contest_at contests_in date_in id_in new_id_in reference_in
    new_reference_in text_member optional_text whole_member optional_flag id_member reference_member optional_reference list_up_to list_member
    optional_list allow_write_ins description ballot_styles mark_thousandths stated_paper_in paper_in named_at named_list_in references_in
    new_references_in date_member parties_in named_member contests_member styles_member opening_in directories_in rules_in election_in
    stated_thresholds_in thresholds_in reason_in reason_list_in stated_reasons_in reasons_in style_places_in style_at styles_in is_date is_id
three digest = refl

defined : election_of demo_text ≡ election_in (sha256 demo_text) demo_election
unfolding election_of
defined = ap (λ (given : Result Data ElectionFault). given >>= (λ value. election_in (sha256 demo_text) value)) text

-- an election that is read, as the command has it
read : (election : Election) → election_of demo_text ≡ Ok election → election_defined ≡ Ok election
unfolding election_defined
read election is = ap election_read is

-- an election of which three cards can be planned
with-plans : (election : Election) → election_defined ≡ Ok election → (plans : Result (List CardPlan) CardFault) → plans_of election ≡ plans
    → cards-of plans ≡ 3 → DemoElection
with-plans election is (Err fault) are three = absurd cc
with-plans election is (Ok plans) are three = record {
  election = election;
  plans = plans;
  is_read = is;
  are_planned = ap plans_made are;
  three = three;
}

by : (given : Result Election ElectionFault) → election_of demo_text ≡ given → planned given ≡ 3 → DemoElection
by (Err fault) is three = absurd cc
by (Ok election) is three = with-plans election (read election is) (plans_of election) refl three

pub demo-election : DemoElection
demo-election = by (election_of demo_text) refl (ap planned defined ∙ three (sha256 demo_text))
