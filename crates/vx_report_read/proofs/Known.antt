-- What the texts of a valid election and of a history's rows have, where those have it that aren't ids.
use Rattle.std.proofs.Common.{◌≡◌, ℕ, zero, suc, ◌<◌, ◌≤◌, ◌^◌, true, ◌&&◌, List, [], ◌∷◌, length, refl, arith}
use Rattle.std.specs.Prelude.{nat_le, nat_lt, not, ◌==◌, slice_index_or}
use Rattle.std.specs.List.{AllByRecursion, list_all}
use Rattle.json.proofs.Printed.Utf8.{are_ascii}
use Rattle.vx_base.proofs.Booleans.{and-both, and-left, and-right}
use Rattle.vx_base.proofs.Numbers.{at_most-from_yes, below-yes}
use Rattle.vx_election_model.specs.declared.contest.Contest.{Contest}
use Rattle.vx_election_model.specs.declared.election.Election.{Election}
use Rattle.vx_election_model.specs.declared.named.Named.{Named}
use Rattle.vx_election_model.specs.declared.style.Style.{Style}
use Rattle.vx_election_model.specs.Ids as election
use Rattle.vx_election_model.specs.Options.{options_of}
use Rattle.vx_election_model.specs.Valid.{IsNamed, IsStyle, IsValid}
use Rattle.vx_styles.specs.Cards.{card_at, no_style}
use Rattle.vx_center.specs.declared.rows.ExportSheet.{ExportSheet}
use Rattle.vx_center.specs.declared.rows.Final.{Final}
use Rattle.vx_cvr.specs.Votes.{candidate_of}
use Rattle.vx_cvr.specs.Report as spec
use Rattle.vx_tally.specs.Ids.{is_id_character}
use Rattle.vx_results.specs.Report.{contest_at}
use Rattle.vx_report_read.proofs.Contests.{IsGiven, given-options, contests-given}
use Rattle.vx_report_read.proofs.Each.{each-all, each-weaker, each-both}
use Rattle.vx_results.specs.Fitting.{IsFinalAt, IsRow}
use Rattle.vx_report_read.proofs.Fitting.{contest-valid, voted-below}
use Rattle.vx_report_read.proofs.Names.{AreCharacters, short-id, short-key}
use Rattle.vx_report_read.proofs.Parts.{IsKnown, NameHas, ChoiceHas, ContestHas, NamedHas, ElectionHas, FinalHas, RowHas}

-- characters of ids are ASCII
ascii-from : (text : List ℕ) → AreCharacters text → are_ascii text ≡ true
ascii-from [] are = refl
ascii-from (b ∷ text) are =
    and-both (nat_lt b 128) (are_ascii text)
    (below-yes b 128 (omega (
      arith,
      at_most-from_yes b 126 (and-right (nat_le 33 b) (nat_le b 126)
          (and-left (nat_le 33 b && nat_le b 126) (not (b == 44)) (and-left (is_id_character b) (list_all is_id_character text) are))),
    )))
    (ascii-from text (and-right (is_id_character b) (list_all is_id_character text) are))

-- the texts of an election that aren't ids
pub record TextsHave (P : List ℕ → Type 0) (election : Election) : Type 0 where
  pub title : P election.title
  pub precincts : AllByRecursion (λ (named : Named). P named.name) election.precincts
  pub contests : AllByRecursion (λ (contest : Contest). P contest.title × AllByRecursion (ChoiceHas P) contest.choices) election.contests

-- the names that were given to the slots of a row
abbrev pub NamesHave : (List ℕ → Type 0) → ExportSheet → Type 0
NamesHave P row = AllByRecursion (λ (final : Final). AllByRecursion (NameHas P) final.names) row.finals

module _ (P : List ℕ → Type 0) (known : IsKnown P) where
  id-has : (id : List ℕ) → election.is_id id ≡ true → P id
  id-has id is = known.plain id (ascii-from id (short-id id is).are)

  pub election-has : (given : Election) → IsValid given → TextsHave P given → ElectionHas P given
  election-has given valid has = record {
    title = has.title;
    precincts = each-both IsNamed (λ (named : Named). P named.name) (NamedHas P) given.precincts
        (λ named is name. (id-has named.id is.id, name)) (each-all IsNamed given.precincts valid.precincts.each) has.precincts;
    contests = each-both IsGiven (λ (contest : Contest). P contest.title × AllByRecursion (ChoiceHas P) contest.choices) (ContestHas P) given.contests
        one (contests-given given valid) has.contests;
  }
    where
      one : (contest : Contest) → IsGiven contest → P contest.title × AllByRecursion (ChoiceHas P) contest.choices → ContestHas P contest
      one contest is texts = record {
        id = id-has contest.id is.2.id;
        title = texts.0;
        choices = texts.1;
        seats = is.2.seats.1;
        options = given-options contest is;
      }

  style-has : (styles : List Style) (place : ℕ) → AllByRecursion (λ (style : Style). election.is_id style.id ≡ true) styles
      → P (slice_index_or styles place no_style).id
  style-has [] place all = known.plain _ refl
  style-has (style ∷ styles) zero all = id-has style.id all.0
  style-has (style ∷ styles) (suc place) all = style-has styles place all.1

  precinct-has : (precincts : List Named) (place : ℕ) → AllByRecursion IsNamed precincts → P (slice_index_or precincts place spec.no_precinct).id
  precinct-has [] place all = known.plain _ refl
  precinct-has (named ∷ precincts) zero all = id-has named.id all.0.id
  precinct-has (named ∷ precincts) (suc place) all = precinct-has precincts place all.1

  voted-small : (given : Election) (final : Final) (options : List ℕ) → IsFinalAt given final → options_of (contest_at given final) ≤ 150
      → AllByRecursion (λ (option : ℕ). option < options_of (contest_at given final)) options
      → AllByRecursion (λ (option : ℕ). spec.voted_for option (candidate_of (contest_at given final) final option) < 2 ^ 64) options
  voted-small given final [] is few all = tt
  voted-small given final (option ∷ options) is few all =
      (omega (arith, voted-below (contest_at given final) final option is.names all.0, few), voted-small given final options is few all.1)

  final-has : (given : Election) (final : Final) → IsValid given → IsFinalAt given final → AllByRecursion (NameHas P) final.names → FinalHas P given final
  final-has given final valid is names =
      let own : IsGiven (contest_at given final) = (length given.parties, length given.districts, contest-valid given final valid is) in
      let few = given-options (contest_at given final) own in
      record {
        short = omega (arith, is.options.few, few, own.2.seats.1);
        names = names;
        voted = voted-small given final final.selected is few is.options.each;
      }

  pub row-has : (given : Election) (row : ExportSheet) → IsValid given → IsRow given row → NamesHave P row → RowHas P given row
  row-has given row valid is names =
      let key = short-key row.key is.key in
      record {
        batch = known.plain row.key.batch (ascii-from row.key.batch key.are);
        number = key.small;
        leaf = omega (arith, is.front);
        style = style-has given.styles (card_at given row.card).style styles;
        precinct = precinct-has given.precincts (card_at given row.card).precinct (each-all IsNamed given.precincts valid.precincts.each);
        finals = each-both (IsFinalAt given) (λ (final : Final). AllByRecursion (NameHas P) final.names) (FinalHas P given) row.finals
            (λ final at has. final-has given final valid at has) is.finals names;
      }
    where
      styles : AllByRecursion (λ (style : Style). election.is_id style.id ≡ true) given.styles
      styles = each-weaker (IsStyle (length given.parties) (length given.districts) (length given.precincts))
          (λ (style : Style). election.is_id style.id ≡ true) given.styles
          (λ style it. it.id) (each-all (IsStyle (length given.parties) (length given.districts) (length given.precincts)) given.styles valid.styles.each)
