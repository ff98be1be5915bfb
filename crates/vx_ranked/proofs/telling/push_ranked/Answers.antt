use Rattle.std.proofs.Common.{◌≡◌, ◌++◌, ◌∙◌, ◌^◌, ◌<◌, ℕ, List, length, string_bytes, sym, ap, ap₂, subst}
use Rattle.vx_election_model.specs.declared.choice.Choice.{Choice}
use Rattle.vx_election_model.specs.declared.election.Election.{Election}
use Rattle.vx_rounds.specs.Rankings.{AreShort}
use Rattle.vx_ranked.specs.declared.sheets.SheetRankings.{SheetRankings}
use Rattle.vx_ranked.specs.Rankings.{contests_ranked}
use Rattle.vx_ranked.specs.Texts.{choices_of, group_text}
use Rattle.vx_ranked.proofs.Few.{rankings-few, rankings-short}
use Rattle.vx_ranked.proofs.telling.push_ranked.Goals as goal

pub push_told-requires-clause-few : goal.push_told-requires-clause-few
push_told-requires-clause-few c =
    let Few : SheetRankings → Type 0 = λ ranked. length ranked.rankings < 2 ^ 32 in
    subst Few (sym c.requires.ranked)
    (rankings-few c.args.center.now.election c.args.center.now.events c.args.group.now.contests c.events-kept.ensures.history)

pub push_told-requires-clause-short : goal.push_told-requires-clause-short
push_told-requires-clause-short c =
    let Short : SheetRankings → Type 0 = λ ranked. AreShort ranked.rankings in
    subst Short (sym c.requires.ranked)
    (rankings-short c.args.center.now.election c.args.center.now.events c.args.group.now.contests c.requires.group.few)

-- the same text by the same parts
same_text : (id other_id : List ℕ) (choices other_choices : List Choice) (ranked other : SheetRankings) → id ≡ other_id → choices ≡ other_choices
    → ranked ≡ other → group_text id choices ranked ≡ group_text other_id other_choices other
same_text id other_id choices other_choices ranked other a b c =
    ap₂ (λ (x : List ℕ) (y : List Choice). group_text x y ranked) a b ∙ ap (λ (x : SheetRankings). group_text other_id other_choices x) c

pub returns : goal.returns
returns c =
    let election = c.args.election.now in
    let kept = c.args.center.now.events in
    let contests = c.args.group.now.contests in
    c.in_ok-push_told.ensures
    ∙ ap (λ (more : List ℕ). string_bytes c.args.text.now ++ more)
    (same_text c.as_str.result.now c.args.group.now.id c.as_slice-choices.result.now (choices_of election contests) c.args.ranked
    (contests_ranked election kept contests) c.as_str.ensures
    (c.as_slice-choices.ensures ∙ c.first_contest.ensures ∙ ap (λ (some : List ℕ). choices_of election some) c.as_slice-contests.ensures)
    (c.requires.ranked ∙ ap (λ (one : Election). contests_ranked one kept contests) c.requires.same))
