use Rattle.std.proofs.Common.{◌≡◌, ◌<◌, ◌∙◌, [], List, ap, arith, length, refl, subst}
use Rattle.std.specs.Prelude.{slice_index_or}
use Rattle.std.specs.List.{flat_map}
use Rattle.std.proofs.lemmas.List.{get_or_read}
use Rattle.vx_cvr.specs.Report.{no_contest}
use Rattle.vx_election_model.specs.declared.contest.Contest.{Contest}
use Rattle.vx_results.specs.Firsts.{Numbered}
use Rattle.vx_results.specs.Named.{named_by}
use Rattle.vx_results.specs.Report.{contest_at}
use Rattle.vx_results.specs.Sums.{Adds}
use Rattle.vx_results.proofs.Adds.{each_final}
use Rattle.vx_results.proofs.named.add_final.Goals as goal

pub returns : goal.returns
returns c =
    let election = c.args.election.now in
    let final = c.args.counted.now in
    let place = final.contest in
    let old = c.args.names.now.items in
    let new = c.add_options.new.names in
    let inside : place < length c.as_slice.result.now = omega (arith, c.requires.there, ap length c.as_slice.ensures) in
    let there : place < length old = omega (arith, c.requires.there, c.requires.size) in
    let contest : c.index-as_slice-place.result ≡ contest_at election final =
    get_or_read c.as_slice.result.now place c.index-as_slice-place.result inside c.index-as_slice-place.is no_contest
    ∙ ap (λ (contests : List Contest). slice_index_or contests place no_contest) c.as_slice.ensures in
    let before : c.index_mut.result.now ≡ slice_index_or old place [] = get_or_read old place c.index_mut.result.now there c.index_mut.ensures.value [] in
    let adds = subst (λ (one : Contest). Adds (flat_map (named_by one final) final.selected) c.index_mut.result.now new) contest c.in_ok-add_options.ensures in
    each_final election final old _ new there refl
    (subst (λ (entries : List Numbered). Adds (flat_map (named_by (contest_at election final) final) final.selected) entries new) before adds)
