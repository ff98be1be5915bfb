-- More pairs in what is kept of texts.
use Rattle.std.proofs.Common.{◌≡◌, ℕ, ◌+◌, ◌<◌, Bool, true, false, cond, ◌==◌, List, [], ◌∷◌, ◌++◌, length, take, set, refl, sym, subst, ◌∙◌, arith, append-nil, append_assoc, length-set, get_or-set_same, get_or-set_other}
use Rattle.std.specs.Prelude.{Option, Some, slice_get, slice_index_or}
use Rattle.std.specs.List.{flat_map}
use Rattle.vx_base.proofs.Lists.{flat_map-take_more}
use Rattle.vx_base.proofs.Numbers.{equal-from_yes, equal-yes}
use Rattle.vx_base.proofs.Booleans.{not-both}
use Rattle.vx_election_model.specs.declared.election.Election.{Election}
use Rattle.vx_center.specs.declared.rows.Final.{Final}
use Rattle.vx_results.specs.Firsts.{Numbered}
use Rattle.vx_results.specs.Named.{named_by, named_in, with_votes}
use Rattle.vx_results.specs.Report.{contest_at}
use Rattle.vx_results.specs.Sums.{Adds, AddsEach, AreSums, raised}
use Rattle.vx_results.proofs.Texts.{sums_more}

pub adds_none : (entries : List Numbered) → Adds [] entries entries
adds_none entries pairs are = subst (λ (all : List Numbered). AreSums all entries) (sym (append-nil pairs)) are

pub adds_more : (one other x y z : List Numbered) → Adds one x y → Adds other y z → Adds (one ++ other) x z
adds_more one other x y z front back pairs are =
    subst (λ (all : List Numbered). AreSums all z) (append_assoc pairs one other) (back (pairs ++ one) (front pairs are))

-- words
pub words_some : (words : Option (List ℕ)) (text : List ℕ) (votes : ℕ) (old new : List Numbered) → Some text ≡ words → new ≡ raised old text votes
    → Adds (with_votes words votes) old new
words_some words text votes old new some more =
    subst (λ (o : Option (List ℕ)). Adds (with_votes o votes) old new) some
    (λ pairs are. subst (λ (entries : List Numbered). AreSums (pairs ++ (text, votes) ∷ []) entries) (sym more) (sums_more pairs old text votes are))

-- one element more of those that are walked over
pub adds_next : {X : Type 0} (f : X → List Numbered) (xs : List X) (i : ℕ) (x : X) (old so_far now : List Numbered) → slice_get xs i ≡ Some x
    → Adds (flat_map f (take i xs)) old so_far → Adds (f x) so_far now → Adds (flat_map f (take (i + 1) xs)) old now
adds_next f xs i x old so_far now there before more =
    subst (λ (all : List Numbered). Adds all old now) (sym (flat_map-take_more f xs i x there))
    (adds_more (flat_map f (take i xs)) (f x) old so_far now before more)

-- ---- at each place

pub each_next : {X : Type 0} (f : ℕ → X → List Numbered) (xs : List X) (i : ℕ) (x : X) (old so_far now : List (List Numbered)) → slice_get xs i ≡ Some x
    → AddsEach (λ place. flat_map (f place) (take i xs)) old so_far → AddsEach (λ place. f place x) so_far now
    → AddsEach (λ place. flat_map (f place) (take (i + 1) xs)) old now
each_next f xs i x old so_far now there before more = record {
  count = more.count ∙ before.count;
  each = λ place less.
      adds_next (f place) xs i x (slice_index_or old place []) (slice_index_or so_far place []) (slice_index_or now place []) there
      (before.each place less) (more.each place (omega (arith, less, before.count)));
}

-- the names of one contest
pub each_final : (election : Election) (final : Final) (old new : List (List Numbered)) (entries : List Numbered) → final.contest < length old
    → new ≡ set old final.contest entries
    → Adds (flat_map (named_by (contest_at election final) final) final.selected) (slice_index_or old final.contest []) entries
    → AddsEach (λ contest. named_in election contest final) old new
each_final election final old new entries there changed adds =
    subst (λ (all : List (List Numbered)). AddsEach (λ contest. named_in election contest final) old all) (sym changed)
    (record { count = length-set old final.contest entries; each = λ place less. by place less (place == final.contest) refl })
  where
    some : List Numbered
    some = flat_map (named_by (contest_at election final) final) final.selected

    by : (place : ℕ) → place < length old → (b : Bool) → (place == final.contest) ≡ b
        → Adds (cond b some []) (slice_index_or old place []) (slice_index_or (set old final.contest entries) place [])
    by place less true e =
        let same : place ≡ final.contest = equal-from_yes place final.contest e in
        subst (λ (at : ℕ). Adds some (slice_index_or old at []) (slice_index_or (set old final.contest entries) at [])) (sym same)
        (subst (λ (now : List Numbered). Adds some (slice_index_or old final.contest []) now)
        (sym (get_or-set_same old final.contest entries [] there)) adds)
    by place less false e =
        subst (λ (now : List Numbered). Adds [] (slice_index_or old place []) now)
        (sym (get_or-set_other old final.contest place entries []
        (λ same. not-both (place == final.contest) (equal-yes place final.contest same) e)))
        (adds_none (slice_index_or old place []))
