-- Scripts and items that may be run by a thread each.
use Rattle.std.proofs.Common.{◌≡◌, ◌≤◌, ◌<◌, ℕ, ◌*◌, All, List, length, map, sum, refl, sym, subst, arith}
use Rattle.std.proofs.lemmas.List.Elements.{All-weaker}
use Rattle.std.proofs.lemmas.List.Sums.{sum-map, sum_by-le}
use Rattle.atomic_table.specs.Seated.{TableId}
use Rattle.vx_center.specs.Kept.{Kept}
use Rattle.vx_command_center.specs.declared.item.Item.{Item}
use Rattle.vx_command_center.specs.Items.{FitsItem, possible_in_all, possible_of}
use Rattle.vx_election_model.specs.declared.election.Election.{Election}
use Rattle.vx_events.specs.declared.event.Event.{Event}
use Rattle.vx_events.specs.Fits.{Fits}
use Rattle.vx_shared.specs.Calls.{Known, known}
use Rattle.vx_shared.specs.Gained.{MayRun}
use Rattle.vx_shared.specs.Seats.{first_view, origin_of}
use Rattle.vx_trials_shared.specs.Same.{IsItem, IsScript}

abbrev pub need : List Event → ℕ
need script = length script

abbrev pub fits : Election → List Event → Type 0
fits election script = All (Fits election) script

-- together they need no more calls than so many each
few_calls : (election : Election) (most : ℕ) (scripts : List (List Event)) → All (IsScript election most) scripts → sum (map need scripts) ≤ length scripts * most
few_calls election most scripts all =
    let each = All-weaker (IsScript election most) (λ script. length script ≤ most) (λ script is. is.0) scripts all in
    omega (arith, sum-map need scripts, sum_by-le need most scripts each)

-- scripts at a center that was just made, with a share for each and so many calls each
pub may_run : (of : TableId) (start : Kept) (most shares calls : ℕ) (pass : Known) (scripts : List (List Event))
    → pass ≡ known of (first_view (origin_of start shares calls)) → shares ≡ length scripts → calls ≡ length scripts * most
    → 0 < length scripts → All (IsScript start.election most) scripts → MayRun of need fits pass scripts
may_run of start most shares calls pass scripts is shared called some all =
    let may : MayRun of need fits (known of (first_view (origin_of start shares calls))) scripts = record {
      belongs = refl;
      some = some;
      shares = omega (arith, shared);
      enough = omega (arith, called, few_calls start.election most scripts all);
      each = All-weaker (IsScript start.election most) (fits start.election) (λ script is. is.1) scripts all;
    } in
    subst (λ (p : Known). MayRun of need fits p scripts) (sym is) may

-- items have no more events together than so many each
pub few_events : (election : Election) (most : ℕ) (items : List Item) → All (IsItem election most) items → possible_in_all items ≤ length items * most
few_events election most items all =
    let each = All-weaker (IsItem election most) (λ item. possible_of item ≤ most) (λ item is. is.0) items all in
    omega (arith, sum-map possible_of items, sum_by-le possible_of most items each)

-- each of them may be done
pub each_fits : (election : Election) (most : ℕ) (items : List Item) → All (IsItem election most) items → All (FitsItem election) items
each_fits election most items all = All-weaker (IsItem election most) (FitsItem election) (λ item is. is.1) items all
