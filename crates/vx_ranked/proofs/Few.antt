-- The rankings of a count's sheets are few and short.
use Rattle.std.proofs.Common.{◌≡◌, ◌+◌, ◌-◌, ◌^◌, ◌<◌, ◌≤◌, ◌||◌, ℕ, Bool, true, false, cond, List, [], ◌∷◌, ◌++◌, length, map, take, get_or, Option, Some, None, refl, ap, arith, length-append, length-take-le}
use Rattle.std.specs.Prelude.{All, fold, nat_lt}
use Rattle.std.proofs.lemmas.List.{length-map}
use Rattle.std.proofs.lemmas.List.Elements.{All-cons, All-nil}
use Rattle.std.proofs.lemmas.Option.{slice_get-get_or}
use Rattle.vx_base.proofs.Lists.{All-always, All-flat_map, length-flat_map_le}
use Rattle.vx_base.proofs.Numbers.{below-from_no, below-from_yes}
use Rattle.vx_election_model.specs.declared.election.Election.{Election}
use Rattle.vx_events.specs.declared.event.Event.{Event}
use Rattle.vx_events.specs.declared.event.Event.TheVariants.{Add, Claim, Release, Decide}
use Rattle.vx_refusals.specs.declared.reply.Reply.{Reply}
use Rattle.vx_refusals.specs.declared.reply.Reply.TheVariants.{Done, Full}
use Rattle.vx_center.specs.declared.rows.Final.{Final}
use Rattle.vx_center.specs.Histories.{IsHistory}
use Rattle.vx_center.specs.Replies.{event_limit, reply_with_room}
use Rattle.vx_center.specs.Sheets.{Added, added_from, sheets_in}
use Rattle.vx_rounds.specs.Rankings.{AreShort}
use Rattle.vx_ranked.specs.Members.{is_among}
use Rattle.vx_ranked.specs.Rankings.{ends_list, final_on, finals_of, is_ranked, joined, named_by, ranking_of, rankings_of, rankings_on}
use Rattle.vx_ranked.proofs.Ranked.{listed, list-ends, list-goes}

-- one candidate makes a list one longer at most
one_joined : (is : Bool) (ranking : List ℕ) (candidate : ℕ) → length (cond is ranking (ranking ++ candidate ∷ [])) ≤ length ranking + 1
one_joined true ranking candidate = omega arith
one_joined false ranking candidate = omega (arith, length-append ranking (candidate ∷ []))

few_joined : (ranking named : List ℕ) → length named ≤ 1 → length (fold joined ranking named) ≤ length ranking + 1
few_joined ranking [] few = omega arith
few_joined ranking (candidate ∷ []) few = one_joined (is_among candidate ranking) ranking candidate
few_joined ranking (candidate ∷ other ∷ more) few = absurd (omega (arith, few))

or_false : (a b : Bool) → a || b ≡ false → b ≡ false
or_false true b is = absurd cc
or_false false b is = is

-- a rank that doesn't end the list names one candidate at most
one_named : (rank : Option Final) → ends_list rank ≡ false → length (named_by rank) ≤ 1
one_named None goes = omega arith
one_named (Some one) goes = below-from_no 1 (length one.selected) (or_false one.ruled (nat_lt 1 (length one.selected)) goes)

-- a list grows by one candidate a rank at most
length-listed : (ranking : List ℕ) (ranks : List (Option Final)) → length (listed ranking ranks) ≤ length ranking + length ranks
length-listed ranking [] = omega arith
length-listed ranking (rank ∷ ranks) = step (ends_list rank) refl (length-listed (fold joined ranking (named_by rank)) ranks)
  where
    step : (ends : Bool) → ends_list rank ≡ ends → length (listed (fold joined ranking (named_by rank)) ranks) ≤ length (fold joined ranking (named_by rank)) + length ranks
        → length (listed ranking (rank ∷ ranks)) ≤ length ranking + length (rank ∷ ranks)
    step true ends less = omega (arith, ap length (list-ends ranking rank ranks ends))
    step false goes less = omega (arith, ap length (list-goes ranking rank ranks goes), less, few_joined ranking (named_by rank) (one_named rank goes))

length-ranking : (finals : List Final) (contests : List ℕ) → length (ranking_of finals contests) ≤ length contests
unfolding ranking_of
length-ranking finals contests = omega (arith, length-listed [] (map (final_on finals) contests), length-map contests (final_on finals))

-- a sheet has one ranking at most, and that has at most as many places as the group has contests
one_ranking : (has : Bool) (ranking : List ℕ) (most : ℕ) → length ranking ≤ most → All (λ (one : List ℕ). length one ≤ most) (cond has (ranking ∷ []) [])
one_ranking true ranking most le = All-cons (λ (one : List ℕ). length one ≤ most) ranking [] le (All-nil (λ (one : List ℕ). length one ≤ most))
one_ranking false ranking most le = All-nil (λ (one : List ℕ). length one ≤ most)

at_most_one : (has : Bool) (ranking : List ℕ) → length (cond has (ranking ∷ []) []) ≤ 1
at_most_one true ranking = omega arith
at_most_one false ranking = omega arith

-- an event adds one sheet at most
length-added : (from : ℕ) (kept : List Event) → length (added_from from kept) ≤ length kept
length-added from [] = omega arith
length-added from (Add key sheet ∷ events) = omega (arith, length-added (from + 1) events)
length-added from (Claim station key ∷ events) = omega (arith, length-added (from + 1) events)
length-added from (Release station key ∷ events) = omega (arith, length-added (from + 1) events)
length-added from (Decide station key contest decision ∷ events) = omega (arith, length-added (from + 1) events)

-- an event that was answered with Done had room
had_room : (room : Bool) (reply : Reply) → cond room reply (Full event_limit) ≡ Done → room ≡ true
had_room true reply done = refl
had_room false reply done = absurd cc

-- a history has at most a million events
length-history : (election : Election) (kept : List Event) → IsHistory election kept → length kept ≤ 1000000
unfolding event_limit
length-history election [] history = omega arith
length-history election (first ∷ more) history =
    let kept : List Event = first ∷ more in
    let place : ℕ = length kept - 1 in
    let inside : place < length kept = omega arith in
    let event : Event = get_or kept place first in
    let done = history.done place event (slice_get-get_or kept place first inside) in
    let room = had_room (nat_lt (length (take place kept)) event_limit) (reply_with_room election (take place kept) event) done in
    omega (arith, below-from_yes (length (take place kept)) event_limit room, length-take-le place kept (omega arith))

module _ (election : Election) (kept : List Event) (contests : List ℕ) where
  pub rankings-few : IsHistory election kept → length (rankings_of election kept contests) < 2 ^ 32
  rankings-few history =
      let each = length-flat_map_le (rankings_on election kept contests) 1 (sheets_in kept)
      (All-always (λ (added : Added). length (rankings_on election kept contests added) ≤ 1) (sheets_in kept)
      (λ added. at_most_one (is_ranked contests added.sheet (finals_of election kept added)) (ranking_of (finals_of election kept added) contests))) in
      omega (arith, each, length-added 0 kept, length-history election kept history)

  pub rankings-short : length contests ≤ 10 → AreShort (rankings_of election kept contests)
  rankings-short few =
      All-flat_map (λ (ranking : List ℕ). length ranking < 2 ^ 32) (rankings_on election kept contests) (sheets_in kept)
      (All-always (λ (added : Added). All (λ (ranking : List ℕ). length ranking < 2 ^ 32) (rankings_on election kept contests added)) (sheets_in kept)
      (λ added. weaker (rankings_on election kept contests added)
      (one_ranking (is_ranked contests added.sheet (finals_of election kept added)) (ranking_of (finals_of election kept added) contests) (length contests)
      (length-ranking (finals_of election kept added) contests))))
    where
      weaker : (list : List (List ℕ)) → All (λ (one : List ℕ). length one ≤ length contests) list → All (λ (one : List ℕ). length one < 2 ^ 32) list
      weaker list each k d lt = let le = each k d lt in omega (arith, le, few)
