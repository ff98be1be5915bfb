-- The words that a journal keeps are UTF-8.
use Rattle.std.proofs.Common.{◌≡◌, ℕ, ◌+◌, suc, zero, Bool, true, false, cond, List, [], ◌∷◌, ◌++◌, refl, subst}
use Rattle.std.specs.Prelude.{Some, Result, Ok, Err, IfOk, bytes_eq, slice_get}
use Rattle.std.specs.List.{AllByRecursion}
use Rattle.vx_base.specs.Results.{◌>>=◌}
use Rattle.vx_base.proofs.Results.{Holds, given, then, after}
use Rattle.vx_election_model.specs.declared.election.Election.{Election}
use Rattle.vx_events.specs.declared.event.Event.{Event}
use Rattle.vx_events.specs.Fits.{fits}
use Rattle.vx_refusals.specs.declared.journal.JournalStop.{JournalStop}
use Rattle.vx_refusals.specs.declared.journal.JournalStop.TheVariants.{Refused, OtherElection, Unfit}
use Rattle.vx_center.specs.Replies.{reply_of, is_done}
use Rattle.vx_records.specs.Held.{IsWritten}
use Rattle.vx_records.specs.Laws.{RecordsAreRead}
use Rattle.vx_records.specs.Reading.{digest_in, event_in}
use Rattle.vx_records.specs.Records.{header_of}
use Rattle.vx_journal.specs.Replay.{begun_with, kept_with, read_with, replay_from, replay_of, stopped_at, unless_bad}
use Rattle.vx_report_read.specs.Texts.{AreUtf8Names}

abbrev AreWritten : List Event → Type 0
AreWritten kept = AllByRecursion IsWritten kept

pushed : (kept : List Event) (event : Event) → AreWritten kept → IsWritten event → AreWritten (kept ++ event ∷ [])
pushed [] event all is = (is, tt)
pushed (one ∷ kept) event all is = (all.0, pushed kept event all.1 is)

stopped-holds : {A : Type 0} {P : A → Type 0} (index : ℕ) (r : Result A JournalStop) → Holds P r → Holds P (stopped_at index r)
stopped-holds index (Ok one) holds = record { is = holds.is }
stopped-holds index (Err stop) holds = record { is = tt }

kept-holds : (election : Election) (kept : List Event) (event : Event) → AreWritten kept → IsWritten event → Holds AreWritten (kept_with election kept event)
kept-holds election kept event all is = by (fits election event) (is_done (reply_of election kept event))
  where
    by : (a b : Bool) → Holds AreWritten (cond a (cond b (Ok (kept ++ event ∷ [])) (Err (Refused (reply_of election kept event)))) (Err Unfit))
    by true true = record { is = pushed kept event all is }
    by true false = record { is = tt }
    by false b = record { is = tt }

read-holds : RecordsAreRead → (election : Election) (kept : List Event) (body : List ℕ) → AreWritten kept → Holds AreWritten (read_with election kept body)
read-holds law election kept body all =
    then (by (event_in body) (λ event is. (law.alone body event is).0.written)) (λ event is. kept-holds election kept event all is)
  where
    by : (r : Result Event ℕ) → ((event : Event) → r ≡ Ok event → IsWritten event) → Holds IsWritten (unless_bad r)
    by (Ok event) is = record { is = is event refl }
    by (Err at) is = record { is = tt }

replayed-from : RecordsAreRead → (election : Election) (index : ℕ) (kept : List Event) (bodies : List (List ℕ)) → AreWritten kept
    → Holds AreWritten (replay_from election index kept bodies)
replayed-from law election index kept [] all = given all
replayed-from law election index kept (body ∷ bodies) all =
    then (stopped-holds index (read_with election kept body) (read-holds law election kept body all))
    (λ now rest. replayed-from law election (index + 1) now bodies rest)

begun-holds : (election : Election) (body : List ℕ) → Holds AreWritten (begun_with election body)
begun-holds election body = by (bytes_eq body (header_of election))
  where
    by : (b : Bool) → Holds AreWritten (cond b (Ok []) (unless_bad (digest_in body) >>= (λ digest. Err OtherElection)))
    by true = record { is = tt }
    by false = after (unless_bad (digest_in body)) (λ digest. record { is = tt })

replayed : RecordsAreRead → (election : Election) (records : List (List ℕ)) → Holds AreWritten (replay_of election records)
replayed law election [] = given tt
replayed law election (body ∷ bodies) =
    then (stopped-holds 0 (begun_with election body) (begun-holds election body)) (λ none all. replayed-from law election 1 none bodies all)

at-place : (kept : List Event) (place : ℕ) (event : Event) → AreWritten kept → slice_get kept place ≡ Some event → IsWritten event
at-place [] place event all there = absurd cc
at-place (one ∷ kept) zero event all there = (let same : one ≡ event = cc in subst IsWritten same all.0)
at-place (one ∷ kept) (suc place) event all there = at-place kept place event all.1 there

pub journaled-utf8 : RecordsAreRead → (election : Election) (records : List (List ℕ)) (kept : List Event) → replay_of election records ≡ Ok kept → AreUtf8Names kept
journaled-utf8 law election records kept is place station contest slot key words there =
    let Are : Result (List Event) (ℕ × JournalStop) → Type 0 = λ some. IfOk some AreWritten in
    at-place kept place _ (subst Are is (replayed law election records).is) there
