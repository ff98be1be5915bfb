-- Records of a journal, and the events that they are read as.
use Rattle.std.proofs.Common.{◌≡◌, ℕ, ◌+◌, cond, List, [], ◌∷◌, ◌++◌, Result, Ok, Err, refl, sym, ap, ◌∙◌, append_assoc, append-nil}
use Rattle.vx_base.specs.Results.{◌>>=◌}
use Rattle.vx_base.proofs.Booleans.{chosen-if}
use Rattle.vx_base.proofs.Results.{bind_ok}
use Rattle.vx_election_model.specs.declared.election.Election.{Election}
use Rattle.vx_events.specs.declared.event.Event.{Event}
use Rattle.vx_events.specs.Fits.{fits}
use Rattle.vx_refusals.specs.declared.journal.JournalStop.{JournalStop}
use Rattle.vx_refusals.specs.declared.journal.JournalStop.TheVariants.{Refused, Unfit}
use Rattle.vx_center.specs.Replies.{is_done, reply_of}
use Rattle.vx_records.specs.Reading.{event_in}
use Rattle.vx_journal.specs.Laws.{IsFrontOf, IsKeptAs}
use Rattle.vx_journal.specs.Replay.{begun_with, kept_with, read_with, replay_from, replay_of, stopped_at, unless_bad}

same-given : {A F : Type 0} (r : Result A F) (x y : A) → r ≡ Ok x → r ≡ Ok y → x ≡ y
same-given r x y a b = cc

unstopped : {A : Type 0} (index : ℕ) (read : Result A JournalStop) (x : A) → stopped_at index read ≡ Ok x → read ≡ Ok x
unstopped index (Ok y) x h = let same : y ≡ x = cc in ap Ok same
unstopped index (Err stop) x h = absurd cc

not-bad : {A : Type 0} (read : Result A ℕ) (x : A) → unless_bad read ≡ Ok x → read ≡ Ok x
not-bad (Ok y) x h = let same : y ≡ x = cc in ap Ok same
not-bad (Err at) x h = absurd cc

module _ (election : Election) where
  -- one record keeps the event that it is read as
  record KeepsOne (kept : List Event) (body : List ℕ) (now : List Event) : Type 0 where
    pub event : Event
    pub read : event_in body ≡ Ok event
    pub is : now ≡ kept ++ event ∷ []

  keeps-one : (kept : List Event) (body : List ℕ) (now : List Event) → read_with election kept body ≡ Ok now → KeepsOne kept body now
  keeps-one kept body now h =
      let event = bind_ok (unless_bad {A = Event} (event_in body)) (kept_with election kept) now h in
      let fit = chosen-if (fits election event.0)
      (cond (is_done (reply_of election kept event.0)) (Ok (kept ++ event.0 ∷ [])) (Err (Refused (reply_of election kept event.0)))) Unfit now event.2 in
      let done = chosen-if (is_done (reply_of election kept event.0)) (Ok (kept ++ event.0 ∷ [])) (Refused (reply_of election kept event.0)) now fit.1 in
      let same : now ≡ kept ++ event.0 ∷ [] = let is = done.1 in cc in
      record { event = event.0; read = not-bad (event_in body) event.0 event.1; is = same }

  -- what is read of records behind kept events stands behind them
  record Further (kept now : List Event) : Type 0 where
    pub more : List Event
    pub is : now ≡ kept ++ more

  further : (records : List (List ℕ)) (index : ℕ) (kept now : List Event) → replay_from election index kept records ≡ Ok now → Further kept now
  further [] index kept now h = let same : now ≡ kept = cc in record { more = []; is = same ∙ sym (append-nil kept) }
  further (body ∷ records) index kept now h =
      let step = bind_ok (stopped_at index (read_with election kept body)) (λ some. replay_from election (index + 1) some records) now h in
      let here = keeps-one kept body step.0 (unstopped index (read_with election kept body) step.0 step.1) in
      let behind = further records (index + 1) step.0 now step.2 in
      record {
        more = here.event ∷ behind.more;
        is = behind.is ∙ ap (λ (some : List Event). some ++ behind.more) here.is ∙ append_assoc kept (here.event ∷ []) behind.more;
      }

  -- records in two parts
  record Parts (index : ℕ) (kept : List Event) (front back : List (List ℕ)) (now : List Event) : Type 0 where
    pub middle : List Event
    pub next : ℕ
    pub first : replay_from election index kept front ≡ Ok middle
    pub rest : replay_from election next middle back ≡ Ok now

  parts : (front back : List (List ℕ)) (index : ℕ) (kept now : List Event) → replay_from election index kept (front ++ back) ≡ Ok now
      → Parts index kept front back now
  parts [] back index kept now h = record { middle = kept; next = index; first = refl; rest = h }
  parts (body ∷ front) back index kept now h =
      let step = bind_ok (stopped_at index (read_with election kept body)) (λ some. replay_from election (index + 1) some (front ++ back)) now h in
      let behind = parts front back (index + 1) step.0 now step.2 in
      record {
        middle = behind.middle;
        next = behind.next;
        first = ap (λ (r : Result (List Event) (ℕ × JournalStop)). r >>= (λ some. replay_from election (index + 1) some front)) step.1 ∙ behind.first;
        rest = behind.rest;
      }

  -- the same of a whole journal whose first part has its header
  record Begun (front back : List (List ℕ)) (now : List Event) : Type 0 where
    pub middle : List Event
    pub next : ℕ
    pub first : replay_of election front ≡ Ok middle
    pub rest : replay_from election next middle back ≡ Ok now

  begun : (header : List ℕ) (front back : List (List ℕ)) (now : List Event) → replay_of election ((header ∷ front) ++ back) ≡ Ok now
      → Begun (header ∷ front) back now
  begun header front back now h =
      let step = bind_ok (stopped_at 0 (begun_with election header)) (λ some. replay_from election 1 some (front ++ back)) now h in
      let behind = parts front back 1 step.0 now step.2 in
      record {
        middle = behind.middle;
        next = behind.next;
        first = ap (λ (r : Result (List Event) (ℕ × JournalStop)). r >>= (λ some. replay_from election 1 some front)) step.1 ∙ behind.first;
        rest = behind.rest;
      }

  -- the first records of a journal are one, of the first of its events
  pub front : (records more : List (List ℕ)) (now : List Event) → replay_of election (records ++ more) ≡ Ok now → IsFrontOf election records now
  front [] more now h = record { events_then = []; replays = refl; more = now; are = refl }
  front (header ∷ records) more now h =
      let parted = begun header records more now h in
      let behind = further more parted.next parted.middle now parted.rest in
      record { events_then = parted.middle; replays = parted.first; more = behind.more; are = behind.is }

  -- a record behind the header is one event, behind those of the records before it
  pub kept-as : (header : List ℕ) (before : List (List ℕ)) (body : List ℕ) (behind : List (List ℕ)) (event : Event) (now : List Event)
      → event_in body ≡ Ok event → replay_of election ((header ∷ before) ++ body ∷ behind) ≡ Ok now → IsKeptAs election (header ∷ before) event now
  kept-as header before body behind event now read h =
      let parted = begun header before (body ∷ behind) now h in
      let step = bind_ok (stopped_at parted.next (read_with election parted.middle body)) (λ some. replay_from election (parted.next + 1) some behind) now
      parted.rest in
      let here = keeps-one parted.middle body step.0 (unstopped parted.next (read_with election parted.middle body) step.0 step.1) in
      let same : here.event ≡ event = same-given (event_in body) here.event event here.read read in
      let last = further behind (parted.next + 1) step.0 now step.2 in
      record {
        events_then = parted.middle;
        replays = parted.first;
        more = last.more;
        are = last.is ∙ ap (λ (some : List Event). some ++ last.more) here.is ∙ append_assoc parted.middle (here.event ∷ []) last.more
            ∙ ap (λ (one : Event). parted.middle ++ one ∷ last.more) same;
      }
