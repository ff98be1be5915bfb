-- What `sample` does with a journal, and `audit` with its export.
use Rattle.std.proofs.Common.{◌≡◌, ◌≤◌, ℕ, List, [], ◌∷◌, length, cond, refl, sym, subst, ap, ◌∙◌}
use Rattle.std.specs.Prelude.{Bool, true, false, Option, None, Some, nat_lt}
use Rattle.std.specs.Prelude as std
use Rattle.vx_base.specs.Results.{◌>>=◌}
use Rattle.vx_base.proofs.Numbers.{below-no}
use Rattle.vx_cvr.specs.Report.{report_of}
use Rattle.vx_election_model.specs.declared.election.Election.{Election}
use Rattle.vx_events.specs.declared.event.Event.{Event}
use Rattle.vx_refusals.specs.declared.journal.JournalStop.{JournalStop}
use Rattle.vx_tally.specs.declared.report.Report.{Report}
use Rattle.vx_tally.specs.declared.fault.ReportFault.{ReportFault}
use Rattle.vx_tally.specs.Reading.{report_in_bytes}
use Rattle.vx_audit.specs.declared.hand.HandLine.{HandLine}
use Rattle.vx_audit.specs.declared.hand.HandFault.{HandFault}
use Rattle.vx_audit.specs.declared.hand.HandFault.TheVariants.{BadLine, OutOfMemory}
use Rattle.vx_audit.specs.Hand.{hand_of}
use Rattle.vx_command.specs.declared.halt.Halt.{Halt}
use Rattle.vx_command.specs.declared.halt.Halt.TheVariants as halt
use Rattle.vx_command.specs.Acts.{Act, Answer, Outcome, ReadJournal, Take, goes_on, input_limit, writing}
use Rattle.vx_command.specs.Acts as acts
use Rattle.vx_command.specs.Elections.{election_in}
use Rattle.vx_audit.specs.declared.status.AuditStatus.{AuditStatus}
use Rattle.vx_audit.specs.declared.status.AuditStatus.TheVariants.{TooLong}
use Rattle.vx_audit.specs.Outcome.{AuditOutcome, after, asked_outcome, audited, ended, once_handed, once_read, with_hand, with_report}
use Rattle.vx_audit.specs.Words.{Audit}
use Rattle.vx_sampling.specs.Drawn.{Telling, hand_outcome, journal_outcome, read_hand}
use Rattle.vx_sampling.specs.SampleOutcome.{sample_outcome, sample_text}
use Rattle.vx_journal.specs.Keeping.{has_none, journal_read}
use Rattle.vx_journal.specs.Replay.{replay_of}
use Rattle.vx_journal.specs.Steps as journal
use Rattle.vx_report_read.specs.Exported.{ReportsAreRead}
use Rattle.vx_report_read.specs.Texts.{AreOfJournal}
use Rattle.vx_results.specs.Report.{report_of_events}
use Rattle.vx_results_are_totals.specs.Samples.{SamplesAreTheAudits, TellsSame}
use Rattle.vx_words.specs.Samples.{seed_bytes}

-- both do the same acts, and tell the same
record AreAlike (audit : AuditOutcome) (sample : Outcome) : Type 0 where
  same : audit.acts ≡ sample.acts
  tells : TellsSame audit.ends sample.ends

-- what `sample` writes
abbrev compared : List ℕ → ℕ → Telling
compared seed size = λ election. sample_text seed size

-- with what hands read
module _ (seed : List ℕ) (size : ℕ) (report : Report) where
  abbrev written : List HandLine → Outcome
  written lines = writing (sample_text seed size report.contests report.records lines)

  read-alike : (read : std.Result (List HandLine) HandFault)
      → AreAlike (once_handed read (audited seed size report)) (goes_on (read_hand read) written)
  read-alike (std.Ok lines) = record { same = refl; tells = record { number = refl; line = refl } }
  read-alike (std.Err (BadLine line)) = record { same = refl; tells = record { number = refl; line = refl } }
  read-alike (std.Err OutOfMemory) = record { same = refl; tells = record { number = refl; line = refl } }

  bytes-alike : (bytes : List ℕ) (long : Bool)
      → AreAlike (cond long (ended (TooLong 4 (length bytes))) (once_handed (hand_of report bytes) (audited seed size report)))
      (goes_on ((cond long (std.Err (halt.TooLong 4 (length bytes))) (std.Ok bytes)) >>= (λ given. read_hand (hand_of report given))) written)
  bytes-alike bytes true = record { same = refl; tells = record { number = refl; line = refl } }
  bytes-alike bytes false = read-alike (hand_of report bytes)

  taken-alike : (audit : AuditOutcome) (sample : Outcome) → AreAlike audit sample
      → AreAlike (after (Take 4 ∷ []) audit) (acts.after (Take 4 ∷ []) sample)
  taken-alike audit sample alike = record { same = ap (λ (some : List Act). Take 4 ∷ some) alike.same; tells = alike.tells }

  hand-alike : (election : Election) (file : Option (List ℕ))
      → AreAlike (with_hand report file (audited seed size report)) (hand_outcome (compared seed size) election report.contests report.records file)
  hand-alike election None = record { same = refl; tells = record { number = refl; line = refl } }
  hand-alike election (Some bytes) = taken-alike _ _ (bytes-alike bytes (nat_lt input_limit (length bytes)))

-- what `audit` does with an export: bytes that are short enough and read as a report
with-bytes : (bytes : List ℕ) (report : Report) (rest : Report → AuditOutcome) → length bytes ≤ input_limit → report_in_bytes bytes ≡ std.Ok report
    → with_report (Some bytes) rest ≡ after (Take 1 ∷ []) (rest report)
with-bytes bytes report rest short read =
    ap (λ (b : Bool). after (Take 1 ∷ []) (cond b (ended (TooLong 1 (length bytes))) (once_read (report_in_bytes bytes) rest)))
    (below-no input_limit (length bytes) short)
    ∙ ap (λ (r : std.Result Report ReportFault). after (Take 1 ∷ []) (once_read r rest)) read

-- what `sample` does with a journal
with-journal : (election : Election) (records : List (List ℕ)) (kept : List Event) (source seed : List ℕ) (size : ℕ) (hand : List ℕ) (files : List ℕ → Option (List ℕ))
    → election_in (files source) ≡ std.Ok election → replay_of election records ≡ std.Ok kept
    → sample_outcome source seed size hand files records
    ≡ acts.after (Take 1 ∷ []) (acts.after (ReadJournal ∷ []) (hand_outcome (compared (seed_bytes seed) size) election
    (report_of_events election kept).contests (report_of_events election kept).records (files hand)))
with-journal election records kept source seed size hand files named replays =
    ap (λ (r : std.Result Election Halt). acts.after (Take 1 ∷ []) (goes_on r (λ given. journal.once_read given records (journal_outcome (compared (seed_bytes seed) size) given (files hand))))) named
    ∙ ap (λ (r : std.Result (List Event) (ℕ × JournalStop)). acts.after (Take 1 ∷ []) (acts.after (ReadJournal ∷ [])
    (goes_on (journal_read election (has_none records) r) (journal_outcome (compared (seed_bytes seed) size) election (files hand))))) replays

pub do-the-same : ReportsAreRead → SamplesAreTheAudits
do-the-same law election records kept moment device source name seed size hand files named replays words there short =
    let bytes : List ℕ = report_of election kept moment device in
    let of : AreOfJournal election kept = record { file = files source; is_taken = named; records = records; are_kept = replays } in
    let report : Report = report_of_events election kept in
    let rest : Report → AuditOutcome = λ given. with_hand given (files hand) (audited (seed_bytes seed) size given) in
    let own : Outcome = hand_outcome (compared (seed_bytes seed) size) election report.contests report.records (files hand) in
    let alike : AreAlike (rest report) own = hand-alike (seed_bytes seed) size report election (files hand) in
    let audits : asked_outcome (Audit name (seed_bytes seed) size hand) files ≡ after (Take 1 ∷ []) (rest report) =
    ap (λ (file : Option (List ℕ)). with_report file rest) there ∙ with-bytes bytes report rest short (law election kept moment device of words) in
    let samples : sample_outcome source seed size hand files records ≡ acts.after (Take 1 ∷ []) (acts.after (ReadJournal ∷ []) own) =
    with-journal election records kept source seed size hand files named replays in
    let Status : AuditStatus → Type 0 = λ status. TellsSame status (sample_outcome source seed size hand files records).ends in
    let Ends : Answer → Type 0 = λ answer. TellsSame (rest report).ends answer in
    record {
      acts = own.acts;
      sample_does = ap (λ (outcome : Outcome). outcome.acts) samples;
      audit_does = ap (λ (outcome : AuditOutcome). outcome.acts) audits ∙ ap (λ (some : List Act). Take 1 ∷ some) alike.same;
      tells = subst Status (sym (ap (λ (outcome : AuditOutcome). outcome.ends) audits))
          (subst Ends (sym (ap (λ (outcome : Outcome). outcome.ends) samples)) alike.tells);
    }
